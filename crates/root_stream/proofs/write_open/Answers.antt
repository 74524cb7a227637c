use mathlib.Core.Path.{refl, sym, ap, ap₂, ◌∙◌}
use Prim.Native.Nat.{ℕ, ◌+◌}
use native.Mathlib.Omega.{arith}
use lib.ListN.{length}
use Rattle.cells.specs.Cells.{root}
use Rattle.drawing.specs.Tables.{tables_of}
use Rattle.stream.specs.Table.{written}
use Rattle.stream.specs.Grammar.{env}
use Rattle.making.specs.Made.{words_made}
use Rattle.making.specs.code.Numbers.{left_class, left_sign}
use Rattle.making.proofs.Made.{made_length}
use Rattle.root_stream.specs.code.Numbers.{stride_n, after_n}
use Rattle.root_stream.specs.Opened.{drawing_in}
use Rattle.root_stream.proofs.Ahead.{is_kind, is_kind_behind, kind_read, some_here, none_left}
use Rattle.root_stream.proofs.Base.{words_in, base, base_made}
use Rattle.root_stream.proofs.Loop.{root_in, read_entry, source_few, loop_asks, end_inside}
use Rattle.root_stream.proofs.Fill.{fill_begin, looping, fill_turn, fill_end, front_written, words_opened_law}
use Rattle.root_stream.proofs.write_open.Goals as goal

pub loop-kind-init : goal.loop-kind-init
loop-kind-init c =
    let a = c.args in
    let d = a.drawing in
    let t = tables_of d in
    fill_begin (env d.areas.now d.xs.now d.ys.now a.bounds) (drawing_in t) d.plan.now a.records (words_in t)
    (base t a.records a.bounds c.requires.opened) a.made c.begun-source.result c.begun-m.result c.split_at_mut-out.result.0.now
    c.begun-source.ensures.answer c.begun-m.ensures.pruner c.begun-m.ensures.waiting c.split_at_mut-out.ensures.front_len

pub kind_at-requires : goal.kind_at-requires
kind_at-requires c =
    let a = c.args in
    record {
      records_in_bounds = (base (tables_of a.drawing) a.records a.bounds c.requires.opened).long;
      is_kind = is_kind _ _ _ _ _ c.loop-kind.invariant.ahead;
    }

pub overflow_add-i : goal.overflow_add-i
overflow_add-i c =
    let a = c.args in
    record {
      fits = omega (
        arith,
        (base (tables_of a.drawing) a.records a.bounds c.requires.opened).few,
        (some_here a.drawing.plan.now a.records c.loop-kind.i c.kind_at.ensures.answer c.in-Some.is),
      );
    }

pub kind_at-behind-requires : goal.kind_at-behind-requires
kind_at-behind-requires c =
    let a = c.args in
    record {
      records_in_bounds = (base (tables_of a.drawing) a.records a.bounds c.requires.opened).long;
      is_kind = is_kind_behind _ _ _ _ _ c.loop-kind.invariant.ahead (some_here _ _ _ c.kind_at.ensures.answer c.in-Some.is);
    }

pub entry-w-requires : goal.entry-w-requires
entry-w-requires c =
    let a = c.args in
    (source_few a.drawing.plan.now a.records c.loop-kind.i c.loop-kind.source c.loop-kind.invariant.ws c.loop-kind.invariant.ahead).1

pub write_entry-requires : goal.write_entry-requires
write_entry-requires c =
    let a = c.args in
    let d = a.drawing in
    let t = tables_of d in
    let v = env d.areas.now d.xs.now d.ys.now a.bounds in
    let B = base t a.records a.bounds c.requires.opened in
    record {
      square_in = rw c.root_square-s.ensures.answer root_in;
      asks = loop_asks v (drawing_in t) d.plan.now a.records (words_in t) B c.loop-kind.i c.loop-kind.source c.loop-kind.m
          (looping v (drawing_in t) d.plan.now a.records (words_in t) B a.made c.loop-kind.i c.loop-kind.source c.loop-kind.m c.loop-kind.out
          c.loop-kind.invariant)
          (some_here _ _ _ c.kind_at.ensures.answer c.in-Some.is) _
          (read_entry c.loop-kind.source c.entry-w.ensures.answer (kind_read c.kind_at.ensures.answer c.in-Some.is) c.kind_at-behind.ensures.answer);
    }

pub after-source-requires : goal.after-source-requires
after-source-requires c =
    let a = c.args in
    source_few a.drawing.plan.now a.records c.loop-kind.i c.loop-kind.source c.loop-kind.invariant.ws c.loop-kind.invariant.ahead

pub overflow_add-i-in-Some : goal.overflow_add-i-in-Some
overflow_add-i-in-Some c =
    let a = c.args in
    record {
      fits = omega (
        arith,
        (base (tables_of a.drawing) a.records a.bounds c.requires.opened).few,
        (some_here a.drawing.plan.now a.records c.loop-kind.i c.kind_at.ensures.answer c.in-Some.is),
        c.stride-i.ensures.range,
      );
    }

pub loop-kind-preserved : goal.loop-kind-preserved
loop-kind-preserved c =
    let a = c.args in
    let d = a.drawing in
    let t = tables_of d in
    let w = c.entry-w.result in
    let s = c.root_square-s.result in
    fill_turn (env d.areas.now d.xs.now d.ys.now a.bounds) (drawing_in t) d.plan.now a.records (words_in t)
    (base t a.records a.bounds c.requires.opened) a.made c.loop-kind.i c.loop-kind.source c.loop-kind.m c.loop-kind.out c.loop-kind.invariant
    (some_here _ _ _ c.kind_at.ensures.answer c.in-Some.is) _ w s (left_class d.xs.now d.ys.now s w) (left_sign d.xs.now d.ys.now w) c.after-source.result _ _
    (read_entry c.loop-kind.source c.entry-w.ensures.answer (kind_read c.kind_at.ensures.answer c.in-Some.is) c.kind_at-behind.ensures.answer)
    c.entry-w.type_inv.1.1.1.1.0.1 c.root_square-s.ensures.answer refl refl c.write_entry.ensures.pruner c.write_entry.ensures.waiting
    c.write_entry.ensures.out
    (c.after-source.ensures.answer ∙ ap₂ (after_n c.loop-kind.source) (kind_read c.kind_at.ensures.answer c.in-Some.is) c.kind_at-behind.ensures.answer)
    (ap (λ (n : ℕ). c.loop-kind.i + n) (c.stride-i.ensures.answer ∙ ap stride_n c.kind_at-behind.ensures.answer))

pub put_settled-requires : goal.put_settled-requires
put_settled-requires c =
    let a = c.args in
    let d = a.drawing in
    let t = tables_of d in
    let v = env d.areas.now d.xs.now d.ys.now a.bounds in
    let B = base t a.records a.bounds c.requires.opened in
    record {
      inside = end_inside v (drawing_in t) d.plan.now a.records (words_in t) B c.loop-kind.i c.loop-kind.source c.loop-kind.m
          (looping v (drawing_in t) d.plan.now a.records (words_in t) B a.made c.loop-kind.i c.loop-kind.source c.loop-kind.m c.loop-kind.out
          c.loop-kind.invariant)
          (none_left _ _ _ _ _ c.loop-kind.invariant.ahead c.kind_at.ensures.answer c.in_default.is);
    }

pub returns : goal.returns
returns c =
    let a = c.args in
    let d = a.drawing in
    let t = tables_of d in
    let D = drawing_in t in
    let e = base_made t a.records a.bounds c.requires.opened in
    let exact = c.requires.made_value ∙ ap length (sym e) in
    let out = fill_end (env d.areas.now d.xs.now d.ys.now a.bounds) D d.plan.now a.records (words_in t)
    (base t a.records a.bounds c.requires.opened) a.made c.loop-kind.i c.loop-kind.source c.loop-kind.m c.loop-kind.out c.loop-kind.invariant
    (none_left _ _ _ _ _ c.loop-kind.invariant.ahead c.kind_at.ensures.answer c.in_default.is)
    exact _ c.put_settled.ensures.out in
    record {
      entries = rw (out, c.split_at_mut-out.ensures.back)
          (front_written a.entries.now (words_made D root (words_in t)) a.made (made_length D root (words_in t) ∙ sym exact) c.requires.made_in_bounds)
          ∙ ap (written a.entries.now 0) (words_opened_law t D (words_in t) e);
    }
