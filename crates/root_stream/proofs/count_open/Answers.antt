use mathlib.Core.Path.{refl, ap, ap₂, ◌∙◌}
use Prim.Native.Nat.{ℕ, ◌+◌}
use native.Mathlib.Omega.{arith}
use Rattle.pruning.specs.code.Weights.{total}
use Rattle.cells.specs.code.Making.{element_size}
use Rattle.drawing.specs.Tables.{tables_of}
use Rattle.stream.specs.Grammar.{env}
use Rattle.making.specs.code.Numbers.{left_class, left_sign}
use Rattle.root_stream.specs.code.Numbers.{stride_n, after_n}
use Rattle.root_stream.specs.Opened.{drawing_in}
use Rattle.root_stream.proofs.Ahead.{is_kind, is_kind_behind, kind_read, some_here, none_left}
use Rattle.root_stream.proofs.Base.{words_in, base, base_made}
use Rattle.root_stream.proofs.Loop.{root_in, read_entry, source_few, loop_begin, loop_asks, loop_turn, end_inside, end_room, end_weight}
use Rattle.root_stream.proofs.count_open.Goals as goal

pub loop-kind-init : goal.loop-kind-init
loop-kind-init c =
    let a = c.args in
    let d = a.drawing in
    let t = tables_of d in
    loop_begin (env d.areas.now d.xs.now d.ys.now a.bounds) (drawing_in t) d.plan.now a.records (words_in t) (base t a.records a.bounds c.requires)
    c.begun-source.result c.begun-m.result c.begun-source.ensures.answer c.begun-m.ensures.pruner c.begun-m.ensures.waiting

pub kind_at-requires : goal.kind_at-requires
kind_at-requires c =
    let a = c.args in
    let B = base (tables_of a.drawing) a.records a.bounds c.requires in
    record { records_in_bounds = B.long; is_kind = is_kind _ _ _ _ _ c.loop-kind.invariant.ahead }

pub overflow_add-i : goal.overflow_add-i
overflow_add-i c =
    let a = c.args in
    let B = base (tables_of a.drawing) a.records a.bounds c.requires in
    let h = some_here a.drawing.plan.now a.records c.loop-kind.i c.kind_at.ensures.answer c.in-Some.is in
    record { fits = omega (arith, B.few, h) }

pub kind_at-behind-requires : goal.kind_at-behind-requires
kind_at-behind-requires c =
    let a = c.args in
    let B = base (tables_of a.drawing) a.records a.bounds c.requires in
    let h = some_here a.drawing.plan.now a.records c.loop-kind.i c.kind_at.ensures.answer c.in-Some.is in
    record { records_in_bounds = B.long; is_kind = is_kind_behind _ _ _ _ _ c.loop-kind.invariant.ahead h }

pub entry-w-requires : goal.entry-w-requires
entry-w-requires c =
    let a = c.args in
    (source_few a.drawing.plan.now a.records c.loop-kind.i c.loop-kind.source c.loop-kind.invariant.ws c.loop-kind.invariant.ahead).1

pub go_on-requires : goal.go_on-requires
go_on-requires c =
    let a = c.args in
    let h = some_here a.drawing.plan.now a.records c.loop-kind.i c.kind_at.ensures.answer c.in-Some.is in
    let d = a.drawing in
    let t = tables_of d in
    let B = base t a.records a.bounds c.requires in
    record {
      square_in = rw c.root_square-s.ensures.answer root_in;
      asks = loop_asks (env d.areas.now d.xs.now d.ys.now a.bounds) (drawing_in t) d.plan.now a.records (words_in t) B c.loop-kind.i c.loop-kind.source
          c.loop-kind.m c.loop-kind.invariant h _
          (read_entry c.loop-kind.source c.entry-w.ensures.answer (kind_read c.kind_at.ensures.answer c.in-Some.is) c.kind_at-behind.ensures.answer);
    }

pub after-source-requires : goal.after-source-requires
after-source-requires c =
    let a = c.args in
    source_few a.drawing.plan.now a.records c.loop-kind.i c.loop-kind.source c.loop-kind.invariant.ws c.loop-kind.invariant.ahead

pub overflow_add-i-in-Some : goal.overflow_add-i-in-Some
overflow_add-i-in-Some c =
    let a = c.args in
    let B = base (tables_of a.drawing) a.records a.bounds c.requires in
    let h = some_here a.drawing.plan.now a.records c.loop-kind.i c.kind_at.ensures.answer c.in-Some.is in
    record { fits = omega (arith, B.few, h, c.stride-i.ensures.range) }

pub loop-kind-preserved : goal.loop-kind-preserved
loop-kind-preserved c =
    let a = c.args in
    let h = some_here a.drawing.plan.now a.records c.loop-kind.i c.kind_at.ensures.answer c.in-Some.is in
    let d = a.drawing in
    let t = tables_of d in
    let w = c.entry-w.result in
    let s = c.root_square-s.result in
    loop_turn (env d.areas.now d.xs.now d.ys.now a.bounds) (drawing_in t) d.plan.now a.records (words_in t) (base t a.records a.bounds c.requires)
    c.loop-kind.i c.loop-kind.source c.loop-kind.m c.loop-kind.invariant h _ w s (left_class d.xs.now d.ys.now s w) (left_sign d.xs.now d.ys.now w)
    c.after-source.result _
    (read_entry c.loop-kind.source c.entry-w.ensures.answer (kind_read c.kind_at.ensures.answer c.in-Some.is) c.kind_at-behind.ensures.answer)
    c.entry-w.type_inv.1.1.1.1.0.1 c.root_square-s.ensures.answer refl refl c.go_on.ensures.pruner c.go_on.ensures.waiting
    (c.after-source.ensures.answer ∙ ap₂ (after_n c.loop-kind.source) (kind_read c.kind_at.ensures.answer c.in-Some.is) c.kind_at-behind.ensures.answer)
    (ap (λ (n : ℕ). c.loop-kind.i + n) (c.stride-i.ensures.answer ∙ ap stride_n c.kind_at-behind.ensures.answer))

pub weight-requires : goal.weight-requires
weight-requires c =
    let a = c.args in
    let h = none_left a.drawing.plan.now a.records c.loop-kind.i c.loop-kind.source _ c.loop-kind.invariant.ahead c.kind_at.ensures.answer c.in_default.is in
    let d = a.drawing in
    let t = tables_of d in
    let B = base t a.records a.bounds c.requires in
    record {
      inside = end_inside (env d.areas.now d.xs.now d.ys.now a.bounds) (drawing_in t) d.plan.now a.records (words_in t) B c.loop-kind.i c.loop-kind.source
          c.loop-kind.m c.loop-kind.invariant h;
      weight_bound = end_room (env d.areas.now d.xs.now d.ys.now a.bounds) (drawing_in t) d.plan.now a.records (words_in t) B c.loop-kind.i
          c.loop-kind.source c.loop-kind.m c.loop-kind.invariant h;
    }

pub returns : goal.returns
returns c =
    let a = c.args in
    let h = none_left a.drawing.plan.now a.records c.loop-kind.i c.loop-kind.source _ c.loop-kind.invariant.ahead c.kind_at.ensures.answer c.in_default.is in
    let d = a.drawing in
    let t = tables_of d in
    record {
      answer = c.weight.ensures.answer
          ∙ (end_weight (env d.areas.now d.xs.now d.ys.now a.bounds) (drawing_in t) d.plan.now a.records (words_in t)
          (base t a.records a.bounds c.requires) c.loop-kind.i c.loop-kind.source c.loop-kind.m c.loop-kind.invariant h
          ∙ ap (total element_size) (base_made t a.records a.bounds c.requires));
    }
