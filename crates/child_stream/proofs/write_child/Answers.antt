use mathlib.Core.Path.{◌≡◌, refl, sym, ap, ◌∙◌}
use mathlib.Core.List.{List}
use Prim.Native.Nat.{ℕ, ◌+◌, ◌*◌, ◌<◌, ◌≤◌}
use native.Mathlib.Omega.{arith}
use lib.ListN.{length, take}
use Rattle.stream.specs.declared.Words.{Words}
use Rattle.stream.specs.Grammar.{env_of}
use Rattle.stream.specs.Table.{words_at, words_from}
use Rattle.ranges.specs.Held.{lent_of}
use Rattle.making.specs.Made.{words_made}
use Rattle.making.specs.code.Numbers.{cell_in, left_class, left_sign}
use Rattle.making.proofs.Made.{made_length}
use Rattle.making.proofs.Lent.{lent_reads}
use Rattle.child_stream.proofs.Loop.{loop_asks, end_inside}
use Rattle.child_stream.proofs.Fill.{fill_begin, looping, entry_is, fill_turn, fill_end}
use Rattle.child_stream.proofs.Tail.{tail_written}
use Rattle.child_stream.proofs.write_child.Goals as goal

-- the entry that is read is the parent's
parents : (t : List ℕ) (first count free i : ℕ)
    → first + count ≤ free
    → i < first + count
    → (used : List ℕ)
    → used ≡ take (free * 4) t
    → (w : Words)
    → w ≡ words_at used i
    → w ≡ words_at t i
parents t first count free i h l used u w e = e ∙ (ap (λ (y : List ℕ). words_at y i) u ∙ entry_is t free i (omega arith))

pub loop-i-init : goal.loop-i-init
loop-i-init c =
    let a = c.args in
    let x = a.context in
    fill_begin (env_of x) (lent_of x) (cell_in a.s) (lent_reads x.areas.now x.xs.now x.ys.now x.bounds) a.entries.now a.first a.count a.made
    c.requires.passed c.begun-m.result c.split_at_mut-out.result.0.now c.begun-m.ensures.pruner c.begun-m.ensures.waiting
    c.split_at_mut-out.ensures.front_len

pub write_entry-requires : goal.write_entry-requires
write_entry-requires c =
    let a = c.args in
    let x = a.context in
    let r = c.requires in
    let D = lent_of x in
    let R = lent_reads x.areas.now x.xs.now x.ys.now x.bounds in
    record {
      square_in = r.square_in;
      asks = loop_asks (env_of x) D (cell_in a.s) R a.entries.now a.first a.count r.passed c.loop-i.i c.loop-i.m
          (looping (env_of x) D (cell_in a.s) R a.entries.now a.first a.count a.made r.passed c.loop-i.i c.loop-i.m c.loop-i.out c.loop-i.invariant)
          c.loop-i-test.true _
          (parents a.entries.now a.first a.count a.free c.loop-i.i r.count_bound c.loop-i-test.true _ c.split_at_mut-used.ensures.front _
          c.read_entry-w.ensures.answer);
    }

pub loop-i-preserved : goal.loop-i-preserved
loop-i-preserved c =
    let a = c.args in
    let x = a.context in
    let r = c.requires in
    let wd = c.read_entry-w.result in
    fill_turn (env_of x) (lent_of x) (cell_in a.s) (lent_reads x.areas.now x.xs.now x.ys.now x.bounds) a.entries.now a.first a.count a.made r.passed
    c.loop-i.i c.loop-i.m c.loop-i.out c.loop-i.invariant c.loop-i-test.true _ wd a.s (left_class x.xs.now x.ys.now a.s wd)
    (left_sign x.xs.now x.ys.now wd) _
    (parents a.entries.now a.first a.count a.free c.loop-i.i r.count_bound c.loop-i-test.true _ c.split_at_mut-used.ensures.front _
    c.read_entry-w.ensures.answer)
    c.read_entry-w.type_inv.1.1.1.1.0.1 r.s_value refl refl c.write_entry.ensures.pruner c.write_entry.ensures.waiting c.write_entry.ensures.out

pub put_settled-requires : goal.put_settled-requires
put_settled-requires c =
    let a = c.args in
    let x = a.context in
    let r = c.requires in
    let D = lent_of x in
    let R = lent_reads x.areas.now x.xs.now x.ys.now x.bounds in
    record {
      inside = end_inside (env_of x) D (cell_in a.s) R a.entries.now a.first a.count r.passed c.loop-i.i c.loop-i.m
          (looping (env_of x) D (cell_in a.s) R a.entries.now a.first a.count a.made r.passed c.loop-i.i c.loop-i.m c.loop-i.out c.loop-i.invariant)
          c.loop-i-test.false;
    }

pub returns : goal.returns
returns c =
    let a = c.args in
    let x = a.context in
    let r = c.requires in
    let D = lent_of x in
    let ws = words_from a.entries.now a.first a.count in
    let out = fill_end (env_of x) D (cell_in a.s) (lent_reads x.areas.now x.xs.now x.ys.now x.bounds) a.entries.now a.first a.count a.made r.passed
    c.loop-i.i c.loop-i.m c.loop-i.out c.loop-i.invariant c.loop-i-test.false r.made_value _ c.put_settled.ensures.out in
    let n : length (words_made D (cell_in a.s) ws) ≡ a.made = made_length D (cell_in a.s) ws ∙ sym r.made_value in
    record {
      entries = rw (c.split_at_mut-used.ensures.front, out, c.split_at_mut-out.ensures.back, c.split_at_mut-used.ensures.back)
          (rw n at (tail_written a.entries.now a.free (words_made D (cell_in a.s) ws) (omega (arith, n, r.made_in_bounds))));
    }
