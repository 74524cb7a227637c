use mathlib.Core.Path.{◌≡◌, refl, ◌∙◌}
use mathlib.Core.List.{List}
use Prim.Native.Nat.{ℕ, ◌+◌, ◌<◌}
use lib.IntN.{ℤ}
use Rattle.geometry.specs.declared.class.Square.{Square}
use Rattle.stream.specs.declared.Context.{Context}
use Rattle.stream.specs.declared.Stream.{Stream}
use Rattle.stream.specs.declared.Words.{Words}
use Rattle.stream.specs.Grammar.{env_of, Passed}
use Rattle.stream.specs.Table.{words_at}
use Rattle.ranges.specs.Held.{lent_of}
use Rattle.making.specs.declared.Maker.{Maker}
use Rattle.making.specs.code.Numbers.{cell_in, left_class, left_sign, Asks}
use Rattle.making.proofs.Standing.{Reads}
use Rattle.making.proofs.Lent.{lent_reads}
use Rattle.making.proofs.Turn.{waits_small}
use Rattle.child_stream.proofs.Loop.{loop_asks, end_inside, end_room, end_weight, Looping}
use Rattle.child_stream.proofs.Noting.{Counting, counting_begin, looping, counting_turn, counting_end}
use Rattle.child_stream.proofs.count_child.Goals as goal

module _ (x : Context) (q : Square) (s : Stream) (P : Passed s.entries.now s.first s.count (env_of x)) where
  reads : Reads (env_of x) (lent_of x)
  reads = lent_reads x.areas.now x.xs.now x.ys.now x.bounds

  module _ (i : ℕ) (m : Maker) (zs : List ℤ) (l : Counting (env_of x) (lent_of x) (cell_in q) s.entries.now s.first s.count i m zs) where
    held : Looping (env_of x) (lent_of x) (cell_in q) s.entries.now s.first s.count i m
    held = looping (env_of x) (lent_of x) (cell_in q) reads s.entries.now s.first s.count P i m zs l

    here : i < s.first + s.count → (w : Words) → w ≡ words_at s.entries.now i → Asks (env_of x) m w
    here h w e = loop_asks (env_of x) (lent_of x) (cell_in q) reads s.entries.now s.first s.count P i m held h w e

pub loop-i-init : goal.loop-i-init
loop-i-init c =
    let a = c.args in
    counting_begin (env_of a.passed.context) (lent_of a.passed.context) (cell_in a.s) (reads a.passed.context a.s a.passed.stream a.passed.passed)
    a.passed.stream.entries.now a.passed.stream.first a.passed.stream.count a.passed.passed c.begun-m.result _ c.begun-m.ensures.pruner
    c.begun-m.ensures.waiting refl

pub note-requires : goal.note-requires
note-requires c =
    let a = c.args in
    let h = here a.passed.context a.s a.passed.stream a.passed.passed _ _ _ c.loop-i.invariant c.loop-i-test.true _ c.read_entry-w.ensures.answer in
    h.small

pub go_on-requires : goal.go_on-requires
go_on-requires c =
    let a = c.args in
    record {
      square_in = c.requires.square_in;
      asks = here a.passed.context a.s a.passed.stream a.passed.passed _ _ _ c.loop-i.invariant c.loop-i-test.true _ c.read_entry-w.ensures.answer;
    }

pub loop-i-preserved : goal.loop-i-preserved
loop-i-preserved c =
    let a = c.args in
    let wd = c.read_entry-w.result in
    counting_turn (env_of a.passed.context) (lent_of a.passed.context) (cell_in a.s) (reads a.passed.context a.s a.passed.stream a.passed.passed)
    a.passed.stream.entries.now
    a.passed.stream.first a.passed.stream.count a.passed.passed c.loop-i.i c.loop-i.m c.loop-i.at c.loop-i.invariant c.loop-i-test.true _ wd a.s
    (left_class a.passed.context.xs.now a.passed.context.ys.now a.s wd) (left_sign a.passed.context.xs.now a.passed.context.ys.now wd)
    c.read_entry-w.ensures.answer
    c.read_entry-w.type_inv.1.1.1.1.0.1 c.requires.s_value refl refl c.go_on.ensures.pruner c.go_on.ensures.waiting _ c.note.ensures.at

pub note-requires-2 : goal.note-requires-2
note-requires-2 c =
    let a = c.args in
    let l = held a.passed.context a.s a.passed.stream a.passed.passed _ _ _ c.loop-i.invariant in
    waits_small _ c.loop-i.m.waiting
    (end_inside (env_of a.passed.context) (lent_of a.passed.context) (cell_in a.s) (reads a.passed.context a.s a.passed.stream a.passed.passed)
    a.passed.stream.entries.now a.passed.stream.first a.passed.stream.count a.passed.passed c.loop-i.i c.loop-i.m l c.loop-i-test.false)

pub weight-weight-requires : goal.weight-weight-requires
weight-weight-requires c =
    let a = c.args in
    let R = reads a.passed.context a.s a.passed.stream a.passed.passed in
    let l = held a.passed.context a.s a.passed.stream a.passed.passed _ _ _ c.loop-i.invariant in
    record {
      inside = end_inside (env_of a.passed.context) (lent_of a.passed.context) (cell_in a.s) R a.passed.stream.entries.now a.passed.stream.first
          a.passed.stream.count
          a.passed.passed c.loop-i.i c.loop-i.m l c.loop-i-test.false;
      weight_bound = end_room (env_of a.passed.context) (lent_of a.passed.context) (cell_in a.s) R a.passed.stream.entries.now a.passed.stream.first
          a.passed.stream.count
          a.passed.passed c.loop-i.i c.loop-i.m l c.loop-i-test.false;
    }

pub returns : goal.returns
returns c =
    let a = c.args in
    let R = reads a.passed.context a.s a.passed.stream a.passed.passed in
    let l = held a.passed.context a.s a.passed.stream a.passed.passed _ _ _ c.loop-i.invariant in
    let weight = c.weight-weight.ensures.answer
    ∙ end_weight (env_of a.passed.context) (lent_of a.passed.context) (cell_in a.s) R a.passed.stream.entries.now a.passed.stream.first a.passed.stream.count
    a.passed.passed c.loop-i.i c.loop-i.m l c.loop-i-test.false in
    record {
      weight = weight;
      starts = c.ended-starts.ensures.answer
          ∙ counting_end (env_of a.passed.context) (lent_of a.passed.context) (cell_in a.s) R a.passed.stream.entries.now a.passed.stream.first
          a.passed.stream.count
          a.passed.passed c.loop-i.i c.loop-i.m c.loop-i.at c.loop-i.invariant c.loop-i-test.false _ c.note-2.ensures.at c.weight-weight.result
          weight;
    }
