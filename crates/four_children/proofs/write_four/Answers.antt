use native.Mathlib.Omega.{arith}
use Rattle.stream.specs.Table.{words_from}
use Rattle.stream.specs.Grammar.{env_of}
use Rattle.celltable.specs.Ranges.{cell_of}
use Rattle.ranges.specs.Held.{lent_of}
use Rattle.four_children.proofs.Filled.{entries_at, filled_begin, still_passed, still_behind, made_is, child_room_law, filled_turn}
use Rattle.four_children.proofs.write_four.Goals as goal

pub loop-q-init : goal.loop-q-init
loop-q-init c =
    let a = c.args in
    let v = env_of a.context in
    let D = lent_of a.context in
    filled_begin v D (cell_of a.w.words) a.entries.now a.first a.count a.free c.requires.passed c.requires.count_bound c.requires.count_in_bounds

pub write_child-requires : goal.write_child-requires
write_child-requires c =
    let a = c.args in
    let v = env_of a.context in
    let D = lent_of a.context in
    let ws = words_from a.entries.now a.first a.count in record {
      passed = still_passed v D (cell_of a.w.words) a.entries.now a.first a.count a.free c.requires.passed c.requires.count_bound c.requires.count_in_bounds
          c.loop-q.q c.loop-q.at c.loop-q.entries c.loop-q.invariant;
      count_bound = still_behind v D (cell_of a.w.words) a.entries.now a.first a.count a.free c.requires.passed c.requires.count_bound
          c.requires.count_in_bounds c.loop-q.q c.loop-q.at c.loop-q.entries c.loop-q.invariant;
      made_in_bounds = rw (entries_at D (cell_of a.w.words) ws a.ts c.loop-q.q
          (omega (arith, c.loop-q-test.true)) c.requires.ts_value)
          (child_room_law v D (cell_of a.w.words) a.entries.now a.first a.count a.free c.requires.passed c.requires.count_bound
          c.requires.count_in_bounds c.loop-q.q c.loop-q.at c.loop-q.entries c.loop-q.invariant
          (omega (arith, c.loop-q-test.true)));
      made_value = made_is v D (cell_of a.w.words) a.entries.now a.first a.count a.free c.requires.passed c.requires.count_bound
          c.requires.count_in_bounds c.loop-q.q c.loop-q.at c.loop-q.entries c.loop-q.invariant
          (omega (arith, c.loop-q-test.true)) _
          (entries_at D (cell_of a.w.words) ws a.ts c.loop-q.q
          (omega (arith, c.loop-q-test.true)) c.requires.ts_value);
    }

pub overflow_add-at : goal.overflow_add-at
overflow_add-at c =
    let a = c.args in
    let v = env_of a.context in
    let D = lent_of a.context in
    let ws = words_from a.entries.now a.first a.count in
    record {
      fits = omega (
        arith,
        child_room_law v D (cell_of a.w.words) a.entries.now a.first a.count a.free c.requires.passed c.requires.count_bound c.requires.count_in_bounds
            c.loop-q.q c.loop-q.at c.loop-q.entries c.loop-q.invariant
            (omega (arith, c.loop-q-test.true)),
        entries_at D (cell_of a.w.words) ws a.ts c.loop-q.q (omega (arith, c.loop-q-test.true)) c.requires.ts_value,
        c.loop-q.invariant.size,
        c.well_formed.0.1,
      );
    }

pub loop-q-preserved : goal.loop-q-preserved
loop-q-preserved c =
    let a = c.args in
    let v = env_of a.context in
    let D = lent_of a.context in
    let ws = words_from a.entries.now a.first a.count in
    rw (entries_at D (cell_of a.w.words) ws a.ts c.loop-q.q (omega (arith, c.loop-q-test.true)) c.requires.ts_value)
    (filled_turn v D (cell_of a.w.words) a.entries.now a.first a.count a.free c.requires.passed c.requires.count_bound c.requires.count_in_bounds
    c.loop-q.q c.loop-q.at c.loop-q.entries c.loop-q.invariant (omega (arith, c.loop-q-test.true)) _
    c.write_child.ensures.entries)
