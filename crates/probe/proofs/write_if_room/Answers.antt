use native.Mathlib.Omega.{arith}
use Rattle.stream.specs.Grammar.{env_of}
use Rattle.stream.proofs.Passed.{passed}
use Rattle.probe.proofs.Laws.{square_in_law, square_cell, check_used}
use Rattle.probe.proofs.write_if_room.Goals as goal

pub invariant_of-entries_made : goal.invariant_of-entries_made
invariant_of-entries_made c = record { passed = passed _ _ _ _ _ c.requires.b_value }

pub overflow_add-used : goal.overflow_add-used
overflow_add-used c =
    let a = c.args in
    let u = check_used a.entries.now a.first a.count a.used (env_of a.context) c.requires.b_value in
    record { fits = omega (arith, u.0, c.entries_made-n.ensures.range, c.well_formed.0.1) }

pub write_child-requires-clause-passed : goal.write_child-requires-clause-passed
write_child-requires-clause-passed c = passed _ _ _ _ _ c.requires.b_value

pub write_child-requires-clause-square_in : goal.write_child-requires-clause-square_in
write_child-requires-clause-square_in c = square_in_law _ c.requires.s_value

pub write_child-requires-clause-s_value : goal.write_child-requires-clause-s_value
write_child-requires-clause-s_value c = square_cell _ c.requires.s_value
