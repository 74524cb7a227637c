use Rattle.tables.specs.Tables.{tree_of}
use Rattle.zone_log.proofs.Passes.{Writing}
use Rattle.zone_log.proofs.write_log.Given as goal

abbrev pub invariant-loop-i : goal.invariant-loop-i
invariant-loop-i l = Writing (tree_of l.tree) l.px l.py l.initial.out l.i l.last l.count l.out
