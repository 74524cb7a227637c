use Rattle.tables.specs.Tables.{tree_of}
use Rattle.zone_log.proofs.Passes.{Counting}
use Rattle.zone_log.proofs.count_log.Given as goal

abbrev pub invariant-loop-i : goal.invariant-loop-i
invariant-loop-i l = Counting (tree_of l.tree) l.px l.py l.i l.last l.count
