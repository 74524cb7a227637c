use Rattle.std.proofs.Common.{Some}
use Rattle.tables.specs.Tables.{tree_of}
use Rattle.pixel_row.specs.code.Numbers.{Sampling}
use Rattle.pixel_row.proofs.pixel_from.Given as goal

abbrev pub invariant-loop-i : goal.invariant-loop-i
invariant-loop-i l = Sampling (tree_of l.tree) l.place.row l.place.column 16 l.i (Some l.last) l.sum
