use Rattle.pixel_row.proofs.Filling.{Filling}
use Rattle.tables.specs.Tables.{tree_of}
use lib.ListN.{length}
use Prim.Native.Nat.{◌/◌}
use mathlib.Core.Path.{◌≡◌}
use Rattle.pixel_row.proofs.fill_row.Given as goal

abbrev pub invariant-loop-i : goal.invariant-loop-i
invariant-loop-i l = (l.n ≡ length l.initial.out / 3) × Filling (tree_of l.tree) l.row l.first l.initial.out l.n l.i l.last l.out
