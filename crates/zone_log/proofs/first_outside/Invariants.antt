use mathlib.Core.Path.{◌≡◌}
use mathlib.Core.Bool.{true}
use Prim.Native.Nat.{ℕ, ◌<◌}
use lib.ListN.{get_or}
use Rattle.find_leaf.specs.Leaf.{position_range}
use Rattle.zone_log.proofs.first_outside.Given as goal

abbrev pub invariant-loop-i : goal.invariant-loop-i
invariant-loop-i l = (k : ℕ) → k < l.i → position_range (get_or l.px k 0) (get_or l.py k 0) ≡ true
