use Prim.Native.Nat.{◌-◌}
use Rattle.laws.proofs.Signed.{Running}
use Rattle.geometry.specs.Windings.{straight_lines, sum_of}
use Rattle.geometry.proofs.winding.contour_winding.Given as goal

abbrev pub invariant-loop-i : goal.invariant-loop-i
invariant-loop-i l =
    Running (l.i - l.first) l.sum (sum_of l.xs l.ys (straight_lines l.first l.i (l.end - l.i)) l.at.x l.at.y)
    (sum_of l.xs l.ys (straight_lines l.first l.first (l.end - l.first)) l.at.x l.at.y)
