use lib.Dec.{T}
use lib.ListN.{length, drop}
use Rattle.laws.proofs.Signed.{Running}
use Rattle.geometry.specs.Windings.{winding, contours_to, follow}
use Rattle.geometry.proofs.winding.area_winding.Given as goal

abbrev pub invariant-loop-end : goal.invariant-loop-end
invariant-loop-end l =
    T (follow l.first (length l.xs) (drop l.end-index l.ends))
    × Running l.first l.sum (winding l.xs l.ys (contours_to l.first (drop l.end-index l.ends)) l.at.x l.at.y)
    (winding l.xs l.ys (contours_to 0 l.ends) l.at.x l.at.y)
