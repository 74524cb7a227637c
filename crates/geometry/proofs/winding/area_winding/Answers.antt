-- `geometry::winding::area_winding` meets its contract: the running sum and the contours that are left make the whole.
use mathlib.Core.Path.{refl}
use Prim.Native.Nat.{◌-◌}
use native.Mathlib.Omega.{arith}
use lib.ListN.{length, get_or}
use Rattle.laws.proofs.Signed.{running_start, running_fits, running_more}
use Rattle.geometry.specs.Windings.{straight_lines, sum_of}
use Rattle.geometry.proofs.Windings.{follow_step, area_step, area_done, contour_abs}
use Rattle.geometry.proofs.winding.area_winding.Goals as goal

pub loop-end-init : goal.loop-end-init
loop-end-init c = (c.requires.t, running_start _ _)

pub contour_winding-sum-requires : goal.contour_winding-sum-requires
contour_winding-sum-requires c =
    let l = c.loop-end in
    let n = follow_step _ l.first _ l.end-index _ (omega arith) refl l.invariant.0 in record {
      corners_in = c.requires.corners_in;
      first_le_end =
          n.0;
      end_in_bounds = n.1;
    }

pub overflow_add-sum : goal.overflow_add-sum
overflow_add-sum c =
    let a = c.args in
    let l = c.loop-end in
    let e = get_or a.ends.now l.end-index 0 in
    let n = follow_step _ l.first _ l.end-index _ (omega arith) refl l.invariant.0 in
    running_fits l.invariant.1 (sum_of a.xs.now a.ys.now (straight_lines l.first l.first (e - l.first)) a.at.x a.at.y) _ _ e (e - l.first)
    (area_step a.ends.now l.first (length a.xs.now) l.end-index e (omega arith) refl a.xs.now a.ys.now a.at.x a.at.y)
    c.contour_winding-sum.ensures.answer (contour_abs a.xs.now a.ys.now l.first e a.at.x a.at.y) (omega arith) (omega arith)

pub loop-end-preserved : goal.loop-end-preserved
loop-end-preserved c =
    let a = c.args in
    let l = c.loop-end in
    let e = get_or a.ends.now l.end-index 0 in
    let n = follow_step _ l.first _ l.end-index _ (omega arith) refl l.invariant.0 in (
      n.2,
      running_more l.invariant.1 (sum_of a.xs.now a.ys.now (straight_lines l.first l.first (e - l.first)) a.at.x a.at.y) _ _ e (e - l.first)
          (area_step a.ends.now l.first (length a.xs.now) l.end-index e (omega arith) refl a.xs.now a.ys.now a.at.x a.at.y)
          c.contour_winding-sum.ensures.answer (contour_abs a.xs.now a.ys.now l.first e a.at.x a.at.y) (omega arith) (omega arith),
    )

pub returns : goal.returns
returns c =
    let a = c.args in
    record { answer = area_done a.xs.now a.ys.now a.at.x a.at.y a.ends.now _ c.loop-end.end-index _ _ (omega arith) c.loop-end.invariant.1 }
