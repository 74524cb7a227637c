-- `geometry::winding::contour_winding` meets its contract: the running sum and the edges that are left make the whole.
use Prim.Native.Nat.{◌+◌, ◌-◌}
use native.Mathlib.Omega.{arith}
use Rattle.laws.proofs.Signed.{running_start, running_fits, running_more}
use Rattle.geometry.specs.Windings.{line, edge_of, next_corner, adds}
use Rattle.geometry.proofs.Windings.{adds_abs, sum_step, sum_done}
use Rattle.geometry.proofs.winding.contour_winding.Goals as goal

pub loop-i-init : goal.loop-i-init
loop-i-init c = running_start _ _

pub overflow_add-sum : goal.overflow_add-sum
overflow_add-sum c =
    let a = c.args in
    let i = c.loop-i.i in
    let e = edge_of a.xs.now a.ys.now (line i (next_corner a.first a.end i)) in
    running_fits c.loop-i.invariant (adds e a.at.x a.at.y) _ _ (i + 1 - a.first) 1
    (sum_step a.xs.now a.ys.now a.at.x a.at.y a.first i a.end (omega arith)) c.corner_adds-sum.ensures.answer
    (adds_abs e a.at.x a.at.y) (omega arith) (omega arith)

pub loop-i-preserved : goal.loop-i-preserved
loop-i-preserved c =
    let a = c.args in
    let i = c.loop-i.i in
    let e = edge_of a.xs.now a.ys.now (line i (next_corner a.first a.end i)) in
    running_more c.loop-i.invariant (adds e a.at.x a.at.y) _ _ (i + 1 - a.first) 1
    (sum_step a.xs.now a.ys.now a.at.x a.at.y a.first i a.end (omega arith)) c.corner_adds-sum.ensures.answer
    (adds_abs e a.at.x a.at.y) (omega arith) (omega arith)

pub returns : goal.returns
returns c = let a = c.args in record { answer = sum_done a.xs.now a.ys.now a.at.x a.at.y a.first _ a.end _ _ (omega arith) c.loop-i.invariant }
