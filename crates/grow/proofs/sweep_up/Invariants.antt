use Prim.Native.Nat.{◌-◌}
use Rattle.tables.specs.Tables.{tree}
use Rattle.grow.proofs.Swept.{Sweeping}
use Rattle.grow.proofs.sweep_up.Given as goal

abbrev pub invariant-loop-s : goal.invariant-loop-s
invariant-loop-s l = Sweeping l.limits.threshold l.limits.depth
    (tree l.drawing.plan.now l.drawing.areas.now l.drawing.xs.now l.drawing.ys.now l.initial.head l.initial.cells l.initial.entries)
    (tree l.drawing.plan.now l.drawing.areas.now l.drawing.xs.now l.drawing.ys.now l.head l.cells l.entries) l.s

abbrev pub decreases-loop-s : goal.decreases-loop-s
decreases-loop-s l = 4096 - l.s.cell
