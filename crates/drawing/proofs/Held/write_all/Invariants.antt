use Prim.Native.Nat.{◌≤◌, ◌*◌}
use Rattle.drawing.specs.Tables.{tables_of}
use Rattle.drawing.proofs.Rows.{Copying}
use Rattle.drawing.proofs.Held.write_all.Given as goal

abbrev pub invariant-loop-i : goal.invariant-loop-i
invariant-loop-i l =
    (l.c.area ≤ l.i) × (l.c.corner ≤ l.i) × Copying (tables_of l.self.drawing) l.self.used l.self.used.records l.initial.out l.out l.i (l.i * 16) l.c
