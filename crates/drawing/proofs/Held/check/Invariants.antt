use mathlib.Core.Path.{◌≡◌}
use Prim.Native.Nat.{◌-◌}
use Rattle.grammar.specs.code.Machine.{scan_n, start_n}
use Rattle.std.specs.Prelude.{Ok}
use Rattle.drawing.specs.Tables.{tables_of, cursor, rebuilt}
use Rattle.drawing.proofs.Held.check.Given as goal

abbrev pub invariant-loop-i : goal.invariant-loop-i
invariant-loop-i l =
    scan_n (Ok l.s) l.i (rebuilt (tables_of l.self.drawing) l.self.used l.i (cursor l.s.areas l.s.corners) (l.self.used.records - l.i))
    ≡ scan_n start_n 0 (rebuilt (tables_of l.self.drawing) l.self.used 0 (cursor 0 0) l.self.used.records)
