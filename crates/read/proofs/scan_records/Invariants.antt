use mathlib.Core.Path.{◌≡◌}
use Rattle.std.specs.Prelude.{Ok}
use Prim.Native.Nat.{◌-◌}
use Rattle.grammar.specs.code.Machine.{scan_n, start_n}
use Rattle.read.specs.Reading.{decoded_from}
use Rattle.read.proofs.scan_records.Given as goal

abbrev pub invariant-loop-i : goal.invariant-loop-i
invariant-loop-i l = scan_n (Ok l.s) l.i (decoded_from l.records l.i (l.n - l.i)) ≡ scan_n start_n 0 (decoded_from l.records 0 l.n)
