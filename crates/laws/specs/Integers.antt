-- Equality of two integers as a test. Document 01, "Spots to try": "Proved, marked *. Triangle (0,0) (10,0) (10,10): winding 1 at (5,5)* ..."; a checked table
-- compares these windings by it. `Rattle.laws.proofs.Integers` says that the test means equality, both ways: `eq_z_true`, `eq_eq_z`.
use Rattle.std.specs.Prelude.{Bool, ◌&&◌, ℤ}
use Rattle.std.specs.Int.Signed.{le_z}

abbrev pub eq_z : ℤ → ℤ → Bool
eq_z p q = le_z p q && le_z q p
