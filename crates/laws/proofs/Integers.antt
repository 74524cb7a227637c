-- The test of two integers means that they are equal, and an equality passes it.
use mathlib.Core.Path.{◌≡◌, ap, subst}
use mathlib.Core.Bool.{true}
use native.Mathlib.Omega.{arith}
use lib.IntN.{ℤ, pos, negsuc}
use lib.Dec.{leb}
use lib.Signed.{le_z, ≤ℤ_refl}
use borrow.Author.Tests.{leb-true}
use Rattle.laws.specs.Integers.{eq_z}
use Rattle.laws.proofs.Booleans.{T_true, and_left, and_right, and_both, clash}

pub eq_z_true : (p q : ℤ) → eq_z p q ≡ true → p ≡ q
eq_z_true (pos a) (pos b) h = ap pos (omega (arith, leb-true a b (and_left (leb a b) (leb b a) h), leb-true b a (and_right (leb a b) (leb b a) h)))
eq_z_true (pos a) (negsuc b) h = clash h
eq_z_true (negsuc a) (pos b) h = clash h
eq_z_true (negsuc a) (negsuc b) h = ap negsuc (omega (arith, leb-true b a (and_left (leb b a) (leb a b) h), leb-true a b (and_right (leb b a) (leb a b) h)))

pub eq_eq_z : (p q : ℤ) → p ≡ q → eq_z p q ≡ true
eq_eq_z p q e = subst (λ z. eq_z p z ≡ true) e (let t = T_true (≤ℤ_refl p).le in and_both (le_z p p) (le_z p p) t t)
