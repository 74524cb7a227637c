-- `odd` is what it should be: one more changes it; and what the machine tests.
use mathlib.Core.Path.{◌≡◌, refl, sym, ap, ◌∙◌}
use mathlib.Core.Bool.{Bool, true, false, not}
use Prim.Native.Nat.{ℕ, zero, suc, ◌-◌, ◌/◌, ◌%◌, ◌^◌, ◌<◌}
use native.Mathlib.Omega.{arith}
use native.Mathlib.Decide.{ℕ_discrete}
use borrow.Author.Tests.{eq-eqb, ne_eqb}
use lib.Dec.{eqb}
use lib.IntN.{ℤ, pos, negsuc, neg_ℤ, nat_abs, suc_ℤ, ◌+ℤ◌, +ℤ_one}
use lib.Signed.{mag, rem_z, quot_z}
use mir.Syntax.{w64}
use mir.Val.{of_z}
use Rattle.geometry.specs.FillRules.{odd}

step : (n : ℕ) → eqb (suc n % 2) 1 ≡ not (eqb (n % 2) 1)
step n = go (ℕ_discrete (n % 2) 1)
  where
    go : Dec (n % 2 ≡ 1) → eqb (suc n % 2) 1 ≡ not (eqb (n % 2) 1)
    go (yes h) = ne_eqb (suc n % 2) 1 (omega arith) ∙ sym (ap not (eq-eqb (n % 2) 1 h))
    go (no h) = eq-eqb (suc n % 2) 1 (omega arith) ∙ sym (ap not (ne_eqb (n % 2) 1 h))

flip : (a b : Bool) → a ≡ not b → b ≡ not a
flip a true e = sym (ap not e)
flip a false e = sym (ap not e)

pub odd_suc : (z : ℤ) → odd (z +ℤ pos 1) ≡ not (odd z)
odd_suc z = ap odd (+ℤ_one z) ∙ at z
  where
    at : (z : ℤ) → odd (suc_ℤ z) ≡ not (odd z)
    at (pos n) = step n
    at (negsuc zero) = refl
    at (negsuc (suc n)) = flip (eqb (suc (suc n) % 2) 1) (eqb (suc n % 2) 1) (step (suc n))

-- ---- what the machine tests

-- `winding != 0` compares bits
pub zero_test : (z : ℤ) → mag z < 2 ^ 63 → eqb (of_z w64 z) 0 ≡ eqb (nat_abs z) 0
zero_test (pos n) h = refl
zero_test (negsuc n) h = ne_eqb (2 ^ 64 - suc n) 0 (omega arith) ∙ sym (ne_eqb (suc n) 0 (omega arith))

-- `winding % 2 != 0`: the remainder is 0, 1 or −1; g gives its bits
bit : (g : ℕ → ℕ) → eqb (g 0) 0 ≡ true → eqb (g 1) 0 ≡ false → (m : ℕ) → m < 2 → not (eqb (g m) 0) ≡ eqb m 1
bit g p q zero h = ap not p
bit g p q (suc zero) h = ap not q
bit g p q (suc (suc m)) h = absurd (omega arith)

pub rem_test : (z : ℤ) → not (eqb (of_z w64 (rem_z z (pos 2))) 0) ≡ odd z
rem_test (pos n) = bit (λ m. m) refl refl (n % 2) (omega arith)
rem_test (negsuc n) = bit (λ m. of_z w64 (neg_ℤ (pos m))) refl refl (suc n % 2) (omega arith)

-- half of a number that fits, fits
pub half_fits : (z : ℤ) → mag z < 2 ^ 63 → mag (quot_z z (pos 2)) < 2 ^ 63
half_fits (pos n) h = omega arith
half_fits (negsuc n) h = neg (suc n / 2) (omega arith)
  where
    neg : (m : ℕ) → m < 2 ^ 63 → mag (neg_ℤ (pos m)) < 2 ^ 63
    neg zero h = h
    neg (suc m) h = omega arith
