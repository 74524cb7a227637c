-- What a 64-bit signed number holds and reads back.
use mathlib.Core.Path.{◌≡◌, refl, sym, ap, ◌∙◌, subst}
use Prim.Native.Nat.{ℕ, ◌+◌, ◌^◌, ◌≤◌, ◌<◌}
use native.Mathlib.Omega.{arith}
use lib.IntN.{ℤ, pos, nat_abs, sub_ℕ, ◌+ℤ◌, +ℤ_idl, +ℤ_idr, +ℤ_assoc}
use lib.Signed.{mag}
use mir.Syntax.{w64}
use mir.Val.{SFits, to_z, of_z}
use mir.ValLaws.{to_z-of_z}
use Rattle.laws.proofs.Differences.{mag_sub, abs_add, mag_abs}

-- a signed number that fits, stored and read back
pub read_back : (z : ℤ) → mag z < 2 ^ 63 → to_z w64 (of_z w64 z) ≡ z
read_back z f = to_z-of_z w64 z (record { sfits = f })

-- the same, of a number that is known to be y
pub reads : {z y : ℤ} → z ≡ y → SFits w64 y → to_z w64 (of_z w64 z) ≡ y
reads {z} {y} e f = ap (λ (v : ℤ). to_z w64 (of_z w64 v)) e ∙ to_z-of_z w64 y f

pub fits_as : {z y : ℤ} → z ≡ y → SFits w64 y → SFits w64 z
fits_as e f = subst (λ (v : ℤ). SFits w64 v) (sym e) f

-- a difference fits where both its parts are below 2^63
pub sub_fits : (a b : ℕ) → a < 2 ^ 63 → b ≤ 2 ^ 63 → SFits w64 (sub_ℕ a b)
sub_fits a b p q = record { sfits = mag_sub a b (2 ^ 63) p q }

-- ---- a sum that a loop carries in 64 bits: it is at most k either way, and with what is left to add it makes the whole

pub record Running (k : ℕ) (sum rest whole : ℤ) : Type 0 where
  pub small : nat_abs sum ≤ k
  pub total : sum +ℤ rest ≡ whole

pub running_start : (k : ℕ) (whole : ℤ) → Running k (pos 0) whole whole
running_start k whole = record { small = omega arith; total = +ℤ_idl whole }

-- the next number, v, at most m either way, is what a call gave, r
module _ {k : ℕ} {sum left whole : ℤ} (s : Running k sum left whole) (v r rest : ℤ) (k' m : ℕ) (step : left ≡ v +ℤ rest) (e : r ≡ v)
    (h : nat_abs v ≤ m) (fit : k + m ≤ k') (lim : k' < 2 ^ 63) where
  added : sum +ℤ to_z w64 (of_z w64 r) ≡ sum +ℤ v
  added = ap (λ z. sum +ℤ z) (ap (λ z. to_z w64 (of_z w64 z)) e ∙ read_back v (mag_abs v (omega arith)))

  bound : nat_abs (sum +ℤ v) ≤ k'
  bound = omega (arith, abs_add sum v, s.small)

  pub running_fits : SFits w64 (sum +ℤ to_z w64 (of_z w64 r))
  running_fits = fits_as added (record { sfits = mag_abs (sum +ℤ v) (omega (arith, bound)) })

  pub running_more : Running k' (to_z w64 (of_z w64 (sum +ℤ to_z w64 (of_z w64 r)))) rest whole
  running_more =
      let back : to_z w64 (of_z w64 (sum +ℤ to_z w64 (of_z w64 r))) ≡ sum +ℤ v =
      reads added (record { sfits = mag_abs (sum +ℤ v) (omega (arith, bound)) }) in
      record {
        small = rw back bound;
        total = rw back (+ℤ_assoc sum v rest ∙ (ap (λ z. sum +ℤ z) (sym step) ∙ s.total));
      }

pub running_end : {k : ℕ} {sum whole : ℤ} → Running k sum (pos 0) whole → sum ≡ whole
running_end {k} {sum} s = sym (+ℤ_idr sum) ∙ s.total

-- a sum that begins with a small number
pub running_from : (k : ℕ) (z rest : ℤ) → nat_abs z ≤ k → k < 2 ^ 63 → Running k (to_z w64 (of_z w64 z)) rest (to_z w64 (of_z w64 z) +ℤ rest)
running_from k z rest h l = let b = read_back z (mag_abs z (omega arith)) in record { small = rw b h; total = refl }

-- nothing is left to add
pub running_done : {k : ℕ} {sum rest whole : ℤ} → rest ≡ pos 0 → Running k sum rest whole → sum ≡ whole
running_done {k} {sum} {rest} {whole} e s = running_end (subst (λ r. Running k sum r whole) e s)
