-- How large the products and the form are within a curve's box.
use mathlib.Core.Path.{◌≡◌, refl}
use Prim.Native.Nat.{ℕ, zero, suc, ◌+◌, ◌*◌, ◌^◌, ◌≤◌, ◌<◌}
use native.Mathlib.Nat.{mul-le-mul}
use native.Mathlib.Omega.{arith}
use lib.IntN.{ℤ, pos, negsuc, neg_ℤ, nat_abs, ◌-ℤ◌, ◌*ℤ◌}
use mir.Syntax.{w64}
use mir.Val.{SFits}
use Rattle.laws.proofs.Differences.{sub_cases, pos_pos, abs_add, mag_abs}
use Rattle.curves.specs.Lines.{product}
use Rattle.curves.specs.Curves.{implicit}
use Rattle.curves.specs.code.Reach.{Near, widest}

-- ---- magnitudes

abs_neg : (z : ℤ) → nat_abs (neg_ℤ z) ≡ nat_abs z
abs_neg (pos zero) = refl
abs_neg (pos (suc n)) = refl
abs_neg (negsuc n) = refl

abs_mul : (a b : ℤ) → nat_abs (a *ℤ b) ≡ nat_abs a * nat_abs b
abs_mul (pos n) (pos m) = refl
abs_mul (pos n) (negsuc m) = abs_neg (pos (n * suc m))
abs_mul (negsuc n) (pos m) = abs_neg (pos (suc n * m))
abs_mul (negsuc n) (negsuc m) = refl

abs_times : (a b : ℤ) {m k : ℕ} → nat_abs a ≤ m → nat_abs b ≤ k → nat_abs (a *ℤ b) ≤ m * k
abs_times a b {m} {k} p q = rw (abs_mul a b) (mul-le-mul p q)

abs_fits : (z : ℤ) {m : ℕ} → nat_abs z ≤ m → m < 2 ^ 63 → SFits w64 z
abs_fits z p q = record { sfits = mag_abs z (omega arith) }

abs_apart : (a b : ℕ) → a ≤ b + 4096 → b ≤ a + 4096 → nat_abs (pos a -ℤ pos b) ≤ 4096
abs_apart a b p q = rw (pos_pos a b) (sub_cases (λ z. nat_abs z ≤ 4096) a b (λ n h. omega arith) (λ n h. omega arith))

-- ---- a product whose line and position are in one box

pub product_near : {l k a b c d x y : ℕ} → Near l k a b → Near l k c d → Near l k x y → nat_abs (product a b c d x y) ≤ widest
unfolding product
product_near {l} {k} {a} {b} {c} {d} {x} {y} f s p =
    let u = pos a -ℤ pos x in
    let v = pos d -ℤ pos b in
    let w = pos y -ℤ pos b in
    let t = pos c -ℤ pos a in
    omega (
      arith,
      abs_add (u *ℤ v) (w *ℤ t),
      abs_times u v (abs_apart a x (omega (arith, f, p)) (omega (arith, f, p))) (abs_apart d b (omega (arith, f, s)) (omega (arith, f, s))),
      abs_times w t (abs_apart y b (omega (arith, f, p)) (omega (arith, f, p))) (abs_apart c a (omega (arith, f, s)) (omega (arith, f, s))),
    )

-- ---- the form of three such products

module _ (c f s : ℤ) (hc : nat_abs c ≤ widest) (hf : nat_abs f ≤ widest) (hs : nat_abs s ≤ widest) where
  abbrev most : ℕ
  most = widest * widest

  pub chord_fits : SFits w64 (c *ℤ c)
  chord_fits = abs_fits (c *ℤ c) (abs_times c c hc hc) (omega arith)

  pub legs_fit : SFits w64 (f *ℤ s)
  legs_fit = abs_fits (f *ℤ s) (abs_times f s hf hs) (omega arith)

  four : nat_abs (pos 4 *ℤ (f *ℤ s)) ≤ 4 * most
  four = abs_times (pos 4) (f *ℤ s) {m = 4} (omega arith) (abs_times f s hf hs)

  pub four_fits : SFits w64 (pos 4 *ℤ (f *ℤ s))
  four_fits = abs_fits (pos 4 *ℤ (f *ℤ s)) four (omega arith)

  form : nat_abs (implicit c f s) ≤ 5 * most
  form = omega (arith, abs_add (c *ℤ c) (neg_ℤ (pos 4 *ℤ (f *ℤ s))), abs_neg (pos 4 *ℤ (f *ℤ s)), abs_times c c hc hc, four)

  pub form_fits : SFits w64 (implicit c f s)
  form_fits = abs_fits (implicit c f s) form (omega arith)
