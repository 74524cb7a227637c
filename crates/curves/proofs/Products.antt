-- The signed product as a difference of two naturals, and its bounds.
use mathlib.Core.Path.{◌≡◌, ap, ap₂, ◌∙◌}
use Prim.Native.Nat.{ℕ, ◌+◌, ◌*◌, ◌≤◌}
use native.Mathlib.Nat.{mul-le-mul}
use native.Mathlib.Omega.{arith}
use lib.Dec.{ltb}
use lib.IntN.{ℤ, pos, sub_ℕ, ◌+ℤ◌, ◌-ℤ◌, ◌*ℤ◌}
use lib.Signed.{lt_z}
use mir.Syntax.{w64}
use mir.Val.{SFits}
use Rattle.laws.proofs.Differences.{pos_pos, mul_sub, add_sub, above_zero}
use Rattle.laws.proofs.Signed.{sub_fits}
use Rattle.curves.specs.code.Reach.{reach, EndsIn, PositionIn}
use Rattle.curves.specs.Lines.{product}

-- a product of two coordinates
small : {a b : ℕ} → a ≤ reach → b ≤ reach → a * b ≤ reach * reach
small {a} {b} p q = mul-le-mul p q

-- the two parts of the product, and the product, as differences
abbrev pub left : (a b d x : ℕ) → ℤ
left a b d x = sub_ℕ (a * d + x * b) (a * b + x * d)

abbrev pub right : (a b c y : ℕ) → ℤ
right a b c y = sub_ℕ (y * c + b * a) (y * a + b * c)

abbrev pub plus : (a b c d x y : ℕ) → ℕ
plus a b c d x y = (a * d + x * b) + (y * c + b * a)

abbrev pub minus : (a b c d x y : ℕ) → ℕ
minus a b c d x y = (a * b + x * d) + (y * a + b * c)

pub left_is : (a b d x : ℕ) → (pos a -ℤ pos x) *ℤ (pos d -ℤ pos b) ≡ left a b d x
left_is a b d x = ap₂ ◌*ℤ◌ (pos_pos a x) (pos_pos d b) ∙ mul_sub a x d b

pub right_is : (a b c y : ℕ) → (pos y -ℤ pos b) *ℤ (pos c -ℤ pos a) ≡ right a b c y
right_is a b c y = ap₂ ◌*ℤ◌ (pos_pos y b) (pos_pos c a) ∙ mul_sub y b c a

pub product_is : (a b c d x y : ℕ) → product a b c d x y ≡ sub_ℕ (plus a b c d x y) (minus a b c d x y)
unfolding product
product_is a b c d x y = ap₂ ◌+ℤ◌ (left_is a b d x) (right_is a b c y) ∙ add_sub (a * d + x * b) (a * b + x * d) (y * c + b * a) (y * a + b * c)

-- the test of the product is an order of two naturals
pub product_test : (a b c d x y : ℕ) → lt_z (pos 0) (product a b c d x y) ≡ ltb (minus a b c d x y) (plus a b c d x y)
product_test a b c d x y = ap (lt_z (pos 0)) (product_is a b c d x y) ∙ above_zero (plus a b c d x y) (minus a b c d x y)

module _ {a b c d x y : ℕ} (k : EndsIn a b c d) (s : PositionIn x y) where
  -- each of the eight products is at most reach × reach
  Small : Type 0
  Small =
      (a * d ≤ reach * reach)
      × (x * b ≤ reach * reach)
      × (a * b ≤ reach * reach)
      × (x * d ≤ reach * reach)
      × (y * c ≤ reach * reach)
      × (b * a ≤ reach * reach)
      × (y * a ≤ reach * reach)
      × (b * c ≤ reach * reach)

  smalls : Small
  unfolding Small
  smalls = (
    small k.first_x k.second_y,
    small (omega arith) k.first_y,
    small k.first_x k.first_y,
    small (omega arith) k.second_y,
    small (omega arith) k.second_x,
    small k.first_y k.first_x,
    small (omega arith) k.first_x,
    small k.first_y k.second_x,
  )

  pub left_fits : SFits w64 (left a b d x)
  unfolding Small
  left_fits = sub_fits (a * d + x * b) (a * b + x * d) (omega (arith, smalls)) (omega (arith, smalls))

  pub right_fits : SFits w64 (right a b c y)
  unfolding Small
  right_fits = sub_fits (y * c + b * a) (y * a + b * c) (omega (arith, smalls)) (omega (arith, smalls))

  pub product_fits : SFits w64 (sub_ℕ (plus a b c d x y) (minus a b c d x y))
  unfolding Small
  product_fits = sub_fits (plus a b c d x y) (minus a b c d x y) (omega (arith, smalls)) (omega (arith, smalls))
