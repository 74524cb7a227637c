-- The document's sentence and the quick test are the same for every curve in order (`sentence`).
use mathlib.Core.Bool.{Bool, true, false, ◌&&◌, ◌||◌}
use mathlib.Core.Logic.{◌⊎◌, inl, inr}
use Prim.Native.Nat.{ℕ, ◌≤◌, ◌<◌}
use native.Mathlib.Omega.{arith}
use native.Mathlib.Decide.{dec_le}
use lib.Dec.{T, leb, ltb, leb→le, ltb→lt}
use borrow.Author.Tests.{le-leb, lt-ltb}
use Rattle.laws.proofs.Booleans.{true_T, &&_left, &&_right, &&_both}
use Rattle.curves.specs.Lines.{is_row}
use Rattle.curves.specs.Curves.{rises, in_order, Under, Above, CountsBy, side, curve_counts}
use Rattle.curves.proofs.Tests as tests

-- ---- rows, and three numbers in order

pub row_facts : (b d y : ℕ) → T (is_row b d y) → (b ≤ y) × (y < d)
row_facts b d y t = (leb→le b y (&&_left (leb b y) (ltb y d) t), ltb→lt y d (&&_right (leb b y) (ltb y d) t))

pub row_of : (b d y : ℕ) → b ≤ y → y < d → T (is_row b d y)
row_of b d y p q = true_T {a = is_row b d y} (rw (le-leb b y p, lt-ltb y d q))

pub rise_facts : (a b c : ℕ) → T (rises a b c) → (a ≤ b) × (b ≤ c)
rise_facts a b c t = (leb→le a b (&&_left (leb a b) (leb b c) t), leb→le b c (&&_right (leb a b) (leb b c) t))

pub rise_of : (a b c : ℕ) → a ≤ b → b ≤ c → T (rises a b c)
rise_of a b c p q = true_T {a = rises a b c} (rw (le-leb a b p, le-leb b c q))

order_facts : (a b c : ℕ) → T (in_order a b c) → ((a ≤ b) × (b ≤ c)) ⊎ ((c ≤ b) × (b ≤ a))
order_facts a b c t = go (rises a b c) (rise_facts a b c) t
  where
    go : (r : Bool) → (T r → (a ≤ b) × (b ≤ c)) → T (r || rises c b a) → ((a ≤ b) × (b ≤ c)) ⊎ ((c ≤ b) × (b ≤ a))
    go true f t = inl (f tt)
    go false f t = inr (rise_facts c b a t)

-- where the last is not below the first, they rise; where it is not above it, they fall
pub order_up : (a b c : ℕ) → T (in_order a b c) → a ≤ c → (a ≤ b) × (b ≤ c)
order_up a b c t h = go (order_facts a b c t)
  where
    go : ((a ≤ b) × (b ≤ c)) ⊎ ((c ≤ b) × (b ≤ a)) → (a ≤ b) × (b ≤ c)
    go (inl f) = f
    go (inr f) = (omega (arith, f), omega (arith, f))

pub order_down : (a b c : ℕ) → T (in_order a b c) → c ≤ a → (c ≤ b) × (b ≤ a)
order_down a b c t h = go (order_facts a b c t)
  where
    go : ((a ≤ b) × (b ≤ c)) ⊎ ((c ≤ b) × (b ≤ a)) → (c ≤ b) × (b ≤ a)
    go (inl f) = (omega (arith, f), omega (arith, f))
    go (inr f) = f

-- ---- the sentence, by the case of its x

module _ (x0 y0 x1 y1 x2 y2 x y : ℕ) where
  pub by_under : x0 ≤ x2 → T (is_row y0 y2 y) → Under x0 y0 x1 y1 x2 y2 x y → CountsBy x0 y0 x1 y1 x2 y2 x y
  by_under h r u = record { row = r; not_falling = λ p. u; falling = λ p. absurd (omega arith) }

  pub by_above : x2 < x0 → T (is_row y0 y2 y) → Above x0 y0 x1 y1 x2 y2 x y → CountsBy x0 y0 x1 y1 x2 y2 x y
  by_above h r u = record { row = r; not_falling = λ p. absurd (omega arith); falling = λ p. u }

  -- ---- the parts of the test

  abbrev ordered : Bool
  ordered = rises y0 y1 y2 && in_order x0 x1 x2

  abbrev tested : Bool
  tested = is_row y0 y2 y && side x0 y0 x1 y1 x2 y2 x y

  pub counts_order : T (curve_counts x0 y0 x1 y1 x2 y2 x y) → T (rises y0 y1 y2) × T (in_order x0 x1 x2)
  unfolding curve_counts
  counts_order t =
      let o = &&_left ordered tested t in
      (&&_left (rises y0 y1 y2) (in_order x0 x1 x2) o, &&_right (rises y0 y1 y2) (in_order x0 x1 x2) o)

  counts_side : T (curve_counts x0 y0 x1 y1 x2 y2 x y) → T (is_row y0 y2 y) × T (side x0 y0 x1 y1 x2 y2 x y)
  unfolding curve_counts
  counts_side t =
      let r = &&_right ordered tested t in
      (&&_left (is_row y0 y2 y) (side x0 y0 x1 y1 x2 y2 x y) r, &&_right (is_row y0 y2 y) (side x0 y0 x1 y1 x2 y2 x y) r)

  module _ (up : T (rises y0 y1 y2)) (across : T (in_order x0 x1 x2)) where
    side_counts : T (is_row y0 y2 y) → T (side x0 y0 x1 y1 x2 y2 x y) → T (curve_counts x0 y0 x1 y1 x2 y2 x y)
    unfolding curve_counts
    side_counts r s =
        &&_both ordered tested (&&_both (rises y0 y1 y2) (in_order x0 x1 x2) up across) (&&_both (is_row y0 y2 y) (side x0 y0 x1 y1 x2 y2 x y) r s)

    -- in a row of the curve, the test of the side is the sentence's case
    side_under : T (is_row y0 y2 y)
        → x0 ≤ x2
        → (T (side x0 y0 x1 y1 x2 y2 x y) → Under x0 y0 x1 y1 x2 y2 x y) × (Under x0 y0 x1 y1 x2 y2 x y → T (side x0 y0 x1 y1 x2 y2 x y))
    side_under r h =
        let u = rise_facts y0 y1 y2 up in
        let w = row_facts y0 y2 y r in
        let o = order_up x0 x1 x2 across h in
        tests.not_falling x0 y0 x1 y1 x2 y2 x y u.0 u.1 w.0 w.1 o.0 o.1

    side_above : T (is_row y0 y2 y)
        → x2 ≤ x0
        → (T (side x0 y0 x1 y1 x2 y2 x y) → Above x0 y0 x1 y1 x2 y2 x y) × (Above x0 y0 x1 y1 x2 y2 x y → T (side x0 y0 x1 y1 x2 y2 x y))
    side_above r h =
        let u = rise_facts y0 y1 y2 up in
        let w = row_facts y0 y2 y r in
        let o = order_down x0 x1 x2 across h in
        tests.falling x0 y0 x1 y1 x2 y2 x y u.0 u.1 w.0 w.1 o.0 o.1

    pub sentence : (T (curve_counts x0 y0 x1 y1 x2 y2 x y) → CountsBy x0 y0 x1 y1 x2 y2 x y)
        × (CountsBy x0 y0 x1 y1 x2 y2 x y → T (curve_counts x0 y0 x1 y1 x2 y2 x y))
    sentence = (says, back)
      where
        says : T (curve_counts x0 y0 x1 y1 x2 y2 x y) → CountsBy x0 y0 x1 y1 x2 y2 x y
        says t =
            let s = counts_side t in
            record {
              row = s.0;
              not_falling = λ h. (side_under s.0 h).0 s.1;
              falling = λ h. (side_above s.0 (omega arith)).0 s.1;
            }

        back : CountsBy x0 y0 x1 y1 x2 y2 x y → T (curve_counts x0 y0 x1 y1 x2 y2 x y)
        back b = go (dec_le x0 x2)
          where
            go : Dec (x0 ≤ x2) → T (curve_counts x0 y0 x1 y1 x2 y2 x y)
            go (yes h) = side_counts b.row ((side_under b.row h).1 (b.not_falling h))
            go (no h) = side_counts b.row ((side_above b.row (omega arith)).1 (b.falling (omega arith)))
