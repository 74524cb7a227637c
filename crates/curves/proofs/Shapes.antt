-- A curve is a segment, in order or not (`curve_segment`): by the same fraction it counts further left, and in every higher row where its x do not fall,
-- in every lower one where they fall.
use mathlib.Core.Bool.{Bool}
use Prim.Native.Nat.{ℕ, ◌≤◌, ◌<◌}
use native.Mathlib.Nat.{mul-le-mul_right}
use native.Mathlib.Omega.{arith}
use native.Mathlib.Decide.{dec_le}
use lib.Dec.{T}
use Rattle.curves.specs.Curves.{square, Under, Above, CountsBy, curve_counts}
use Rattle.curves.proofs.Segments.{Segment, rising, falling}
use Rattle.curves.proofs.Sentences.{row_facts, row_of, by_under, by_above, counts_order, sentence}

-- a fraction that reaches beyond x' in some row reaches beyond x on its left, in rows above, or below
under_more : {x0 y0 x1 y1 x2 y2 x x' y y' : ℕ} → x ≤ x' → y ≤ y' → Under x0 y0 x1 y1 x2 y2 x' y → Under x0 y0 x1 y1 x2 y2 x y'
under_more a b u =
    record {
      n = u.n;
      k = u.k;
      some = u.some;
      right = omega (arith, u.right, mul-le-mul_right (square u.n u.k) a);
      low = omega (arith, u.low, mul-le-mul_right (square u.n u.k) b);
    }

above_more : {x0 y0 x1 y1 x2 y2 x x' y y' : ℕ} → x ≤ x' → y' ≤ y → Above x0 y0 x1 y1 x2 y2 x' y → Above x0 y0 x1 y1 x2 y2 x y'
above_more a b u =
    record {
      n = u.n;
      k = u.k;
      some = u.some;
      right = omega (arith, u.right, mul-le-mul_right (square u.n u.k) a);
      high = omega (arith, u.high, mul-le-mul_right (square u.n u.k) b);
    }

module _ (x0 y0 x1 y1 x2 y2 : ℕ) where
  abbrev test : (x y : ℕ) → Bool
  test x y = curve_counts x0 y0 x1 y1 x2 y2 x y

  says : (x y : ℕ) → T (test x y) → CountsBy x0 y0 x1 y1 x2 y2 x y
  says x y t = let o = counts_order x0 y0 x1 y1 x2 y2 x y t in (sentence x0 y0 x1 y1 x2 y2 x y o.0 o.1).0 t

  within : (x y : ℕ) → T (test x y) → (y0 ≤ y) × (y < y2)
  within x y t = row_facts y0 y2 y (says x y t).row

  -- where it counts somewhere, what the sentence says of another position counts there
  moved : (x' y' x y : ℕ) → T (test x' y') → CountsBy x0 y0 x1 y1 x2 y2 x y → T (test x y)
  moved x' y' x y t c = let o = counts_order x0 y0 x1 y1 x2 y2 x' y' t in (sentence x0 y0 x1 y1 x2 y2 x y o.0 o.1).1 c

  move_up : x0 ≤ x2 → (x x' y y' : ℕ) → x ≤ x' → y ≤ y' → y' < y2 → T (test x' y) → T (test x y')
  move_up a x x' y y' p q r t =
      let s = says x' y t in
      let w = within x' y t in
      moved x' y x y' t (by_under x0 y0 x1 y1 x2 y2 x y' a (row_of y0 y2 y' (omega (arith, w)) r) (under_more p q (s.not_falling a)))

  move_down : x2 < x0 → (x x' y y' : ℕ) → x ≤ x' → y0 ≤ y → y ≤ y' → T (test x' y') → T (test x y)
  move_down a x x' y y' p r q t =
      let s = says x' y' t in
      let w = within x' y' t in
      moved x' y' x y t (by_above x0 y0 x1 y1 x2 y2 x y a (row_of y0 y2 y r (omega (arith, w))) (above_more p q (s.falling a)))

  pub curve_segment : Segment (curve_counts x0 y0 x1 y1 x2 y2) y0 y2
  curve_segment = go (dec_le x0 x2)
    where
      go : Dec (x0 ≤ x2) → Segment (curve_counts x0 y0 x1 y1 x2 y2) y0 y2
      go (yes a) =
          rising (curve_counts x0 y0 x1 y1 x2 y2) y0 y2 within
          (λ x x' y p t. let w = within x' y t in move_up a x x' y y p (omega arith) w.1 t)
          (λ x y y' p q t. move_up a x x y y' (omega arith) p q t)
      go (no a) =
          falling (curve_counts x0 y0 x1 y1 x2 y2) y0 y2 within
          (λ x x' y p t. let w = within x' y t in move_down (omega arith) x x' y y p w.0 (omega arith) t)
          (λ x y y' r q t. move_down (omega arith) x x y y' (omega arith) r q t)
