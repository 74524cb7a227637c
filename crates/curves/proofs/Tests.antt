-- The quick test in integers is the side in naturals; so, in the rows of a curve in order, it is the sentence's case: `not_falling` where its x do not fall,
-- and `falling`, by mirroring, where they fall.
use mathlib.Core.Path.{◌≡◌, refl, ap, ap₂, ◌∙◌, subst}
use mathlib.Core.Bool.{Bool, true, false, cond, ◌&&◌, ◌||◌}
use Prim.Native.Nat.{ℕ, ◌+◌, ◌*◌, ◌-◌, ◌≤◌, ◌<◌}
use native.Mathlib.Omega.{arith}
use lib.Dec.{T, ltb}
use lib.IntN.{ℤ, sub_ℕ, ◌-ℤ◌, ◌*ℤ◌, *ℤ_comm}
use borrow.Author.Tests.{lt-ltb, le-ltb, ltb-true, ltb-false}
use Rattle.laws.proofs.Booleans.{true_T, or_right}
use Rattle.laws.proofs.Differences.{sub_eq, pos_sub, sub_sub, mul_sub, above_zero, below_zero}
use Rattle.curves.specs.Lines.{product}
use Rattle.curves.specs.Curves.{square, weighed, Under, Above, implicit, side_by, side}
use Rattle.curves.proofs.Products.{plus, minus, product_is}
use Rattle.curves.proofs.Sides.{form_p, form_n, Side, straight, left_of, chord, right_of}
use Rattle.curves.proofs.Fractions.{under_sound, under_complete}

pub implicit_is : (cp cn fp fn sp sn : ℕ) → implicit (sub_ℕ cp cn) (sub_ℕ fp fn) (sub_ℕ sp sn) ≡ sub_ℕ (form_p cp cn fp fn sp sn) (form_n cp cn fp fn sp sn)
implicit_is cp cn fp fn sp sn =
    ap₂ ◌-ℤ◌ (mul_sub cp cn cp cn) (ap₂ ◌*ℤ◌ (pos_sub 4) (mul_sub fp fn sp sn) ∙ mul_sub 4 0 (fp * sp + fn * sn) (fp * sn + fn * sp))
    ∙ (sub_sub (cp * cp + cn * cn) (cp * cn + cn * cp) (4 * (fp * sp + fn * sn) + 0 * (fp * sn + fn * sp)) (4 * (fp * sn + fn * sp) + 0 * (fp * sp + fn * sn))
    ∙ sub_eq ((cp * cp + cn * cn) + (4 * (fp * sn + fn * sp) + 0 * (fp * sp + fn * sn)))
    ((cp * cn + cn * cp) + (4 * (fp * sp + fn * sn) + 0 * (fp * sn + fn * sp))) (form_p cp cn fp fn sp sn) (form_n cp cn fp fn sp sn) (omega arith))

-- ---- the test of differences is the side

module _ (cp cn fp fn sp sn ep en : ℕ) where
  abbrev test : Bool
  test = side_by (sub_ℕ ep en) (sub_ℕ cp cn) (sub_ℕ fp fn) (sub_ℕ sp sn)

  abbrev above : Bool
  above = ltb (form_n cp cn fp fn sp sn) (form_p cp cn fp fn sp sn)

  abbrev below : Bool
  below = ltb (form_p cp cn fp fn sp sn) (form_n cp cn fp fn sp sn)

  test_is : test ≡ cond (ltb en ep) (ltb cn cp && above) (cond (ltb ep en) (ltb cn cp || below) (ltb cn cp))
  test_is =
      rw (
        above_zero ep en,
        below_zero ep en,
        above_zero cp cn,
        implicit_is cp cn fp fn sp sn,
        above_zero (form_p cp cn fp fn sp sn) (form_n cp cn fp fn sp sn),
        below_zero (form_p cp cn fp fn sp sn) (form_n cp cn fp fn sp sn),
      )

  pub test_side : T test → Side cp cn fp fn sp sn ep en
  test_side t = go (ltb en ep) (ltb ep en) (ltb cn cp) above below refl refl refl refl refl (subst T test_is t)
    where
      go : (a b c u d : Bool)
          → ltb en ep ≡ a
          → ltb ep en ≡ b
          → ltb cn cp ≡ c
          → above ≡ u
          → below ≡ d
          → T (cond a (c && u) (cond b (c || d) c))
          → Side cp cn fp fn sp sn ep en
      go true b true true d p q r s z t = left_of (ltb-true en ep p) (ltb-true cn cp r) (ltb-true _ _ s)
      go true b true false d p q r s z t = absurd t
      go true b false u d p q r s z t = absurd t
      go false true true u d p q r s z t = chord (ltb-true ep en q) (ltb-true cn cp r)
      go false true false u true p q r s z t = right_of (ltb-true ep en q) (ltb-true _ _ z)
      go false true false u false p q r s z t = absurd t
      go false false true u d p q r s z t = straight (omega (arith, ltb-false en ep p, ltb-false ep en q)) (ltb-true cn cp r)
      go false false false u d p q r s z t = absurd t

  pub side_test : Side cp cn fp fn sp sn ep en → T test
  side_test s = true_T (test_is ∙ go s)
    where
      go : Side cp cn fp fn sp sn ep en → cond (ltb en ep) (ltb cn cp && above) (cond (ltb ep en) (ltb cn cp || below) (ltb cn cp)) ≡ true
      go (straight e c) = rw (le-ltb en ep (omega arith), le-ltb ep en (omega arith)) (lt-ltb cn cp c)
      go (left_of o c f) = rw (lt-ltb en ep o, lt-ltb cn cp c) (lt-ltb _ _ f)
      go (chord o c) = rw (le-ltb en ep (omega arith), lt-ltb ep en o, lt-ltb cn cp c)
      go (right_of o f) = rw (le-ltb en ep (omega arith), lt-ltb ep en o) (or_right (ltb cn cp) below (lt-ltb _ _ f))

-- ---- the products of a curve by its widths and heights

as_sub : (a b c d x y p n : ℕ) → plus a b c d x y + n ≡ p + minus a b c d x y → product a b c d x y ≡ sub_ℕ p n
as_sub a b c d x y p n e = product_is a b c d x y ∙ sub_eq (plus a b c d x y) (minus a b c d x y) p n e

-- the legs may be exchanged
legs_turn : (e c f s : ℤ) → side_by e c f s ≡ side_by e c s f
legs_turn e c f s = rw (*ℤ_comm f s)

module _ (x0 y0 g h i j x q : ℕ) where
  abbrev under_test : Bool
  under_test =
      side_by (sub_ℕ (i * h) (g * j)) (sub_ℕ (x0 * (i + j) + q * (g + h)) (x * (i + j))) (sub_ℕ (x0 * i + q * g) (x * i))
      (sub_ℕ ((x0 + g) * j + q * h) (x * j + i * h))

  under_side : side x0 y0 (x0 + g) (y0 + i) (x0 + g + h) (y0 + i + j) x (y0 + q) ≡ under_test
  unfolding side
  under_side =
      rw (
        as_sub x0 y0 (x0 + g + h) (y0 + i + j) (x0 + g) (y0 + i) (i * h) (g * j) (omega arith),
        as_sub x0 y0 (x0 + g + h) (y0 + i + j) x (y0 + q) (x0 * (i + j) + q * (g + h)) (x * (i + j)) (omega arith),
        as_sub x0 y0 (x0 + g) (y0 + i) x (y0 + q) (x0 * i + q * g) (x * i) (omega arith),
        as_sub (x0 + g) (y0 + i) (x0 + g + h) (y0 + i + j) x (y0 + q) ((x0 + g) * j + q * h) (x * j + i * h) (omega arith),
      )

  under_ways : 0 < i + j
      → q ≤ i + j
      → (T under_test → Under x0 y0 (x0 + g) (y0 + i) (x0 + g + h) (y0 + i + j) x (y0 + q))
      × (Under x0 y0 (x0 + g) (y0 + i) (x0 + g + h) (y0 + i + j) x (y0 + q) → T under_test)
  under_ways some rows = (
    λ z. under_complete x0 y0 g h i j x q some rows (test_side _ _ _ _ _ _ _ _ z),
    λ z. side_test _ _ _ _ _ _ _ _ (under_sound x0 y0 g h i j x q some z),
  )

-- ---- mirrored: a curve whose x fall from x2 + h + g to x2 + h and x2, taken from its upper end and downward, is one whose x do not fall; r is how far
-- the position is under the upper end

module _ (x2 y0 g h i j x q r : ℕ) (rows : q + r ≡ i + j) where
  mirror_side : side (x2 + h + g) y0 (x2 + h) (y0 + i) x2 (y0 + i + j) x (y0 + q) ≡ under_test x2 0 h g j i x r
  unfolding side
  mirror_side =
      rw (
        as_sub (x2 + h + g) y0 x2 (y0 + i + j) (x2 + h) (y0 + i) (j * g) (h * i) (omega arith),
        as_sub (x2 + h + g) y0 x2 (y0 + i + j) x (y0 + q) (x2 * (j + i) + r * (h + g)) (x * (j + i)) chord_is,
        as_sub (x2 + h + g) y0 (x2 + h) (y0 + i) x (y0 + q) ((x2 + h) * i + r * g) (x * i + j * g) first_is,
        as_sub (x2 + h) (y0 + i) x2 (y0 + i + j) x (y0 + q) (x2 * j + r * h) (x * j) second_is,
      )
      (legs_turn (sub_ℕ (j * g) (h * i)) (sub_ℕ (x2 * (j + i) + r * (h + g)) (x * (j + i))) (sub_ℕ ((x2 + h) * i + r * g) (x * i + j * g))
      (sub_ℕ (x2 * j + r * h) (x * j)))
    where
      by : (w : ℕ) → (q + r) * w ≡ (i + j) * w
      by w = ap (λ z. z * w) rows

      chord_is : plus (x2 + h + g) y0 x2 (y0 + i + j) x (y0 + q) + x * (j + i)
          ≡ (x2 * (j + i) + r * (h + g)) + minus (x2 + h + g) y0 x2 (y0 + i + j) x (y0 + q)
      chord_is = omega (arith, by g, by h)

      first_is : plus (x2 + h + g) y0 (x2 + h) (y0 + i) x (y0 + q) + (x * i + j * g)
          ≡ ((x2 + h) * i + r * g) + minus (x2 + h + g) y0 (x2 + h) (y0 + i) x (y0 + q)
      first_is = omega (arith, by g)

      second_is : plus (x2 + h) (y0 + i) x2 (y0 + i + j) x (y0 + q) + x * j ≡ (x2 * j + r * h) + minus (x2 + h) (y0 + i) x2 (y0 + i + j) x (y0 + q)
      second_is = omega (arith, by h)

  abbrev Mirrored : Type 0
  Mirrored = Under x2 0 (x2 + h) (0 + j) (x2 + h + g) (0 + j + i) x (0 + r)

  abbrev Falls : Type 0
  Falls = Above (x2 + h + g) y0 (x2 + h) (y0 + i) x2 (y0 + i + j) x (y0 + q)

  -- the same curve, from the one end and from the other
  turned : (n k : ℕ) → weighed x2 (x2 + h) (x2 + h + g) n k ≡ weighed (x2 + h + g) (x2 + h) x2 k n
  turned n k = omega arith

  heights : (n k : ℕ) → weighed 0 (0 + j) (0 + j + i) n k + weighed y0 (y0 + i) (y0 + i + j) k n ≡ (y0 + (i + j)) * square n k
  heights n k = omega arith

  row_is : (n k : ℕ) → (y0 + q) * square n k + r * square n k ≡ (y0 + (i + j)) * square n k
  row_is n k = rw (← rows) (omega arith)

  turn_square : (n k : ℕ) → square n k ≡ square k n
  turn_square n k = omega arith

  mirror_falls : Mirrored → Falls
  mirror_falls u =
      let n = u.n in
      let k = u.k in
      record {
        n = k;
        k = n;
        some = omega (arith, u.some);
        right = rw (← turn_square n k, ← turned n k) u.right;
        high = rw (← turn_square n k) (omega (arith, u.low, heights n k, row_is n k));
      }

  falls_mirror : Falls → Mirrored
  falls_mirror u =
      let n = u.k in
      let k = u.n in
      record {
        n = n;
        k = k;
        some = omega (arith, u.some);
        right = rw (turn_square n k, turned n k) u.right;
        low = omega (arith, (rw (turn_square k n) at u.high), heights n k, row_is n k);
      }

-- ---- in the rows of a curve in order, the test and the sentence's case are the same

module _ (x0 y0 x1 y1 x2 y2 x y : ℕ) (up : y0 ≤ y1) (up' : y1 ≤ y2) (from : y0 ≤ y) (to : y < y2) where
  abbrev here : Bool
  here = side x0 y0 x1 y1 x2 y2 x y

  pub not_falling : x0 ≤ x1 → x1 ≤ x2 → (T here → Under x0 y0 x1 y1 x2 y2 x y) × (Under x0 y0 x1 y1 x2 y2 x y → T here)
  not_falling a b = go (x1 - x0) (x2 - x1) (y1 - y0) (y2 - y1) (y - y0) (omega arith) (omega arith) (omega arith) (omega arith) (omega arith)
    where
      go : (g h i j q : ℕ)
          → x1 ≡ x0 + g
          → x2 ≡ x1 + h
          → y1 ≡ y0 + i
          → y2 ≡ y1 + j
          → y ≡ y0 + q
          → (T here → Under x0 y0 x1 y1 x2 y2 x y) × (Under x0 y0 x1 y1 x2 y2 x y → T here)
      go g h i j q p r s t u =
          let some : 0 < i + j = omega arith in
          let rows : q ≤ i + j = omega arith in
          rw (r, p, t, s, u, under_side x0 y0 g h i j x q) (under_ways x0 y0 g h i j x q some rows)

  pub falling : x2 ≤ x1 → x1 ≤ x0 → (T here → Above x0 y0 x1 y1 x2 y2 x y) × (Above x0 y0 x1 y1 x2 y2 x y → T here)
  falling a b =
      go (x0 - x1) (x1 - x2) (y1 - y0) (y2 - y1) (y - y0) (y2 - y) (omega arith) (omega arith) (omega arith) (omega arith) (omega arith) (omega arith)
    where
      go : (g h i j q r : ℕ)
          → x0 ≡ x1 + g
          → x1 ≡ x2 + h
          → y1 ≡ y0 + i
          → y2 ≡ y1 + j
          → y ≡ y0 + q
          → q + r ≡ i + j
          → (T here → Above x0 y0 x1 y1 x2 y2 x y) × (Above x0 y0 x1 y1 x2 y2 x y → T here)
      go g h i j q r p v s t u rows =
          let some : 0 < j + i = omega arith in
          let ways = under_ways x2 0 h g j i x r some (omega arith) in
          rw (p, v, t, s, u, mirror_side x2 y0 g h i j x q r rows) (
            λ z. mirror_falls x2 y0 g h i j x q r rows (ways.0 z),
            λ z. ways.1 (falls_mirror x2 y0 g h i j x q r rows z),
          )
