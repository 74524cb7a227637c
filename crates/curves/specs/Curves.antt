-- Document 02, Item 2: the curves that a drawing may have, and where one counts, taken from its lower end. A curve has three corners: its first end
-- (x0, y0), its control corner (x1, y1) and its second end (x2, y2).
use Rattle.std.specs.Prelude.{Bool, cond, ◌&&◌, ◌||◌, ℕ, ◌+◌, ◌*◌, ◌≤◌, ◌<◌, ℤ, pos, ◌-ℤ◌, ◌*ℤ◌, T, leb}
use Rattle.std.specs.Int.Signed.{lt_z}
use Rattle.curves.specs.Lines.{is_row, product}

-- three numbers that do not fall
abbrev pub rises : (a b c : ℕ) → Bool
rises a b c = leb a b && leb b c

-- document 02: "in order, up or down, equal ones allowed"
abbrev pub in_order : (a b c : ℕ) → Bool
in_order a b c = rises a b c || rises c b a

-- document 02: "No axis spans over 4,096 units.": from end to end, which are the extremes where the three are in order
abbrev pub span_fits : (a c : ℕ) → Bool
span_fits a c = leb a (c + 4096) && leb c (a + 4096)

-- document 02: "Its curve must rise or fall steadily in each axis: the three x in order, up or down, equal ones allowed, and so the three y. No axis spans over
-- 4,096 units."
unfoldable pub curve_fits : (x0 y0 x1 y1 x2 y2 : ℕ) → Bool
curve_fits x0 y0 x1 y1 x2 y2 = (in_order x0 x1 x2 && in_order y0 y1 y2) && (span_fits x0 x2 && span_fits y0 y2)

-- ---- the sentence

-- document 02: "fraction t from 0 to 1": t is n / (n + k), where n + k is above 0; its square is the denominator of the curve at t
abbrev pub square : (n k : ℕ) → ℕ
square n k = (n + k) * (n + k)

-- one coordinate of the quadratic Bézier curve at t, times that square: the weights of its three corners are k², 2kn and n²
abbrev pub weighed : (p0 p1 p2 n k : ℕ) → ℕ
weighed p0 p1 p2 n k = p0 * (k * k) + p1 * (2 * (k * n)) + p2 * (n * n)

-- document 02: "some fraction t from 0 to 1 has curve x above x and curve y at most y"
pub record Under (x0 y0 x1 y1 x2 y2 x y : ℕ) : Type 0 where
  pub n : ℕ
  pub k : ℕ
  pub some : 0 < n + k
  pub right : x * square n k < weighed x0 x1 x2 n k
  pub low : weighed y0 y1 y2 n k ≤ y * square n k

-- document 02: "some such t has curve x above x and curve y at least y"
pub record Above (x0 y0 x1 y1 x2 y2 x y : ℕ) : Type 0 where
  pub n : ℕ
  pub k : ℕ
  pub some : 0 < n + k
  pub right : x * square n k < weighed x0 x1 x2 n k
  pub high : y * square n k ≤ weighed y0 y1 y2 n k

-- document 02: "Taken from its lower end, it counts at (x, y) if y is one of its rows and: where its x do not fall, some fraction t from 0 to 1 has
-- curve x above x and curve y at most y; where its x fall, some such t has curve x above x and curve y at least y."
pub record CountsBy (x0 y0 x1 y1 x2 y2 x y : ℕ) : Type 0 where
  pub row : T (is_row y0 y2 y)
  pub not_falling : x0 ≤ x2 → Under x0 y0 x1 y1 x2 y2 x y
  pub falling : x2 < x0 → Above x0 y0 x1 y1 x2 y2 x y

-- ---- the quick test

-- document 02: "Unless the curve is straight, the quick test is document 000's implicit form.": c² − 4fs, of the products of the chord,
-- the first leg and the second
abbrev pub implicit : (c f s : ℤ) → ℤ
implicit c f s = c *ℤ c -ℤ pos 4 *ℤ (f *ℤ s)

-- the side of the curve on which a position lies. e is the chord's product at the control corner: above zero where that corner lies left of the chord,
-- so that the curve is left of it too, and below zero where it lies right of it
abbrev pub side_by : (e c f s : ℤ) → Bool
side_by e c f s =
    cond (lt_z (pos 0) e) (lt_z (pos 0) c && lt_z (pos 0) (implicit c f s))
    (cond (lt_z e (pos 0)) (lt_z (pos 0) c || lt_z (implicit c f s) (pos 0)) (lt_z (pos 0) c))

unfoldable pub side : (x0 y0 x1 y1 x2 y2 x y : ℕ) → Bool
side x0 y0 x1 y1 x2 y2 x y = side_by (product x0 y0 x2 y2 x1 y1) (product x0 y0 x2 y2 x y) (product x0 y0 x1 y1 x y) (product x1 y1 x2 y2 x y)

-- document 02: "A curve has the rows of its ends". A curve out of order counts nowhere: it is refused by 13, or met by 12.
unfoldable pub curve_counts : (x0 y0 x1 y1 x2 y2 x y : ℕ) → Bool
curve_counts x0 y0 x1 y1 x2 y2 x y = (rises y0 y1 y2 && in_order x0 x1 x2) && (is_row y0 y2 y && side x0 y0 x1 y1 x2 y2 x y)
