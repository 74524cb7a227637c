-- A straight line is a segment.
use mathlib.Core.Path.{subst, ◌≡◌}
use Prim.Native.Nat.{ℕ, ◌+◌, ◌-◌, ◌≤◌, ◌<◌}
use native.Mathlib.Omega.{arith}
use native.Mathlib.Decide.{dec_le}
use lib.Dec.{T, leb, leb→le, ltb→lt}
use borrow.Author.Tests.{le-leb, lt-ltb}
use Rattle.laws.proofs.Booleans.{&&_left, &&_right}
use Rattle.curves.specs.Lines.{is_row, line_counts}
use Rattle.curves.proofs.Products.{plus, minus, product_test}
use Rattle.curves.proofs.Segments.{Segment, rising, falling}

module _ (a b c d x y : ℕ) where
  -- where a line counts, y is one of its rows, and the two parts of the product are in order
  line_at : T (line_counts a b c d x y) → (b ≤ y) × (y < d) × (minus a b c d x y < plus a b c d x y)
  unfolding line_counts
  line_at t =
      let r = &&_left (is_row b d y) _ t in
      (leb→le b y (&&_left (leb b y) _ r), ltb→lt y d (&&_right (leb b y) _ r), ltb→lt _ _ (subst T (product_test a b c d x y) (&&_right (is_row b d y) _ t)))

  line_of : b ≤ y → y < d → minus a b c d x y < plus a b c d x y → T (line_counts a b c d x y)
  unfolding line_counts
  line_of p q r = simp (le-leb b y p, lt-ltb y d q, product_test a b c d x y, lt-ltb (minus a b c d x y) (plus a b c d x y) r) tt

-- the product falls with x, and with y it goes as c against a
shift_x : (a b c h x e y : ℕ) → minus a b c (b + h) (x + e) y < plus a b c (b + h) (x + e) y → minus a b c (b + h) x y < plus a b c (b + h) x y
shift_x a b c h x e y p = omega arith

shift_up : (a b g d x y e : ℕ) → minus a b (a + g) d x y < plus a b (a + g) d x y → minus a b (a + g) d x (y + e) < plus a b (a + g) d x (y + e)
shift_up a b g d x y e p = omega arith

shift_down : (c b g d x y e : ℕ) → minus (c + g) b c d x (y + e) < plus (c + g) b c d x (y + e) → minus (c + g) b c d x y < plus (c + g) b c d x y
shift_down c b g d x y e p = omega arith

module _ (a b c d : ℕ) where
  line_rows : (x y : ℕ) → T (line_counts a b c d x y) → (b ≤ y) × (y < d)
  line_rows x y t = let r = line_at a b c d x y t in (r.0, r.1)

  line_left : (x x' y : ℕ) → x ≤ x' → T (line_counts a b c d x' y) → T (line_counts a b c d x y)
  line_left x x' y le t =
      let r = line_at a b c d x' y t in
      line_of a b c d x y r.0 r.1 (go (d - b) (x' - x) (omega arith) (omega arith) r.2)
    where
      go : (h e : ℕ) → d ≡ b + h → x' ≡ x + e → minus a b c d x' y < plus a b c d x' y → minus a b c d x y < plus a b c d x y
      go h e i j = rw (i, j) (shift_x a b c h x e y)

  line_up : a ≤ c → (x y y' : ℕ) → y ≤ y' → y' < d → T (line_counts a b c d x y) → T (line_counts a b c d x y')
  line_up ac x y y' le q t =
      let r = line_at a b c d x y t in
      line_of a b c d x y' (omega arith) q (go (c - a) (y' - y) (omega arith) (omega arith) r.2)
    where
      go : (g e : ℕ) → c ≡ a + g → y' ≡ y + e → minus a b c d x y < plus a b c d x y → minus a b c d x y' < plus a b c d x y'
      go g e i j = rw (i, j) (shift_up a b g d x y e)

  line_down : c ≤ a → (x y y' : ℕ) → b ≤ y → y ≤ y' → T (line_counts a b c d x y') → T (line_counts a b c d x y)
  line_down ca x y y' p le t =
      let r = line_at a b c d x y' t in
      line_of a b c d x y p (omega arith) (go (a - c) (y' - y) (omega arith) (omega arith) r.2)
    where
      go : (g e : ℕ) → a ≡ c + g → y' ≡ y + e → minus a b c d x y' < plus a b c d x y' → minus a b c d x y < plus a b c d x y
      go g e i j = rw (i, j) (shift_down c b g d x y e)

  pub line_segment : Segment (line_counts a b c d) b d
  line_segment = go (dec_le a c)
    where
      go : Dec (a ≤ c) → Segment (line_counts a b c d) b d
      go (yes h) = rising (line_counts a b c d) b d line_rows line_left (line_up h)
      go (no h) = falling (line_counts a b c d) b d line_rows line_left (line_down (omega arith))
