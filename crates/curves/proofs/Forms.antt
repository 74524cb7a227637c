-- Squares and products in naturals: what a fraction says of the implicit form, and what the form says of a fraction close to the row.
use mathlib.Core.Path.{◌≡◌, refl}
use Prim.Native.Nat.{ℕ, suc, ◌+◌, ◌*◌, ◌-◌, ◌≤◌, ◌<◌}
use native.Mathlib.Nat.{mul-le-mul, mul-le-mul_left, mul-le-mul_right, lt_of_mul-lt-mul_left}
use native.Mathlib.Omega.{arith}
use native.Mathlib.Decide.{dec_le}

-- ---- squares and products

sq_up : (a b d : ℕ) → b ≡ a + d → 2 * (a * b) ≤ a * a + b * b
sq_up a b d e = rw e (omega arith)

pub sq_le : (a b : ℕ) → 2 * (a * b) ≤ a * a + b * b
sq_le a b = go (dec_le a b)
  where
    go : Dec (a ≤ b) → 2 * (a * b) ≤ a * a + b * b
    go (yes h) = sq_up a b (b - a) (omega arith)
    go (no h) = omega (arith, sq_up b a (a - b) (omega arith))

-- x² < 4uv carries over to what is multiplied by m
less : (m x u v p s t y : ℕ) → x ≡ m * p → u ≡ m * s → v ≡ m * t → x < y → y * y ≤ 4 * (u * v) → p * p < 4 * (s * t)
less m x u v p s t y a b c h f =
    let g : x * x < 4 * (u * v) = omega (arith, mul-le-mul h h) in
    lt_of_mul-lt-mul_left (m * m) (scaled (rw (a, b, c) at g))
  where
    scaled : (m * p) * (m * p) < 4 * ((m * s) * (m * t)) → m * m * (p * p) < m * m * (4 * (s * t))
    scaled h = omega arith

more : (m x u v p s t y : ℕ) → x ≡ m * p → u ≡ m * s → v ≡ m * t → y < x → 4 * (u * v) ≤ y * y → 4 * (s * t) < p * p
more m x u v p s t y a b c h f =
    let g : 4 * (u * v) < x * x = omega (arith, mul-le-mul h h) in
    lt_of_mul-lt-mul_left (m * m) (scaled (rw (a, b, c) at g))
  where
    scaled : 4 * ((m * s) * (m * t)) < (m * p) * (m * p) → m * m * (4 * (s * t)) < m * m * (p * p)
    scaled h = omega arith

-- ---- a fraction gives the form: t = n / (n + k), m the square of n + k

module _ (m n k e a b s t p : ℕ) (some : 0 < a + b) where
  -- control corner on the right of the chord (e for −e), position not left of the chord (p for −P)
  pub sound_right : m * s ≡ e * (n * n) + a → m * t ≡ e * (k * k) + b → m * p + (a + b) ≡ 2 * (e * (k * n)) → p * p < 4 * (s * t)
  sound_right u v w = less m (m * p) (m * s) (m * t) p s t (2 * (e * (k * n))) refl refl refl (omega arith) (rw (u, v) (omega arith))

  -- control corner on the left, position left of both legs (s and t for −S0 and −S2)
  pub sound_left : m * s + a ≡ e * (n * n) → m * t + b ≡ e * (k * k) → m * p ≡ 2 * (e * (k * n)) + (a + b) → 4 * (s * t) < p * p
  sound_left u v w = more m (m * p) (m * s) (m * t) p s t (2 * (e * (k * n))) refl refl refl (omega arith) (fits (m * s) (m * t) u v)
    where
      fits : (x y : ℕ) → x + a ≡ e * (n * n) → y + b ≡ e * (k * k) → 4 * (x * y) ≤ 2 * (e * (k * n)) * (2 * (e * (k * n)))
      fits x y f g =
          let u : x ≤ e * (n * n) = omega arith in
          let v : y ≤ e * (k * k) = omega arith in
          omega (arith, mul-le-mul u v)

-- control corner on the left, position right of both legs
pub sound_apart : (s t e : ℕ) → 0 < e → 4 * (s * t) < (s + t + e) * (s + t + e)
sound_apart s t e h = omega (arith, sq_le s t, mul-le-mul h h)

-- ---- the form gives a fraction: where the fraction n / (n + k) is close enough to the row and yet not right of the position, the form cannot hold.
-- q is how far the fraction is from the row, times the square of n + k and the width g + h of the curve; r bounds it by n + k

-- the last step: l is n + k, and m its square
few : (l e r q : ℕ) → q ≤ r * l → 6 * (e * r) + 5 * (r * r) < l → l * l * (l * l) ≤ 6 * (e * (q * (l * l))) + 5 * (q * q) → ⊥
few l e r q h big f = omega (arith, one, two, three, four, mul-le-mul pos1 (mul-le-mul pos1 pos1))
  where
    -- e q l² ≤ e r l³
    one : e * (q * (l * l)) ≤ e * (r * l * (l * l))
    one = mul-le-mul_left e (mul-le-mul_right (l * l) h)

    two : q * q ≤ r * l * (r * l)
    two = mul-le-mul h h

    -- (6 e r + 5 r² + 1) l ≤ l², times l²
    three : suc (6 * (e * r) + 5 * (r * r)) * (l * (l * l)) ≤ l * (l * (l * l))
    three = mul-le-mul_right (l * (l * l)) big

    pos1 : 1 ≤ l
    pos1 = omega arith

    four : r * r * (1 * (l * l)) ≤ r * r * (l * (l * l))
    four = mul-le-mul_left (r * r) (mul-le-mul_right (l * l) pos1)

-- in numbers of their own: w is e times m; a, b and c the parts of the curve, of which each is at most w; u and v how far it is off, q in all
module _ (m w a b c u v q : ℕ) (parts : c * c ≡ 4 * (a * b)) (whole : q ≡ u + v) (aw : a ≤ w) (bw : b ≤ w) (cw : c ≤ w) where
  sum_right : (x y z : ℕ) → x ≤ a + u → y ≤ b + v → c ≤ z + q → z ≤ w → z * z + m * m ≤ 4 * (x * y) → m * m ≤ 6 * (q * w) + 5 * (q * q)
  sum_right x y z i j k o f =
      let s1 : c * c ≤ (z + q) * c = mul-le-mul_right c k in
      let s2 : c * z ≤ (z + q) * z = mul-le-mul_right z k in
      let s3 : q * z ≤ q * w = mul-le-mul_left q o in
      let s4 : q * c ≤ q * w = mul-le-mul_left q cw in
      let s5 : x * y ≤ (a + u) * (b + v) = mul-le-mul i j in
      let s6 : u * b ≤ u * w = mul-le-mul_left u bw in
      let s7 : v * a ≤ v * w = mul-le-mul_left v aw in
      rw whole (omega (arith, (rw whole at s1), (rw whole at s2), (rw whole at s3), (rw whole at s4), s5, s6, s7, parts, f))

  sum_left : (x y z : ℕ) → a ≤ x + u → b ≤ y + v → z ≤ c + q → x ≤ w → y ≤ w → 4 * (x * y) + m * m ≤ z * z → m * m ≤ 6 * (q * w) + 5 * (q * q)
  sum_left x y z i j k o1 o2 f =
      let s1 : z * z ≤ (c + q) * (c + q) = mul-le-mul k k in
      let s2 : a * b ≤ (x + u) * (y + v) = mul-le-mul i j in
      let s3 : u * y ≤ u * w = mul-le-mul_left u o2 in
      let s4 : v * x ≤ v * w = mul-le-mul_left v o1 in
      let s5 : q * c ≤ q * w = mul-le-mul_left q cw in
      rw whole (omega (arith, (rw whole at s1), s2, s3, s4, (rw whole at s5), parts, f))

module _ (n k e g h d r : ℕ) (close : d * (g + h) ≤ r * (n + k)) (big : 6 * (e * r) + 5 * (r * r) < n + k) where
  abbrev m : ℕ
  m = (n + k) * (n + k)

  abbrev q : ℕ
  q = d * (g + h)

  abbrev c : ℕ
  c = 2 * (e * (k * n))

  none : m * m ≤ 6 * (q * (e * m)) + 5 * (q * q) → ⊥
  none f = few (n + k) e r q close big (turned m q f)
    where
      turned : (m q : ℕ) → m * m ≤ 6 * (q * (e * m)) + 5 * (q * q) → m * m ≤ 6 * (e * (q * m)) + 5 * (q * q)
      turned m q f = omega arith

  scaled : (m s t p : ℕ) → p * p < 4 * (s * t) → m * p * (m * p) + m * m ≤ 4 * (m * s * (m * t))
  scaled m s t p f = omega (arith, mul-le-mul_left (m * m) f)

  scaled_left : (m s t p : ℕ) → 4 * (s * t) < p * p → 4 * (m * s * (m * t)) + m * m ≤ m * p * (m * p)
  scaled_left m s t p f = omega (arith, mul-le-mul_left (m * m) f)

  times : (m e p : ℕ) → p ≤ e → m * p ≤ e * m
  times m e p h = omega (arith, mul-le-mul_left m h)

  -- the control corner on the right: s, t and p for S0, S2 and −P
  pub close_right : (s t p : ℕ) → p ≤ e → m * s ≤ e * (n * n) + d * g → m * t ≤ e * (k * k) + d * h → c ≤ m * p + q → p * p < 4 * (s * t) → ⊥
  close_right s t p pe u v w f =
      none
      (sum_right m (e * m) (e * (n * n)) (e * (k * k)) c (d * g) (d * h) q (omega arith) (omega arith) (omega arith) (omega arith) (omega arith)
      (m * s) (m * t) (m * p) u v w (times m e p pe) (scaled m s t p f))

  -- the control corner on the left: s, t and p for −S0, −S2 and P
  pub close_left : (s t p : ℕ) → s ≤ e → t ≤ e → e * (n * n) ≤ m * s + d * g → e * (k * k) ≤ m * t + d * h → m * p ≤ c + q → 4 * (s * t) < p * p → ⊥
  close_left s t p se te u v w f =
      none
      (sum_left m (e * m) (e * (n * n)) (e * (k * k)) c (d * g) (d * h) q (omega arith) (omega arith) (omega arith) (omega arith) (omega arith)
      (m * s) (m * t) (m * p) u v w (times m e s se) (times m e t te) (scaled_left m s t p f))
