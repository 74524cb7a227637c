-- The side of a curve whose x do not fall: the position is left of the curve exactly where some fraction reaches beyond it, at or under its row. The
-- curve is given by its lower end (x0, y0), the widths g and h of its two legs and their heights i and j; the position is (x, y0 + q).
use mathlib.Core.Path.{◌≡◌, refl, sym, ap}
use mathlib.Core.Bool.{Bool, true, false}
use Prim.Native.Nat.{ℕ, zero, suc, ◌+◌, ◌*◌, ◌-◌, ◌≤◌, ◌<◌}
use native.Mathlib.Nat.{mul-le-mul, mul-le-mul_right}
use native.Mathlib.Omega.{arith}
use native.Mathlib.Decide.{dec_lt}
use lib.Dec.{T_not, leb}
use borrow.Author.Tests.{le-leb, leb-true, leb-false, lt-leb}
use Rattle.laws.proofs.Booleans.{true_T, false_T}
use Rattle.curves.specs.Curves.{weighed, square, Under}
use Rattle.curves.proofs.Sides.{Side, sound, never}

-- ---- the last number below a bound

record Last (P : ℕ → Bool) (N : ℕ) : Type 0 where
  n : ℕ
  before : n < N
  here : P n ≡ true
  next : P (suc n) ≡ false

last : (P : ℕ → Bool) (N : ℕ) → P 0 ≡ true → P N ≡ false → Last P N
last P zero p q = absurd (T_not (P 0) (false_T q) (true_T p))
last P (suc N) p q = go (P N) refl (last P N p)
  where
    go : (b : Bool) → P N ≡ b → (P N ≡ false → Last P N) → Last P (suc N)
    go true e f = record { n = N; before = omega arith; here = e; next = q }
    go false e f = let l = f e in record { n = l.n; before = omega (arith, l.before); here = l.here; next = l.next }

-- ---- the products of the legs at a fraction: m is the square of n + k, a the weight 2kn + n², b n², c k²; the curve is f beyond the position and p short
-- of it, and d under the row

module _ (g h i j q x0 x m a b c d f p : ℕ) (reach : x0 * m + g * a + h * b + p ≡ x * m + f) (rise : i * a + j * b + d ≡ q * m) where
  first_leg : m * (x0 * i + q * g) + i * h * b + p * i ≡ m * (x * i) + g * j * b + (f * i + d * g)
  first_leg =
      let s : (x0 * m + g * a + h * b + p) * i ≡ (x * m + f) * i = ap (λ z. z * i) reach in
      let t : (i * a + j * b + d) * g ≡ q * m * g = ap (λ z. z * g) rise in
      omega (arith, s, t)

  second_leg : m ≡ c + a → m * ((x0 + g) * j + q * h) + i * h * c + p * j ≡ m * (x * j + i * h) + g * j * c + (f * j + d * h)
  second_leg whole =
      spread
      (sum (m * (x0 * j)) (a * (g * j)) (b * (h * j)) (p * j) (m * (x * j)) (f * j) (a * (i * h)) (d * h) (m * (q * h)) (m * (g * j)) (c * (g * j))
      (m * (i * h)) (c * (i * h)) (one (ap (λ z. z * j) reach)) (two (ap (λ z. z * h) rise)) (parts (g * j) (ap (λ z. z * (g * j)) whole))
      (parts (i * h) (ap (λ z. z * (i * h)) whole)))
    where
      sum : (A G H P X F I D Q M C N E : ℕ) → A + G + H + P ≡ X + F → I + H + D ≡ Q → M ≡ C + G → N ≡ E + I → A + M + Q + E + P ≡ X + N + C + (F + D)
      sum A G H P X F I D Q M C N E s t u v = omega arith

      one : (x0 * m + g * a + h * b + p) * j ≡ (x * m + f) * j → m * (x0 * j) + a * (g * j) + b * (h * j) + p * j ≡ m * (x * j) + f * j
      one s = omega (arith, s)

      two : (i * a + j * b + d) * h ≡ q * m * h → a * (i * h) + b * (h * j) + d * h ≡ m * (q * h)
      two s = omega (arith, s)

      parts : (z : ℕ) → m * z ≡ (c + a) * z → m * z ≡ c * z + a * z
      parts z s = omega (arith, s)

      spread : m * (x0 * j) + m * (g * j) + m * (q * h) + c * (i * h) + p * j ≡ m * (x * j) + m * (i * h) + c * (g * j) + (f * j + d * h)
          → m * ((x0 + g) * j + q * h) + i * h * c + p * j ≡ m * (x * j + i * h) + g * j * c + (f * j + d * h)
      spread s = omega (arith, s)

-- ---- a fraction close to a row: of N, the last at or under it

-- how far a curve has risen at n of n + k, times the square of n + k
abbrev risen : (i j n k : ℕ) → ℕ
risen i j n k = i * (2 * (k * n) + n * n) + j * (n * n)

record Near (i j q N : ℕ) : Type 0 where
  n : ℕ
  k : ℕ
  whole : n + k ≡ N
  low : risen i j n k ≤ q * square n k
  close : q * square n k ≤ risen i j n k + 4 * ((i + j) * N)

-- one more of N rises little
step : (i j n k N : ℕ) → n + suc k ≡ N → risen i j (suc n) k ≤ risen i j n (suc k) + 4 * ((i + j) * N)
step i j n k N e = rw (sym e) (omega arith)

near : (i j q N : ℕ) → q ≤ i + j → 0 < N → Near i j q N
near i j q N rows some = by (dec_lt q (i + j))
  where
    P : ℕ → Bool
    P n = leb (risen i j n (N - n)) (q * (N * N))

    start : P 0 ≡ true
    start = le-leb (risen i j 0 (N - 0)) (q * (N * N)) (omega arith)

    top : q < i + j → q * (N * N) < i * (N * N) + j * (N * N)
    top row = let f : suc q * (N * N) ≤ (i + j) * (N * N) = mul-le-mul_right (N * N) row in omega (arith, f, mul-le-mul some some)

    end : q < i + j → P N ≡ false
    end row = let z : N - N ≡ 0 = omega arith in rw z (lt-leb (risen i j N 0) (q * (N * N)) (omega (arith, top row)))

    at : (n k : ℕ) → n + suc k ≡ N → risen i j n (N - n) ≤ q * (N * N) → q * (N * N) < risen i j (suc n) (N - suc n) → Near i j q N
    at n k e a b =
        let f : N - n ≡ suc k = omega arith in
        let f' : N - suc n ≡ k = omega arith in
        let low = rw f at a in
        let high = rw f' at b in
        record { n = n; k = suc k; whole = e; low = rw e low; close = rw e (omega (arith, high, step i j n k N e)) }

    by : Dec (q < i + j) → Near i j q N
    by (yes row) = let l = last P N start (end row) in at l.n (N - suc l.n) (omega (arith, l.before)) (leb-true _ _ l.here) (leb-false _ _ l.next)
    by (no row) = let e : q ≡ i + j = omega arith in record { n = N; k = 0; whole = omega arith; low = rw e (omega arith); close = rw e (omega arith) }

-- ---- the side, by differences, and the fraction

abbrev pub UnderSide : (x0 g h i j x q : ℕ) → Type 0
UnderSide x0 g h i j x q =
    Side (x0 * (i + j) + q * (g + h)) (x * (i + j)) (x0 * i + q * g) (x * i) ((x0 + g) * j + q * h) (x * j + i * h) (i * h) (g * j)

spread_weights : (p g h n k : ℕ) → weighed p (p + g) (p + g + h) n k ≡ p * square n k + g * (2 * (k * n) + n * n) + h * (n * n)
spread_weights p g h n k = omega arith

some_sum : (f d g h i j : ℕ) → 0 < f → 0 < i + j → 0 < (f * i + d * g) + (f * j + d * h)
some_sum f d g h i j a b = omega (arith, mul-le-mul a b)

-- a leg where the curve is not short of the position, and where it is not beyond it
no_short : (u v i : ℕ) → u + 0 * i ≡ v → u ≡ v
no_short u v i e = omega arith

no_reach : (u v i d g : ℕ) → u ≡ v + (0 * i + d * g) → u ≡ v + d * g
no_reach u v i d g e = omega arith

module _ (x0 y0 g h i j x q : ℕ) (some_row : 0 < i + j) where
  abbrev Reaches : Type 0
  Reaches = Under x0 y0 (x0 + g) (y0 + i) (x0 + g + h) (y0 + i + j) x (y0 + q)

  whole : (x0 * (i + j) + q * (g + h)) + x * i + (x * j + i * h) + g * j ≡ x * (i + j) + (x0 * i + q * g) + ((x0 + g) * j + q * h) + i * h
  whole = omega arith

  module _ (n k d f p : ℕ) (wide : 0 < n + k)
      (reach : x0 * square n k + g * (2 * (k * n) + n * n) + h * (n * n) + p ≡ x * square n k + f) (rise : risen i j n k + d ≡ q * square n k) where
    first : square n k * (x0 * i + q * g) + i * h * (n * n) + p * i ≡ square n k * (x * i) + g * j * (n * n) + (f * i + d * g)
    first = first_leg g h i j q x0 x (square n k) (2 * (k * n) + n * n) (n * n) (k * k) d f p reach rise

    second : square n k * ((x0 + g) * j + q * h) + i * h * (k * k) + p * j ≡ square n k * (x * j + i * h) + g * j * (k * k) + (f * j + d * h)
    second = second_leg g h i j q x0 x (square n k) (2 * (k * n) + n * n) (n * n) (k * k) d f p reach rise (omega arith)

  -- a fraction beyond the position gives the side
  beyond : (n k d f : ℕ) → 0 < n + k → 0 < f
      → x0 * square n k + g * (2 * (k * n) + n * n) + h * (n * n) + 0 ≡ x * square n k + f
      → risen i j n k + d ≡ q * square n k
      → UnderSide x0 g h i j x q
  beyond n k d f wide some e r =
      sound (x0 * (i + j) + q * (g + h)) (x * (i + j)) (x0 * i + q * g) (x * i) ((x0 + g) * j + q * h) (x * j + i * h) (i * h) (g * j) whole n k wide
      (f * i + d * g) (f * j + d * h) (some_sum f d g h i j some some_row) (no_short _ _ i (first n k d f 0 wide e r))
      (no_short _ _ j (second n k d f 0 wide e r))

  -- one close to the row and not beyond the position leaves no side
  short : (n k d r p : ℕ) → 0 < n + k → d * (g + h) ≤ r * (n + k) → 6 * ((i * h + g * j) * r) + 5 * (r * r) < n + k
      → x0 * square n k + g * (2 * (k * n) + n * n) + h * (n * n) + p ≡ x * square n k + 0
      → risen i j n k + d ≡ q * square n k
      → UnderSide x0 g h i j x q
      → ⊥
  short n k d r p wide close big e rise =
      never (x0 * (i + j) + q * (g + h)) (x * (i + j)) (x0 * i + q * g) (x * i) ((x0 + g) * j + q * h) (x * j + i * h) (i * h) (g * j) whole n k wide d g h r
      (p * i) (p * j) close big (no_reach _ _ i d g (first n k d 0 p wide e rise)) (no_reach _ _ j d h (second n k d 0 p wide e rise))

  pub under_sound : Reaches → UnderSide x0 g h i j x q
  under_sound u =
      let n = u.n in
      let k = u.k in
      beyond n k (q * square n k - risen i j n k) (weighed x0 (x0 + g) (x0 + g + h) n k - x * square n k) u.some (omega (arith, u.right))
      (omega (arith, u.right, spread_weights x0 g h n k)) (omega (arith, u.low, spread_weights y0 i j n k))

  pub under_complete : q ≤ i + j → UnderSide x0 g h i j x q → Reaches
  under_complete rows s = go (4 * ((i + j) * (g + h))) refl
    where
      -- N is chosen so that a fraction of it is close enough
      go : (r : ℕ) → r ≡ 4 * ((i + j) * (g + h)) → Reaches
      go r is = from (near i j q (6 * ((i * h + g * j) * r) + 5 * (r * r) + 1) rows (omega arith))
        where
          from : Near i j q (6 * ((i * h + g * j) * r) + 5 * (r * r) + 1) → Reaches
          from t = at t.n t.k t.whole (q * square t.n t.k - risen i j t.n t.k) (omega (arith, t.low)) (omega (arith, t.close))
            where
              at : (n k : ℕ) → n + k ≡ 6 * ((i * h + g * j) * r) + 5 * (r * r) + 1 → (d : ℕ)
                  → risen i j n k + d ≡ q * square n k
                  → d ≤ 4 * ((i + j) * (6 * ((i * h + g * j) * r) + 5 * (r * r) + 1))
                  → Reaches
              at n k sum d rise few = by (dec_lt (x * square n k) (weighed x0 (x0 + g) (x0 + g + h) n k))
                where
                  few' : d ≤ 4 * ((i + j) * (n + k))
                  few' = rw sum few

                  close : d * (g + h) ≤ r * (n + k)
                  close = let f = mul-le-mul_right (g + h) few' in rw is (omega (arith, f))

                  by : Dec (x * square n k < weighed x0 (x0 + g) (x0 + g + h) n k) → Reaches
                  by (yes b) = record { n = n; k = k; some = omega (arith, sum); right = b; low = omega (arith, rise, spread_weights y0 i j n k) }
                  by (no b) =
                      absurd
                      (short n k d r (x * square n k - weighed x0 (x0 + g) (x0 + g + h) n k) (omega (arith, sum)) close (omega (arith, sum))
                      (omega (arith, spread_weights x0 g h n k)) rise s)
