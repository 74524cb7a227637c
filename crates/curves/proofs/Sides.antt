-- The side of a curve on which a position lies, by four differences of naturals: the products of the chord c, of the two legs f and s, and of the chord at
-- the control corner e, the bend. At a fraction n / (n + k) these are tied by `first` and `second`; so a fraction gives the side (`sound`), and one close
-- to the row that does not reach the position excludes it (`never`).
use mathlib.Core.Path.{◌≡◌, ap}
use mathlib.Core.Logic.{◌⊎◌, inl, inr}
use Prim.Native.Nat.{ℕ, suc, ◌+◌, ◌*◌, ◌-◌, ◌≤◌, ◌<◌}
use native.Mathlib.Nat.{mul-le-mul, mul-le-mul_left, mul-le-mul_right}
use native.Mathlib.Omega.{arith}
use native.Mathlib.Decide.{dec_le, dec_lt}
use Rattle.curves.proofs.Forms.{sound_right, sound_left, sound_apart, close_right, close_left}

-- c² − 4 f s as a difference
abbrev pub form_p : (cp cn fp fn sp sn : ℕ) → ℕ
form_p cp cn fp fn sp sn = (cp * cp + cn * cn) + 4 * (fp * sn + fn * sp)

abbrev pub form_n : (cp cn fp fn sp sn : ℕ) → ℕ
form_n cp cn fp fn sp sn = 2 * (cp * cn) + 4 * (fp * sp + fn * sn)

-- the three cases of the bend
pub data Side (cp cn fp fn sp sn ep en : ℕ) : Type 0 where
  straight : ep ≡ en → cn < cp → Side cp cn fp fn sp sn ep en
  left_of : en < ep → cn < cp → form_n cp cn fp fn sp sn < form_p cp cn fp fn sp sn → Side cp cn fp fn sp sn ep en
  chord : ep < en → cn < cp → Side cp cn fp fn sp sn ep en
  right_of : ep < en → form_p cp cn fp fn sp sn < form_n cp cn fp fn sp sn → Side cp cn fp fn sp sn ep en

-- ---- differences whose signs are known

-- of which the one is d more than the other
abbrev Off : (p n d : ℕ) → Type 0
Off p n d = (p ≡ n + d) ⊎ (n ≡ p + d)

square_off : (p n d : ℕ) → Off p n d → p * p + n * n ≡ 2 * (p * n) + d * d
square_off p n d (inl e) = rw e (omega arith)
square_off p n d (inr e) = rw e (omega arith)

-- the products of the two legs: both above zero, by s and t, or zero; both below it; or not on one side of it
data Legs (fp fn sp sn : ℕ) : Type 0 where
  both_above : (s t : ℕ) → fp ≡ fn + s → sp ≡ sn + t → Legs fp fn sp sn
  both_below : (s t : ℕ) → fn ≡ fp + s → sn ≡ sp + t → Legs fp fn sp sn
  unlike : fp * sp + fn * sn ≤ fp * sn + fn * sp → Legs fp fn sp sn

legs : (fp fn sp sn : ℕ) → Legs fp fn sp sn
legs fp fn sp sn = go (dec_le fn fp) (dec_le sn sp)
  where
    above_below : (s t : ℕ) → fp ≡ fn + s → sn ≡ sp + t → fp * sp + fn * sn ≤ fp * sn + fn * sp
    above_below s t a b = rw (a, b) (omega arith)

    below_above : (s t : ℕ) → fn ≡ fp + s → sp ≡ sn + t → fp * sp + fn * sn ≤ fp * sn + fn * sp
    below_above s t a b = rw (a, b) (omega arith)

    go : Dec (fn ≤ fp) → Dec (sn ≤ sp) → Legs fp fn sp sn
    go (yes a) (yes b) = both_above (fp - fn) (sp - sn) (omega arith) (omega arith)
    go (no a) (no b) = both_below (fn - fp) (sn - sp) (omega arith) (omega arith)
    go (yes a) (no b) = unlike (above_below (fp - fn) (sn - sp) (omega arith) (omega arith))
    go (no a) (yes b) = unlike (below_above (fn - fp) (sp - sn) (omega arith) (omega arith))

-- their product where they are on one side
above_product : (fp fn sp sn s t : ℕ) → fp ≡ fn + s → sp ≡ sn + t → fp * sp + fn * sn ≡ fp * sn + fn * sp + s * t
above_product fp fn sp sn s t a b = rw (a, b) (omega arith)

below_product : (fp fn sp sn s t : ℕ) → fn ≡ fp + s → sn ≡ sp + t → fp * sp + fn * sn ≡ fp * sn + fn * sp + s * t
below_product fp fn sp sn s t a b = rw (a, b) (omega arith)

-- then the form is p² − 4st
form_is : (cp cn fp fn sp sn p s t : ℕ)
    → Off cp cn p
    → fp * sp + fn * sn ≡ fp * sn + fn * sp + s * t
    → form_p cp cn fp fn sp sn + 4 * (s * t) ≡ form_n cp cn fp fn sp sn + p * p
form_is cp cn fp fn sp sn p s t o e = omega (arith, square_off cp cn p o, e)

-- ---- what is multiplied
over : (m x y r : ℕ) → m * y ≡ m * x + r → 0 < r → x < y
over m x y r e h = go (dec_lt x y)
  where
    go : Dec (x < y) → x < y
    go (yes k) = k
    go (no k) = let l : m * y ≤ m * x = mul-le-mul_left m (omega arith) in absurd (omega (arith, l))

-- m y is below m x by less than m, or not below it at all
near : (m x y r : ℕ) → m * y ≤ m * x + r → r < m → y ≤ x
near m x y r e h = go (dec_le y x)
  where
    go : Dec (y ≤ x) → y ≤ x
    go (yes k) = k
    go (no k) = let l : m * suc x ≤ m * y = mul-le-mul_left m (omega arith) in absurd (omega (arith, l))

module _ (cp cn fp fn sp sn ep en : ℕ) (whole : cp + fn + sn + en ≡ cn + fp + sp + ep) (n k : ℕ) (wide : 0 < n + k) where
  abbrev m : ℕ
  m = (n + k) * (n + k)

  some_m : 0 < m
  some_m = mul-le-mul wide wide

  times : (m : ℕ) → m * cp + m * fn + m * sn + m * en ≡ m * cn + m * fp + m * sp + m * ep
  times m = let f : m * (cp + fn + sn + en) ≡ m * (cn + fp + sp + ep) = ap (λ z. m * z) whole in omega (arith, f)

  -- ---- a fraction gives the side
  module _ (a b : ℕ) (some : 0 < a + b) (first : m * fp + ep * (n * n) ≡ m * fn + en * (n * n) + a)
      (second : m * sp + ep * (k * k) ≡ m * sn + en * (k * k) + b) where
    sound_straight : ep ≡ en → Side cp cn fp fn sp sn ep en
    sound_straight e = straight e (over m cn cp (a + b) (by ep en m e first second (times m)) some)
      where
        by : (ep en m : ℕ)
            → ep ≡ en
            → m * fp + ep * (n * n) ≡ m * fn + en * (n * n) + a
            → m * sp + ep * (k * k) ≡ m * sn + en * (k * k) + b
            → m * cp + m * fn + m * sn + m * en ≡ m * cn + m * fp + m * sp + m * ep
            → m * cp ≡ m * cn + (a + b)
        by ep en m e u v w = let u' = rw e at u in let v' = rw e at v in let w' = rw e at w in omega (arith, u', v', w')

    sound_over : (e : ℕ) → 0 < e → ep ≡ en + e → Side cp cn fp fn sp sn ep en
    sound_over e some-e i = left_of (omega arith) chord_over (go (legs fp fn sp sn))
      where
        u : m * fp + e * (n * n) ≡ m * fn + a
        u = let f = rw i at first in omega (arith, f)

        v : m * sp + e * (k * k) ≡ m * sn + b
        v = let f = rw i at second in omega (arith, f)

        w : m * cp ≡ m * cn + (2 * (e * (k * n)) + (a + b))
        w = let f = rw i at (times m) in omega (arith, u, v, f)

        chord_over : cn < cp
        chord_over = over m cn cp (2 * (e * (k * n)) + (a + b)) w (omega arith)

        p : ℕ
        p = cp - cn

        is_p : cp ≡ cn + p
        is_p = omega (arith, chord_over)

        some_p : 0 < p
        some_p = omega (arith, chord_over)

        wp : m * p ≡ 2 * (e * (k * n)) + (a + b)
        wp = let f = rw is_p at w in omega (arith, f)

        go : Legs fp fn sp sn → form_n cp cn fp fn sp sn < form_p cp cn fp fn sp sn
        go (both_above x y f s) =
            let l : cp ≡ cn + (x + y + e) = omega (arith, whole, i) in
            let z = form_is cp cn fp fn sp sn (x + y + e) x y (inl l) (above_product fp fn sp sn x y f s) in
            omega (arith, z, sound_apart x y e some-e)
        go (both_below x y f s) =
            let uf = rw f at u in
            let vf = rw s at v in
            let z = form_is cp cn fp fn sp sn p x y (inl is_p) (below_product fp fn sp sn x y f s) in
            omega (arith, z, sound_left m n k e a b x y p some (omega (arith, uf)) (omega (arith, vf)) wp)
        go (unlike o) = omega (arith, square_off cp cn p (inl is_p), o, mul-le-mul some_p some_p)

    sound_under : (e : ℕ) → 0 < e → en ≡ ep + e → Side cp cn fp fn sp sn ep en
    sound_under e some-e i = go (dec_lt cn cp)
      where
        u : m * fp ≡ m * fn + (e * (n * n) + a)
        u = let f = rw i at first in omega (arith, f)

        v : m * sp ≡ m * sn + (e * (k * k) + b)
        v = let f = rw i at second in omega (arith, f)

        w : m * cp + 2 * (e * (k * n)) ≡ m * cn + (a + b)
        w = let f = rw i at (times m) in omega (arith, u, v, f)

        lower : (m x y r : ℕ) → m * y ≡ m * x + r → 0 < m → x ≤ y
        lower m x y r e h = near m y x 0 (omega arith) h

        go : Dec (cn < cp) → Side cp cn fp fn sp sn ep en
        go (yes h) = chord (omega arith) h
        go (no h) =
            right_of (omega arith)
            (down (fp - fn) (sp - sn) (cn - cp) (omega (arith, lower m fn fp (e * (n * n) + a) u some_m))
            (omega (arith, lower m sn sp (e * (k * k) + b) v some_m)) (omega arith))
          where
            down : (x y p : ℕ) → fp ≡ fn + x → sp ≡ sn + y → cn ≡ cp + p → form_p cp cn fp fn sp sn < form_n cp cn fp fn sp sn
            down x y p f s l =
                let uf = rw f at u in
                let vf = rw s at v in
                let wf = rw l at w in
                let z = form_is cp cn fp fn sp sn p x y (inr l) (above_product fp fn sp sn x y f s) in
                omega (arith, z, sound_right m n k e a b x y p some (omega (arith, uf)) (omega (arith, vf)) (omega (arith, wf)))

    pub sound : Side cp cn fp fn sp sn ep en
    sound = go (dec_lt ep en) (dec_lt en ep)
      where
        go : Dec (ep < en) → Dec (en < ep) → Side cp cn fp fn sp sn ep en
        go (yes h) g = sound_under (en - ep) (omega arith) (omega arith)
        go (no h) (yes g) = sound_over (ep - en) (omega arith) (omega arith)
        go (no h) (no g) = sound_straight (omega arith)

  -- ---- where a fraction is close to the row and not right of the position, the side cannot hold
  module _ (d g h r x y : ℕ) (close : d * (g + h) ≤ r * (n + k)) (big : 6 * ((ep + en) * r) + 5 * (r * r) < n + k)
      (first : m * fp + ep * (n * n) + x ≡ m * fn + en * (n * n) + d * g) (second : m * sp + ep * (k * k) + y ≡ m * sn + en * (k * k) + d * h) where
    r_small : r < n + k
    r_small = go (dec_le 1 r)
      where
        go : Dec (1 ≤ r) → r < n + k
        go (yes o) = omega (arith, mul-le-mul_left r o)
        go (no o) = omega arith

    q_small : d * (g + h) < m
    q_small = let f : suc r * (n + k) ≤ (n + k) * (n + k) = mul-le-mul_right (n + k) r_small in omega (arith, f)

    big_for : (e : ℕ) → e ≤ ep + en → 6 * (e * r) + 5 * (r * r) < n + k
    big_for e h = omega (arith, mul-le-mul_right r h)

    -- the chord
    chord_low : ep ≤ en → cn < cp → ⊥
    chord_low o c = go (en - ep) (omega arith)
      where
        go : (e : ℕ) → en ≡ ep + e → ⊥
        go e i =
            let u = rw i at first in
            let v = rw i at second in
            let w = rw i at (times m) in
            let f : cp ≤ cn = near m cn cp (d * (g + h)) (omega (arith, u, v, w)) q_small in
            omega arith

    right_never : ep < en → form_p cp cn fp fn sp sn < form_n cp cn fp fn sp sn → ⊥
    right_never o f = under (en - ep) (cn - cp) (omega arith) (omega arith) (omega (arith, below))
      where
        below : cp ≤ cn
        below = go (dec_le cp cn)
          where
            go : Dec (cp ≤ cn) → cp ≤ cn
            go (yes q) = q
            go (no q) = absurd (chord_low (omega arith) (omega arith))

        under : (e p : ℕ) → 0 < e → en ≡ ep + e → cn ≡ cp + p → ⊥
        under e p some-e i l = go (legs fp fn sp sn)
          where
            u : m * fp + x ≡ m * fn + (e * (n * n) + d * g)
            u = let z = rw i at first in omega (arith, z)

            v : m * sp + y ≡ m * sn + (e * (k * k) + d * h)
            v = let z = rw i at second in omega (arith, z)

            w : 2 * (e * (k * n)) + (x + y) ≡ m * p + d * (g + h)
            w = let z = rw (i, l) at (times m) in omega (arith, u, v, z)

            go : Legs fp fn sp sn → ⊥
            go (both_above s t a b) =
                let us = rw a at u in
                let vt = rw b at v in
                let z = form_is cp cn fp fn sp sn p s t (inr l) (above_product fp fn sp sn s t a b) in
                close_right n k e g h d r close (big_for e (omega arith)) s t p (omega (arith, whole, i, l)) (omega (arith, us)) (omega (arith, vt))
                (omega (arith, w)) (omega (arith, z, f))
            go (both_below s t a b) =
                let lp : p ≡ s + t + e = omega (arith, whole, i, l) in
                let z = form_is cp cn fp fn sp sn p s t (inr l) (below_product fp fn sp sn s t a b) in
                omega (arith, (rw lp at z), f, sound_apart s t e some-e)
            go (unlike o) = omega (arith, square_off cp cn p (inr l), o, f)

    left_never : en < ep → cn < cp → form_n cp cn fp fn sp sn < form_p cp cn fp fn sp sn → ⊥
    left_never o c f = over_by (ep - en) (cp - cn) (omega arith) (omega arith)
      where
        over_by : (e p : ℕ) → ep ≡ en + e → cp ≡ cn + p → ⊥
        over_by e p i l =
            go (fn - fp) (sn - sp) (omega (arith, near m fn fp (d * (g + h)) (omega (arith, u)) q_small))
            (omega (arith, near m sn sp (d * (g + h)) (omega (arith, v)) q_small))
          where
            u : m * fp + e * (n * n) + x ≡ m * fn + d * g
            u = let z = rw i at first in omega (arith, z)

            v : m * sp + e * (k * k) + y ≡ m * sn + d * h
            v = let z = rw i at second in omega (arith, z)

            w : m * p + (x + y) ≡ 2 * (e * (k * n)) + d * (g + h)
            w = let z = rw (i, l) at (times m) in omega (arith, u, v, z)

            go : (s t : ℕ) → fn ≡ fp + s → sn ≡ sp + t → ⊥
            go s t a b =
                let us = rw a at u in
                let vt = rw b at v in
                let z = form_is cp cn fp fn sp sn p s t (inl l) (below_product fp fn sp sn s t a b) in
                close_left n k e g h d r close (big_for e (omega arith)) s t p (omega (arith, whole, i, l)) (omega (arith, whole, i, l)) (omega (arith, us))
                (omega (arith, vt)) (omega (arith, w)) (omega (arith, z, f))

    pub never : Side cp cn fp fn sp sn ep en → ⊥
    never (straight e c) = chord_low (omega arith) c
    never (left_of o c f) = left_never o c f
    never (chord o c) = chord_low (omega arith) c
    never (right_of o f) = right_never o f
