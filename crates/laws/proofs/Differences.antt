-- Integers as differences of two naturals: sum, product, order and magnitude of `sub_ℕ a b`, so that a fact about signed numbers
-- becomes one about naturals, which omega reads.
use mathlib.Core.Path.{◌≡◌, sym, ap, ◌∙◌}
use mathlib.Core.Bool.{Bool, true, false, not, cond}
use Prim.Native.Nat.{ℕ, zero, suc, ◌+◌, ◌*◌, ◌-◌, ◌≤◌, ◌<◌}
use native.Mathlib.Omega.{arith}
use lib.Dec.{T, ltb, ltb→lt, nltb→le}
use lib.IntN.{ℤ, pos, negsuc, neg_ℤ, nat_abs, sub_ℕ, ◌+ℤ◌, ◌-ℤ◌, ◌*ℤ◌}
use lib.Signed.{mag, lt_z}
use borrow.Author.Tests.{lt-ltb, le-ltb}

-- a difference with a known sign
pub sub_pos : (a b n : ℕ) → a ≡ b + n → sub_ℕ a b ≡ pos n
sub_pos a b n e = rw (le-ltb a b (omega arith)) (ap pos (omega arith))

pub sub_neg : (a b n : ℕ) → a + suc n ≡ b → sub_ℕ a b ≡ negsuc n
sub_neg a b n e = rw (lt-ltb a b (omega arith)) (ap negsuc (omega arith))

-- every difference is one or the other: what holds of both holds of it
pub sub_cases : (P : ℤ → Type 0) (a b : ℕ) → ((n : ℕ) → a ≡ b + n → P (pos n)) → ((n : ℕ) → a + suc n ≡ b → P (negsuc n)) → P (sub_ℕ a b)
sub_cases P a b f g = go (ltb a b) (λ t. g (b - suc a) (below a b (ltb→lt a b t))) (λ t. f (a - b) (above a b (nltb→le a b t)))
  where
    go : (c : Bool) → (T c → P (negsuc (b - suc a))) → (T (not c) → P (pos (a - b))) → P (cond c (negsuc (b - suc a)) (pos (a - b)))
    go true h k = h tt
    go false h k = k tt

    below : (a b : ℕ) → a < b → a + suc (b - suc a) ≡ b
    below a b h = omega arith

    above : (a b : ℕ) → b ≤ a → a ≡ b + (a - b)
    above a b h = omega arith

-- two differences are equal
pub sub_eq : (a b c d : ℕ) → a + d ≡ c + b → sub_ℕ a b ≡ sub_ℕ c d
sub_eq a b c d e =
    sub_cases (λ z. z ≡ sub_ℕ c d) a b
    (λ n h. sym (sub_pos c d n (omega arith)))
    (λ n h. sym (sub_neg c d n (omega arith)))

pub pos_sub : (n : ℕ) → pos n ≡ sub_ℕ n 0
pos_sub n = sym (sub_pos n 0 n (omega arith))

pub negsuc_sub : (n : ℕ) → negsuc n ≡ sub_ℕ 0 (suc n)
negsuc_sub n = sym (sub_neg 0 (suc n) n (omega arith))

neg_pos : (n : ℕ) → neg_ℤ (pos n) ≡ sub_ℕ 0 n
neg_pos zero = pos_sub 0
neg_pos (suc n) = negsuc_sub n

pub add_sub : (a b c d : ℕ) → sub_ℕ a b +ℤ sub_ℕ c d ≡ sub_ℕ (a + c) (b + d)
add_sub a b c d =
    sub_cases (λ z. z +ℤ sub_ℕ c d ≡ sub_ℕ (a + c) (b + d)) a b
    (λ n h. sub_cases (λ z. pos n +ℤ z ≡ sub_ℕ (a + c) (b + d)) c d
    (λ m k. sym (sub_pos (a + c) (b + d) (n + m) (omega arith)))
    (λ m k. sub_eq n (suc m) (a + c) (b + d) (omega arith)))
    (λ n h. sub_cases (λ z. negsuc n +ℤ z ≡ sub_ℕ (a + c) (b + d)) c d
    (λ m k. sub_eq m (suc n) (a + c) (b + d) (omega arith))
    (λ m k. sym (sub_neg (a + c) (b + d) (suc (n + m)) (omega arith))))

pub mul_sub : (a b c d : ℕ) → sub_ℕ a b *ℤ sub_ℕ c d ≡ sub_ℕ (a * c + b * d) (a * d + b * c)
mul_sub a b c d =
    sub_cases (λ z. z *ℤ sub_ℕ c d ≡ sub_ℕ (a * c + b * d) (a * d + b * c)) a b
    (λ n h. sub_cases (λ z. pos n *ℤ z ≡ sub_ℕ (a * c + b * d) (a * d + b * c)) c d
    (λ m k. sym (sub_pos _ _ (n * m) (pp a b c d n m h k)))
    (λ m k. neg_pos (n * suc m) ∙ sub_eq 0 (n * suc m) _ _ (pn a b c d n m h k)))
    (λ n h. sub_cases (λ z. negsuc n *ℤ z ≡ sub_ℕ (a * c + b * d) (a * d + b * c)) c d
    (λ m k. neg_pos (suc n * m) ∙ sub_eq 0 (suc n * m) _ _ (np a b c d n m h k))
    (λ m k. sym (sub_pos _ _ (suc n * suc m) (nn a b c d n m h k))))
  where
    pp : (a b c d n m : ℕ) → a ≡ b + n → c ≡ d + m → a * c + b * d ≡ a * d + b * c + n * m
    pp a b c d n m h k = rw (h, k) (omega arith)

    pn : (a b c d n m : ℕ) → a ≡ b + n → c + suc m ≡ d → 0 + (a * d + b * c) ≡ (a * c + b * d) + n * suc m
    pn a b c d n m h k = rw (h, ← k) (omega arith)

    np : (a b c d n m : ℕ) → a + suc n ≡ b → c ≡ d + m → 0 + (a * d + b * c) ≡ (a * c + b * d) + suc n * m
    np a b c d n m h k = rw (← h, k) (omega arith)

    nn : (a b c d n m : ℕ) → a + suc n ≡ b → c + suc m ≡ d → a * c + b * d ≡ a * d + b * c + suc n * suc m
    nn a b c d n m h k = rw (← h, ← k) (omega arith)

-- the difference of two naturals, as code and contracts write it
pub pos_pos : (a b : ℕ) → pos a -ℤ pos b ≡ sub_ℕ a b
pos_pos a b = rw (neg_pos b, pos_sub a) (add_sub a 0 0 b ∙ sub_eq (a + 0) (0 + b) a b (omega arith))

pub neg_sub : (c d : ℕ) → neg_ℤ (sub_ℕ c d) ≡ sub_ℕ d c
neg_sub c d =
    sub_cases (λ z. neg_ℤ z ≡ sub_ℕ d c) c d (λ n h. neg_pos n ∙ sub_eq 0 n d c (omega arith)) (λ n h. sym (sub_pos d c (suc n) (omega arith)))

pub sub_sub : (a b c d : ℕ) → sub_ℕ a b -ℤ sub_ℕ c d ≡ sub_ℕ (a + d) (b + c)
sub_sub a b c d = ap (λ z. sub_ℕ a b +ℤ z) (neg_sub c d) ∙ add_sub a b d c

-- the order
pub above_zero : (a b : ℕ) → lt_z (pos 0) (sub_ℕ a b) ≡ ltb b a
above_zero a b =
    sub_cases (λ z. lt_z (pos 0) z ≡ ltb b a) a b
    (λ n h. test n a b h)
    (λ n h. sym (le-ltb b a (omega arith)))
  where
    test : (n a b : ℕ) → a ≡ b + n → ltb 0 n ≡ ltb b a
    test zero a b h = sym (le-ltb b a (omega arith))
    test (suc n) a b h = lt-ltb 0 (suc n) (omega arith) ∙ sym (lt-ltb b a (omega arith))

pub below_zero : (a b : ℕ) → lt_z (sub_ℕ a b) (pos 0) ≡ ltb a b
below_zero a b =
    sub_cases (λ z. lt_z z (pos 0) ≡ ltb a b) a b
    (λ n h. le-ltb n 0 (omega arith) ∙ sym (le-ltb a b (omega arith)))
    (λ n h. sym (lt-ltb a b (omega arith)))

-- the magnitude
pub mag_sub : (a b m : ℕ) → a < m → b ≤ m → mag (sub_ℕ a b) < m
mag_sub a b m p q = sub_cases (λ z. mag z < m) a b (λ n h. omega arith) (λ n h. omega arith)

-- a sum is no further from 0 than its two parts together
pub abs_add : (a b : ℤ) → nat_abs (a +ℤ b) ≤ nat_abs a + nat_abs b
abs_add (pos n) (pos m) = omega arith
abs_add (pos n) (negsuc m) = sub_cases (λ z. nat_abs z ≤ n + suc m) n (suc m) (λ k h. omega arith) (λ k h. omega arith)
abs_add (negsuc n) (pos m) = sub_cases (λ z. nat_abs z ≤ suc n + m) m (suc n) (λ k h. omega arith) (λ k h. omega arith)
abs_add (negsuc n) (negsuc m) = omega arith

pub mag_abs : (z : ℤ) {m : ℕ} → nat_abs z < m → mag z < m
mag_abs (pos n) h = h
mag_abs (negsuc n) h = omega arith
