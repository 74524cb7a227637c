-- Powers of two: the level of a side, and that the powers of two up to 65,536 are the numbers that divide it.
use Prim.Native.Nat.{ℕ, zero, suc, ◌+◌, ◌*◌, ◌-◌, ◌/◌, ◌%◌, ◌^◌, ◌≤◌, ◌<◌}
use mathlib.Core.Path.{◌≡◌, refl, sym, ap, ◌∙◌}
use mathlib.Core.Bool.{Bool, true, false, cond, ◌||◌}
use native.Mathlib.Omega.{arith}
use native.Mathlib.Nat.{zero-add, one-le-pow, pow-le-pow_right, two-pow-succ, div-add-mod', mul-mod_left}
use lib.Dec.{eqb}
use borrow.Author.Tests.{eqb-true, eqb-false, eq-eqb, ne_eqb}
use Rattle.laws.proofs.Booleans.{or_right}
use Rattle.celltable.specs.Ranges.{power_up_to, side_range, level_up_to, level_of}

-- ---- the level of a side

pub level_is : (n s : ℕ) → power_up_to n s ≡ true → 2 ^ level_up_to n s ≡ s
unfolding power_up_to level_up_to
level_is zero s h = sym (eqb-true s 1 h)
level_is (suc n) s h = go (eqb s (2 ^ suc n)) refl (λ q. level_is n s q) h
  where
    go : (b : Bool)
        → eqb s (2 ^ suc n) ≡ b
        → (power_up_to n s ≡ true → 2 ^ level_up_to n s ≡ s)
        → (b || power_up_to n s) ≡ true
        → 2 ^ cond b (suc n) (level_up_to n s) ≡ s
    go true e f q = sym (eqb-true s (2 ^ suc n) e)
    go false e f q = f q

pub level_most : (n s : ℕ) → level_up_to n s ≤ n
unfolding level_up_to
level_most zero s = omega arith
level_most (suc n) s = go (eqb s (2 ^ suc n)) (level_most n s)
  where
    go : (b : Bool) → level_up_to n s ≤ n → cond b (suc n) (level_up_to n s) ≤ suc n
    go true h = omega arith
    go false h = omega arith

pow_more : (k n : ℕ) → k ≤ n → 2 ^ k < 2 ^ suc n
pow_more k n h = omega (arith, pow-le-pow_right {n = 2} (omega arith) {i = k} {j = n} h, two-pow-succ n, one-le-pow n 2 (omega arith))

-- the level of a power of two is its exponent
pub level_of_law : (n k : ℕ) → k ≤ n → level_up_to n (2 ^ k) ≡ k
unfolding level_up_to
level_of_law zero zero h = refl
level_of_law zero (suc k) h = absurd (omega arith)
level_of_law (suc n) k h = go (eqb k (suc n)) refl (λ q. level_of_law n k q)
  where
    go : (b : Bool) → eqb k (suc n) ≡ b → (k ≤ n → level_up_to n (2 ^ k) ≡ k) → cond (eqb (2 ^ k) (2 ^ suc n)) (suc n) (level_up_to n (2 ^ k)) ≡ k
    go true e f =
        let q : k ≡ suc n = eqb-true k (suc n) e in
        rw (eq-eqb (2 ^ k) (2 ^ suc n) (ap (λ (m : ℕ). 2 ^ m) q)) (sym q)
    go false e f =
        let l : k ≤ n = below (eqb-false k (suc n) e) in
        rw (ne_eqb (2 ^ k) (2 ^ suc n) (λ q. apart q (pow_more k n l))) (f l)
      where
        below : (k ≡ suc n → ⊥) → k ≤ n
        below f = omega arith

        apart : 2 ^ k ≡ 2 ^ suc n → 2 ^ k < 2 ^ suc n → ⊥
        apart q l = omega arith

pub power_of : (n k : ℕ) → k ≤ n → power_up_to n (2 ^ k) ≡ true
unfolding power_up_to
power_of zero zero h = refl
power_of zero (suc k) h = absurd (omega arith)
power_of (suc n) k h = go (eqb k (suc n)) refl (λ q. power_of n k q)
  where
    below : (k ≡ suc n → ⊥) → k ≤ n
    below f = omega arith

    go : (b : Bool) → eqb k (suc n) ≡ b → (k ≤ n → power_up_to n (2 ^ k) ≡ true) → (eqb (2 ^ k) (2 ^ suc n) || power_up_to n (2 ^ k)) ≡ true
    go true e f = rw (eq-eqb (2 ^ k) (2 ^ suc n) (ap (λ (m : ℕ). 2 ^ m) (eqb-true k (suc n) e)))
    go false e f = or_right (eqb (2 ^ k) (2 ^ suc n)) (power_up_to n (2 ^ k)) (f (below (eqb-false k (suc n) e)))

-- ---- what divides a power of two

pub pow_split : (a b : ℕ) → 2 ^ a * 2 ^ b ≡ 2 ^ (a + b)
pow_split zero b = rw zero-add (omega arith)
pow_split (suc a) b =
    let e : suc a + b ≡ suc (a + b) = omega arith in
    rw (e, two-pow-succ a, two-pow-succ (a + b)) (omega (arith, pow_split a b))

power_double : (n s : ℕ) → power_up_to n s ≡ true → power_up_to (suc n) (s + s) ≡ true
power_double n s h =
    let k : ℕ = level_up_to n s in
    let e : s + s ≡ 2 ^ suc k = two (level_is n s h) in
    rw e (power_of (suc n) k' more)
  where
    k' : ℕ
    k' = suc (level_up_to n s)

    more : k' ≤ suc n
    more = omega (arith, level_most n s)

    two : 2 ^ level_up_to n s ≡ s → s + s ≡ 2 ^ k'
    two e = omega (arith, two-pow-succ (level_up_to n s))

only_one : (s q : ℕ) → s * q ≡ 1 → s ≡ 1
only_one zero q e = omega arith
only_one (suc zero) q e = refl
only_one (suc (suc s)) zero e = omega arith
only_one (suc (suc s)) (suc q) e = omega arith

divisor : (n s q : ℕ) → s * q ≡ 2 ^ n → power_up_to n s ≡ true
unfolding power_up_to
divisor zero s q e = eq-eqb s 1 (only_one s q e)
divisor (suc n) s q e = go (eqb (s % 2) 0) (eqb (q % 2) 0) refl refl (λ r h. divisor n r q h) (λ r h. divisor n s r h)
  where
    goal : Bool
    goal = eqb s (2 ^ suc n) || power_up_to n s

    even : (m : ℕ) → m % 2 ≡ 0 → m ≡ m / 2 + m / 2
    even m h = omega arith

    odd : (m : ℕ) → (m % 2 ≡ 0 → ⊥) → m ≡ suc (m / 2 + m / 2)
    odd m h = omega arith

    left_half : (a q p s : ℕ) → s ≡ a + a → s * q ≡ p + p → a * q ≡ p
    left_half a q p s h e = omega (arith, rw h at e)

    right_half : (s b p q : ℕ) → q ≡ b + b → s * q ≡ p + p → s * b ≡ p
    right_half s b p q h e = omega (arith, rw h at e)

    both_odd : (a b p s q : ℕ) → s ≡ suc (a + a) → q ≡ suc (b + b) → s * q ≡ p + p → ⊥
    both_odd a b p s q h k e = omega (arith, rw (h, k) at e)

    doubled : s * q ≡ 2 ^ n + 2 ^ n
    doubled = e ∙ two-pow-succ n

    go : (a b : Bool)
        → eqb (s % 2) 0 ≡ a
        → eqb (q % 2) 0 ≡ b
        → ((r : ℕ) → r * q ≡ 2 ^ n → power_up_to n r ≡ true)
        → ((r : ℕ) → s * r ≡ 2 ^ n → power_up_to n s ≡ true)
        → goal ≡ true
    go true b f g l r =
        let h : s ≡ s / 2 + s / 2 = even s (eqb-true (s % 2) 0 f) in
        ap (λ (m : ℕ). power_up_to (suc n) m) h ∙ power_double n (s / 2) (l (s / 2) (left_half (s / 2) q (2 ^ n) s h doubled))
    go false true f g l r =
        or_right (eqb s (2 ^ suc n)) (power_up_to n s) (r (q / 2) (right_half s (q / 2) (2 ^ n) q (even q (eqb-true (q % 2) 0 g)) doubled))
    go false false f g l r = absurd (both_odd (s / 2) (q / 2) (2 ^ n) s q (odd s (eqb-false (s % 2) 0 f)) (odd q (eqb-false (q % 2) 0 g)) doubled)

-- the test of the code: a side divides 65,536
pub divides_side : (s : ℕ) → (s ≡ 0 → ⊥) → eqb (65536 % s) 0 ≡ side_range s
divides_side s f = go (eqb (65536 % s) 0) (side_range s) refl refl
  where
    go : (a b : Bool) → eqb (65536 % s) 0 ≡ a → side_range s ≡ b → a ≡ b
    go true b e h = sym (divisor 16 s (65536 / s) (whole (eqb-true (65536 % s) 0 e))) ∙ h
      where
        whole : 65536 % s ≡ 0 → s * (65536 / s) ≡ 65536
        whole z = omega (arith, div-add-mod' 65536 s)
    go false true e h = absurd (eqb-false (65536 % s) 0 e divided)
      where
        all : 2 ^ (16 - level_of s) * s ≡ 65536
        all =
            let m : 16 - level_of s + level_of s ≡ 16 = omega (arith, level_most 16 s) in
            rw (level_is 16 s h) at (pow_split (16 - level_of s) (level_of s) ∙ ap (λ (n : ℕ). 2 ^ n) m)

        divided : 65536 % s ≡ 0
        divided = rw all at (mul-mod_left (2 ^ (16 - level_of s)) s)
    go false false e h = refl

pub zero_side : (s : ℕ) → s ≡ 0 → false ≡ side_range s
unfolding power_up_to
zero_side s h = rw h
