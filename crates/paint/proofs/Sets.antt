-- Sets as masks: which areas they have, the lowest of them, and steps over all of them.
use mathlib.Core.Path.{◌≡◌, refl, sym, ap, ap₂, ◌∙◌}
use mathlib.Core.Bool.{true, false, cond, ◌||◌}
use mathlib.Core.List.{List, [], ◌∷◌}
use Prim.Native.Nat.{ℕ, zero, suc, ◌+◌, ◌-◌, ◌/◌, ◌%◌, ◌^◌, ◌<◌, max}
use native.Mathlib.Nat.{pow-suc, pow-succ', zero-add, add-zero, add-suc, suc-add, div-div-eq-div-mul}
use native.Mathlib.Omega.{arith}
use lib.Dec.{eqb, ltb, leb-suc-suc, eqb-zero-suc, eqb-suc-zero, eqb-suc-suc}
use lib.Pow.{shr_lt}
use lib.Bits.{bit_or, or_step}
use lib.Count.{count_trailing_zeros, under}
use borrow.Author.Tests.{eq-eqb, ne_eqb, lt-ltb}
use Rattle.laws.proofs.Booleans.{or_false, or_or}
use Rattle.paint.specs.Sets.{has, with_area, with_areas, set_of, among, each_from, each}
use Rattle.paint.specs.Areas.{material_from, material_of}
use Rattle.paint.specs.declared.area.Paint.{Paint}

halved : (n t : ℕ) → n / 2 ^ suc t ≡ n / 2 / 2 ^ t
halved n t = ap (λ v. n / v) (pow-succ' 2 t) ∙ sym (div-div-eq-div-mul n 2 (2 ^ t))

-- ---- which areas a set has

-- two digits, as tests
or_digit : (a b : ℕ) → a < 2 → b < 2 → eqb (max a b) 1 ≡ (eqb a 1 || eqb b 1)
or_digit zero zero h g = refl
or_digit zero (suc zero) h g = refl
or_digit (suc zero) zero h g = refl
or_digit (suc zero) (suc zero) h g = refl
or_digit (suc (suc a)) b h g = absurd (omega arith)
or_digit zero (suc (suc b)) h g = absurd (omega arith)
or_digit (suc zero) (suc (suc b)) h g = absurd (omega arith)

has_or : (a b m : ℕ) → has (bit_or a b) m ≡ (has a m || has b m)
has_or a b zero =
    let e : bit_or a b % 2 ≡ max (a % 2) (b % 2) = omega (arith, or_step a b) in
    ap (λ v. eqb v 1) e ∙ or_digit (a % 2) (b % 2) (omega arith) (omega arith)
has_or a b (suc m) = let e : bit_or a b / 2 ≡ bit_or (a / 2) (b / 2) = omega (arith, or_step a b) in ap (λ v. has v m) e ∙ has_or (a / 2) (b / 2) m

pub has_none : (m : ℕ) → has 0 m ≡ false
has_none zero = refl
has_none (suc m) = has_none m

has_power : (n m : ℕ) → has (2 ^ n) m ≡ eqb n m
has_power zero zero = refl
has_power zero (suc m) = has_none m ∙ sym (eqb-zero-suc m)
has_power (suc n) zero = ne_eqb (2 ^ suc n % 2) 1 (omega (arith, pow-suc 2 n)) ∙ sym (eqb-suc-zero n)
has_power (suc n) (suc m) = ap (λ v. has v m) (half n) ∙ (has_power n m ∙ sym (eqb-suc-suc n m))
  where
    half : (n : ℕ) → 2 ^ suc n / 2 ≡ 2 ^ n
    half n = omega (arith, pow-suc 2 n)

-- the set with area n has that one more
pub has_with : (set n m : ℕ) → has (with_area set n) m ≡ (has set m || eqb n m)
has_with set n m = has_or set (2 ^ n) m ∙ ap (λ b. has set m || b) (has_power n m)

-- the set of a list has the areas that the list names
has_more : (set : ℕ) (ns : List ℕ) (m : ℕ) → has (with_areas set ns) m ≡ (has set m || among ns m)
has_more set [] m = sym (or_false (has set m))
has_more set (n ∷ ns) m = has_more (with_area set n) ns m ∙ (ap (λ b. b || among ns m) (has_with set n m) ∙ or_or (has set m) (eqb n m) (among ns m))

pub has_set : (ns : List ℕ) (m : ℕ) → has (set_of ns) m ≡ among ns m
has_set ns m = has_more 0 ns m ∙ ap (λ b. b || among ns m) (has_none m)

-- a set below 2^k has areas below k alone
pub has_below : (k set n : ℕ) → set < 2 ^ k → has set n ≡ true → n < k
has_below zero set n h e = let z : set ≡ 0 = omega arith in absurd (clash (sym (ap (λ s. has s n) z ∙ has_none n) ∙ e))
  where
    clash : false ≡ true → ⊥
    clash e = let z : ◌≡◌ {A = ℕ} 0 1 = cc in omega arith
has_below (suc k) set zero h e = omega arith
has_below (suc k) set (suc n) h e = let r = has_below k (set / 2) n (omega (arith, pow-suc 2 k)) e in omega arith

-- a set moved down by t bits
pub has_shift : (t set m : ℕ) → has (set / 2 ^ t) m ≡ has set (t + m)
has_shift zero set m = ap₂ has (whole set) (none m)
  where
    whole : (n : ℕ) → n / 2 ^ 0 ≡ n
    whole n = omega arith

    none : (m : ℕ) → m ≡ 0 + m
    none m = omega arith
has_shift (suc t) set m = ap (λ v. has v m) (halved set t) ∙ (has_shift t (set / 2) m ∙ ap (has set) (sym (suc-add t m)))

-- ---- the lowest area

pub lowest_some : (k set : ℕ) → set < 2 ^ k → (set ≡ 0 → ⊥) → count_trailing_zeros k set < k
unfolding count_trailing_zeros
lowest_some zero set h n = absurd (n (omega arith))
lowest_some (suc k) set h n = go (set % 2) refl (λ z. lowest_some k (set / 2) (omega (arith, pow-suc 2 k)) z)
  where
    go : (d : ℕ) → set % 2 ≡ d → ((set / 2 ≡ 0 → ⊥) → count_trailing_zeros k (set / 2) < k) → under d (count_trailing_zeros k (set / 2)) < suc k
    go zero e r = let i = r (λ z. n (omega arith)) in omega arith
    go (suc d) e r = omega arith

pub lowest_has : (k set : ℕ) → count_trailing_zeros k set < k → has set (count_trailing_zeros k set) ≡ true
unfolding count_trailing_zeros
lowest_has zero set h = absurd (omega arith)
lowest_has (suc k) set h = go (set % 2) refl h (lowest_has k (set / 2))
  where
    go : (d : ℕ)
        → set % 2 ≡ d
        → under d (count_trailing_zeros k (set / 2)) < suc k
        → (count_trailing_zeros k (set / 2) < k → has (set / 2) (count_trailing_zeros k (set / 2)) ≡ true)
        → has set (under d (count_trailing_zeros k (set / 2))) ≡ true
    go zero e h r = r (omega arith)
    go (suc d) e h r = eq-eqb (set % 2) 1 (omega arith)

-- the material of the lowest area: its number is the count of trailing zeros, 64 where the set is empty
module _ (paint : ℕ → Paint) (set : ℕ) where
  low_by : (i n rest d : ℕ)
      → rest % 2 ≡ d
      → d < 2
      → has set i ≡ eqb (rest % 2) 1
      → material_from paint set (suc i) n
      ≡ cond (ltb (count_trailing_zeros n (rest / 2)) n) (paint (suc i + count_trailing_zeros n (rest / 2))).material 0
      → cond (has set i) (paint i).material (material_from paint set (suc i) n)
      ≡ cond (ltb (under d (count_trailing_zeros n (rest / 2))) (suc n)) (paint (i + under d (count_trailing_zeros n (rest / 2)))).material 0
  low_by i n rest zero e h g k =
      let t = count_trailing_zeros n (rest / 2) in
      let b : has set i ≡ false = g ∙ ap (λ x. eqb x 1) e in
      rw b (k ∙ ap₂ (λ c j. cond c (paint j).material 0) (sym (leb-suc-suc (suc t) n)) (suc-add i t ∙ sym (add-suc i t)))
  low_by i n rest (suc zero) e h g k =
      let b : has set i ≡ true = g ∙ ap (λ x. eqb x 1) e in
      rw (b, lt-ltb 0 (suc n) (omega arith)) (ap (λ j. (paint j).material) (sym (add-zero i)))
  low_by i n rest (suc (suc d)) e h g k = absurd (omega arith)

  low_from : (i n rest : ℕ)
      → ((j : ℕ) → has set (i + j) ≡ has rest j)
      → material_from paint set i n ≡ cond (ltb (count_trailing_zeros n rest) n) (paint (i + count_trailing_zeros n rest)).material 0
  unfolding count_trailing_zeros
  low_from i zero rest f = refl
  low_from i (suc n) rest f =
      low_by i n rest (rest % 2) refl (omega arith) (ap (has set) (sym (add-zero i)) ∙ f 0)
      (low_from (suc i) n (rest / 2) (λ j. ap (has set) (suc-add i j ∙ sym (add-suc i j)) ∙ f (suc j)))

  lowest : material_of paint set ≡ cond (ltb (count_trailing_zeros 64 set) 64) (paint (count_trailing_zeros 64 set)).material 0
  unfolding material_of
  lowest =
      low_from 0 64 set (λ j. ap (has set) (zero-add j))
      ∙ ap (λ j. cond (ltb (count_trailing_zeros 64 set) 64) (paint j).material 0) (zero-add (count_trailing_zeros 64 set))

  pub material_some : (n : ℕ) → n ≡ count_trailing_zeros 64 set → n < 64 → (paint n).material ≡ material_of paint set
  material_some n e h = sym (lowest ∙ rw (← e, lt-ltb n 64 h))

  pub material_none : set ≡ 0 → 0 ≡ material_of paint set
  unfolding count_trailing_zeros
  material_none z = sym (lowest ∙ rw z refl)

-- ---- steps over a set, from lowest area to lowest area: what is left of the set is moved down, so that its bit j stands for area i + j

unfoldable pub each_left : {A : Type 0} → (ℕ → A → A) → (left i n : ℕ) → A → A
each_left step left i zero a = a
each_left step left i (suc n) a = each_left step (left / 2) (suc i) n (cond (eqb (left % 2) 1) (step i a) a)

module _ {A : Type 0} (step : ℕ → A → A) where
  each_left_law : (set left i n : ℕ) (a : A) → ((j : ℕ) → has set (i + j) ≡ has left j) → each_from set i n step a ≡ each_left step left i n a
  unfolding each_left
  each_left_law set left i zero a f = refl
  each_left_law set left i (suc n) a f =
      ap (λ b. each_from set (suc i) n step (cond b (step i a) a)) (ap (has set) (sym (add-zero i)) ∙ f 0)
      ∙ each_left_law set (left / 2) (suc i) n (cond (eqb (left % 2) 1) (step i a) a) (λ j. ap (has set) (suc-add i j ∙ sym (add-suc i j)) ∙ f (suc j))

  -- no area is left
  left_none : (i n : ℕ) (a : A) → each_left step 0 i n a ≡ a
  unfolding each_left
  left_none i zero a = refl
  left_none i (suc n) a = left_none (suc i) n a

  -- bits beyond the set's own change nothing
  left_more : (left i n k : ℕ) (a : A) → left < 2 ^ n → each_left step left i (n + k) a ≡ each_left step left i n a
  unfolding each_left
  left_more left i zero k a h = let z : left ≡ 0 = omega arith in ap (λ v. each_left step v i (0 + k) a) z ∙ left_none i (0 + k) a
  left_more left i (suc n) k a h =
      ap (λ m. each_left step left i m a) (suc-add n k)
      ∙ left_more (left / 2) (suc i) n k (cond (eqb (left % 2) 1) (step i a) a) (omega (arith, pow-suc 2 n))

  -- the lowest area, and those behind it
  left_step : (left i n m : ℕ) (a : A) → n ≡ suc (count_trailing_zeros n left + m) →
      each_left step left i n a ≡ each_left step (left / 2 ^ count_trailing_zeros n left / 2) (suc (i + count_trailing_zeros n left)) m
      (step (i + count_trailing_zeros n left) a)
  unfolding count_trailing_zeros each_left
  left_step left i zero m a h = absurd (omega arith)
  left_step left i (suc n) m a h = go (left % 2) refl h (left_step (left / 2) (suc i) n m a)
    where
      low : ℕ
      low = count_trailing_zeros n (left / 2)

      go : (d : ℕ)
          → left % 2 ≡ d
          → suc n ≡ suc (under d low + m)
          → (n ≡ suc (low + m)
          → each_left step (left / 2) (suc i) n a ≡ each_left step (left / 2 / 2 ^ low / 2) (suc (suc i + low)) m (step (suc i + low) a))
          → each_left step (left / 2) (suc i) n (cond (eqb (left % 2) 1) (step i a) a)
          ≡ each_left step (left / 2 ^ under d low / 2) (suc (i + under d low)) m (step (i + under d low) a)
      go zero e h r =
          let p : i + suc low ≡ suc i + low = omega arith in
          rw (ne_eqb (left % 2) 1 (omega arith), p, halved left low) (r (omega arith))
      go (suc d) e h r =
          let p : i + 0 ≡ i = omega arith in
          let q : left / 2 ^ 0 ≡ left = omega arith in
          let w : n ≡ m = omega arith in
          rw (eq-eqb (left % 2) 1 (omega arith), p, q, w)

  -- a turn of a loop over a set of w bits
  pub each_turn : (w left i t : ℕ) (a whole : A)
      → left < 2 ^ w
      → t ≡ count_trailing_zeros w left
      → t < w
      → each_left step left i w a ≡ whole
      → each_left step (left / 2 ^ t / 2) (suc (i + t)) w (step (i + t) a) ≡ whole
  each_turn w left i t a whole h e l k = go (w - suc t) (omega arith)
    where
      go : (m : ℕ) → w ≡ m + suc t → each_left step (left / 2 ^ t / 2) (suc (i + t)) w (step (i + t) a) ≡ whole
      go m q =
          let b : left / 2 ^ t / 2 < 2 ^ m = rw (div-div-eq-div-mul left (2 ^ t) 2, ← pow-suc 2 t) (shr_lt m (suc t) (rw q at h)) in
          ap (λ n. each_left step (left / 2 ^ t / 2) (suc (i + t)) n (step (i + t) a)) q
          ∙ (left_more (left / 2 ^ t / 2) (suc (i + t)) m (suc t) (step (i + t) a) b ∙ (sym (rw e (left_step left i w m a (omega arith))) ∙ k))

  pub each_done : (w left i : ℕ) (a whole : A) → left ≡ 0 → each_left step left i w a ≡ whole → a ≡ whole
  each_done w left i a whole z k = sym (left_none i w a) ∙ (ap (λ v. each_left step v i w a) (sym z) ∙ k)

  pub each_begin : (set : ℕ) (a : A) → each_left step set 0 64 a ≡ each set step a
  unfolding each
  each_begin set a = sym (each_left_law set set 0 64 a (λ j. ap (has set) (zero-add j)))

-- behind the lowest area, bit j of what is left stands for area i + t + 1 + j
pub left_has : (set left i t : ℕ) → ((j : ℕ) → has set (i + j) ≡ has left j) → (j : ℕ) → has set (suc (i + t) + j) ≡ has (left / 2 ^ t / 2) j
left_has set left i t f j = ap (has set) (place i t j) ∙ (f (t + suc j) ∙ sym (has_shift t left (suc j)))
  where
    place : (i t j : ℕ) → suc (i + t) + j ≡ i + (t + suc j)
    place i t j = omega arith
