-- Weights, what is left, and the range of the sums.
use mathlib.Core.Path.{◌≡◌, refl, sym, ap, ◌∙◌}
use mathlib.Core.Bool.{Bool, true, false, cond}
use Prim.Native.Nat.{ℕ, zero, suc, ◌+◌, ◌*◌, ◌-◌, ◌/◌, ◌^◌, ◌≤◌, ◌<◌}
use native.Mathlib.Nat.{mul-le-mul, le_refl, zero-add, div-le_self}
use native.Mathlib.Numerals.{add-one}
use native.Mathlib.Omega.{arith}
use lib.Count.{count_trailing_zeros}
use Rattle.paint.specs.Sets.{has, each_from, each}
use Rattle.paint.specs.Colours.{weight, add, start, mix_of, MixIn, Shares, shares, left, weights, share, shares_of}
use Rattle.paint.proofs.Sets.{has_none, has_below, lowest_has, each_left, each_turn, each_done, each_begin, left_has}
use Rattle.paint.specs.declared.area.Paint.{Paint}
use Rattle.paint.specs.declared.colour.Mix.{Mix}

-- a weight is at most what is left
pub weight_le : (left alpha : ℕ) → alpha ≤ 255 → weight left alpha ≤ left
weight_le left alpha h = let p : left * alpha ≤ left * 255 = mul-le-mul (le_refl left) h in omega arith

-- ---- what holds of the first and is kept by each step holds at the end

pub each_keeps : {A : Type 0} (P : A → Type 0) (step : ℕ → A → A) (set i n : ℕ)
    → ((k : ℕ) → has set k ≡ true → (a : A) → P a → P (step k a))
    → (a : A)
    → P a
    → P (each_from set i n step a)
each_keeps P step set i zero f a p = p
each_keeps P step set i (suc n) f a p = each_keeps P step set (suc i) n f (cond (has set i) (step i a) a) (one (has set i) refl)
  where
    one : (b : Bool) → has set i ≡ b → P (cond b (step i a) a)
    one true e = f i e a p
    one false e = p

-- ---- "the weights and what is left always make 255"

pub shares_make_255 : (paint : ℕ → Paint) (set : ℕ)
    → ((n : ℕ) → has set n ≡ true → (paint n).alpha ≤ 255)
    → weights (shares_of paint set) + left (shares_of paint set) ≡ 255
unfolding shares_of each
shares_make_255 paint set h =
    each_keeps (λ s. weights s + left s ≡ 255) (λ n s. share (paint n) s) set 0 64
    (λ k e s p. kept (paint k) (h k e) s p) (shares 255 0) (omega arith)
  where
    kept : (p : Paint) → p.alpha ≤ 255 → (s : Shares) → weights s + left s ≡ 255 → weights (share p s) + left (share p s) ≡ 255
    kept p h (shares l w) e = omega (arith, weight_le l p.alpha h)

-- what is left after the weights is what is left in the mix
pub mix_left : (paint : ℕ → Paint) (set : ℕ) → (mix_of paint set).left ≡ left (shares_of paint set)
unfolding shares_of mix_of each
mix_left paint set = go 0 64 start (shares 255 0) refl
  where
    both : (b : Bool) (p : Paint) (m : Mix) (s : Shares) → m.left ≡ left s → (cond b (add p m) m).left ≡ left (cond b (share p s) s)
    both true p m (shares l w) e = ap (λ v. v - weight v p.alpha) e
    both false p m s e = e

    go : (i n : ℕ) (m : Mix) (s : Shares)
        → m.left ≡ left s
        → (each_from set i n (λ n m. add (paint n) m) m).left ≡ left (each_from set i n (λ n s. share (paint n) s) s)
    go i zero m s e = e
    go i (suc n) m s e = go (suc i) n (cond (has set i) (add (paint i) m) m) (cond (has set i) (share (paint i) s) s) (both (has set i) (paint i) m s e)

-- ---- no sum passes 255 × 255

pub start_in_law : MixIn start
start_in_law = record { left_in = omega arith; red_in = omega arith; green_in = omega arith; blue_in = omega arith }

-- ---- the loop over a shown set: what is left of the set, moved down, and the mix so far

pub record Mixing (paint : ℕ → Paint) (shown left first : ℕ) (m : Mix) : Type 0 where
  pub limit : shown < 2 ^ 64
  pub bits : left < 2 ^ 64
  pub same : (j : ℕ) → has shown (first + j) ≡ has left j
  pub rest : each_left (λ n m. add (paint n) m) left first 64 m ≡ mix_of paint shown
  pub range : MixIn m

pub mix_begin : (paint : ℕ → Paint) (shown : ℕ) → shown < 2 ^ 64 → Mixing paint shown shown 0 start
unfolding mix_of
mix_begin paint shown h =
    record {
      limit = h;
      bits = h;
      same = λ j. ap (has shown) (zero-add j);
      rest = each_begin (λ n m. add (paint n) m) shown start;
      range = start_in_law;
    }

module _ {paint : ℕ → Paint} {shown left first : ℕ} {m : Mix} (x : Mixing paint shown left first m) (t : ℕ)
    (low : t < 64 × t ≡ count_trailing_zeros 64 left) where
  mix_low : has left t ≡ true
  mix_low = rw low.1 (lowest_has 64 left (omega (arith, low)))

  -- the lowest area that is left is in the shown set
  pub mix_area : has shown (first + t) ≡ true
  mix_area = x.same t ∙ mix_low

  pub mix_number : first + t < 64
  mix_number = has_below 64 shown (first + t) x.limit mix_area

  pub mix_less : left / 2 ^ t / 2 < left
  mix_less = omega (arith, div-le_self left (2 ^ t), nonzero left refl)
    where
      nonzero : (n : ℕ) → left ≡ n → 0 < n
      nonzero zero e = absurd (let q : false ≡ true = sym (has_none t) ∙ (ap (λ s. has s t) (sym e) ∙ mix_low) in cc)
      nonzero (suc n) e = omega arith

  pub mix_turn : (m' : Mix) → m' ≡ add (paint (first + t)) m → MixIn m' → Mixing paint shown (left / 2 ^ t / 2) (first + t + 1) m'
  mix_turn m' e r = rw (add-one (first + t)) (record {
    limit = x.limit;
    bits = omega (arith, mix_less, x.bits);
    same = left_has shown left first t x.same;
    rest = rw e (each_turn (λ n m. add (paint n) m) 64 left first t m (mix_of paint shown) x.bits low.1 low.0 x.rest);
    range = r;
  })

pub mix_done : {paint : ℕ → Paint} {shown left first : ℕ} {m : Mix} → Mixing paint shown left first m → left ≡ 0 → m ≡ mix_of paint shown
mix_done {paint} {shown} {left} {first} {m} x z = each_done (λ n m. add (paint n) m) 64 left first m (mix_of paint shown) z x.rest
