-- The array of start numbers in the end: those of what is made, and zeros.
use mathlib.Core.Path.{◌≡◌, refl, sym, ap, ◌∙◌}
use mathlib.Core.Bool.{Bool, true, false}
use mathlib.Core.List.{List, [], ◌∷◌}
use Prim.Native.Nat.{ℕ, zero, suc, ◌≤◌, ◌<◌}
use native.Mathlib.Omega.{arith}
use native.Mathlib.Nat.{not-suc-le-zero, le_of_suc-le-suc}
use lib.Dec.{ltb}
use lib.ListN.{length, get_or}
use lib.Seq.{ext_get_or}
use lib.IntN.{ℤ, pos}
use borrow.Author.Tests.{ltb-true, ltb-false}
use Rattle.child_stream.specs.code.Numbers.{first_of, filled}
use Rattle.child_stream.proofs.Fronts.{Stands}

-- ---- the first n numbers

length_first : (n : ℕ) (l : List ℤ) → length (first_of n l) ≡ length l
unfolding first_of
length_first zero [] = refl
length_first (suc n) [] = refl
length_first zero (z ∷ l) = ap suc (length_first zero l)
length_first (suc n) (z ∷ l) = ap suc (length_first n l)

first_at : (n : ℕ) (l : List ℤ) (i : ℕ) → i < n → get_or (first_of n l) i (pos 0) ≡ get_or l i (pos 0)
unfolding first_of
first_at zero l i h = absurd (not-suc-le-zero h)
first_at (suc n) [] i h = refl
first_at (suc n) (z ∷ l) zero h = refl
first_at (suc n) (z ∷ l) (suc i) h = first_at n l i (le_of_suc-le-suc h)

first_rest : (n : ℕ) (l : List ℤ) (i : ℕ) → n ≤ i → get_or (first_of n l) i (pos 0) ≡ pos 0
unfolding first_of
first_rest zero [] i h = refl
first_rest (suc n) [] i h = refl
first_rest zero (z ∷ l) zero h = refl
first_rest zero (z ∷ l) (suc i) h = first_rest zero l i (omega arith)
first_rest (suc n) (z ∷ l) zero h = absurd (not-suc-le-zero h)
first_rest (suc n) (z ∷ l) (suc i) h = first_rest n l i (le_of_suc-le-suc h)

-- ---- n numbers with zeros behind them

length_filled : (n : ℕ) (l : List ℤ) → length (filled n l) ≡ n
unfolding filled
length_filled zero l = refl
length_filled (suc n) [] = ap suc (length_filled n [])
length_filled (suc n) (z ∷ l) = ap suc (length_filled n l)

pub filled_at : (n : ℕ) (l : List ℤ) (i : ℕ) → i < n → get_or (filled n l) i (pos 0) ≡ get_or l i (pos 0)
unfolding filled
filled_at zero l i h = absurd (not-suc-le-zero h)
filled_at (suc n) [] zero h = refl
filled_at (suc n) [] (suc i) h = filled_at n [] i (le_of_suc-le-suc h)
filled_at (suc n) (z ∷ l) zero h = refl
filled_at (suc n) (z ∷ l) (suc i) h = filled_at n l i (le_of_suc-le-suc h)

beyond : (l : List ℤ) (i : ℕ) → length l ≤ i → get_or l i (pos 0) ≡ pos 0
beyond [] i h = refl
beyond (z ∷ l) zero h = absurd (not-suc-le-zero h)
beyond (z ∷ l) (suc i) h = beyond l i (le_of_suc-le-suc h)

pub first_filled : (at zs : List ℤ) → length at ≡ 64 → Stands at zs → first_of (length zs) at ≡ filled 64 zs
first_filled at zs e s = ext_get_or (pos 0) (first_of (length zs) at) (filled 64 zs) (length_first (length zs) at ∙ (e ∙ sym (length_filled 64 zs))) each
  where
    each : (i : ℕ) → i < length (first_of (length zs) at) → get_or (first_of (length zs) at) i (pos 0) ≡ get_or (filled 64 zs) i (pos 0)
    each i h = go (ltb i (length zs)) refl
      where
        low : i < 64
        low = omega (arith, h, length_first (length zs) at, e)

        go : (b : Bool) → ltb i (length zs) ≡ b → get_or (first_of (length zs) at) i (pos 0) ≡ get_or (filled 64 zs) i (pos 0)
        go true t =
            let n : i < length zs = ltb-true i (length zs) t in
            first_at (length zs) at i n ∙ (s i n low ∙ sym (filled_at 64 zs i low))
        go false t =
            let n : length zs ≤ i = ltb-false i (length zs) t in
            first_rest (length zs) at i n ∙ (sym (beyond zs i n) ∙ sym (filled_at 64 zs i low))

-- ---- the loop: the numbers from `count` to i - 1 are zeros, those before them as they were
pub record Cleared (zs₀ : List ℤ) (count i : ℕ) (zs : List ℤ) : Type 0 where
  pub from : count ≤ i
  pub size : length zs ≡ length zs₀
  pub kept : (j : ℕ) → j < count → get_or zs j (pos 0) ≡ get_or zs₀ j (pos 0)
  pub zeros : (j : ℕ) → count ≤ j → j < i → get_or zs j (pos 0) ≡ pos 0

module _ (zs₀ : List ℤ) (long : length zs₀ ≡ 64) (count : ℕ) where
  module _ (i : ℕ) (zs : List ℤ) (k : Cleared zs₀ count i zs) where
    pub clear_end : 64 ≤ i → zs ≡ first_of count zs₀
    clear_end h = ext_get_or (pos 0) zs (first_of count zs₀) (k.size ∙ sym (length_first count zs₀)) each
      where
        each : (j : ℕ) → j < length zs → get_or zs j (pos 0) ≡ get_or (first_of count zs₀) j (pos 0)
        each j l = go (ltb j count) refl
          where
            low : j < i
            low = omega (arith, k.size)

            go : (t : Bool) → ltb j count ≡ t → get_or zs j (pos 0) ≡ get_or (first_of count zs₀) j (pos 0)
            go true t = let n : j < count = ltb-true j count t in k.kept j n ∙ sym (first_at count zs₀ j n)
            go false t = let n : count ≤ j = ltb-false j count t in k.zeros j n low ∙ sym (first_rest count zs₀ j n)
