-- A segment in a square's rows: four positions decide whether it counts nowhere or everywhere.
use mathlib.Core.Path.{◌≡◌}
use mathlib.Core.Bool.{Bool, not, ◌&&◌}
use Prim.Native.Nat.{ℕ, ◌+◌, ◌≤◌, ◌<◌}
use native.Mathlib.Omega.{arith}
use lib.Dec.{T}
use Rattle.laws.specs.Ranges.{all_in}
use Rattle.laws.proofs.Booleans.{T_eq, T_contra, &&_left, &&_right, &&_both}
use Rattle.laws.proofs.Ranges.{all_in_at, all_in_of}
use Rattle.curves.proofs.Segments.{Segment}
use Rattle.geometry.specs.Classes.{nowhere, everywhere}

-- ---- what the tests over a square's positions say

module _ (f : ℕ → ℕ → Bool) (lo hi X S : ℕ) where
  pub nowhere_at : T (nowhere f lo hi X S) → (x y : ℕ) → lo ≤ y → y < hi → X ≤ x → x < X + S → T (not (f x y))
  unfolding nowhere
  nowhere_at t x y a b c d = all_in_at (λ x. not (f x y)) (all_in_at (λ y. all_in X (X + S) (λ x. not (f x y))) t y a b) x c d

  pub nowhere_of : ((x y : ℕ) → lo ≤ y → y < hi → X ≤ x → x < X + S → T (not (f x y))) → T (nowhere f lo hi X S)
  unfolding nowhere
  nowhere_of g = all_in_of (λ y. all_in X (X + S) (λ x. not (f x y))) (λ y a b. all_in_of (λ x. not (f x y)) (λ x c d. g x y a b c d))

  pub everywhere_at : T (everywhere f lo hi X S) → (x y : ℕ) → lo ≤ y → y < hi → X ≤ x → x < X + S → T (f x y)
  unfolding everywhere
  everywhere_at t x y a b c d = all_in_at (λ x. f x y) (all_in_at (λ y. all_in X (X + S) (λ x. f x y)) t y a b) x c d

  pub everywhere_of : ((x y : ℕ) → lo ≤ y → y < hi → X ≤ x → x < X + S → T (f x y)) → T (everywhere f lo hi X S)
  unfolding everywhere
  everywhere_of g = all_in_of (λ y. all_in X (X + S) (λ x. f x y)) (λ y a b. all_in_of (λ x. f x y) (λ x c d. g x y a b c d))

-- ---- four positions decide: the leftmost column whether it counts nowhere, the rightmost, z, whether everywhere; in the first row, lo, and the last, l

module _ {f : ℕ → ℕ → Bool} {b d : ℕ} (k : Segment f b d) (lo hi X S l : ℕ) (some : lo < hi) (low : b ≤ lo) (high : hi ≤ d) (wide : 0 < S)
    (last : l + 1 ≡ hi) where
  pub nowhere_quick : nowhere f lo hi X S ≡ not (f X lo) && not (f X l)
  nowhere_quick =
      T_eq _ _
      (λ t. &&_both (not (f X lo)) (not (f X l))
      (nowhere_at f lo hi X S t X lo (omega arith) some (omega arith) (omega arith))
      (nowhere_at f lo hi X S t X l (omega arith) (omega arith) (omega arith) (omega arith)))
      (λ t. nowhere_of f lo hi X S (λ x y p q u v.
      T_contra (f x y) (f X y) (k.leftward X x y u)
      (k.outside X lo y l low p (omega arith) (omega arith) (&&_left (not (f X lo)) (not (f X l)) t) (&&_right (not (f X lo)) (not (f X l)) t))))

  pub everywhere_quick : (z : ℕ) → z + 1 ≡ X + S → everywhere f lo hi X S ≡ f z lo && f z l
  everywhere_quick z right =
      T_eq _ _
      (λ t. &&_both (f z lo) (f z l)
      (everywhere_at f lo hi X S t z lo (omega arith) some (omega arith) (omega arith))
      (everywhere_at f lo hi X S t z l (omega arith) (omega arith) (omega arith) (omega arith)))
      (λ t. everywhere_of f lo hi X S (λ x y p q u v.
      k.leftward x z y (omega arith)
      (k.between z lo y l p (omega arith) (&&_left (f z lo) (f z l) t) (&&_right (f z lo) (f z l) t))))
