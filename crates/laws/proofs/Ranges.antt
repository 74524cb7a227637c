-- What a test over a range says, and how to show it.
use mathlib.Core.Path.{subst}
use mathlib.Core.Bool.{Bool}
use Prim.Native.Nat.{ℕ, zero, suc, ◌+◌, ◌-◌, ◌≤◌, ◌<◌}
use native.Mathlib.Omega.{arith}
use native.Mathlib.Decide.{dec_lt}
use lib.Dec.{T}
use Rattle.laws.specs.Ranges.{all, all_in}
use Rattle.laws.proofs.Booleans.{&&_left, &&_right, &&_both}

pub all_at : (lo n : ℕ) (p : ℕ → Bool) → T (all lo n p) → (k : ℕ) → lo ≤ k → k < lo + n → T (p k)
unfolding all
all_at lo zero p t k g h = absurd (empty lo k g h)
  where
    empty : (lo k : ℕ) → lo ≤ k → k < lo + 0 → ⊥
    empty lo k g h = omega arith
all_at lo (suc n) p t k g h = pick (λ q. all_at (suc lo) n p (&&_right (p lo) _ t) k q (omega arith)) (dec_lt lo k)
  where
    pick : (lo < k → T (p k)) → Dec (lo < k) → T (p k)
    pick f (yes q) = f q
    pick f (no q) = subst (λ (m : ℕ). T (p m)) (omega arith) (&&_left (p lo) _ t)

pub all_of : (lo n : ℕ) (p : ℕ → Bool) → ((k : ℕ) → lo ≤ k → k < lo + n → T (p k)) → T (all lo n p)
unfolding all
all_of lo zero p f = tt
all_of lo (suc n) p f = &&_both (p lo) _ (f lo (omega arith) (omega arith)) (all_of (suc lo) n p (λ k g h. f k (omega arith) (omega arith)))

pub all_in_at : {lo hi : ℕ} (p : ℕ → Bool) → T (all_in lo hi p) → (k : ℕ) → lo ≤ k → k < hi → T (p k)
all_in_at {lo} {hi} p t k g h = all_at lo (hi - lo) p t k g (omega arith)

pub all_in_of : {lo hi : ℕ} (p : ℕ → Bool) → ((k : ℕ) → lo ≤ k → k < hi → T (p k)) → T (all_in lo hi p)
all_in_of {lo} {hi} p f = all_of lo (hi - lo) p (λ k g h. f k g (omega arith))
