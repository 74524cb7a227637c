-- A rule of a table, shown at each index by one test that the checker computes over the whole table.
use mathlib.Core.Bool.{Bool}
use mathlib.Core.List.{List, [], ◌∷◌}
use Prim.Native.Nat.{ℕ, zero, suc, ◌<◌}
use native.Mathlib.Nat.{le_of_suc-le-suc, not-suc-le-zero}
use lib.Dec.{T}
use lib.ListN.{length, get_or}
use Rattle.laws.specs.Tables.{all_entries}
use Rattle.laws.proofs.Booleans.{&&_left, &&_right}

pub entry_at : (test : ℕ → ℕ → Bool) (xs : List ℕ) → T (all_entries test xs) → (k : ℕ) → k < length xs → T (test k (get_or xs k 0))
entry_at test [] t k h = absurd (not-suc-le-zero h)
entry_at test (x ∷ xs) t zero h = &&_left (test zero x) (all_entries (λ k. test (suc k)) xs) t
entry_at test (x ∷ xs) t (suc k) h = entry_at (λ k. test (suc k)) xs (&&_right (test zero x) (all_entries (λ k. test (suc k)) xs) t) k (le_of_suc-le-suc h)
