-- Every entry of a table passes a test. `Rattle.laws.proofs.Tables` says what that means.
use Rattle.std.specs.Prelude.{Bool, true, ◌&&◌, List, [], ◌∷◌, ℕ, zero, suc}

-- the test holds of each index and the number there; behind the first number the indices are one higher
abbrev pub all_entries : (ℕ → ℕ → Bool) → List ℕ → Bool
all_entries test [] = true
all_entries test (x ∷ xs) = test zero x && all_entries (λ k. test (suc k)) xs
