-- Every number of a range passes a test. `Rattle.laws.proofs.Ranges` says what that means.
use Rattle.std.specs.Prelude.{Bool, true, ◌&&◌, ℕ, zero, suc, ◌-◌}

-- the test holds at each of the n numbers from lo
unfoldable pub all : (lo n : ℕ) → (ℕ → Bool) → Bool
all lo zero test = true
all lo (suc n) test = test lo && all (suc lo) n test

-- the test holds at each number from lo to hi − 1
abbrev pub all_in : (lo hi : ℕ) → (ℕ → Bool) → Bool
all_in lo hi test = all lo (hi - lo) test
