-- The level of a side is the number of its trailing zeros.
use mathlib.Core.Path.{◌≡◌, refl, ap, ◌∙◌}
use mathlib.Core.Bool.{Bool, true, false, cond, ◌&&◌, ◌||◌}
use Prim.Native.Nat.{ℕ, zero, suc, ◌^◌}
use lib.Dec.{eqb}
use borrow.Author.Tests.{eqb-true}
use Rattle.std.specs.Int.Count.{count_trailing_zeros}
use Rattle.laws.proofs.Booleans.{and_left, and_right}
use Rattle.celltable.specs.Ranges.{power_up_to, side_range, level_up_to, level_of}

-- of each power of two up to 2 ^ n
abbrev zeros_agree : ℕ → Bool
zeros_agree zero = eqb (count_trailing_zeros 32 1) 0
zeros_agree (suc n) = eqb (count_trailing_zeros 32 (2 ^ suc n)) (suc n) && zeros_agree n

zeros_up_to : (n s : ℕ) → zeros_agree n ≡ true → power_up_to n s ≡ true → count_trailing_zeros 32 s ≡ level_up_to n s
unfolding power_up_to level_up_to
zeros_up_to zero s a h = ap (count_trailing_zeros 32) (eqb-true s 1 h) ∙ eqb-true (count_trailing_zeros 32 1) 0 a
zeros_up_to (suc n) s a h = go (eqb s (2 ^ suc n)) refl (λ q. zeros_up_to n s (and_right (eqb (count_trailing_zeros 32 (2 ^ suc n)) (suc n))
    (zeros_agree n) a) q) h
  where
    go : (b : Bool)
        → eqb s (2 ^ suc n) ≡ b
        → (power_up_to n s ≡ true → count_trailing_zeros 32 s ≡ level_up_to n s)
        → (b || power_up_to n s) ≡ true
        → count_trailing_zeros 32 s ≡ cond b (suc n) (level_up_to n s)
    go true e f q =
        ap (count_trailing_zeros 32) (eqb-true s (2 ^ suc n) e) ∙ eqb-true (count_trailing_zeros 32 (2 ^ suc n)) (suc n)
        (and_left (eqb (count_trailing_zeros 32 (2 ^ suc n)) (suc n)) (zeros_agree n) a)
    go false e f q = f q

pub zeros_level : (side : ℕ) → side_range side ≡ true → count_trailing_zeros 32 side ≡ level_of side
unfolding count_trailing_zeros
zeros_level side h = zeros_up_to 16 side refl h
