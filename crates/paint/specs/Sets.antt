-- Document 01, "Winding and meaning": the shown set as a 64-bit mask.
use Rattle.std.specs.Prelude.{Bool, false, cond, ◌||◌, List, [], ◌∷◌, ℕ, zero, suc, ◌/◌, ◌%◌, ◌^◌, eqb}
use Rattle.std.specs.Int.Bits.{bit_or}

-- area n is in the set: bit n is set
abbrev pub has : (set n : ℕ) → Bool
has set zero = eqb (set % 2) 1
has set (suc n) = has (set / 2) n

-- the set with area n
abbrev pub with_area : (set n : ℕ) → ℕ
with_area set n = bit_or set (2 ^ n)

-- a list of areas names area n
abbrev pub among : List ℕ → ℕ → Bool
among [] n = false
among (m ∷ ms) n = eqb m n || among ms n

-- a set with the areas that a list names; the set of those areas
abbrev pub with_areas : (set : ℕ) → List ℕ → ℕ
with_areas set [] = set
with_areas set (n ∷ ns) = with_areas (with_area set n) ns

abbrev pub set_of : List ℕ → ℕ
set_of ns = with_areas 0 ns

-- "For each shown area, front first": areas count front first, so this is the order of their numbers. Of the n areas from i on, each that is in
-- the set takes one step.
abbrev pub each_from : {A : Type 0} → (set i n : ℕ) → (ℕ → A → A) → A → A
each_from set i zero step a = a
each_from set i (suc n) step a = each_from set (suc i) n step (cond (has set i) (step i a) a)

unfoldable pub each : {A : Type 0} → (set : ℕ) → (ℕ → A → A) → A → A
each set step a = each_from set 0 64 step a
