-- Positions beside five curves, on them and off them: whether each counts, computed by the quick test; and by `sentence` what document 02's sentence
-- says of it.
use mathlib.Core.Bool.{Bool, true, not, ◌&&◌}
use mathlib.Core.List.{List, [], ◌∷◌}
use Prim.Native.Nat.{ℕ}
use lib.Dec.{T, T_not}
use Rattle.laws.proofs.Booleans.{&&_left, &&_right}
use Rattle.curves.specs.Lines.{product}
use Rattle.curves.specs.Curves.{rises, in_order, CountsBy, side, curve_counts}
use Rattle.curves.proofs.Sentences.{sentence}

-- a curve from its lower end, of five kinds: with the control corner right of the chord, left of it, and on it; x that rise and x that fall
pub data Drawn : Type 0 where
  curve : (x0 y0 x1 y1 x2 y2 : ℕ) → Drawn

abbrev rightward : Drawn
rightward = curve 0 0 8 0 8 8

abbrev upward : Drawn
upward = curve 0 0 0 8 8 8

abbrev leftward : Drawn
leftward = curve 8 0 8 8 0 8

abbrev inward : Drawn
inward = curve 8 0 0 0 0 8

abbrev straight : Drawn
straight = curve 0 0 4 4 8 8

-- a position, and whether the curve counts there
pub data Spot : Type 0 where
  counts : Drawn → (x y : ℕ) → Spot
  not_counts : Drawn → (x y : ℕ) → Spot

abbrev pub table : List Spot
table =
    counts rightward 5 2 ∷ counts rightward 7 4 ∷ counts rightward 7 7
    ∷ not_counts rightward 6 2 ∷ not_counts rightward 8 4 ∷ not_counts rightward 0 0
    ∷ counts upward 1 6 ∷ counts upward 0 4
    ∷ not_counts upward 2 6 ∷ not_counts upward 1 4
    ∷ counts leftward 5 6 ∷ counts leftward 7 2 ∷ counts leftward 7 0
    ∷ not_counts leftward 6 6 ∷ not_counts leftward 8 2 ∷ not_counts leftward 8 0
    ∷ counts inward 1 2 ∷ counts inward 7 0 ∷ counts inward 0 4
    ∷ not_counts inward 2 2 ∷ not_counts inward 8 0
    ∷ counts straight 3 4
    ∷ not_counts straight 4 4
    ∷ []

abbrev test : Drawn → (x y : ℕ) → Bool
test (curve x0 y0 x1 y1 x2 y2) x y = curve_counts x0 y0 x1 y1 x2 y2 x y

abbrev ordered : Drawn → Bool
ordered (curve x0 y0 x1 y1 x2 y2) = rises y0 y1 y2 && in_order x0 x1 x2

abbrev right : Spot → Bool
right (counts c x y) = ordered c && test c x y
right (not_counts c x y) = ordered c && not (test c x y)

-- what the sentence says
abbrev pub By : Drawn → (x y : ℕ) → Type 0
By (curve x0 y0 x1 y1 x2 y2) x y = CountsBy x0 y0 x1 y1 x2 y2 x y

abbrev pub Says : Spot → Type 0
Says (counts c x y) = By c x y
Says (not_counts c x y) = By c x y → ⊥

by_test : (c : Drawn) (x y : ℕ) → T (ordered c) → (T (test c x y) → By c x y) × (By c x y → T (test c x y))
by_test (curve x0 y0 x1 y1 x2 y2) x y o =
    sentence x0 y0 x1 y1 x2 y2 x y (&&_left (rises y0 y1 y2) (in_order x0 x1 x2) o) (&&_right (rises y0 y1 y2) (in_order x0 x1 x2) o)

says : (s : Spot) → T (right s) → Says s
says (counts c x y) t = (by_test c x y (&&_left (ordered c) (test c x y) t)).0 (&&_right (ordered c) (test c x y) t)
says (not_counts c x y) t =
    λ b. T_not (test c x y) (&&_right (ordered c) (not (test c x y)) t) ((by_test c x y (&&_left (ordered c) (not (test c x y)) t)).1 b)

abbrev all_right : List Spot → Bool
all_right [] = true
all_right (s ∷ l) = right s && all_right l

abbrev pub AllSay : List Spot → Type 0
AllSay [] = Unit {0}
AllSay (s ∷ l) = Says s × AllSay l

all_say : (l : List Spot) → T (all_right l) → AllSay l
all_say [] t = tt
all_say (s ∷ l) t = (says s (&&_left (right s) (all_right l) t), all_say l (&&_right (right s) (all_right l) t))

checked : T (all_right table)
unfolding product side curve_counts
checked = tt

pub spots : AllSay table
spots = all_say table checked
