-- How large the numbers of a stream are: no definition of document 01, but a bound that proofs show of the streams that are made.
use Rattle.std.specs.Prelude.{List, [], ◌∷◌, ℕ, ◌+◌, ◌≤◌, length, nat_abs}
use Rattle.pruning.specs.Sides.{Kind}
use Rattle.cells.specs.Segments.{Segment, sign_of}
use Rattle.cells.specs.Drawings.{Drawing}
use Rattle.cells.specs.Streams.{Item, always, area}

-- the signs of lines and shortcuts are at most 1 either way
abbrev pub SignsIn : (xs ys : List ℕ) → List Segment → Type 0
SignsIn xs ys [] = Unit {0}
SignsIn xs ys (g ∷ gs) = (nat_abs (sign_of xs ys g) ≤ 1) × SignsIn xs ys gs

module _ (D : Drawing) where
  -- an area's start number and how many lines and shortcuts it has are at most m together
  abbrev pub Small : (m : ℕ) → Kind → Item → Type 0
  Small m k always = Unit {0}
  Small m k (area n z gs) = (nat_abs z + length gs ≤ m) × SignsIn D.xs D.ys gs
