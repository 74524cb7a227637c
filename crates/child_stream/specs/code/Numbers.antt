-- The start numbers as the code holds them, while it counts and in the end. `Rattle.child_stream.proofs` says that they are those of the elements.
use Rattle.std.specs.Prelude.{cond, List, [], ◌∷◌, ℕ, zero, suc, ◌/◌, ltb, length, set, ℤ, pos, Option}
use Rattle.cells.specs.Elements.{Element}
use Rattle.pruner.specs.declared.Pruner.{Pruner}
use Rattle.making.specs.declared.Waiting.{Waiting}
use Rattle.making.specs.code.Numbers.{start_in}
use Rattle.child_stream.specs.declared.Starts.{Starts}
use Rattle.child_stream.specs.code.Starts.{starts_of}

abbrev pub starts : ℕ → List ℤ → Starts
starts n zs = record { count = n; at = zs }

-- how many areas stand in what weighs n: each weighs 4,294,967,296 and less
abbrev pub areas_in : ℕ → ℕ
areas_in n = n / 4294967296

-- number k is z
unfoldable pub put_start : List ℤ → (k : ℕ) → ℤ → List ℤ
put_start zs k z = cond (ltb k 64) (set zs k z) zs

-- the start number of the area that waits, behind those of the areas that stand
abbrev pub noted_n : List ℤ → Pruner → Option Waiting → List ℤ
noted_n zs p a = put_start zs (areas_in p.weight) (start_in a)

-- the first n numbers, and zeros in place of the others
unfoldable pub first_of : ℕ → List ℤ → List ℤ
first_of n [] = []
first_of zero (z ∷ zs) = pos 0 ∷ first_of zero zs
first_of (suc n) (z ∷ zs) = z ∷ first_of n zs

-- n numbers: these, and zeros behind them
unfoldable pub filled : ℕ → List ℤ → List ℤ
filled zero zs = []
filled (suc n) [] = pos 0 ∷ filled n []
filled (suc n) (z ∷ zs) = z ∷ filled n zs

-- those of a stream: how many, and an array of 64 places, as a drawing has at most 64 areas
abbrev pub starts_in : List Element → Starts
starts_in rs = record { count = length (starts_of rs); at = filled 64 (starts_of rs) }
