-- The tally of a stream, from its weight and its start numbers.
use mathlib.Core.Path.{◌≡◌, refl}
use mathlib.Core.List.{List, [], ◌∷◌}
use Prim.Native.Nat.{ℕ, ◌+◌, ◌*◌, ◌/◌, ◌%◌, ◌≤◌}
use native.Mathlib.Omega.{arith}
use lib.ListN.{length}
use Rattle.pruning.specs.code.Weights.{total}
use Rattle.cells.specs.Segments.{drawn, shortcut}
use Rattle.cells.specs.Elements.{Element, opens, bar, closes, bare, named, segment}
use Rattle.cells.specs.code.Making.{element_size}
use Rattle.child_stream.specs.declared.Count.{Count}
use Rattle.child_stream.specs.code.Numbers.{starts_in}
use Rattle.four_children.specs.code.Numbers.{line_one, tally, tally_n}

abbrev area_one : Element → ℕ
area_one opens = 0
area_one bar = 0
area_one closes = 0
area_one bare = 0
area_one (named n z) = 1
area_one (segment g) = 0

element_is : (r : Element) → (element_size r ≡ 1 + 65536 * line_one r + 4294967296 * area_one r) × (line_one r ≤ 1)
element_is opens = (refl, omega arith)
element_is bar = (refl, omega arith)
element_is closes = (refl, omega arith)
element_is bare = (refl, omega arith)
element_is (named n z) = (refl, omega arith)
element_is (segment (drawn l)) = (refl, omega arith)
element_is (segment (shortcut z lo hi)) = (refl, omega arith)

pub total_is : (rs : List Element)
    → (total element_size rs ≡ length rs + 65536 * total line_one rs + 4294967296 * total area_one rs) × (total line_one rs ≤ length rs)
total_is [] = (refl, omega arith)
total_is (r ∷ rs) =
    let a = element_is r in
    let b = total_is rs in
    (omega (arith, a.0, b.0), omega (arith, a.1, b.1))

-- the lines that a weight tells, of a stream that is not too long
pub lines_weight : (rs : List Element) (n : ℕ) → length rs ≤ 4096 → n ≡ total element_size rs → n / 65536 % 65536 ≡ total line_one rs
lines_weight rs n h e = omega (arith, (total_is rs).0, (total_is rs).1, e)

pub tally_is : (rs : List Element) (k : Count) → length rs ≤ 4096 → k.weight ≡ total element_size rs → k.starts ≡ starts_in rs → tally_n k ≡ tally rs
tally_is rs k h e z = λ d. record { entries = x d; lines = y d; starts = z d }
  where
    x : k.weight % 65536 ≡ length rs
    x = omega (arith, (total_is rs).0, e)

    y : k.weight / 65536 % 65536 ≡ total line_one rs
    y = lines_weight rs k.weight h e
