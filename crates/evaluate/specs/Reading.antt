-- Document 01, "Cells", and document 02, Item 2: a stream in tables, read at a position in one pass.
use Rattle.std.specs.Prelude.{Bool, List, [], ◌∷◌, ℕ, ◌+◌, ◌*◌, eqb, get_or, ℤ}
use Rattle.std.specs.Int.{w32}
use Rattle.std.proofs.Common.{to_z}
use Rattle.geometry.specs.FillRules as FillRules
use Rattle.geometry.specs.Windings as Windings
use Rattle.pruning.specs.Sides.{Kind}
use Rattle.stream.specs.declared.Words.{Words}
use Rattle.stream.specs.Entry.{Entry, opens, bar, closes, area, line, curve, shortcut, passes, bad, decode}
use Rattle.cells.specs.Cells.{at}
use Rattle.cells.specs.Segments.{drawn, adds_at}
use Rattle.cells.specs.Segments as Segments
use Rattle.cells.specs.Drawings.{rule_of, kind_of}
use Rattle.cells.specs.Elements.{Element, named, segment, bare, read_elements}
use Rattle.cells.specs.Elements as Elements

-- what the words of an entry say, in front of the elements behind it
abbrev pub element_for : Entry → List Element → List Element
element_for opens ws = Elements.opens ∷ ws
element_for bar ws = Elements.bar ∷ ws
element_for closes ws = Elements.closes ∷ ws
element_for (area n q) ws = named n (to_z w32 q) ∷ ws
element_for (line a b) ws = segment (drawn (Windings.line a b)) ∷ ws
element_for (curve a) ws = segment (drawn (Windings.curve a)) ∷ ws
element_for (shortcut s a b) ws = segment (Segments.shortcut (to_z w32 s) a b) ∷ ws
element_for passes ws = bare ∷ ws
element_for bad ws = ws

unfoldable pub elements_in : List Words → List Element
elements_in [] = []
elements_in (w ∷ ws) = element_for (decode w) (elements_in ws)

-- ---- an area in its table of eight words: role, fill rule, alpha, ...

abbrev pub role_at : List ℕ → ℕ → Kind
role_at areas n = kind_of (get_or areas (n * 8) 0)

abbrev pub pass_at : List ℕ → ℕ → ℤ → Bool
pass_at areas n z = FillRules.passes (rule_of (get_or areas (n * 8 + 1) 0)) z

abbrev pub opaque_at : List ℕ → ℕ → Bool
opaque_at areas n = eqb (get_or areas (n * 8 + 2) 0) 255

-- the shown set at (x, y)
unfoldable pub set_at : (areas xs ys : List ℕ) → (x y : ℕ) → List Words → ℕ
set_at areas xs ys x y ws = read_elements (role_at areas) (pass_at areas) (opaque_at areas) (adds_at xs ys (at x y)) (elements_in ws)
