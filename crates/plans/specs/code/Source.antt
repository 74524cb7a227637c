-- What cell 0's stream is made from, in the code's order: one element for each record but a control corner. Document 01's form is `source`
-- (`Rattle.cells.specs.Streams`);
-- `source_elements` says that the elements are the same.
use Rattle.std.specs.Prelude.{List, [], ◌∷◌, ℕ, suc, pos}
use Rattle.geometry.specs.Windings.{Line, line, curve}
use Rattle.records.specs.declared.Record.{Record}
use Rattle.records.specs.declared.Record.TheVariants.{Area, First, Next, Control, Open, Bar, Close}
use Rattle.cells.specs.Segments.{drawn}
use Rattle.cells.specs.Elements.{Element, opens, bar, closes, named, segment}

-- "corner to next corner, the closing edge last of its contour": the line or curve from corner c, with these records behind it and `first` for the
-- contour's first corner
abbrev pub edge_from : List Record → (c first : ℕ) → Line
edge_from [] c first = line c first
edge_from (Area f ∷ rs) c first = line c first
edge_from (First x y ∷ rs) c first = line c first
edge_from (Next x y ∷ rs) c first = line c (suc c)
edge_from (Control x y ∷ rs) c first = curve c
edge_from (Open ∷ rs) c first = line c first
edge_from (Bar ∷ rs) c first = line c first
edge_from (Close ∷ rs) c first = line c first

-- "each area, then its edges, contour by contour": the elements, where the first area among these records is area a, the first corner corner c, and
-- `first` is the first corner of the contour before
abbrev pub source_from : (a c first : ℕ) → List Record → List Element
source_from a c first [] = []
source_from a c first (Area f ∷ rs) = named a (pos 0) ∷ source_from (suc a) c first rs
source_from a c first (First x y ∷ rs) = segment (drawn (edge_from rs c c)) ∷ source_from a (suc c) c rs
source_from a c first (Next x y ∷ rs) = segment (drawn (edge_from rs c first)) ∷ source_from a (suc c) first rs
source_from a c first (Control x y ∷ rs) = source_from a (suc c) first rs
source_from a c first (Open ∷ rs) = opens ∷ source_from a c first rs
source_from a c first (Bar ∷ rs) = bar ∷ source_from a c first rs
source_from a c first (Close ∷ rs) = closes ∷ source_from a c first rs

abbrev pub source_of : List Record → List Element
source_of rs = source_from 0 0 0 rs
