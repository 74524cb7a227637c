-- Document 01, "Drawing", and document 02, Item 2: the drawing of a list of records. Areas and corners count from 0, in the order of the records.
use Rattle.std.specs.Prelude.{Bool, true, false, List, [], ◌∷◌, ℕ, suc}
use Rattle.geometry.specs.Windings.{Piece, straight, bent, Contour, contour}
use Rattle.records.specs.declared.Fields.{Fields}
use Rattle.records.specs.declared.Record.{Record}
use Rattle.records.specs.declared.Record.TheVariants.{Area, First, Next, Control, Open, Bar, Close}
use Rattle.read.specs.Words.{x_words, y_words}
use Rattle.pruning.specs.Sides.{Entry, item, push, activate, pop}
use Rattle.pruning.specs.Grammar.{tree}
use Rattle.cells.specs.Drawings.{Drawing, kind_of}

-- "Areas count from 0, front first": the fields of the areas, in their order
abbrev pub fields_in : List Record → List Fields
fields_in [] = []
fields_in (Area f ∷ rs) = f ∷ fields_in rs
fields_in (First x y ∷ rs) = fields_in rs
fields_in (Next x y ∷ rs) = fields_in rs
fields_in (Control x y ∷ rs) = fields_in rs
fields_in (Open ∷ rs) = fields_in rs
fields_in (Bar ∷ rs) = fields_in rs
fields_in (Close ∷ rs) = fields_in rs

-- a piece of a contour, up to a next corner: a curve where a control corner stands straight before that
abbrev pub piece_by : (control : Bool) → Piece
piece_by true = bent
piece_by false = straight

-- "3, next corner"; document 02: "Record kind 7 is a control corner": the pieces of a contour whose next corners and control corners stand at the
-- front
abbrev pub pieces : (control : Bool) → List Record → List Piece
pieces b [] = []
pieces b (Area f ∷ rs) = []
pieces b (First x y ∷ rs) = []
pieces b (Next x y ∷ rs) = piece_by b ∷ pieces false rs
pieces b (Control x y ∷ rs) = pieces true rs
pieces b (Open ∷ rs) = []
pieces b (Bar ∷ rs) = []
pieces b (Close ∷ rs) = []

-- "2, first corner of a contour": the contours begun before the next area or delimiter, each with its first corner and the pieces straight
-- after it; the first corner among these records is corner c
abbrev pub contours_here : (c : ℕ) → List Record → List Contour
contours_here c [] = []
contours_here c (Area f ∷ rs) = []
contours_here c (First x y ∷ rs) = contour c (pieces false rs) ∷ contours_here (suc c) rs
contours_here c (Next x y ∷ rs) = contours_here (suc c) rs
contours_here c (Control x y ∷ rs) = contours_here (suc c) rs
contours_here c (Open ∷ rs) = []
contours_here c (Bar ∷ rs) = []
contours_here c (Close ∷ rs) = []

-- "Kind 2 stands straight after kind 1, 2 or 3": of each area the contours that stand straight after it; "An area may have no contour."
abbrev pub contours_from : (c : ℕ) → List Record → List (List Contour)
contours_from c [] = []
contours_from c (Area f ∷ rs) = contours_here c rs ∷ contours_from c rs
contours_from c (First x y ∷ rs) = contours_from (suc c) rs
contours_from c (Next x y ∷ rs) = contours_from (suc c) rs
contours_from c (Control x y ∷ rs) = contours_from (suc c) rs
contours_from c (Open ∷ rs) = contours_from c rs
contours_from c (Bar ∷ rs) = contours_from c rs
contours_from c (Close ∷ rs) = contours_from c rs

-- "4 `(`, 5 `|`, 6 `)`": the numbered areas and the delimiters, in their order; the first area among these records is area a. "An area's role
-- fits its side": the kind of the side is told by the role
abbrev pub entries_from : (a : ℕ) → List Record → List (Entry ℕ)
entries_from a [] = []
entries_from a (Area f ∷ rs) = item (kind_of f.role) a ∷ entries_from (suc a) rs
entries_from a (First x y ∷ rs) = entries_from a rs
entries_from a (Next x y ∷ rs) = entries_from a rs
entries_from a (Control x y ∷ rs) = entries_from a rs
entries_from a (Open ∷ rs) = push ∷ entries_from a rs
entries_from a (Bar ∷ rs) = activate ∷ entries_from a rs
entries_from a (Close ∷ rs) = pop ∷ entries_from a rs

-- the drawing; "Once read, corner coordinates lie in lent 32-bit tables": the words of the x and y tables, in the order of the corners
abbrev pub drawing_from : List Record → Drawing
drawing_from rs = record { fields = fields_in rs; xs = x_words rs; ys = y_words rs; contours = contours_from 0 rs; plan = tree (entries_from 0 rs) }
