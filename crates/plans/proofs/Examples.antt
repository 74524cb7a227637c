-- Drawings and elements of a few records, computed from the definitions.
use mathlib.Core.Path.{◌≡◌, refl}
use mathlib.Core.List.{List, [], ◌∷◌}
use native.Mathlib.Omega.{arith}
use lib.IntN.{pos}
use Rattle.curves.specs.Lines.{line_counts, product}
use Rattle.curves.specs.Curves.{curve_fits, side, curve_counts}
use Rattle.geometry.specs.Edges.{counts, sign}
use Rattle.geometry.specs.Windings.{straight, bent, contour, line, curve, adds, sum_of}
use Rattle.records.specs.declared.Fields.{Fields}
use Rattle.records.specs.declared.Record.{Record}
use Rattle.records.specs.declared.Record.TheVariants.{Area, First, Next, Control, Open, Bar, Close}
use Rattle.records.specs.Record.{area_range}
use Rattle.grammar.specs.Grammar as Grammar
use Rattle.read.specs.Words.{joined}
use Rattle.drawing.specs.code.Held.{Acceptable}
use Rattle.pruning.specs.Sides.{end, leaf, group}
use Rattle.cells.specs.Cells.{at}
use Rattle.cells.specs.Segments.{drawn}
use Rattle.cells.specs.Drawings.{winding}
use Rattle.cells.specs.Elements.{opens, bar, closes, named, segment}
use Rattle.ranges.specs.code.Valid.{lines, Valid}
use Rattle.plans.specs.Plans.{drawing_from}
use Rattle.plans.specs.code.Source.{source_of}
use Rattle.plans.proofs.Valid.{accepted_valid}

abbrev black : Fields
black = record { role = 0; rule = 0; alpha = 255; red = 0; green = 0; blue = 0; material = 1 }

abbrev clipping : Fields
clipping = record { role = 1; rule = 1; alpha = 0; red = 0; green = 0; blue = 0; material = 0 }

-- ---- no records

none_drawing : drawing_from [] ≡ record { fields = []; xs = []; ys = []; contours = []; plan = end }
unfolding joined
none_drawing = refl

-- ---- one area: the triangle (0, 0) (10, 0) (10, 10)

abbrev triangle : List Record
triangle = Area black ∷ First 0 0 ∷ Next 10 0 ∷ Next 10 10 ∷ []

triangle_drawing : drawing_from triangle
    ≡ record {
      fields = black ∷ [];
      xs = 0 ∷ 10 ∷ 10 ∷ [];
      ys = 0 ∷ 0 ∷ 10 ∷ [];
      contours = (contour 0 (straight ∷ straight ∷ []) ∷ []) ∷ [];
      plan = leaf 0 end;
    }
unfolding joined
triangle_drawing = refl

triangle_lines : lines (drawing_from triangle) 0 ≡ line 0 1 ∷ line 1 2 ∷ line 2 0 ∷ []
triangle_lines = refl

-- "Triangle (0,0) (10,0) (10,10): winding 1 at (5,5)*, ... 0 at (4,5)*"
triangle_inside : winding (drawing_from triangle) 0 (at 5 5) ≡ pos 1
unfolding joined sum_of adds counts line_counts product sign
triangle_inside = refl

triangle_outside : winding (drawing_from triangle) 0 (at 4 5) ≡ pos 0
unfolding joined sum_of adds counts line_counts product sign
triangle_outside = refl

triangle_source : source_of triangle ≡ named 0 (pos 0) ∷ segment (drawn (line 0 1)) ∷ segment (drawn (line 1 2)) ∷ segment (drawn (line 2 0)) ∷ []
triangle_source = refl

-- it is accepted: so what the theorems ask can be met
triangle_accepted : Acceptable triangle (Grammar.counts 4 1 3)
unfolding area_range Grammar.checked Grammar.course
triangle_accepted = record { range = refl; below = omega arith; fold = refl }

triangle_valid : Valid (drawing_from triangle)
triangle_valid = accepted_valid triangle (Grammar.counts 4 1 3) triangle_accepted

-- ---- one area with a curved side: from (0, 0) by the control corner (8, 0) to (8, 8)

abbrev berm : List Record
berm = Area black ∷ First 0 0 ∷ Control 8 0 ∷ Next 8 8 ∷ Next 0 8 ∷ []

berm_drawing : drawing_from berm
    ≡ record {
      fields = black ∷ [];
      xs = 0 ∷ 8 ∷ 8 ∷ 0 ∷ [];
      ys = 0 ∷ 0 ∷ 8 ∷ 8 ∷ [];
      contours = (contour 0 (bent ∷ straight ∷ []) ∷ []) ∷ [];
      plan = leaf 0 end;
    }
unfolding joined
berm_drawing = refl

berm_lines : lines (drawing_from berm) 0 ≡ curve 0 ∷ line 2 3 ∷ line 3 0 ∷ []
berm_lines = refl

berm_source : source_of berm ≡ named 0 (pos 0) ∷ segment (drawn (curve 0)) ∷ segment (drawn (line 2 3)) ∷ segment (drawn (line 3 0)) ∷ []
berm_source = refl

-- left of the curve, and on it
berm_inside : winding (drawing_from berm) 0 (at 5 2) ≡ pos 1
unfolding joined sum_of adds counts line_counts curve_counts side product sign
berm_inside = refl

berm_on : winding (drawing_from berm) 0 (at 6 2) ≡ pos 0
unfolding joined sum_of adds counts line_counts curve_counts side product sign
berm_on = refl

berm_accepted : Acceptable berm (Grammar.counts 5 1 4)
unfolding area_range curve_fits Grammar.checked Grammar.course
berm_accepted = record { range = refl; below = omega arith; fold = refl }

berm_valid : Valid (drawing_from berm)
berm_valid = accepted_valid berm (Grammar.counts 5 1 4) berm_accepted

-- ---- a group: on its left a clip area of two contours, on its right an area with no contour, and the triangle behind it

abbrev clipped : List Record
clipped =
    Open
    ∷ Area clipping
    ∷ First 0 0
    ∷ Next 9 0
    ∷ Next 9 9
    ∷ First 1 1
    ∷ Next 5 1
    ∷ Next 5 5
    ∷ Next 1 5
    ∷ Bar
    ∷ Area black
    ∷ Close
    ∷ Area black
    ∷ First 0 0
    ∷ Next 10 0
    ∷ Next 10 10
    ∷ []

clipped_contours : (drawing_from clipped).contours ≡ (contour 0 (straight ∷ straight ∷ []) ∷ contour 3 (straight ∷ straight ∷ straight ∷ []) ∷ [])
    ∷ []
    ∷ (contour 7 (straight ∷ straight ∷ []) ∷ [])
    ∷ []
clipped_contours = refl

clipped_plan : (drawing_from clipped).plan ≡ group (leaf 0 end) (leaf 1 end) (leaf 2 end)
clipped_plan = refl

clipped_lines : lines (drawing_from clipped) 0 ≡ line 0 1 ∷ line 1 2 ∷ line 2 0 ∷ line 3 4 ∷ line 4 5 ∷ line 5 6 ∷ line 6 3 ∷ []
clipped_lines = refl

clipped_source : source_of clipped
    ≡ opens
    ∷ named 0 (pos 0)
    ∷ segment (drawn (line 0 1))
    ∷ segment (drawn (line 1 2))
    ∷ segment (drawn (line 2 0))
    ∷ segment (drawn (line 3 4))
    ∷ segment (drawn (line 4 5))
    ∷ segment (drawn (line 5 6))
    ∷ segment (drawn (line 6 3))
    ∷ bar
    ∷ named 1 (pos 0)
    ∷ closes
    ∷ named 2 (pos 0)
    ∷ segment (drawn (line 7 8))
    ∷ segment (drawn (line 8 9))
    ∷ segment (drawn (line 9 7))
    ∷ []
clipped_source = refl

clipped_accepted : Acceptable clipped (Grammar.counts 16 3 10)
unfolding area_range Grammar.checked Grammar.course
clipped_accepted = record { range = refl; below = omega arith; fold = refl }
