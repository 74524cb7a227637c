-- Streams of small cells, computed from the definitions.
use mathlib.Core.Path.{◌≡◌, refl}
use mathlib.Core.List.{[], ◌∷◌}
use Prim.Native.Nat.{ℕ}
use lib.IntN.{pos}
use Rattle.laws.specs.Ranges.{all}
use Rattle.curves.specs.Lines.{line_counts, product}
use Rattle.curves.specs.Curves.{side, curve_counts}
use Rattle.geometry.specs.Edges.{counts, sign}
use Rattle.geometry.specs.Windings.{contour, line, curve, straight, bent, straights}
use Rattle.geometry.specs.Classes.{edge_class, class_of, verdict, nowhere, everywhere, cut}
use Rattle.records.specs.declared.Fields.{Fields}
use Rattle.pruning.specs.Sides.{Side, end, leaf, group}
use Rattle.cells.specs.Cells.{Cell, at, cell, child, low_low, high_low, low_high}
use Rattle.cells.specs.Segments.{drawn, shortcut}
use Rattle.cells.specs.Drawings.{Drawing}
use Rattle.cells.specs.Streams.{Item, area, source, made, read_in}

abbrev fields : (role alpha : ℕ) → Fields
fields role alpha = record { role = role; rule = 0; alpha = alpha; red = 0; green = 0; blue = 0; material = 1 }

-- one area of alpha 255: the square from (0, 0) to (4, 4)
abbrev box : Drawing
box =
    record {
      fields = fields 0 255 ∷ [];
      xs = 0 ∷ 4 ∷ 4 ∷ 0 ∷ [];
      ys = 0 ∷ 0 ∷ 4 ∷ 4 ∷ [];
      contours = (contour 0 (straights 3) ∷ []) ∷ [];
      plan = leaf 0 end;
    }

abbrev stream_of : Drawing → Cell → Side Item
stream_of D c = made D c (source D)

-- in the square itself the right side counts everywhere, and the left side nowhere
box_itself : stream_of box (cell 0 0 2) ≡ leaf (area 0 (pos 1) []) end
unfolding edge_class class_of verdict nowhere everywhere cut all counts line_counts product sign
box_itself = refl

-- beside it nothing is left
box_right : stream_of box (cell 4 0 2) ≡ end
unfolding edge_class class_of verdict nowhere everywhere cut all counts line_counts product sign
box_right = refl

box_above : stream_of box (cell 0 4 2) ≡ end
unfolding edge_class class_of verdict nowhere everywhere cut all counts line_counts product sign
box_above = refl

-- in a larger square the right side is kept as a line
box_around : stream_of box (cell 0 0 3) ≡ leaf (area 0 (pos 0) (drawn (line 1 2) ∷ [])) end
unfolding edge_class class_of verdict nowhere everywhere cut all counts line_counts product sign
box_around = refl

-- whose quarters are the squares above
box_quarter : made box (child (cell 0 0 3) low_low) (stream_of box (cell 0 0 3)) ≡ leaf (area 0 (pos 1) []) end
unfolding edge_class class_of verdict nowhere everywhere cut all counts line_counts product sign
box_quarter = refl

-- one area of alpha 128: the square from (0, 1) to (8, 3); in a cell with rows 0 to 3 a shortcut of the rows 1 and 2
abbrev band : Drawing
band =
    record {
      fields = fields 0 128 ∷ [];
      xs = 0 ∷ 8 ∷ 8 ∷ 0 ∷ [];
      ys = 1 ∷ 1 ∷ 3 ∷ 3 ∷ [];
      contours = (contour 0 (straights 3) ∷ []) ∷ [];
      plan = leaf 0 end;
    }

band_rows : stream_of band (cell 0 0 2) ≡ leaf (area 0 (pos 0) (shortcut (pos 1) 1 3 ∷ [])) end
unfolding edge_class class_of verdict nowhere everywhere cut all counts line_counts product sign
band_rows = refl

-- its rows are cut in a quarter
band_cut : made band (child (cell 0 0 2) low_low) (stream_of band (cell 0 0 2)) ≡ leaf (area 0 (pos 0) (shortcut (pos 1) 1 2 ∷ [])) end
unfolding edge_class class_of verdict nowhere everywhere cut all counts line_counts product sign
band_cut = refl

-- a cell of one position in it: the shortcut's rows are all the cell's, and its sign is added to the start number
band_one : made band (cell 0 1 0) (stream_of band (cell 0 0 2)) ≡ leaf (area 0 (pos 1) []) end
unfolding edge_class class_of verdict nowhere everywhere cut all counts line_counts product sign
band_one = refl

-- the box clipped by the left half of it, drawn downward on its right side: (clip | box)
abbrev clipped : Drawing
clipped =
    record {
      fields = fields 1 0 ∷ fields 0 255 ∷ [];
      xs = 0 ∷ 0 ∷ 2 ∷ 2 ∷ 0 ∷ 4 ∷ 4 ∷ 0 ∷ [];
      ys = 0 ∷ 4 ∷ 4 ∷ 0 ∷ 0 ∷ 0 ∷ 4 ∷ 4 ∷ [];
      contours = (contour 0 (straights 3) ∷ []) ∷ (contour 4 (straights 3) ∷ []) ∷ [];
      plan = group (leaf 0 end) (leaf 1 end) end;
    }

-- the group stands where its left side is not known
clipped_both : stream_of clipped (cell 0 0 2) ≡ group (leaf (area 0 (pos 0) (drawn (line 2 3) ∷ [])) end) (leaf (area 1 (pos 1) []) end) end
unfolding edge_class class_of verdict nowhere everywhere cut all counts line_counts product sign
clipped_both = refl

-- in the left half the clip always passes: its right side takes its place; in the right half it never does
clipped_left : stream_of clipped (cell 0 0 1) ≡ leaf (area 1 (pos 1) []) end
unfolding edge_class class_of verdict nowhere everywhere cut all counts line_counts product sign
clipped_left = refl

clipped_right : stream_of clipped (cell 2 0 1) ≡ end
unfolding edge_class class_of verdict nowhere everywhere cut all counts line_counts product sign
clipped_right = refl

-- read by the machine at two positions of the cell
clipped_read_left : read_in clipped (at 1 1) (stream_of clipped (cell 0 0 2)) ≡ 1 ∷ []
unfolding edge_class class_of verdict nowhere everywhere cut all counts line_counts product sign
clipped_read_left = refl

clipped_read_right : read_in clipped (at 2 1) (stream_of clipped (cell 0 0 2)) ≡ []
unfolding edge_class class_of verdict nowhere everywhere cut all counts line_counts product sign
clipped_read_right = refl

-- one area with a curve, from (0, 0) by the control corner (8, 0) to (8, 8); then straight to (0, 8), and the closing edge
abbrev berm : Drawing
berm =
    record {
      fields = fields 0 255 ∷ [];
      xs = 0 ∷ 8 ∷ 8 ∷ 0 ∷ [];
      ys = 0 ∷ 0 ∷ 8 ∷ 8 ∷ [];
      contours = (contour 0 (bent ∷ straight ∷ []) ∷ []) ∷ [];
      plan = leaf 0 end;
    }

-- the curve is kept as one entry
berm_itself : stream_of berm (cell 0 0 3) ≡ leaf (area 0 (pos 0) (drawn (curve 0) ∷ [])) end
unfolding edge_class class_of verdict nowhere everywhere cut all counts line_counts curve_counts side product sign
berm_itself = refl

-- it counts everywhere in the upper left quarter, and is classed anew from the whole curve in the lower right one
berm_left : made berm (child (cell 0 0 3) low_high) (stream_of berm (cell 0 0 3)) ≡ leaf (area 0 (pos 1) []) end
unfolding edge_class class_of verdict nowhere everywhere cut all counts line_counts curve_counts side product sign
berm_left = refl

berm_right : made berm (child (cell 0 0 3) high_low) (stream_of berm (cell 0 0 3)) ≡ leaf (area 0 (pos 0) (drawn (curve 0) ∷ [])) end
unfolding edge_class class_of verdict nowhere everywhere cut all counts line_counts curve_counts side product sign
berm_right = refl

-- in the row 2 the curve is at x = 6
berm_read : read_in berm (at 5 2) (stream_of berm (cell 0 0 3)) ≡ 0 ∷ []
unfolding edge_class class_of verdict nowhere everywhere cut all counts line_counts curve_counts side product sign
berm_read = refl

berm_read_met : read_in berm (at 6 2) (stream_of berm (cell 0 0 3)) ≡ []
unfolding edge_class class_of verdict nowhere everywhere cut all counts line_counts curve_counts side product sign
berm_read_met = refl
