-- Document 01, "Drawing" and "Winding and meaning", and document 02, Item 2: the edges of an area, and its winding at a position.
use Rattle.std.specs.Prelude.{Bool, cond, ◌&&◌, Some, None, List, [], ◌∷◌, ◌++◌, ℕ, zero, suc, ◌+◌, ◌-◌, leb, ltb, get_or, ℤ, pos, ◌+ℤ◌}
use Rattle.geometry.specs.Edges.{counts, sign}
use Rattle.curves.specs.declared.Point.{Point}
use Rattle.geometry.specs.declared.edge.Edge.{Edge}

-- a line by the numbers of its two corners, drawn from the one to the other; a curve by the number of its first corner, of which the control corner
-- and the last one are the next two
pub data Line : Type 0 where
  line : (from to : ℕ) → Line
  curve : (from : ℕ) → Line

-- a corner, and the edge of a line: "corner coordinates lie in lent 32-bit tables"
abbrev pub corner_of : (xs ys : List ℕ) → (n : ℕ) → Point
corner_of xs ys n = record { x = get_or xs n 0; y = get_or ys n 0 }

abbrev pub edge_of : (xs ys : List ℕ) → Line → Edge
edge_of xs ys (line p q) = record { from = corner_of xs ys p; to = corner_of xs ys q; control = None }
edge_of xs ys (curve p) = record { from = corner_of xs ys p; to = corner_of xs ys (p + 2); control = Some (corner_of xs ys (p + 1)) }

-- from a corner to the next that is no control corner: straight, or by the control corner between them
pub data Piece : Type 0 where
  straight : Piece
  bent : Piece

-- a contour: the number of its first corner, and its pieces but the closing edge, which is straight
pub data Contour : Type 0 where
  contour : (first : ℕ) → List Piece → Contour

-- "corner to next corner, the closing edge last of its contour": the lines from corner c, of the pieces that are left
abbrev pub lines_from : (first c : ℕ) → List Piece → List Line
lines_from first c [] = line c first ∷ []
lines_from first c (straight ∷ ps) = line c (suc c) ∷ lines_from first (suc c) ps
lines_from first c (bent ∷ ps) = curve c ∷ lines_from first (suc (suc c)) ps

-- "a contour closes from its last corner to its first"
abbrev pub contour_lines : Contour → List Line
contour_lines (contour first ps) = lines_from first first ps

-- "contour by contour"; "An area may have no contour."
abbrev pub lines_of : List Contour → List Line
lines_of [] = []
lines_of (c ∷ cs) = contour_lines c ++ lines_of cs

-- the corner after corner i, of a contour that begins at corner `first` and ends before corner `end`
abbrev pub next_corner : (first end i : ℕ) → ℕ
next_corner first end i = cond (ltb (i + 1) end) (i + 1) first

-- what an edge adds where it counts: "It adds +1 if drawn upward, −1 if downward."
unfoldable pub adds : Edge → (x y : ℕ) → ℤ
adds e x y = cond (counts e x y) (sign e) (pos 0)

-- the sum of what the lines add
unfoldable pub sum_of : (xs ys : List ℕ) → List Line → (x y : ℕ) → ℤ
sum_of xs ys [] x y = pos 0
sum_of xs ys (l ∷ ls) x y = adds (edge_of xs ys l) x y +ℤ sum_of xs ys ls x y

-- the winding of an area at (x, y): the sum over the edges of its contours. document 02: "A contour's winding now means its curves too"
abbrev pub winding : (xs ys : List ℕ) → List Contour → (x y : ℕ) → ℤ
winding xs ys cs x y = sum_of xs ys (lines_of cs) x y

-- ---- contours with no curve

abbrev pub straights : ℕ → List Piece
straights zero = []
straights (suc n) = straight ∷ straights n

-- the lines from corner i, of which n are left
abbrev pub straight_lines : (first i n : ℕ) → List Line
straight_lines first i zero = []
straight_lines first i (suc n) = lines_from first i (straights n)

-- a contour of n corners before others; none where it has no corner
abbrev pub with_corners : (first n : ℕ) → List Contour → List Contour
with_corners first zero cs = cs
with_corners first (suc n) cs = contour first (straights n) ∷ cs

-- contours that follow one another in the tables, by the number after the last corner of each; the first begins at a number that is given
abbrev pub contours_to : (from : ℕ) → List ℕ → List Contour
contours_to from [] = []
contours_to from (e ∷ es) = with_corners from (e - from) (contours_to e es)

-- those numbers do not fall, and end within n corners
abbrev pub follow : (from n : ℕ) → List ℕ → Bool
follow from n [] = leb from n
follow from n (e ∷ es) = leb from e && follow e n es
