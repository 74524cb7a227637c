-- Document 01, "Winding and meaning", and document 02, Item 2: where a drawn edge counts, and what it adds.
use Rattle.std.specs.Prelude.{Bool, cond, Option, Some, None, ℕ, min, max, leb, ltb, ℤ, pos, negsuc}
use Rattle.curves.specs.Lines.{line_counts}
use Rattle.curves.specs.Curves.{curve_counts}
use Rattle.curves.specs.declared.Point.{Point}
use Rattle.geometry.specs.declared.edge.Edge.{Edge}

-- a straight edge drawn from one corner to the other, taken from its lower end, which is the one with the smaller y
abbrev pub straight_counts : Edge → (x y : ℕ) → Bool
straight_counts e x y =
    cond (leb e.from.y e.to.y) (line_counts e.from.x e.from.y e.to.x e.to.y x y) (line_counts e.to.x e.to.y e.from.x e.from.y x y)

-- a curve drawn between the same ends by the control corner (cx, cy), document 02: "Taken from its lower end"
abbrev pub bent_counts : (x0 y0 cx cy x1 y1 x y : ℕ) → Bool
bent_counts x0 y0 cx cy x1 y1 x y = cond (leb y0 y1) (curve_counts x0 y0 cx cy x1 y1 x y) (curve_counts x1 y1 cx cy x0 y0 x y)

-- where an edge counts: by its control corner, if it has one
abbrev pub counts_by : Option Point → Edge → (x y : ℕ) → Bool
counts_by None e x y = straight_counts e x y
counts_by (Some c) e x y = bent_counts e.from.x e.from.y c.x c.y e.to.x e.to.y x y

unfoldable pub counts : Edge → (x y : ℕ) → Bool
counts e x y = counts_by e.control e x y

-- its rows are first_row to end_row − 1; document 02: "A curve has the rows of its ends"
abbrev pub first_row : Edge → ℕ
first_row e = min e.from.y e.to.y

abbrev pub end_row : Edge → ℕ
end_row e = max e.from.y e.to.y

-- "It adds +1 if drawn upward, −1 if downward."; of a curve and its ends, document 02: "is drawn upward or
-- downward as they are"
unfoldable pub sign : Edge → ℤ
sign e = cond (ltb e.from.y e.to.y) (pos 1) (cond (ltb e.to.y e.from.y) (negsuc 0) (pos 0))
