-- Document 01, "Cells": the lines and shortcuts of an area, what they add at a position, and what is left of them in a cell.
use Rattle.std.specs.Prelude.{Bool, cond, List, [], ◌∷◌, ℕ, ℤ, pos, ◌+ℤ◌}
use Rattle.curves.specs.Lines.{is_row}
use Rattle.geometry.specs.Edges.{counts, first_row, end_row, sign}
use Rattle.geometry.specs.Windings.{Line, edge_of}
use Rattle.geometry.specs.Classes.{edge_class, cut}
use Rattle.geometry.specs.declared.class.Class.{Class}
use Rattle.geometry.specs.declared.class.Class.TheVariants.{Dropped, Start, Shortcut, Kept}
use Rattle.geometry.specs.declared.class.Square.{Square}
use Rattle.cells.specs.Cells.{Position, col, row, Cell, square_of}

-- a line of the drawing, by its two corners; a shortcut "with its sign and those rows"
pub data Segment : Type 0 where
  drawn : Line → Segment
  shortcut : (sign : ℤ) (lo hi : ℕ) → Segment

-- the tables of corners
module _ (xs ys : List ℕ) where
  -- it counts at (x, y): a shortcut where y is one of its rows
  abbrev pub counts_at : Segment → (x y : ℕ) → Bool
  counts_at (drawn l) x y = counts (edge_of xs ys l) x y
  counts_at (shortcut z lo hi) x y = is_row lo hi y

  abbrev pub sign_of : Segment → ℤ
  sign_of (drawn l) = sign (edge_of xs ys l)
  sign_of (shortcut z lo hi) = z

  -- its rows are first_of to end_of − 1
  abbrev pub first_of : Segment → ℕ
  first_of (drawn l) = first_row (edge_of xs ys l)
  first_of (shortcut z lo hi) = lo

  abbrev pub end_of : Segment → ℕ
  end_of (drawn l) = end_row (edge_of xs ys l)
  end_of (shortcut z lo hi) = hi

  -- "the sign of each of its shortcuts with row y, plus +1 or −1 for each of its kept lines that counts there"
  abbrev pub adds_at : Position → Segment → ℤ
  adds_at p g = cond (counts_at g (col p) (row p)) (sign_of g) (pos 0)

  abbrev pub sum_at : Position → List Segment → ℤ
  sum_at p [] = pos 0
  sum_at p (g ∷ gs) = adds_at p g +ℤ sum_at p gs

  -- "In a cell, taking only those rows of an edge that fall in it"; "A child is made from its parent's stream by this rule"
  abbrev pub class_on : Square → Segment → Class
  class_on s (drawn l) = edge_class (edge_of xs ys l) s
  class_on s (shortcut z lo hi) = cut lo hi s.y s.side

  abbrev pub class_in : Cell → Segment → Class
  class_in c g = class_on (square_of c) g

  -- what is left of a segment of each class, in front of the others: "orders kept"
  abbrev pub kept_by : Class → Segment → List Segment → List Segment
  kept_by Dropped g gs = gs
  kept_by Start g gs = gs
  kept_by (Shortcut lo hi) g gs = shortcut (sign_of g) lo hi ∷ gs
  kept_by Kept g gs = g ∷ gs

  abbrev pub kept_in : Cell → List Segment → List Segment
  kept_in c [] = []
  kept_in c (g ∷ gs) = kept_by (class_in c g) g (kept_in c gs)

  -- "if they are all the cell's rows, its sign is added to the area's start number"
  abbrev pub start_by : Class → Segment → ℤ → ℤ
  start_by Dropped g z = z
  start_by Start g z = z +ℤ sign_of g
  start_by (Shortcut lo hi) g z = z
  start_by Kept g z = z

  abbrev pub start_in : Cell → ℤ → List Segment → ℤ
  start_in c z [] = z
  start_in c z (g ∷ gs) = start_in c (start_by (class_in c g) g z) gs
