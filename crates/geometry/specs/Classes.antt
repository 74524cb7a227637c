-- Document 01, "Cells": what becomes of a segment in a cell's square. A segment is a test of positions, f x y: it counts at (x, y);
-- with the rows b to d − 1. The square has the low corner (X, Y) and the side S.
use Rattle.std.specs.Prelude.{Bool, true, false, not, cond, ◌&&◌, ◌||◌, ℕ, ◌+◌, ◌≤◌, ◌<◌, min, max, leb, eqb}
use Rattle.laws.specs.Ranges.{all_in}
use Rattle.curves.specs.Lines.{is_row}
use Rattle.geometry.specs.Edges.{counts, first_row, end_row}
use Rattle.geometry.specs.declared.class.Class.{Class}
use Rattle.geometry.specs.declared.class.Class.TheVariants.{Dropped, Start, Shortcut, Kept}
use Rattle.geometry.specs.declared.class.Square.{Square}
use Rattle.geometry.specs.declared.edge.Edge.{Edge}

-- "A cell's square holds its low sides and not its high ones."
pub record Inside (X Y S x y : ℕ) : Type 0 where
  pub west : X ≤ x
  pub east : x < X + S
  pub south : Y ≤ y
  pub north : y < Y + S

-- of its positions in the rows lo to hi − 1: the segment counts at none, it counts at every one
unfoldable pub nowhere : (ℕ → ℕ → Bool) → (lo hi X S : ℕ) → Bool
nowhere f lo hi X S = all_in lo hi (λ y. all_in X (X + S) (λ x. not (f x y)))

unfoldable pub everywhere : (ℕ → ℕ → Bool) → (lo hi X S : ℕ) → Bool
everywhere f lo hi X S = all_in lo hi (λ y. all_in X (X + S) (λ x. f x y))

-- "no rows, or it counts at none of the cell's positions: dropped;"
-- "it counts at every position in those rows: a shortcut with its sign and those rows, or, if they are all the cell's rows, its sign is
-- added to the area's start number;"
-- "otherwise: kept as a line."
unfoldable pub verdict : (none every : Bool) (lo hi Y S : ℕ) → Class
verdict none every lo hi Y S = cond (leb hi lo || none) Dropped (cond every (cond (eqb lo Y && eqb hi (Y + S)) Start (Shortcut lo hi)) Kept)

-- "In a cell, taking only those rows of an edge that fall in it"
unfoldable pub class_of : (ℕ → ℕ → Bool) → (b d X Y S : ℕ) → Class
class_of f b d X Y S = let lo = max b Y in let hi = min d (Y + S) in verdict (nowhere f lo hi X S) (everywhere f lo hi X S) lo hi Y S

-- the class of a drawn edge
unfoldable pub edge_class : Edge → Square → Class
edge_class e s = class_of (counts e) (first_row e) (end_row e) s.x s.y s.side

-- "A child is made from its parent's stream by this rule": a shortcut counts at every position of its rows, so they are cut to the
-- child's, and it is never kept as a line
unfoldable pub cut : (lo hi Y S : ℕ) → Class
cut lo hi Y S = verdict false true (max lo Y) (min hi (Y + S)) Y S

-- a square (X, Y, S) with some position, within a square (X', Y', S')
pub record Contains (X' Y' S' X Y S : ℕ) : Type 0 where
  pub some_side : 0 < S
  pub west : X' ≤ X
  pub east : X + S ≤ X' + S'
  pub south : Y' ≤ Y
  pub north : Y + S ≤ Y' + S'

-- the class in a child with the rows Y to Y + S − 1, from the parent's class; a kept line is classed anew, from its whole edge
abbrev pub child_of : (parent anew : Class) → (Y S : ℕ) → Class
child_of Dropped anew Y S = Dropped
child_of Start anew Y S = Start
child_of (Shortcut lo hi) anew Y S = cut lo hi Y S
child_of Kept anew Y S = anew

-- whether a class says that its segment counts at (x, y)
abbrev pub says : Class → (ℕ → ℕ → Bool) → (x y : ℕ) → Bool
says Dropped f x y = false
says Start f x y = true
says (Shortcut lo hi) f x y = is_row lo hi y
says Kept f x y = f x y
