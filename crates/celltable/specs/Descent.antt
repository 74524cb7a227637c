-- Document 01, "Cells": the path down from cell 0 to the leaf that holds a position.
use Rattle.std.specs.Prelude.{ℕ, zero, suc, ◌+◌, ◌%◌, Bool, cond, ◌&&◌, List, eqb, leb, Option, None, Some}
use Rattle.cells.specs.Cells.{Position, at, Cell, left, low, side, root, Quarter, low_low, high_low, low_high, high_high, child, quarter_by, quarter_of}
use Rattle.celltable.specs.declared.CellWords.{CellWords}
use Rattle.celltable.specs.declared.Leaf.{Leaf}
use Rattle.celltable.specs.Table.{cell_at}
use Rattle.celltable.specs.Ranges.{cell_range}

-- "A split makes four cells of half the side, numbered onward ...: low x low y, high x low y, low x high y, high x high y."
abbrev pub place_of : Quarter → ℕ
place_of low_low = 0
place_of high_low = 1
place_of low_high = 2
place_of high_high = 3

-- the quarter at place q
abbrev pub quarter_at : ℕ → Quarter
quarter_at q = quarter_by (eqb (q % 2) 1) (leb 2 q)

-- "cell 0 and each child on its own square"
abbrev pub on_square : CellWords → Cell → Bool
on_square w c = eqb w.x (left c) && (eqb w.y (low c) && eqb w.side (side c))

abbrev pub leaf_of : (i steps : ℕ) → CellWords → Leaf
leaf_of i steps w =
    record { cell = i; x = w.x; y = w.y; side = w.side; steps = steps; first = w.first; count = w.count; lines = w.lines }

-- "Each step down picks one quarter and gives the next cell": from cell i, which has to be the cell c, so many steps below cell 0, over at
-- most n cells. Each cell that is met passes 12 and is on its own square, or the way is broken.
unfoldable pub down_from : List ℕ → (used entries : ℕ) → Position → (n i steps : ℕ) → Cell → Option Leaf
down_from t used entries p zero i steps c = None
down_from t used entries p (suc n) i steps c =
    cond (cell_range t i used entries)
    (cond (on_square (cell_at t i) c)
    (cond (eqb (cell_at t i).child 0) (Some (leaf_of i steps (cell_at t i)))
    (down_from t used entries p n ((cell_at t i).child + place_of (quarter_of c p)) (steps + 1) (child c (quarter_of c p))))
    None)
    None

-- "finding a leaf reports as many steps as the leaf's depth, at most 16": so at most 17 cells are met, and a cell of side 1 that says that it
-- is split, as the last of 17, breaks the way
unfoldable pub descend_in : List ℕ → (used entries x y : ℕ) → Option Leaf
descend_in t used entries x y = down_from t used entries (at x y) 17 0 0 root
