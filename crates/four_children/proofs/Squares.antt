-- The square of a child is one that the making of its stream takes.
use mathlib.Core.Path.{◌≡◌, sym, ap, ◌∙◌}
use mathlib.Core.Bool.{true}
use Prim.Native.Nat.{ℕ}
use native.Mathlib.Omega.{arith}
use Rattle.geometry.specs.code.Reach.{SquareIn}
use Rattle.geometry.specs.declared.class.Square.{Square}
use Rattle.cells.specs.Cells.{Cell, cell, square_of, child}
use Rattle.cells.proofs.Cells.{some_side}
use Rattle.celltable.specs.declared.CellWords.{CellWords}
use Rattle.celltable.specs.Ranges.{square_range, cell_of}
use Rattle.celltable.specs.Descent.{quarter_at}
use Rattle.celltable.proofs.Grid.{Gridded, passes_gridded, child_gridded}
use Rattle.making.specs.code.Numbers.{cell_in}
use Rattle.making.proofs.Made.{level_from_law}

cell_back : (c : Cell) → Gridded c → cell_in (square_of c) ≡ c
unfolding cell_in
cell_back (cell x y k) g = ap (cell x y) (level_from_law 16 k g.few)

module _ (w : CellWords) (h : square_range w ≡ true) (q : ℕ) where
  kid : Gridded (child (cell_of w) (quarter_at q))
  kid = child_gridded (cell_of w) (quarter_at q) (passes_gridded w h)

  pub kid_cell : cell_in (square_of (child (cell_of w) (quarter_at q))) ≡ child (cell_of w) (quarter_at q)
  kid_cell = cell_back (child (cell_of w) (quarter_at q)) kid

  -- of a square that is the child's
  module _ (s : Square) (e : s ≡ square_of (child (cell_of w) (quarter_at q))) where
    pub kid_square : SquareIn s
    kid_square = rw e (record { some_side = some_side (child (cell_of w) (quarter_at q)); right = omega (arith, kid.east); top = omega (arith, kid.north) })

    pub kid_in : cell_in s ≡ child (cell_of w) (quarter_at q)
    kid_in = ap cell_in e ∙ kid_cell

    pub kid_back : square_of (cell_in s) ≡ s
    kid_back = ap square_of kid_in ∙ sym e
