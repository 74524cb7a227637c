-- A table of eight words a cell: x, y, side, first child (0 for a leaf), first entry, entries, lines, parent; and the table after a cell is written.
-- Document 02, Item 5: "Each cell carries its parent's number (its own for cell 0) and its line count, curves included."
-- `Rattle.celltable.proofs.Table` has the laws.
use Rattle.std.specs.Prelude.{ℕ, ◌+◌, ◌*◌, List, [], ◌∷◌, get_or, set}
use Rattle.celltable.specs.declared.CellWords.{CellWords}

-- the eight words of cell i
abbrev pub cell_at : List ℕ → ℕ → CellWords
cell_at t i =
    record {
      x = get_or t (i * 8) 0;
      y = get_or t (i * 8 + 1) 0;
      side = get_or t (i * 8 + 2) 0;
      child = get_or t (i * 8 + 3) 0;
      first = get_or t (i * 8 + 4) 0;
      count = get_or t (i * 8 + 5) 0;
      lines = get_or t (i * 8 + 6) 0;
      parent = get_or t (i * 8 + 7) 0;
    }

-- the same as a list
abbrev pub cell_row : CellWords → List ℕ
cell_row w = w.x ∷ w.y ∷ w.side ∷ w.child ∷ w.first ∷ w.count ∷ w.lines ∷ w.parent ∷ []

-- the table with w at cell i, as eight stores
abbrev pub put_cell_at : List ℕ → ℕ → CellWords → List ℕ
put_cell_at t i w =
    set
    (set
    (set
    (set (set (set (set (set t (i * 8) w.x) (i * 8 + 1) w.y) (i * 8 + 2) w.side) (i * 8 + 3) w.child) (i * 8 + 4) w.first)
    (i * 8 + 5)
    w.count)
    (i * 8 + 6)
    w.lines)
    (i * 8 + 7)
    w.parent

-- the table with another first child at cell i
abbrev pub put_child_at : List ℕ → ℕ → ℕ → List ℕ
put_child_at t i n = set t (i * 8 + 3) n

-- a cell with another first child
abbrev pub with_child : CellWords → ℕ → CellWords
with_child w n =
    record { x = w.x; y = w.y; side = w.side; child = n; first = w.first; count = w.count; lines = w.lines; parent = w.parent }
