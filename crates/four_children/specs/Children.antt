-- Document 01, "Cells", and document 02, Item 5: what a split makes: four cells, "low x low y, high x low y, low x high y, high x high y", and their streams.
use Rattle.std.specs.Prelude.{List, [], ◌++◌, ℕ, zero, suc, ◌+◌, length}
use Rattle.cells.specs.Cells.{Cell, left, low, side, child}
use Rattle.cells.specs.Drawings.{Drawing}
use Rattle.cells.specs.Elements.{Element}
use Rattle.stream.specs.declared.Words.{Words}
use Rattle.stream.specs.Entry.{lines_in}
use Rattle.celltable.specs.declared.CellWords.{CellWords}
use Rattle.celltable.specs.Table.{put_cell_at}
use Rattle.celltable.specs.Descent.{quarter_at}
use Rattle.making.specs.Made.{elements_made, words_made}

-- the words of a leaf: its square, no child, its stream; document 02: "Each cell carries its parent's number ... and its line count, curves included."
abbrev pub words_with : Cell → (first count lines parent : ℕ) → CellWords
words_with c first count lines parent =
    record { x = left c; y = low c; side = side c; child = 0; first = first; count = count; lines = lines; parent = parent }

-- of cell c with the stream that ws say
module _ (D : Drawing) (c : Cell) (ws : List Words) where
  -- child q
  abbrev pub cell_of_child : ℕ → Cell
  cell_of_child q = child c (quarter_at q)

  abbrev pub elements_of_child : ℕ → List Element
  elements_of_child q = elements_made D (cell_of_child q) ws

  abbrev pub words_of_child : ℕ → List Words
  words_of_child q = words_made D (cell_of_child q) ws

  abbrev pub entries_of_child : ℕ → ℕ
  entries_of_child q = length (elements_of_child q)

  abbrev pub lines_of_child : ℕ → ℕ
  lines_of_child q = lines_in (words_of_child q)

  -- "child by child": the streams of the first n children
  unfoldable pub streams_to : ℕ → List Words
  streams_to zero = []
  streams_to (suc n) = streams_to n ++ words_of_child n

  -- their cells, "numbered onward from the cells in use", each with its square and where its stream stands: "their entries are written from the first
  -- unused entry onward, child by child"; the cell that is split is cell i
  unfoldable pub cells_to : (cells : List ℕ) (i used free n : ℕ) → List ℕ
  cells_to cells i used free zero = cells
  cells_to cells i used free (suc n) =
      put_cell_at (cells_to cells i used free n) (used + n)
      (words_with (cell_of_child n) (free + length (streams_to n)) (entries_of_child n) (lines_of_child n) i)
