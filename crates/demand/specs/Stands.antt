-- Document 01, "The list of demand 3", and document 02, Item 5: what is claimed of a tree in its tables, over a drawing, whose cells are those of a history.
use Rattle.std.specs.Prelude.{◌≡◌, true, List, map, ℕ, zero, suc, ◌-◌, ◌≤◌, ◌<◌, length}
use Rattle.paint.specs.Areas.{paint_at, material_of}
use Rattle.paint.specs.Colours.{colour_of}
use Rattle.pruning.specs.Sides.{paint, flat}
use Rattle.cells.specs.Cells.{Position, at, Cell, level, Holds}
use Rattle.cells.specs.Drawings.{Drawing, shown_at}
use Rattle.cells.specs.Streams.{Each, Winds, source, made, shown_in}
use Rattle.cells.specs.Elements.{elements_of, entries_of, decode, stream_of, role_in}
use Rattle.stream.specs.declared.Words.{Words}
use Rattle.stream.specs.Entry.{lines_in}
use Rattle.evaluate.specs.Reading.{elements_in, set_at}
use Rattle.evaluate.specs.Words.{words_of}
use Rattle.celltable.specs.Table.{cell_at}
use Rattle.celltable.specs.Descent.{on_square}
use Rattle.root_stream.specs.Opened.{drawing_in}
use Rattle.tables.specs.Tables.{Tree, cells_used}
use Rattle.split.specs.Split as Split
use Rattle.open.specs.Open.{drawing_tables}
use Rattle.demand.specs.History.{Node, cell_in, first_in, parent_in, Leaf, Tiled, up_in, Upward}
use Rattle.demand.specs.NoTree.{set_shown, material_shown, colour_shown}

-- the drawing of a tree
abbrev pub drawing_of : Tree → Drawing
drawing_of t = drawing_in (drawing_tables t)

-- the words of a cell's stream, made straight from a drawing
abbrev pub words_of_cell : Drawing → Cell → List Words
words_of_cell D c = map words_of (elements_of (flat paint (made D c (source D))))

-- ws are the words of the stream of a leaf c
pub record LeafStands (D : Drawing) (t : Tree) (c : Cell) (ws : List Words) : Type 0 where
  -- they follow from the drawing and the leaf's square, whatever was split before
  pub stream : ws ≡ words_of_cell D c
  -- "An area's winding in it at (x, y) is its start number, plus the sign of each of its shortcuts with row y, plus +1 or −1 for each of its kept
  -- lines that counts there": of each area entry, at each position of the leaf, the winding in the whole drawing
  pub windings : Each (Winds D c) (entries_of (decode (role_in D) (elements_in ws)))
  -- ""Read there" is by "Winding and meaning" over the leaf's stream with these windings, "passes" being a clip area that passes"
  pub meaning : (p : Position) → Holds c p → shown_in D p (stream_of (role_in D) (elements_in ws)) ≡ shown_at D p
  -- the shown set, the material and the colour that one pass over the words in the tables gives
  pub set : (x y : ℕ) → Holds c (at x y) → set_at t.areas t.xs t.ys x y ws ≡ set_shown D (at x y)
  pub material : (x y : ℕ) → Holds c (at x y) → material_of (paint_at t.areas) (set_at t.areas t.xs t.ys x y ws) ≡ material_shown D (at x y)
  pub colour : (x y : ℕ) → Holds c (at x y) → colour_of (paint_at t.areas) (set_at t.areas t.xs t.ys x y ws) ≡ colour_shown D (at x y)

-- document 02: "Map editors walk upward from a leaf.": the parent taken k times, from cell i, as the words of the cells say
abbrev pub up_at : Tree → (k i : ℕ) → ℕ
up_at t zero i = i
up_at t (suc k) i = up_at t k (cell_at t.cells i).parent

pub record Stands (D : Drawing) (t : Tree) (H : List Node) : Type 0 where
  -- the tables hold the drawing
  pub drawing : drawing_of t ≡ D
  -- the cells in use, their squares and their children are the history's
  pub in_use : cells_used t.head ≡ length H
  pub squares : (i : ℕ) → i < length H → on_square (cell_at t.cells i) (cell_in H i) ≡ true
  pub children : (i : ℕ) → i < length H → (cell_at t.cells i).child ≡ first_in H i
  -- document 02: "Each cell carries its parent's number (its own for cell 0) and its line count, curves included."
  pub parents : (i : ℕ) → i < length H → (cell_at t.cells i).parent ≡ parent_in H i
  pub line_counts : (i : ℕ) → Leaf H i → (cell_at t.cells i).lines ≡ lines_in (Split.stream t i)
  -- from a cell of depth k the parent taken k times is cell 0, and each on the way is the square around
  pub walk : (i k : ℕ) → i < length H → k ≤ 16 - level (cell_in H i) → up_at t k i ≡ up_in H k i
  pub upward : Upward H
  -- whose leaves tile the grid
  pub tiled : Tiled H
  pub leaves : (i : ℕ) → Leaf H i → LeafStands D t (cell_in H i) (Split.stream t i)
