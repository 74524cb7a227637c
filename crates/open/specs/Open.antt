-- Document 01, "Cells" and "From the state", and document 02, Item 5: opening a tree over a lent drawing: the answer, and every table afterwards.
use Rattle.std.specs.Prelude.{Bool, cond, ◌&&◌, List, ℕ, eqb, leb, length, set, Result, Ok, Err}
use Rattle.refusals.specs.declared.Refusal.{Refusal}
use Rattle.refusals.specs.declared.Refusal.TheVariants.{Argument, Room, Broken}
use Rattle.grammar.specs.Grammar.{Verdict}
use Rattle.drawing.specs.Tables.{Tables, tables, drawing_verdict}
use Rattle.stream.specs.declared.Words.{Words}
use Rattle.stream.specs.Entry.{lines_in}
use Rattle.stream.specs.Table.{written}
use Rattle.celltable.specs.declared.CellWords.{CellWords}
use Rattle.celltable.specs.Table.{put_cell_at}
use Rattle.celltable.specs.Ranges.{cells_held, entries_held}
use Rattle.root_stream.specs.Opened.{words_opened}
use Rattle.tables.specs.Tables.{Tree, tree}

-- "Cell 0 is the square of side 65,536 at (0, 0)": a leaf, whose n entries are the first; its first number where it has none, which document 01 leaves free,
-- is 0; document 02, Item 5: "Each cell carries its parent's number (its own for cell 0) and its line count, curves included. Opening and splitting set
-- both"
abbrev pub root_words : (n lines : ℕ) → CellWords
root_words n lines = record { x = 0; y = 0; side = 65536; child = 0; first = 0; count = n; lines = lines; parent = 0 }

-- 11: "cells, entries or another output table too short for the whole result", which is the two words of the head, one cell and n entries; the
-- lengths of the tables
abbrev pub room_for : (head cells entries n : ℕ) → Bool
room_for head cells entries n = leb 2 head && (cells_held 1 cells && entries_held n entries)

module _ (t : Tree) where
  -- the drawing's four tables
  abbrev pub drawing_tables : Tables
  drawing_tables = tables t.plan t.areas t.xs t.ys

  -- "Cell 0's stream is made from the drawing ... It is then pruned"
  abbrev pub stream_opened : List Words
  stream_opened = words_opened drawing_tables

  abbrev pub room_answer : Result ℕ Refusal
  room_answer = cond (room_for (length t.head) (length t.cells) (length t.entries) (length stream_opened)) (Ok (length stream_opened)) (Err Room)

  -- 12: "a number met in the tables used (the drawing when opening ...) is outside its range, or that drawing ... breaks the grammar"
  abbrev pub drawing_answer : Verdict → Result ℕ Refusal
  drawing_answer (Ok k) = room_answer
  drawing_answer (Err e) = Err Broken

  -- 7: "a lent pair of x and y tables of unequal length"; then 12, then 11
  abbrev pub open_answer : Result ℕ Refusal
  open_answer = cond (eqb (length t.xs) (length t.ys)) (drawing_answer (drawing_verdict drawing_tables)) (Err Argument)

  -- ---- the tables afterwards: "nothing lent changed" on a refusal; "An accepted call leaves the rest of a longer output untouched."

  -- the cells and the entries in use
  abbrev pub head_opened : Result ℕ Refusal → List ℕ
  head_opened (Ok n) = set (set t.head 0 1) 1 n
  head_opened (Err r) = t.head

  abbrev pub cells_opened : Result ℕ Refusal → List ℕ
  cells_opened (Ok n) = put_cell_at t.cells 0 (root_words n (lines_in stream_opened))
  cells_opened (Err r) = t.cells

  abbrev pub entries_opened : Result ℕ Refusal → List ℕ
  entries_opened (Ok n) = written t.entries 0 stream_opened
  entries_opened (Err r) = t.entries

  -- the seven tables after the call
  abbrev pub open_tree : Tree
  open_tree = tree t.plan t.areas t.xs t.ys (head_opened open_answer) (cells_opened open_answer) (entries_opened open_answer)
