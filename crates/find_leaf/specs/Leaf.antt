-- Document 01, "Cells" and "From the state", and document 02, Items 4 and 5: the leaf that holds a position, in a tree in lent tables.
use Rattle.std.specs.Prelude.{Option, Some, None, Bool, cond, ◌&&◌, List, ℕ, Result, Ok, Err, eqb, ltb, length, get_or}
use Rattle.refusals.specs.declared.Refusal.{Refusal}
use Rattle.refusals.specs.declared.Refusal.TheVariants as Refusals
use Rattle.stream.specs.declared.Bounds.{Bounds}
use Rattle.stream.specs.declared.Words.{Words}
use Rattle.stream.specs.Entry.{lines_in, is_uniform}
use Rattle.stream.specs.Table.{words_from}
use Rattle.stream.specs.Grammar.{env, bounds}
use Rattle.celltable.specs.declared.Leaf.{Leaf}
use Rattle.celltable.specs.Descent.{descend_in}
use Rattle.tables.specs.Tables.{Tree, cells_used, entries_used, counts_in, leaf_passes}
use Rattle.find_leaf.specs.declared.FoundLeaf.{FoundLeaf}

-- "Positions are whole x, y from 0 to 65,535."; 7: "position ... out of range"
abbrev pub position_range : (x y : ℕ) → Bool
position_range x y = ltb x 65536 && ltb y 65536

-- "finding a leaf reports as many steps as the leaf's depth, at most 16": its number, low corner, side, steps, entries and lines; document 01 leaves all but
-- the steps free. document 02: "The leaf reading shall also say yes or no: yes exactly when the leaf's stream holds no line, curve or shortcut."
abbrev pub report_of : (entries : List ℕ) → Leaf → FoundLeaf
report_of entries l =
    record {
      cell = l.cell;
      x = l.x;
      y = l.y;
      side = l.side;
      steps = l.steps;
      entries = l.count;
      lines = lines_in (words_from entries l.first l.count);
      uniform = is_uniform (words_from entries l.first l.count);
    }

module _ (t : Tree) where
  -- the areas and corners in use, and the leaf's rows
  abbrev pub leaf_bounds : Leaf → Bounds
  leaf_bounds l = bounds (get_or t.plan 1 0) (get_or t.plan 2 0) l.y l.side

  abbrev pub leaf_stream : Leaf → List Words
  leaf_stream l = words_from t.entries l.first l.count

  -- 12: "a number met in ... the whole leaf when answering ... is outside its range, or that ... stream breaks the grammar"; and its line count
  abbrev pub stream_found : Option Leaf → Option Leaf
  stream_found (Some l) =
      cond (leaf_passes t.entries l.first l.count l.lines (entries_used t.head) (env t.areas t.xs t.ys (leaf_bounds l))) (Some l) None
  stream_found None = None

  -- 12 over the numbers in use, then "the path down and the whole leaf when answering"
  unfoldable pub leaf_in : (x y : ℕ) → Option Leaf
  leaf_in x y = cond (counts_in t) (stream_found (descend_in t.cells (cells_used t.head) (entries_used t.head) x y)) None

  -- the leaf as it is reported, or 12
  abbrev pub found_by : Option Leaf → Result FoundLeaf Refusal
  found_by (Some l) = Ok (report_of t.entries l)
  found_by None = Err Refusals.Broken

  -- 7: "a lent pair of x and y tables of unequal length (tried before all other checks ...); position ... out of range"; then 12
  abbrev pub find_answer : (x y : ℕ) → Result FoundLeaf Refusal
  find_answer x y =
      cond (eqb (length t.xs) (length t.ys))
      (cond (position_range x y) (found_by (leaf_in x y)) (Err Refusals.Argument))
      (Err Refusals.Argument)
