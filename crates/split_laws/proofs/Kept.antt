-- An accepted split: what it leaves as it was, and what it makes.
use mathlib.Core.Path.{◌≡◌, ap, ◌∙◌}
use mathlib.Core.List.{List}
use Prim.Native.Nat.{ℕ, ◌+◌, ◌*◌, ◌≤◌, ◌<◌}
use native.Mathlib.Omega.{arith}
use lib.ListN.{length, get_or, set, length-set}
use lib.Seq.{get_or-set_same, get_or-set_other}
use Rattle.std.specs.Prelude.{Ok}
use Rattle.cells.specs.Cells.{child}
use Rattle.stream.specs.Table.{words_from}
use Rattle.stream.proofs.Table.{from_agree, written_keeps, length_written}
use Rattle.celltable.specs.declared.CellWords.{CellWords}
use Rattle.celltable.specs.Table.{cell_at, with_child}
use Rattle.celltable.specs.Ranges.{cell_of}
use Rattle.celltable.specs.Descent.{quarter_at}
use Rattle.celltable.proofs.Table.{length_put_child, put_child_same, put_child_other}
use Rattle.four_children.specs.Children.{words_with, words_of_child, entries_of_child, lines_of_child, streams_to, cells_to}
use Rattle.tables.specs.Tables.{Tree, cells_used, entries_used}
use Rattle.split.specs.Split.{words, drawing, stream, made, split_answer, head_after, cells_after, entries_after}
use Rattle.tables.proofs.Heads.{used_is}
use Rattle.split.specs.code.Accepted.{Accepted}
use Rattle.tables.proofs.Counts.{counts_long}
use Rattle.split.proofs.Accepted.{split_accepted}
use Rattle.split_laws.proofs.Rows.{length_cells_to, cells_to_keeps, cells_to_child, streams_read}

module _ (t : Tree) (i n : ℕ) (e : split_answer t i ≡ Ok n) where
  abbrev used : ℕ
  used = cells_used t.head

  abbrev free : ℕ
  free = entries_used t.head

  A : Accepted t i
  A = split_accepted t i n e

  long : 2 ≤ length t.head
  long = counts_long t A.able.counts

  -- ---- the lengths of the tables
  abbrev rows : List ℕ
  rows = cells_to (drawing t i) (cell_of (words t i)) (stream t i) t.cells i used free 4

  pub split_length_head : length (head_after t i (Ok n)) ≡ length t.head
  split_length_head = simp length-set

  pub split_length_cells : length (cells_after t i (Ok n)) ≡ length t.cells
  split_length_cells = length_put_child rows i used ∙ length_cells_to (drawing t i) (cell_of (words t i)) (stream t i) t.cells i used free 4

  pub split_length_entries : length (entries_after t i (Ok n)) ≡ length t.entries
  split_length_entries = length_written t.entries free (made t i)

  -- ---- the numbers in use
  head_zero : get_or (head_after t i (Ok n)) 0 0 ≡ used + 4
  head_zero =
      get_or-set_other (set t.head 0 (used + 4)) 1 0 (free + length (made t i)) 0 (λ d. omega arith)
      ∙ get_or-set_same t.head 0 (used + 4) 0 (omega (arith, long))

  pub split_used : cells_used (head_after t i (Ok n)) ≡ cells_used t.head + 4
  split_used = used_is (head_after t i (Ok n)) (omega (arith, split_length_head, long)) ∙ head_zero

  pub split_free : entries_used (head_after t i (Ok n)) ≡ entries_used t.head + length (made t i)
  split_free = get_or-set_same (set t.head 0 (used + 4)) 1 (free + length (made t i)) 0 (omega (arith, length-set t.head 0 (used + 4), long))

  -- ---- the cells
  -- each cell but the one that is split is as it was
  pub split_keeps_cell : (j : ℕ) → j < cells_used t.head → (j ≡ i → ⊥) → cell_at (cells_after t i (Ok n)) j ≡ cell_at t.cells j
  split_keeps_cell j h f = put_child_other rows i j used f ∙ cells_to_keeps (drawing t i) (cell_of (words t i)) (stream t i) t.cells i used free 4 j h

  -- that one has its first child, and nothing else is changed
  pub split_cell : cell_at (cells_after t i (Ok n)) i ≡ with_child (words t i) (cells_used t.head)
  split_cell =
      put_child_same rows i used
      (omega (arith, length_cells_to (drawing t i) (cell_of (words t i)) (stream t i) t.cells i used free 4, A.cells, A.able.in_use))
      ∙ ap (λ (w : CellWords). with_child w used)
      (cells_to_keeps (drawing t i) (cell_of (words t i)) (stream t i) t.cells i used free 4 i A.able.in_use)

  -- child q
  pub split_child : (q : ℕ)
      → q < 4
      → cell_at (cells_after t i (Ok n)) (cells_used t.head + q)
      ≡ words_with (child (cell_of (words t i)) (quarter_at q))
      (entries_used t.head + length (streams_to (drawing t i) (cell_of (words t i)) (stream t i) q))
      (entries_of_child (drawing t i) (cell_of (words t i)) (stream t i) q) (lines_of_child (drawing t i) (cell_of (words t i)) (stream t i) q) i
  split_child q h =
      put_child_other rows i (used + q) used (λ d. omega (arith, A.able.in_use))
      ∙ cells_to_child (drawing t i) (cell_of (words t i)) (stream t i) t.cells i used free 4 q h A.cells

  -- ---- the streams
  -- those in the entries that were in use are as they were
  pub split_stream : (first count : ℕ)
      → first + count ≤ entries_used t.head
      → words_from (entries_after t i (Ok n)) first count ≡ words_from t.entries first count
  split_stream first count h =
      from_agree (entries_after t i (Ok n)) t.entries (free * 4) first count
      (written_keeps t.entries (free * 4) free (made t i) (omega arith)) (omega arith)

  -- and that of child q is the one of document 01
  pub split_child_stream : (q : ℕ)
      → q < 4
      → words_from (entries_after t i (Ok n))
      (entries_used t.head + length (streams_to (drawing t i) (cell_of (words t i)) (stream t i) q))
      (entries_of_child (drawing t i) (cell_of (words t i)) (stream t i) q)
      ≡ words_of_child (drawing t i) (cell_of (words t i)) (stream t i) q
  split_child_stream q h = streams_read (drawing t i) (cell_of (words t i)) (stream t i) t.entries free 4 q h A.entries
