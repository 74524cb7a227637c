-- The tables that an accepted opening leaves: one cell in use, cell 0 and its stream; the head and the stream pass 12.
use mathlib.Core.Path.{◌≡◌, sym, ap, subst, ◌∙◌}
use mathlib.Core.Bool.{true}
use mathlib.Core.List.{List}
use Prim.Native.Nat.{ℕ, ◌/◌}
use native.Mathlib.Omega.{arith}
use lib.ListN.{length, get_or, set, length-set}
use lib.Seq.{get_or-set_same, get_or-set_other}
use borrow.Author.Tests.{le-leb}
use Rattle.std.specs.Prelude.{Ok}
use Rattle.grammar.specs.declared.Counts.{Counts}
use Rattle.drawing.proofs.Rows.{drawn}
use Rattle.stream.specs.declared.Bounds.{Bounds}
use Rattle.stream.specs.Entry.{lines_in}
use Rattle.stream.specs.Table.{words_from}
use Rattle.stream.specs.Grammar.{env, bounds, Passed}
use Rattle.stream.proofs.Table.{length_written, written_read}
use Rattle.celltable.specs.declared.CellWords.{CellWords}
use Rattle.celltable.specs.Table.{cell_at}
use Rattle.celltable.specs.Ranges.{head_range}
use Rattle.celltable.proofs.Table.{length_put_cell, put_cell_same}
use Rattle.root_stream.specs.Opened.{elements_opened}
use Rattle.root_stream.proofs.Opened.{accepted_opened, opened_passed}
use Rattle.tables.specs.Tables.{Tree, cells_used, entries_used, bounds_of}
use Rattle.open.specs.Open.{root_words, drawing_tables, stream_opened, head_opened, cells_opened, entries_opened}
use Rattle.open.proofs.Rooms.{elements_words}
use Rattle.open.proofs.Accepted.{Accepts}

module _ (t : Tree) (n : ℕ) (a : Accepts t n) where
  abbrev head' : List ℕ
  head' = head_opened t (Ok n)

  abbrev cells' : List ℕ
  cells' = cells_opened t (Ok n)

  abbrev entries' : List ℕ
  entries' = entries_opened t (Ok n)

  -- the words of cell 0
  abbrev root' : CellWords
  root' = root_words n (lines_in (stream_opened t))

  -- ---- the tables are as long as they were
  pub head_length : length head' ≡ length t.head
  head_length = length-set (set t.head 0 1) 1 n ∙ length-set t.head 0 1

  pub cells_length : length cells' ≡ length t.cells
  cells_length = length_put_cell t.cells 0 root'

  pub entries_length : length entries' ≡ length t.entries
  entries_length = length_written t.entries 0 (stream_opened t)

  -- ---- the numbers in use
  word_cells : get_or head' 0 0 ≡ 1
  word_cells = get_or-set_other (set t.head 0 1) 1 0 n 0 (λ e. omega arith) ∙ get_or-set_same t.head 0 1 0 (omega (arith, a.head_room))

  pub entries_used_law : entries_used head' ≡ n
  entries_used_law = get_or-set_same (set t.head 0 1) 1 n 0 (omega (arith, length-set t.head 0 1, a.head_room))

  pub cells_used_law : cells_used head' ≡ 1
  cells_used_law = rw (le-leb 2 (length head') (omega (arith, head_length, a.head_room))) word_cells

  pub head_passes : head_range head' (length cells') (length entries') ≡ true
  unfolding head_range
  head_passes =
      rw (
        le-leb 2 (length head') (omega (arith, head_length, a.head_room)),
        word_cells,
        entries_used_law,
        le-leb 1 (length cells' / 8) (omega (arith, cells_length, a.cells_room)),
        le-leb n (length entries' / 4) (omega (arith, entries_length, a.entries_room)),
        le-leb n 65536 (omega (arith, a.few)),
      )

  -- ---- cell 0 and its stream
  pub cell_is : cell_at cells' 0 ≡ root_words n (lines_in (stream_opened t))
  cell_is = put_cell_same t.cells 0 root' (omega (arith, a.cells_room))

  pub stream_is : words_from entries' 0 n ≡ stream_opened t
  stream_is =
      ap (words_from entries' 0) a.entries ∙ written_read t.entries 0 (stream_opened t) (omega (arith, a.entries, a.entries_room))

  -- the areas and corners in use are those that the plan says
  pub bounds_are : bounds a.counts.areas a.counts.corners 0 65536 ≡ bounds_of t.plan root'
  bounds_are = ap (λ (k : Counts). bounds k.areas k.corners 0 65536) (drawn (drawing_tables t) a.counts a.drawing).used

  pub stream_passes : Passed entries' 0 n (env t.areas t.xs t.ys (bounds_of t.plan root'))
  stream_passes =
      let b : Bounds = bounds a.counts.areas a.counts.corners 0 65536 in
      let m : length (elements_opened (drawing_tables t)) ≡ n = sym (elements_words (drawing_tables t)) ∙ sym a.entries in
      let p : Passed entries' 0 (length (elements_opened (drawing_tables t))) (env t.areas t.xs t.ys b) = opened_passed (drawing_tables t)
      a.counts.records b (accepted_opened (drawing_tables t) a.counts a.drawing) t.entries
      (omega (arith, m, a.entries_room)) in
      subst (λ (x : Bounds). Passed entries' 0 n (env t.areas t.xs t.ys x)) bounds_are
      (subst (λ (x : ℕ). Passed entries' 0 x (env t.areas t.xs t.ys b)) m p)
