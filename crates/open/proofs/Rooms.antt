-- The room that an opening asks for, and what the counting of cell 0's stream tells.
use mathlib.Core.Path.{◌≡◌, sym, subst, ◌∙◌}
use mathlib.Core.Bool.{true, false, ◌&&◌}
use Prim.Native.Nat.{ℕ, ◌*◌, ◌/◌, ◌%◌, ◌≤◌}
use native.Mathlib.Omega.{arith}
use lib.Dec.{leb}
use lib.ListN.{length, length-map}
use borrow.Author.Tests.{leb-true}
use Rattle.std.specs.Prelude.{Ok, Err}
use Rattle.refusals.specs.declared.Refusal.TheVariants.{Room}
use Rattle.grammar.specs.declared.Counts.{Counts}
use Rattle.drawing.specs.Tables.{Tables, drawing_verdict}
use Rattle.stream.specs.declared.Bounds.{Bounds}
use Rattle.stream.specs.declared.Words.{Words}
use Rattle.stream.specs.Entry.{lines_in}
use Rattle.stream.specs.Grammar.{bounds}
use Rattle.evaluate.specs.Words.{words_of}
use Rattle.evaluate.proofs.Laws.{both}
use Rattle.pruning.specs.code.Weights.{total}
use Rattle.cells.specs.code.Making.{element_size}
use Rattle.celltable.specs.Ranges.{cells_held, entries_held}
use Rattle.four_children.proofs.Tallies.{lines_weight}
use Rattle.four_children.proofs.Tallied.{words_lines}
use Rattle.tables.specs.Tables.{Tree}
use Rattle.tables.proofs.Rooms.{cells_room, entries_room}
use Rattle.root_stream.specs.code.Numbers.{Opened}
use Rattle.root_stream.specs.Opened.{elements_opened, words_opened}
use Rattle.root_stream.proofs.Opened.{accepted_opened, opened_short, opened_count}
use Rattle.open.specs.Open.{room_for, stream_opened, room_answer}

-- ---- what the test says
pub room_says : (head cells entries n : ℕ) → room_for head cells entries n ≡ true → (2 ≤ head) × (8 ≤ cells) × (n * 4 ≤ entries)
room_says head cells entries n h =
    let p = both (leb 2 head) (cells_held 1 cells && entries_held n entries) h in
    let q = both (cells_held 1 cells) (entries_held n entries) p.1 in
    (leb-true 2 head p.0, omega (arith, (cells_room 1 cells q.0).0), (entries_room n entries q.1).0)

-- ---- the numbers of entries and of lines
pub elements_words : (t : Tables) → length (words_opened t) ≡ length (elements_opened t)
unfolding words_opened
elements_words t = length-map {B = Words} (elements_opened t) words_of

module _ (t : Tables) (k : Counts) (e : drawing_verdict t ≡ Ok k) where
  abbrev known : Opened t k.records (bounds k.areas k.corners 0 65536)
  known = accepted_opened t k e

  -- with the bounds that the code makes
  pub opened_with : (b : Bounds) → b ≡ bounds k.areas k.corners 0 65536 → Opened t k.records b
  opened_with b h = subst (λ (x : Bounds). Opened t k.records x) (sym h) known

  pub few_words : length (words_opened t) ≤ 4096
  few_words = omega (arith, elements_words t, opened_short t k.records (bounds k.areas k.corners 0 65536) known)

  -- what the counting answers tells the number of entries, and how many of them are lines or curves
  module _ (size n : ℕ) (s : size ≡ total element_size (elements_opened t)) where
    pub count_words : n ≡ size % 65536 → n ≡ length (words_opened t)
    count_words m =
        omega (arith, s, m, opened_count t k.records (bounds k.areas k.corners 0 65536) known, elements_words t)

    pub count_lines : n ≡ size / 65536 % 65536 → n ≡ lines_in (words_opened t)
    unfolding words_opened
    count_lines m =
        m
        ∙ (lines_weight (elements_opened t) size (opened_short t k.records (bounds k.areas k.corners 0 65536) known) s
        ∙ sym (words_lines (elements_opened t)))

-- ---- the answer
module _ (t : Tree) (n : ℕ) (e : n ≡ length (stream_opened t)) where
  pub has_room : room_for (length t.head) (length t.cells) (length t.entries) n ≡ true → room_answer t ≡ Ok n
  has_room h = let h' : room_for (length t.head) (length t.cells) (length t.entries) (length (stream_opened t)) ≡ true = rw e at h in rw (h', e)

  pub no_room : room_for (length t.head) (length t.cells) (length t.entries) n ≡ false → room_answer t ≡ Err Room
  no_room h = let h' : room_for (length t.head) (length t.cells) (length t.entries) (length (stream_opened t)) ≡ false = rw e at h in rw h'
