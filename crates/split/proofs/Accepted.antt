-- When a split is accepted.
use mathlib.Core.Path.{◌≡◌, refl, ap, ◌∙◌}
use mathlib.Core.Bool.{Bool, true, false, cond}
use Prim.Native.Nat.{ℕ, ◌+◌, ◌≤◌}
use native.Mathlib.Omega.{arith}
use lib.Dec.{eqb, ltb}
use lib.ListN.{length}
use borrow.Author.Tests.{eqb-true, eqb-false, ltb-true, eq-eqb, ne_eqb, lt-ltb}
use Rattle.refusals.specs.declared.Refusal.{Refusal}
use Rattle.refusals.specs.declared.Refusal.TheVariants.{Argument, NoCell, AlreadySplit, Smallest, Room, Broken}
use Rattle.stream.specs.Grammar.{Passed}
use Rattle.stream.proofs.Passed.{passed}
use Rattle.celltable.specs.Ranges.{square_range, cell_range, cells_held, entries_held}
use Rattle.celltable.proofs.Ranges.{passes_range, passes_entries, square_fits_law}
use Rattle.std.specs.Prelude.{Result, Ok, Err}
use Rattle.tables.specs.Tables.{Tree, cells_used, entries_used, counts_in, leaf_passes}
use Rattle.split.specs.Split.{words, against, made, room_answer, cell_split, counts_split, split_answer}
use Rattle.tables.proofs.Rooms.{cells_room, entries_room}
use Rattle.split.specs.code.Accepted.{Splittable, Accepted}
use Rattle.tables.proofs.Leaves.{leaf_stream_law}

-- one test of the call
taken : (b : Bool) (x : Result ℕ Refusal) (r : Refusal) (n : ℕ) → cond b x (Err r) ≡ Ok n → (b ≡ true) × (x ≡ Ok n)
taken true x r n e = (refl, e)
taken false x r n e = absurd cc

passed_by : (b : Bool) (x : Result ℕ Refusal) (r : Refusal) (n : ℕ) → cond b (Err r) x ≡ Ok n → (b ≡ false) × (x ≡ Ok n)
passed_by true x r n e = absurd cc
passed_by false x r n e = (refl, e)

pub chosen : (b : Bool) (x y : Result ℕ Refusal) → b ≡ true → cond b x y ≡ x
chosen b x y e = ap (λ (c : Bool). cond c x y) e

module _ (t : Tree) (i : ℕ) where
  abbrev used : ℕ
  used = cells_used t.head

  abbrev free : ℕ
  free = entries_used t.head

  abbrev roomed : Result ℕ Refusal
  roomed = room_answer (length t.cells) (length t.entries) used free (length (made t i))

  abbrev streamed : Bool
  streamed = leaf_passes t.entries (words t i).first (words t i).count (words t i).lines free (against t i)

  abbrev sized : Result ℕ Refusal
  sized = cond (eqb (words t i).side 1) (Err Smallest) roomed

  abbrev leafed : Result ℕ Refusal
  leafed = cond streamed sized (Err Broken)

  -- all but 11 is settled
  pub able_answer : Splittable t i
      → split_answer t i ≡ room_answer (length t.cells) (length t.entries) (cells_used t.head) (entries_used t.head) (length (made t i))
  able_answer s =
      chosen (eqb (length t.xs) (length t.ys)) (cond (ltb i used) (counts_split t i) (Err NoCell)) (Err Argument)
      (eq-eqb (length t.xs) (length t.ys) s.pair)
      ∙ (chosen (ltb i used) (counts_split t i) (Err NoCell) (lt-ltb i used s.in_use)
      ∙ (chosen (counts_in t) (cell_split t i) (Err Broken) s.counts
      ∙ (chosen (cell_range t.cells i used free) (cond (eqb (words t i).child 0) leafed (Err AlreadySplit)) (Err Broken) s.cell
      ∙ (chosen (eqb (words t i).child 0) leafed (Err AlreadySplit) (eq-eqb (words t i).child 0 s.leaf)
      ∙ (chosen streamed sized (Err Broken) s.passes
      ∙ ap (λ (b : Bool). cond b (Err Smallest) roomed) (ne_eqb (words t i).side 1 (λ e. omega (arith, e, s.halves))))))))

  -- the numbers of a leaf that may be split
  module _ (s : Splittable t i) where
    pub able_square : square_range (words t i) ≡ true
    able_square = passes_range t.cells i used free s.cell

    pub able_entries : (words t i).first + (words t i).count ≤ free
    able_entries = passes_entries t.cells i used free s.cell

    pub able_stream : Passed t.entries (words t i).first (words t i).count (against t i)
    able_stream =
        passed t.entries (words t i).first (words t i).count free (against t i)
        (leaf_stream_law t.entries (words t i).first (words t i).count (words t i).lines free (against t i) s.passes)

  module _ (n : ℕ) (e : split_answer t i ≡ Ok n) where
    e1 : (eqb (length t.xs) (length t.ys) ≡ true) × (cond (ltb i used) (counts_split t i) (Err NoCell) ≡ Ok n)
    e1 = taken (eqb (length t.xs) (length t.ys)) (cond (ltb i used) (counts_split t i) (Err NoCell)) Argument n e

    e2 : (ltb i used ≡ true) × (counts_split t i ≡ Ok n)
    e2 = taken (ltb i used) (counts_split t i) NoCell n e1.1

    e3 : (counts_in t ≡ true) × (cell_split t i ≡ Ok n)
    e3 = taken (counts_in t) (cell_split t i) Broken n e2.1

    e4 : (cell_range t.cells i used free ≡ true) × (cond (eqb (words t i).child 0) leafed (Err AlreadySplit) ≡ Ok n)
    e4 = taken (cell_range t.cells i used free) (cond (eqb (words t i).child 0) leafed (Err AlreadySplit)) Broken n e3.1

    e5 : (eqb (words t i).child 0 ≡ true) × (leafed ≡ Ok n)
    e5 = taken (eqb (words t i).child 0) leafed AlreadySplit n e4.1

    e6 : (streamed ≡ true) × (sized ≡ Ok n)
    e6 = taken streamed sized Broken n e5.1

    e7 : (eqb (words t i).side 1 ≡ false) × (roomed ≡ Ok n)
    e7 = passed_by (eqb (words t i).side 1) roomed Smallest n e6.1

    abbrev room1 : Bool
    room1 = cells_held (used + 4) (length t.cells)

    abbrev room2 : Bool
    room2 = entries_held (free + length (made t i)) (length t.entries)

    f1 : (room1 ≡ true) × (cond room2 (Ok used) (Err Room) ≡ Ok n)
    f1 = taken room1 (cond room2 (Ok used) (Err Room)) Room n e7.1

    f2 : (room2 ≡ true) × ◌≡◌ {A = Result ℕ Refusal} (Ok used) (Ok n)
    f2 = taken room2 (Ok used) Room n f1.1

    pub split_able : Splittable t i
    split_able =
        record {
          pair = eqb-true (length t.xs) (length t.ys) e1.0;
          counts = e3.0;
          in_use = ltb-true i used e2.0;
          cell = e4.0;
          leaf = eqb-true (words t i).child 0 e5.0;
          passes = e6.0;
          halves = omega (arith, (square_fits_law (words t i) (passes_range t.cells i used free e4.0)).some_side, eqb-false (words t i).side 1 e7.0);
        }

    -- what an accepted split says of the tables
    pub split_accepted : Accepted t i
    split_accepted =
        let k = cells_room (used + 4) (length t.cells) f1.0 in
        let m = entries_room (free + length (made t i)) (length t.entries) f2.0 in
        record { able = split_able; cells = k.0; few_cells = k.1; entries = m.0; few_entries = m.1 }

    -- the number that it gives is that of the first child: the cells in use before
    pub split_number_law : n ≡ cells_used t.head
    split_number_law = let e = f2.1 in cc
