-- What growing meets at a cell, before and after a split of another, and what a split of a leaf that is wanted answers.
use mathlib.Core.Path.{◌≡◌, refl, sym, ap, subst, ◌∙◌}
use mathlib.Core.Bool.{Bool, true, false, cond}
use Prim.Native.Nat.{ℕ, ◌+◌, ◌^◌, ◌≤◌, ◌<◌}
use native.Mathlib.Omega.{arith}
use native.Mathlib.Nat.{pow-le-pow_right}
use lib.Dec.{eqb, ltb}
use lib.ListN.{length}
use borrow.Author.Tests.{eqb-true, ltb-true, eq-eqb, ne_eqb, lt-ltb}
use Rattle.std.specs.Prelude.{Result, Ok, Err}
use Rattle.laws.proofs.Booleans.{clash, and_right}
use Rattle.refusals.specs.declared.Refusal.{Refusal}
use Rattle.refusals.specs.declared.Refusal.TheVariants.{Argument, NoCell, AlreadySplit, Room, Broken}
use Rattle.celltable.specs.declared.CellWords.{CellWords}
use Rattle.celltable.specs.Ranges.{cell_range, cells_held, entries_held, level_of}
use Rattle.celltable.proofs.Ranges.{passes_range, square_fits_law}
use Rattle.tables.specs.Tables.{Tree, cells_used, entries_used, bounds_of, counts_in, leaf_passes}
use Rattle.split.specs.Split.{words, against, made, size_answer, cell_split, counts_split, split_answer}
use Rattle.split_laws.specs.After.{split_tree}
use Rattle.tables.proofs.Counts.{used_some}
use Rattle.split.proofs.Accepted.{able_answer, split_able, chosen}
use Rattle.split_laws.proofs.Trees.{tree_keeps_cell, tree_cell}
use Rattle.split_laws.proofs.Passing.{tree_range, tree_range_split}
use Rattle.grow.specs.declared.Tried.{Tried}
use Rattle.grow.specs.declared.Tried.TheVariants.{Bad, Past, Wanted}
use Rattle.grow.specs.Grow.{depth_at, wanted_by, tried_cell, tried}

-- ---- the three tests
abbrev tests : (r f w : Bool) → Tried
tests r f w = cond r (cond f (cond w Wanted Past) Past) Bad

abbrev is_past : Tried → Bool
is_past Bad = false
is_past Past = true
is_past Wanted = false

abbrev is_leaf : Tried → Bool
is_leaf Bad = false
is_leaf Past = false
is_leaf Wanted = true

past_range : (r f w : Bool) → tests r f w ≡ Past → r ≡ true
past_range true f w e = refl
past_range false f w e = clash (ap is_past e)

past_more : (r f w r' : Bool) → r' ≡ true → tests r f w ≡ Past → tests r' f w ≡ Past
past_more true f w r' a e = ap (λ (b : Bool). tests b f w) a ∙ e
past_more false f w r' a e = clash (ap is_past e)

wanted_all : (r f w : Bool) → tests r f w ≡ Wanted → (r ≡ true) × (f ≡ true) × (w ≡ true)
wanted_all true true true e = (refl, refl, refl)
wanted_all true true false e = clash (ap is_leaf e)
wanted_all true false w e = clash (ap is_leaf e)
wanted_all false f w e = clash (ap is_leaf e)

-- ---- after an accepted split
module _ (n l : ℕ) (t : Tree) (i k : ℕ) (e : split_answer t i ≡ Ok k) where
  abbrev t' : Tree
  t' = split_tree t i

  abbrev used' : ℕ
  used' = cells_used t'.head

  abbrev free' : ℕ
  free' = entries_used t'.head

  -- a cell that was passed over still is
  pub past_keeps : (j : ℕ) → j < cells_used t.head → (j ≡ i → ⊥) → tried t n l j ≡ Past → tried (split_tree t i) n l j ≡ Past
  unfolding tried
  past_keeps j h f p =
      subst (λ (w : CellWords). tried_cell n l t'.cells j used' free' w ≡ Past) (sym (tree_keeps_cell t i k e j h f))
      (past_more R (eqb w.child 0) W (cell_range t'.cells j used' free') (tree_range t i k e j h f (past_range R (eqb w.child 0) W p)) p)
    where
      w : CellWords
      w = words t j

      R : Bool
      R = cell_range t.cells j (cells_used t.head) (entries_used t.head)

      W : Bool
      W = wanted_by n l w.side w.lines

  -- and so is the cell that was split
  pub past_split : tried (split_tree t i) n l i ≡ Past
  unfolding tried
  past_split =
      ap (λ (b : Bool). cond b (cond (eqb (words t' i).child 0) leafed Past) Bad) (tree_range_split t i k e)
      ∙ ap (λ (b : Bool). cond b leafed Past) (ne_eqb (words t' i).child 0 child_some)
    where
      leafed : Tried
      leafed = cond (wanted_by n l (words t' i).side (words t' i).lines) Wanted Past

      child_is : (words t' i).child ≡ cells_used t.head
      child_is = ap (λ (w : CellWords). w.child) (tree_cell t i k e)

      child_some : (words t' i).child ≡ 0 → ⊥
      child_some z = omega (arith, child_is, z, used_some t (split_able t i k e).counts)

-- ---- a leaf that is wanted: its split is accepted, or refused with 11, or with 12 over its stream
pub data Wants (t : Tree) : Result ℕ Refusal → Type 0 where
  accepted : Wants t (Ok (cells_used t.head))
  full : Wants t (Err Room)
  broken : Wants t (Err Broken)

room_two : (t : Tree) (a b : Bool) → Wants t (cond a (cond b (Ok (cells_used t.head)) (Err Room)) (Err Room))
room_two t true true = accepted
room_two t true false = full
room_two t false b = full

module _ (n l : ℕ) (few : l ≤ 16) (t : Tree) (i : ℕ) (pair : length t.xs ≡ length t.ys) (counts : counts_in t ≡ true)
    (h : i < cells_used t.head) (e : tried t n l i ≡ Wanted) where
  abbrev in_cell : Bool
  in_cell = cell_range t.cells i (cells_used t.head) (entries_used t.head)

  abbrev is_wanted : Bool
  is_wanted = wanted_by n l (words t i).side (words t i).lines

  abbrev in_leaf_law : Bool
  in_leaf_law = leaf_passes t.entries (words t i).first (words t i).count (words t i).lines (entries_used t.head) (against t i)

  all : (in_cell ≡ true) × (eqb (words t i).child 0 ≡ true) × (is_wanted ≡ true)
  unfolding tried
  all = wanted_all in_cell (eqb (words t i).child 0) is_wanted e

  halves : 1 < (words t i).side
  halves =
      let d : depth_at (words t i).side < l = ltb-true (depth_at (words t i).side) l
      (and_right (ltb n (words t i).lines) (ltb (depth_at (words t i).side) l) all.2) in
      let q : 1 ≤ level_of (words t i).side = omega arith in
      let p : 2 ≤ 2 ^ level_of (words t i).side = pow-le-pow_right {n = 2} (omega arith) {i = 1} {j = level_of (words t i).side} q in
      omega (arith, p, (square_fits_law (words t i) (passes_range t.cells i (cells_used t.head) (entries_used t.head) all.0)).power)

  abbrev sized : Result ℕ Refusal
  sized =
      size_answer t.areas t.xs t.ys (bounds_of t.plan (words t i)) (words t i) t.entries (length t.cells)
      (cells_used t.head) (entries_used t.head)

  -- all before the stream is settled
  to_stream : split_answer t i ≡ cond in_leaf_law sized (Err Broken)
  to_stream =
      chosen (eqb (length t.xs) (length t.ys)) (cond (ltb i (cells_used t.head)) (counts_split t i) (Err NoCell)) (Err Argument)
      (eq-eqb (length t.xs) (length t.ys) pair)
      ∙ (chosen (ltb i (cells_used t.head)) (counts_split t i) (Err NoCell) (lt-ltb i (cells_used t.head) h)
      ∙ (chosen (counts_in t) (cell_split t i) (Err Broken) counts
      ∙ (chosen in_cell (cond (eqb (words t i).child 0) (cond in_leaf_law sized (Err Broken)) (Err AlreadySplit)) (Err Broken) all.0
      ∙ chosen (eqb (words t i).child 0) (cond in_leaf_law sized (Err Broken)) (Err AlreadySplit) all.1)))

  pub wanted_answer : Wants t (split_answer t i)
  wanted_answer = go in_leaf_law refl
    where
      go : (b : Bool) → in_leaf_law ≡ b → Wants t (split_answer t i)
      go true q =
          subst (Wants t)
          (sym
          (able_answer t i
          (record {
            pair = pair;
            counts = counts;
            in_use = h;
            cell = all.0;
            leaf = eqb-true (words t i).child 0 all.1;
            passes = q;
            halves = halves;
          })))
          (room_two t (cells_held (cells_used t.head + 4) (length t.cells))
          (entries_held (entries_used t.head + length (made t i)) (length t.entries)))
      go false q = subst (Wants t) (sym (to_stream ∙ ap (λ (b : Bool). cond b sized (Err Broken)) q)) broken
