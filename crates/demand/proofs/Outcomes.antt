-- What a split in sound tables answers: the first of its four cells, or a refusal that is not 12.
use mathlib.Core.Path.{◌≡◌, refl, sym, ap, ◌∙◌, subst}
use mathlib.Core.Bool.{Bool, true, false, cond}
use mathlib.Core.List.{List}
use Prim.Native.Nat.{ℕ, zero, suc, ◌+◌, ◌<◌}
use native.Mathlib.Omega.{arith}
use native.Mathlib.Nat.{one-le-pow, two-pow-succ}
use lib.Dec.{eqb, ltb}
use lib.ListN.{length}
use borrow.Author.Tests.{eqb-true, eqb-false, ltb-true, eq-eqb}
use Rattle.std.specs.Prelude.{Result, Ok, Err}
use Rattle.refusals.specs.declared.Refusal.{Refusal}
use Rattle.refusals.specs.declared.Refusal.TheVariants.{Argument, NoCell, AlreadySplit, Smallest, Room, Broken}
use Rattle.refusals.specs.Refusals.{number_of}
use Rattle.cells.specs.Cells.{Cell, cell, level, side}
use Rattle.cells.proofs.Cells.{some_side}
use Rattle.celltable.specs.Ranges.{cell_range, cells_held, entries_held}
use Rattle.tables.specs.Tables.{Tree, cells_used, entries_used, counts_in, leaf_passes}
use Rattle.split.specs.Split.{words, against, made, room_answer, cell_split, counts_split, split_answer}
use Rattle.split_laws.specs.After.{split_tree}
use Rattle.split.specs.code.Accepted.{Splittable}
use Rattle.split.proofs.Accepted.{able_answer, chosen}
use Rattle.demand.specs.History.{Node, cell_in, split_at, Leaf}
use Rattle.demand.proofs.Sound.{Sound}
use Rattle.demand.proofs.Passing.{cell_passes, leaf_passes_law}
use Rattle.demand.proofs.Splits.{split_sound}

-- what a split leaves: with its answer, and the history after it
pub data Outcome (t : Tree) (H : List Node) (i : ℕ) : Result ℕ Refusal → Type 0 where
  accepted : (n : ℕ) → n ≡ length H → Leaf H i → 0 < level (cell_in H i) → Sound (split_tree t i) (split_at H i) → Outcome t H i (Ok n)
  refused : (r : Refusal) → (r ≡ Broken → ⊥) → Outcome t H i (Err r)

-- of a leaf of a side over 1: only 11 is left
pub data Roomed (t : Tree) (H : List Node) (i : ℕ) : Result ℕ Refusal → Type 0 where
  fits : (n : ℕ) → n ≡ length H → Sound (split_tree t i) (split_at H i) → Roomed t H i (Ok n)
  short : Roomed t H i (Err Room)

-- refusals have numbers of their own
pub other : (r : Refusal) → (number_of r ≡ 12 → ⊥) → r ≡ Broken → ⊥
other r f e = f (ap number_of e)

wide : (c : Cell) → (side c ≡ 1 → ⊥) → 0 < level c
wide (cell x y zero) f = absurd (f refl)
wide (cell x y (suc k)) f = omega arith

pub wide_side : (c : Cell) → 0 < level c → side c ≡ 1 → ⊥
wide_side (cell x y zero) h e = omega arith
wide_side (cell x y (suc k)) h e = omega (arith, two-pow-succ k, one-le-pow k 2 (omega arith))

module _ (t : Tree) (H : List Node) (i : ℕ) (s : Sound t H) where
  abbrev used : ℕ
  used = cells_used t.head

  abbrev free : ℕ
  free = entries_used t.head

  abbrev room : Result ℕ Refusal
  room = room_answer (length t.cells) (length t.entries) used free (length (made t i))

  abbrev streamed : Bool
  streamed = leaf_passes t.entries (words t i).first (words t i).count (words t i).lines free (against t i)

  abbrev sized : Result ℕ Refusal
  sized = cond (eqb (words t i).side 1) (Err Smallest) room

  abbrev leafed : Result ℕ Refusal
  leafed = cond streamed sized (Err Broken)

  abbrev celled : Result ℕ Refusal
  celled = cond (eqb (words t i).child 0) leafed (Err AlreadySplit)

  module _ (h : i < length H) where
    -- 12 does not meet the numbers in use, nor the cell
    counted : counts_split t i ≡ celled
    counted =
        chosen (counts_in t) (cell_split t i) (Err Broken) s.counts
        ∙ chosen (cell_range t.cells i used free) celled (Err Broken) (cell_passes t H s i h)

    module _ (l : Leaf H i) where
      -- the stream of a leaf passes
      leaf_sized : leafed ≡ sized
      leaf_sized = chosen streamed sized (Err Broken) (leaf_passes_law t H s i l)

      module _ (big : (words t i).side ≡ 1 → ⊥) where
        large : 0 < level (cell_in H i)
        large = wide (cell_in H i) (λ e. big ((s.squares i h).same_side ∙ e))

        able : Splittable t i
        able =
            record {
              pair = s.drawn.pair;
              counts = s.counts;
              in_use = omega (arith, h, s.in_use);
              cell = cell_passes t H s i h;
              leaf = s.firsts i h ∙ l.undivided;
              passes = leaf_passes_law t H s i l;
              halves = let p : 0 < (words t i).side = omega (arith, some_side (cell_in H i), (s.squares i h).same_side) in omega (arith, big);
            }

        roomed : (a b : Bool) → cells_held (used + 4) (length t.cells) ≡ a → entries_held (free + length (made t i)) (length t.entries) ≡ b
            → Roomed t H i (cond a (cond b (Ok used) (Err Room)) (Err Room))
        roomed true true p q =
            let e : split_answer t i ≡ Ok used = able_answer t i able ∙ (λ d. cond (p d) (cond (q d) (Ok used) (Err Room)) (Err Room)) in
            fits used s.in_use (split_sound t H i used s e l large)
        roomed true false p q = short
        roomed false b p q = short

        room_out : Roomed t H i room
        room_out = roomed (cells_held (used + 4) (length t.cells)) (entries_held (free + length (made t i)) (length t.entries)) refl refl

        roomed_out : {r : Result ℕ Refusal} → Roomed t H i r → Outcome t H i r
        roomed_out (fits n e o) = accepted n e l large o
        roomed_out short = refused Room (other Room (λ e. omega arith))

      sized_out : (b : Bool) → eqb (words t i).side 1 ≡ b → Outcome t H i (cond b (Err Smallest) room)
      sized_out true e = refused Smallest (other Smallest (λ z. omega arith))
      sized_out false e = let f = eqb-false (words t i).side 1 e in roomed_out f (room_out f)

    celled_out : (b : Bool) → eqb (words t i).child 0 ≡ b → Outcome t H i (cond b leafed (Err AlreadySplit))
    celled_out true e =
        let l : Leaf H i = record { in_use = h; undivided = sym (s.firsts i h) ∙ eqb-true (words t i).child 0 e } in
        subst (Outcome t H i) (sym (leaf_sized l)) (sized_out l (eqb (words t i).side 1) refl)
    celled_out false e = refused AlreadySplit (other AlreadySplit (λ z. omega arith))

  pub leaf_roomed : Leaf H i → 0 < level (cell_in H i) → Roomed t H i (split_answer t i)
  leaf_roomed l k =
      let f : (words t i).side ≡ 1 → ⊥ = λ e. wide_side (cell_in H i) k (sym (s.squares i l.in_use).same_side ∙ e) in
      subst (Roomed t H i) (sym (able_answer t i (able l.in_use l f))) (room_out l.in_use l f)

  numbered : (b : Bool) → ltb i used ≡ b → Outcome t H i (cond b (counts_split t i) (Err NoCell))
  numbered true e =
      let h : i < length H = omega (arith, ltb-true i used e, s.in_use) in
      subst (Outcome t H i) (sym (counted h)) (celled_out h (eqb (words t i).child 0) refl)
  numbered false e = refused NoCell (other NoCell (λ z. omega arith))

  pub split_outcome : Outcome t H i (split_answer t i)
  split_outcome =
      subst (Outcome t H i)
      (sym
      (chosen (eqb (length t.xs) (length t.ys)) (cond (ltb i used) (counts_split t i) (Err NoCell)) (Err Argument)
      (eq-eqb (length t.xs) (length t.ys) s.drawn.pair)))
      (numbered (ltb i used) refl)
