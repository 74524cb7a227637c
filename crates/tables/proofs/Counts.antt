-- The check of the numbers in use, and what it says that they pass.
use mathlib.Core.Path.{◌≡◌, sym, subst, ◌∙◌}
use mathlib.Core.Bool.{Bool, true, false, cond, ◌&&◌}
use mathlib.Core.List.{List}
use Prim.Native.Nat.{ℕ, ◌*◌, ◌/◌, ◌≤◌, ◌<◌}
use native.Mathlib.Omega.{arith}
use lib.Dec.{leb}
use lib.ListN.{length, get_or}
use borrow.Author.Tests.{leb-true, le-leb, lt-leb}
use Rattle.laws.proofs.Choices.{pick_true, pick_false}
use Rattle.laws.proofs.Booleans.{and_right, and_both, cond_left, cond_right}
use Rattle.stream.specs.declared.Bounds.{Bounds}
use Rattle.stream.specs.Grammar.{bounds, used_range}
use Rattle.celltable.specs.declared.CellWords.{CellWords}
use Rattle.celltable.specs.Ranges.{head_range, CellsIn}
use Rattle.celltable.proofs.Ranges.{head_long, head_cells, head_entries}
use Rattle.tables.specs.Tables.{Tree, cells_used, entries_used, bounds_of, counts_in}
use Rattle.tables.proofs.Heads.{used_is}

module _ (t : Tree) where
  abbrev in_head : Bool
  in_head = head_range t.head (length t.cells) (length t.entries)

  abbrev in_plan : Bool
  in_plan = leb 3 (length t.plan)

  abbrev in_drawing : Bool
  in_drawing =
      used_range (length t.entries) (entries_used t.head) (length t.areas) (length t.xs) (length t.ys)
      (bounds (get_or t.plan 1 0) (get_or t.plan 2 0) 0 0)

  module _ (h : counts_in t ≡ true) where
    parts : cond in_head (cond in_plan in_drawing false) false ≡ true
    unfolding counts_in
    parts = h

    pub counts_head : head_range t.head (length t.cells) (length t.entries) ≡ true
    counts_head = cond_left in_head (cond in_plan in_drawing false) parts

    pub counts_plan : leb 3 (length t.plan) ≡ true
    counts_plan = cond_left in_plan in_drawing (cond_right in_head (cond in_plan in_drawing false) parts)

    counts_drawing : in_drawing ≡ true
    counts_drawing = cond_right in_plan in_drawing (cond_right in_head (cond in_plan in_drawing false) parts)

    -- the rows of a cell do not matter
    pub counts_used : (w : CellWords)
        → used_range (length t.entries) (entries_used t.head) (length t.areas) (length t.xs) (length t.ys)
        (bounds_of t.plan w)
        ≡ true
    unfolding used_range
    counts_used w = counts_drawing

    pub counts_long : 2 ≤ length t.head
    counts_long = head_long t.head t.cells (length t.entries) counts_head

    pub used_some : 1 ≤ cells_used t.head
    used_some = omega (arith, (head_cells t.head t.cells (length t.entries) counts_head).some, used_is t.head counts_long)

    pub used_most : cells_used t.head ≤ 4096
    used_most = omega (arith, (head_cells t.head t.cells (length t.entries) counts_head).few, used_is t.head counts_long)

    pub used_within : cells_used t.head * 8 ≤ length t.cells
    used_within = omega (arith, (head_cells t.head t.cells (length t.entries) counts_head).within, used_is t.head counts_long)

    pub free_most : entries_used t.head ≤ 65536
    free_most = (head_entries t.head t.cells (length t.entries) counts_head).0

    pub free_within : entries_used t.head * 4 ≤ length t.entries
    free_within = (head_entries t.head t.cells (length t.entries) counts_head).1

  pub counts_of : head_range t.head (length t.cells) (length t.entries) ≡ true
      → leb 3 (length t.plan) ≡ true
      → (w : CellWords)
      → used_range (length t.entries) (entries_used t.head) (length t.areas) (length t.xs) (length t.ys)
      (bounds_of t.plan w)
      ≡ true
      → counts_in t ≡ true
  unfolding counts_in used_range
  counts_of a b w d = rw (a, b) d

  -- by the tests of the code
  pub counts_yes : (r : Bool) (free : ℕ) (b : Bounds)
      → in_head ≡ true
      → 3 ≤ length t.plan
      → free ≡ get_or t.head 1 0
      → b ≡ bounds (get_or t.plan 1 0) (get_or t.plan 2 0) 0 0
      → r ≡ used_range (length t.entries) free (length t.areas) (length t.xs) (length t.ys) b
      → r ≡ counts_in t
  unfolding counts_in
  counts_yes r free b h l ef eb e =
      let e₁ : r ≡ in_drawing = rw (ef, eb) at e in
      e₁ ∙ pick_true in_plan in_drawing false (le-leb 3 (length t.plan) l) ∙ pick_true in_head (cond in_plan in_drawing false) false h

  pub counts_short : in_head ≡ true → length t.plan < 3 → false ≡ counts_in t
  unfolding counts_in
  counts_short h l = pick_false in_plan in_drawing false (lt-leb 3 (length t.plan) l) ∙ pick_true in_head (cond in_plan in_drawing false) false h

  pub counts_no : in_head ≡ false → false ≡ counts_in t
  unfolding counts_in
  counts_no h = pick_false in_head (cond in_plan in_drawing false) false h

-- another number of entries in use
pub used_more : (n used used' a x y : ℕ) (b : Bounds) → used' * 4 ≤ n → used' ≤ 65536 → used_range n used a x y b ≡ true → used_range n used' a x y b ≡ true
unfolding used_range
used_more n used used' a x y b h k e =
    and_both (leb used' (n / 4) && leb used' 65536) others
    (and_both (leb used' (n / 4)) (leb used' 65536) (le-leb used' (n / 4) (omega arith)) (le-leb used' 65536 k))
    (and_right (leb used (n / 4) && leb used 65536) others e)
  where
    others : Bool
    others = (leb b.areas (a / 8) && leb b.areas 64) && (leb b.corners x && (leb b.corners y && leb b.corners 2048))

pub head_fits : (head : List ℕ) (cells entries : ℕ)
    → 2 ≤ length head
    → 1 ≤ get_or head 0 0
    → get_or head 0 0 * 8 ≤ cells
    → get_or head 0 0 ≤ 4096
    → get_or head 1 0 * 4 ≤ entries
    → get_or head 1 0 ≤ 65536
    → head_range head cells entries ≡ true
unfolding head_range
head_fits head cells entries a b d e f g =
    rw (
      le-leb 2 (length head) a,
      le-leb 1 (get_or head 0 0) b,
      le-leb (get_or head 0 0) (cells / 8) (omega arith),
      le-leb (get_or head 0 0) 4096 e,
      le-leb (get_or head 1 0) (entries / 4) (omega arith),
      le-leb (get_or head 1 0) 65536 g,
    )

-- what numbers in use that pass say
pub record CountsFit (t : Tree) : Type 0 where
  pub head_long : 2 ≤ length t.head
  pub plan_long : 3 ≤ length t.plan
  pub cells_are : get_or t.head 0 0 ≡ cells_used t.head
  pub cells_fit : CellsIn t.cells (cells_used t.head)
  pub entries_few : entries_used t.head ≤ 65536
  pub entries_within : entries_used t.head * 4 ≤ length t.entries

pub counts_fit : (t : Tree) → counts_in t ≡ true → CountsFit t
counts_fit t h =
    record {
      head_long = counts_long t h;
      plan_long = leb-true 3 (length t.plan) (counts_plan t h);
      cells_are = sym (used_is t.head (counts_long t h));
      cells_fit = record { some = used_some t h; few = used_most t h; within = used_within t h };
      entries_few = free_most t h;
      entries_within = free_within t h;
    }

-- the cells that the code reads, by the head's first word
pub counts_cells : (t : Tree) (used : ℕ) → counts_in t ≡ true → used ≡ get_or t.head 0 0 → CellsIn t.cells used
counts_cells t used h e = subst (λ (n : ℕ). CellsIn t.cells n) (sym (e ∙ (counts_fit t h).cells_are)) (counts_fit t h).cells_fit

-- a test that the code made
pub told : (q r b : Bool) → q ≡ r → q ≡ b → r ≡ b
told q r b e f = sym e ∙ f
