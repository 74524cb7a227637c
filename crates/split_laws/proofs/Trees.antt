-- The seven tables after a split, together: `Kept` of them, and the numbers in use.
use mathlib.Core.Path.{◌≡◌, refl, sym, ap, ◌∙◌}
use mathlib.Core.Bool.{true}
use mathlib.Core.List.{List}
use Prim.Native.Nat.{ℕ, ◌+◌, ◌≤◌, ◌<◌}
use native.Mathlib.Omega.{arith}
use lib.Dec.{leb}
use lib.ListN.{length, get_or}
use Rattle.std.specs.Prelude.{Ok, Err}
use Rattle.refusals.specs.declared.Refusal.{Refusal}
use Rattle.cells.specs.Cells.{child}
use Rattle.stream.specs.Table.{words_from}
use Rattle.stream.specs.Grammar.{used_range}
use Rattle.celltable.specs.Table.{cell_at, with_child}
use Rattle.celltable.specs.Ranges.{head_range, cell_of}
use Rattle.celltable.specs.Descent.{quarter_at}
use Rattle.four_children.specs.Children.{words_with, words_of_child, entries_of_child, lines_of_child, streams_to}
use Rattle.tables.specs.Tables.{Tree, tree, cells_used, entries_used, bounds_of, counts_in}
use Rattle.split.specs.Split.{words, drawing, stream, made, split_answer, head_after, cells_after, entries_after}
use Rattle.tables.proofs.Heads.{used_is}
use Rattle.split_laws.specs.After.{split_tree}
use Rattle.split.specs.code.Accepted.{Accepted}
use Rattle.tables.proofs.Counts.{counts_plan, counts_used, counts_long, counts_of, used_more, head_fits}
use Rattle.split.proofs.Accepted.{split_accepted}
use Rattle.split_laws.proofs.Kept.{
  split_length_head,
  split_length_cells,
  split_length_entries,
  split_used,
  split_free,
  split_keeps_cell,
  split_cell,
  split_child,
  split_stream,
  split_child_stream,
}

-- a refused split changes nothing
pub tree_refused : (t : Tree) (i : ℕ) (r : Refusal) → split_answer t i ≡ Err r → split_tree t i ≡ t
unfolding split_tree
tree_refused t i r e =
    λ d.
    tree t.plan t.areas t.xs t.ys (ap (head_after t i) e d) (ap (cells_after t i) e d) (ap (entries_after t i) e d)

-- the tables of the drawing stay
pub tree_plan : (t : Tree) (i : ℕ) → (split_tree t i).plan ≡ t.plan
unfolding split_tree
tree_plan t i = refl

module _ (t : Tree) (i n : ℕ) (e : split_answer t i ≡ Ok n) where
  pub tree_head : (split_tree t i).head ≡ head_after t i (Ok n)
  unfolding split_tree
  tree_head = ap (head_after t i) e

  pub tree_cells : (split_tree t i).cells ≡ cells_after t i (Ok n)
  unfolding split_tree
  tree_cells = ap (cells_after t i) e

  pub tree_entries : (split_tree t i).entries ≡ entries_after t i (Ok n)
  unfolding split_tree
  tree_entries = ap (entries_after t i) e

  -- ---- the numbers in use
  pub tree_used : cells_used (split_tree t i).head ≡ cells_used t.head + 4
  tree_used = ap cells_used tree_head ∙ split_used t i n e

  pub tree_free : entries_used (split_tree t i).head ≡ entries_used t.head + length (made t i)
  tree_free = ap entries_used tree_head ∙ split_free t i n e

  pub tree_length_head : length (split_tree t i).head ≡ length t.head
  tree_length_head = ap length tree_head ∙ split_length_head t i n e

  pub tree_length_cells : length (split_tree t i).cells ≡ length t.cells
  tree_length_cells = ap length tree_cells ∙ split_length_cells t i n e

  pub tree_length_entries : length (split_tree t i).entries ≡ length t.entries
  tree_length_entries = ap length tree_entries ∙ split_length_entries t i n e

  A : Accepted t i
  A = split_accepted t i n e

  long : 2 ≤ length (split_tree t i).head
  long = omega (arith, tree_length_head, counts_long t A.able.counts)

  headed : head_range (split_tree t i).head (length (split_tree t i).cells) (length (split_tree t i).entries) ≡ true
  headed =
      let u : get_or (split_tree t i).head 0 0 ≡ cells_used t.head + 4 = sym (used_is (split_tree t i).head long) ∙ tree_used in
      let f = tree_free in
      let lc = tree_length_cells in
      let le = tree_length_entries in
      head_fits (split_tree t i).head (length (split_tree t i).cells) (length (split_tree t i).entries) long (omega arith)
      (omega (arith, A.cells)) (omega (arith, A.few_cells)) (omega (arith, A.entries)) (omega (arith, A.few_entries))

  drawn : used_range (length (split_tree t i).entries) (entries_used (split_tree t i).head) (length t.areas) (length t.xs)
      (length t.ys) (bounds_of t.plan (words t i))
      ≡ true
  drawn =
      let f = tree_free in
      let le = tree_length_entries in
      rw le
      (used_more (length t.entries) (entries_used t.head) (entries_used (split_tree t i).head) (length t.areas) (length t.xs)
      (length t.ys) (bounds_of t.plan (words t i)) (omega (arith, A.entries)) (omega (arith, A.few_entries))
      (counts_used t A.able.counts (words t i)))

  drawn_any : (j : ℕ)
      → used_range (length (split_tree t i).entries) (entries_used (split_tree t i).head) (length (split_tree t i).areas)
      (length (split_tree t i).xs) (length (split_tree t i).ys) (bounds_of (split_tree t i).plan (words (split_tree t i) j))
      ≡ true
  unfolding split_tree used_range
  drawn_any j = drawn

  planned : leb 3 (length (split_tree t i).plan) ≡ true
  planned = ap (λ (x : List ℕ). leb 3 (length x)) (tree_plan t i) ∙ counts_plan t A.able.counts

  -- they pass as before
  pub tree_counts : counts_in (split_tree t i) ≡ true
  tree_counts = counts_of (split_tree t i) headed planned (words (split_tree t i) 0) (drawn_any 0)

  -- ---- the cells
  pub tree_keeps_cell : (j : ℕ) → j < cells_used t.head → (j ≡ i → ⊥) → words (split_tree t i) j ≡ words t j
  tree_keeps_cell j h f = ap (λ (x : List ℕ). cell_at x j) tree_cells ∙ split_keeps_cell t i n e j h f

  pub tree_cell : words (split_tree t i) i ≡ with_child (words t i) (cells_used t.head)
  tree_cell = ap (λ (x : List ℕ). cell_at x i) tree_cells ∙ split_cell t i n e

  pub tree_child : (q : ℕ)
      → q < 4
      → words (split_tree t i) (cells_used t.head + q)
      ≡ words_with (child (cell_of (words t i)) (quarter_at q))
      (entries_used t.head + length (streams_to (drawing t i) (cell_of (words t i)) (stream t i) q))
      (entries_of_child (drawing t i) (cell_of (words t i)) (stream t i) q) (lines_of_child (drawing t i) (cell_of (words t i)) (stream t i) q) i
  tree_child q h = ap (λ (x : List ℕ). cell_at x (cells_used t.head + q)) tree_cells ∙ split_child t i n e q h

  -- ---- the streams
  pub tree_stream : (first count : ℕ)
      → first + count ≤ entries_used t.head
      → words_from (split_tree t i).entries first count ≡ words_from t.entries first count
  tree_stream first count h = ap (λ (x : List ℕ). words_from x first count) tree_entries ∙ split_stream t i n e first count h

  pub tree_child_stream : (q : ℕ)
      → q < 4
      → words_from (split_tree t i).entries (entries_used t.head + length (streams_to (drawing t i) (cell_of (words t i)) (stream t i) q))
      (entries_of_child (drawing t i) (cell_of (words t i)) (stream t i) q)
      ≡ words_of_child (drawing t i) (cell_of (words t i)) (stream t i) q
  tree_child_stream q h =
      ap
      (λ (x : List ℕ).
      words_from x (entries_used t.head + length (streams_to (drawing t i) (cell_of (words t i)) (stream t i) q))
      (entries_of_child (drawing t i) (cell_of (words t i)) (stream t i) q))
      tree_entries
      ∙ split_child_stream t i n e q h
