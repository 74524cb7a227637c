-- What passed before a split passes after it.
use mathlib.Core.Path.{◌≡◌, ap, ◌∙◌}
use mathlib.Core.Bool.{true}
use Prim.Native.Nat.{ℕ, ◌+◌, ◌<◌}
use native.Mathlib.Omega.{arith}
use lib.Dec.{eqb, ltb}
use borrow.Author.Tests.{lt-ltb}
use Rattle.std.specs.Prelude.{Ok}
use Rattle.laws.proofs.Booleans.{or_right}
use Rattle.celltable.specs.Ranges.{cell_range}
use Rattle.celltable.proofs.Ranges.{child_more, passes_children}
use Rattle.celltable.proofs.Parents.{range_more}
use Rattle.tables.specs.Tables.{Tree, cells_used, entries_used}
use Rattle.split.specs.Split.{words, split_answer}
use Rattle.split_laws.specs.After.{split_tree}
use Rattle.split.specs.code.Accepted.{Accepted}
use Rattle.split.proofs.Accepted.{split_accepted}
use Rattle.split_laws.proofs.Trees.{tree_used, tree_free, tree_keeps_cell, tree_cell}

module _ (t : Tree) (i n : ℕ) (e : split_answer t i ≡ Ok n) where
  A : Accepted t i
  A = split_accepted t i n e

  -- a cell that was split is as it was
  same : (p : ℕ) → p < cells_used t.head → ((words t p).child ≡ 0 → ⊥) → words (split_tree t i) p ≡ words t p
  same p h f = tree_keeps_cell t i n e p h (λ z. f (ap (λ (k : ℕ). (words t k).child) z ∙ A.able.leaf))

  -- each cell but the one that is split
  pub tree_range : (j : ℕ) → j < cells_used t.head → (j ≡ i → ⊥) → cell_range t.cells j (cells_used t.head) (entries_used t.head) ≡ true
      → cell_range (split_tree t i).cells j (cells_used (split_tree t i).head) (entries_used (split_tree t i).head) ≡ true
  tree_range j h f r =
      let u = tree_used t i n e in
      let g = tree_free t i n e in
      range_more t.cells (split_tree t i).cells j (cells_used t.head) (cells_used (split_tree t i).head) (words t j).child
      (tree_keeps_cell t i n e j h f) (omega arith) same (entries_used t.head) (entries_used (split_tree t i).head) (omega arith)
      (child_more (words t j).child (cells_used t.head) (cells_used (split_tree t i).head) (omega arith)
      (passes_children t.cells j (cells_used t.head) (entries_used t.head) r))
      r

  -- and that one, which has children now
  pub tree_range_split : cell_range (split_tree t i).cells i (cells_used (split_tree t i).head) (entries_used (split_tree t i).head) ≡ true
  tree_range_split =
      let u = tree_used t i n e in
      let g = tree_free t i n e in
      let k : ℕ = cells_used t.head in
      range_more t.cells (split_tree t i).cells i (cells_used t.head) (cells_used (split_tree t i).head) k (tree_cell t i n e) (omega arith) same
      (entries_used t.head) (entries_used (split_tree t i).head) (omega arith)
      (or_right (eqb k 0) (ltb (k + 3) (cells_used (split_tree t i).head)) (lt-ltb (k + 3) (cells_used (split_tree t i).head) (omega arith)))
      A.able.cell
