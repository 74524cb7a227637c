-- In tables that are sound every cell in use passes 12, and so does every leaf with its stream.
use mathlib.Core.Path.{◌≡◌, sym, ap, ◌∙◌, subst}
use mathlib.Core.Bool.{true}
use mathlib.Core.List.{List}
use Prim.Native.Nat.{ℕ, ◌+◌, ◌<◌}
use native.Mathlib.Omega.{arith}
use native.Mathlib.Decide.{ℕ_discrete}
use lib.Dec.{eqb, ltb}
use lib.ListN.{length}
use borrow.Author.Tests.{lt-ltb, le-leb}
use Rattle.laws.proofs.Booleans.{or_right}
use Rattle.cells.specs.Cells.{Cell, cell, root}
use Rattle.ranges.proofs.Streams.{made_checks}
use Rattle.celltable.specs.declared.CellWords.{CellWords}
use Rattle.celltable.specs.Ranges.{child_range, parent_range, cell_range, level_of, cell_of}
use Rattle.celltable.specs.Descent.{place_of}
use Rattle.celltable.proofs.Powers.{level_of_law}
use Rattle.celltable.proofs.Ranges.{leaf_child}
use Rattle.celltable.proofs.Grid.{Gridded, SaysCell, gridded_cell}
use Rattle.celltable.proofs.Parents.{quarter_passes, root_passes}
use Rattle.tables.specs.Tables.{Tree, cells_used, entries_used, bounds_of, leaf_passes}
use Rattle.tables.proofs.Leaves.{leaf_both}
use Rattle.split.specs.Split.{words, against}
use Rattle.tables.proofs.Counts.{free_most, free_within}
use Rattle.demand.specs.History.{Node, cell_in, first_in, parent_in, Leaf}
use Rattle.demand.specs.Stands.{drawing_of}
use Rattle.demand.proofs.History.{hangs_child}
use Rattle.demand.proofs.Sound.{Sound}

-- words that say a cell of the grid are that cell's
pub says_is : (w : CellWords) (c : Cell) → Gridded c → SaysCell w c → cell_of w ≡ c
says_is w (cell x y k) g s = λ d. cell (s.same_x d) (s.same_y d) ((ap level_of s.same_side ∙ level_of_law 16 k g.few) d)

module _ (t : Tree) (H : List Node) (s : Sound t H) where
  abbrev used : ℕ
  used = cells_used t.head

  abbrev free : ℕ
  free = entries_used t.head

  pub cell_is : (i : ℕ) → i < length H → cell_of (words t i) ≡ cell_in H i
  cell_is i h = says_is (words t i) (cell_in H i) (s.grown.on_grid i h) (s.squares i h)

  children : (i : ℕ) → i < length H → child_range (words t i).child used ≡ true
  children i h = go (ℕ_discrete (first_in H i) 0)
    where
      go : Dec (first_in H i ≡ 0) → child_range (words t i).child used ≡ true
      go (yes z) = leaf_child (words t i).child used (s.firsts i h ∙ z)
      go (no z) =
          let d = s.grown.divided i h z in
          or_right (eqb (words t i).child 0) (ltb ((words t i).child + 3) used)
          (lt-ltb ((words t i).child + 3) used (omega (arith, d.in_use, s.firsts i h, s.in_use)))

  first_root : (i : ℕ) → i ≡ 0 → cell_in H i ≡ root
  first_root i e = ap (cell_in H) e ∙ s.grown.first

  -- the parent: cell 0 is its own, any other cell is a quarter of it
  parent_passes : (i : ℕ) → i < length H → parent_range t.cells i used ≡ true
  parent_passes i h = go (ℕ_discrete i 0)
    where
      go : Dec (i ≡ 0) → parent_range t.cells i used ≡ true
      go (yes z) = root_passes t.cells i used z (s.parents i h ∙ (ap (parent_in H) z ∙ s.grown.first_parent))
      go (no z) =
          let k = s.grown.hangs i h z in
          let p : ℕ = parent_in H i in
          let d = s.grown.divided p k.in_use k.parted in
          let c : (words t p).child ≡ first_in H p = s.firsts p k.in_use in
          quarter_passes t.cells used i p (cell_in H p) k.quarter d.wide (s.squares p k.in_use)
          (subst (SaysCell (words t i)) (hangs_child H i s.grown k) (s.squares i h)) (s.parents i h) (omega (arith, k.in_use, s.in_use))
          (λ e. k.parted (sym c ∙ e)) (omega (arith, d.in_use, c, s.in_use)) (k.place ∙ ap (λ (n : ℕ). n + place_of k.quarter) (sym c))

  pub cell_passes : (i : ℕ) → i < length H → cell_range t.cells i (cells_used t.head) (entries_used t.head) ≡ true
  cell_passes i h =
      gridded_cell t.cells (cell_in H i) i used free (s.grown.on_grid i h) (first_root i) (s.squares i h) (children i h)
      (le-leb ((words t i).first + (words t i).count) free (s.entries i h)) (parent_passes i h)

  pub leaf_passes_law : (i : ℕ) → Leaf H i
      → leaf_passes t.entries (words t i).first (words t i).count (words t i).lines (entries_used t.head) (against t i) ≡ true
  leaf_passes_law i l =
      let q = s.squares i l.in_use in
      leaf_both t.entries (words t i).first (words t i).count (words t i).lines free (against t i)
      (made_checks (drawing_of t) s.drawn.valid t.areas t.xs t.ys (bounds_of t.plan (words t i))
      (s.drawn.held (words t i).y (words t i).side) (cell_in H i) q.same_y q.same_side t.entries (words t i).first
      (words t i).count free (s.streams i l) (s.entries i l.in_use) (free_within t s.counts) (free_most t s.counts))
      (sym (s.line_counts i l))
