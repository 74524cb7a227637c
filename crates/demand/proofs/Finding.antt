-- In sound tables the path down from cell 0 to a position ends at the history's leaf that holds it, after as many steps as its depth, and meets nothing
-- that 12 refuses.
use mathlib.Core.Path.{◌≡◌, sym, ap, ◌∙◌, subst}
use mathlib.Core.Bool.{true}
use mathlib.Core.List.{List}
use Prim.Native.Nat.{ℕ, zero, suc, ◌+◌, ◌-◌, ◌<◌}
use native.Mathlib.Omega.{arith}
use native.Mathlib.Decide.{ℕ_discrete}
use lib.ListN.{length}
use Rattle.cells.specs.Cells.{Position, at, OnGrid, Cell, level, root, Holds, child, quarter_of}
use Rattle.cells.proofs.Cells.{root_holds, child_holds, level_child}
use Rattle.std.specs.Prelude.{Option, Some}
use Rattle.celltable.specs.declared.Leaf.{Leaf}
use Rattle.celltable.specs.Descent.{place_of, on_square, leaf_of, down_from, descend_in}
use Rattle.celltable.proofs.Landing.{down_leaf, down_split}
use Rattle.celltable.proofs.Grid.{SaysCell, on_square_law}
use Rattle.tables.specs.Tables.{Tree, cells_used, entries_used}
use Rattle.split.specs.Split.{words}
use Rattle.find_leaf.specs.Leaf.{leaf_in}
use Rattle.find_leaf.proofs.Landing.{leaf_met}
use Rattle.demand.specs.History.{Node, cell_in, first_in, LeafAt}
use Rattle.demand.proofs.History.{few_places}
use Rattle.demand.proofs.Sound.{Sound}
use Rattle.demand.proofs.Passing.{cell_passes, leaf_passes_law}

module _ (t : Tree) (H : List Node) (s : Sound t H) where
  abbrev used : ℕ
  used = cells_used t.head

  abbrev free : ℕ
  free = entries_used t.head

  -- the end of a way: the leaf, and the steps to it
  pub record Ends (p : Position) (steps depth : ℕ) (f : Option Leaf) : Type 0 where
    pub leaf : ℕ
    pub holds : LeafAt H p leaf
    pub deep : ℕ
    pub found : f ≡ Some (leaf_of leaf deep (words t leaf))
    pub level_is : deep + level (cell_in H leaf) ≡ steps + depth

  on_cell : (i : ℕ) (c : Cell) → i < length H → cell_in H i ≡ c → on_square (words t i) c ≡ true
  on_cell i c h e = on_square_law (words t i) c (subst (SaysCell (words t i)) e (s.squares i h))

  down : (p : Position) (n i steps : ℕ) (c : Cell)
      → i < length H
      → cell_in H i ≡ c
      → Holds c p
      → level c < n
      → Ends p steps (level c) (down_from t.cells used free p n i steps c)
  down p zero i steps c h e o k = absurd (omega arith)
  down p (suc n) i steps c h e o k =
      go (ℕ_discrete (first_in H i) 0) (λ j l z d. down p n j (steps + 1) (child c (quarter_of c p)) l z (child_holds c p o) d)
    where
      go : Dec (first_in H i ≡ 0)
          → ((j : ℕ)
          → j < length H
          → cell_in H j ≡ child c (quarter_of c p)
          → level (child c (quarter_of c p)) < n
          → Ends p (steps + 1) (level (child c (quarter_of c p)))
          (down_from t.cells used free p n j (steps + 1) (child c (quarter_of c p))))
          → Ends p steps (level c) (down_from t.cells used free p (suc n) i steps c)
      go (yes z) next =
          record {
            leaf = i;
            holds = record { leaf = record { in_use = h; undivided = z }; holds = subst (λ (x : Cell). Holds x p) (sym e) o };
            deep = steps;
            found = down_leaf t.cells used free p n i steps c (cell_passes t H s i h) (on_cell i c h e) (s.firsts i h ∙ z);
            level_is = ap (λ (x : Cell). steps + level x) e;
          }
      go (no z) next =
          let d = s.grown.divided i h z in
          let wide : 0 < level c = subst (λ (x : Cell). 0 < level x) e d.wide in
          let less : suc (level (child c (quarter_of c p))) ≡ level c = level_child c (quarter_of c p) wide in
          let r = next (first_in H i + place_of (quarter_of c p)) (omega (arith, d.in_use, few_places (quarter_of c p)))
          (d.quarter (quarter_of c p) ∙ ap (λ (x : Cell). child x (quarter_of c p)) e) (omega (arith, less)) in
          record {
            leaf = r.leaf;
            holds = r.holds;
            deep = r.deep;
            found = down_split t.cells used free p n i steps c (cell_passes t H s i h) (on_cell i c h e)
                (λ y. z (sym (s.firsts i h) ∙ y))
                ∙ (ap (λ (j : ℕ). down_from t.cells used free p n (j + place_of (quarter_of c p)) (steps + 1) (child c (quarter_of c p)))
                (s.firsts i h)
                ∙ r.found);
            level_is = omega (arith, r.level_is, less);
          }

  descends : (x y : ℕ) → OnGrid (at x y) → Ends (at x y) 0 16 (descend_in t.cells used free x y)
  unfolding descend_in
  descends x y g = down (at x y) 17 0 0 root s.grown.some s.grown.first (root_holds (at x y) g) (omega arith)

  -- the leaf that is found
  pub record Lands (x y : ℕ) : Type 0 where
    pub leaf : ℕ
    pub holds : LeafAt H (at x y) leaf
    pub found : leaf_in t x y ≡ Some (leaf_of leaf (16 - level (cell_in H leaf)) (words t leaf))

  pub lands : (x y : ℕ) → OnGrid (at x y) → Lands x y
  lands x y g =
      let r = descends x y g in
      let m : r.deep ≡ 16 - level (cell_in H r.leaf) = omega (arith, r.level_is) in
      record {
        leaf = r.leaf;
        holds = r.holds;
        found =
            sym (leaf_met t x y (leaf_of r.leaf r.deep (words t r.leaf)) s.counts (sym r.found) (leaf_passes_law t H s r.leaf r.holds.leaf))
            ∙ ap (λ (k : ℕ). Some (leaf_of r.leaf k (words t r.leaf))) m;
      }
