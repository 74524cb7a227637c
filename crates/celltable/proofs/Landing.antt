-- One cell on the path down; and the leaf that is found holds the position, passes 12, and is as deep as the steps say.
use Prim.Native.Nat.{ℕ, zero, suc, ◌+◌, ◌-◌, ◌^◌, ◌≤◌, ◌<◌}
use mathlib.Core.Path.{◌≡◌, refl, ap, ◌∙◌, subst}
use mathlib.Core.Bool.{Bool, true, false, cond}
use mathlib.Core.List.{List}
use native.Mathlib.Omega.{arith}
use lib.Dec.{eqb}
use borrow.Author.Tests.{eqb-true, eqb-false, eq-eqb, ne_eqb}
use Rattle.cells.specs.Cells.{Position, at, OnGrid, Cell, cell, level, root, Holds, Quarter, child, quarter_of}
use Rattle.cells.proofs.Cells.{root_holds, child_holds}
use Rattle.celltable.specs.declared.CellWords.{CellWords}
use Rattle.celltable.specs.declared.Leaf.{Leaf}
use Rattle.std.specs.Prelude.{None, Some}
use Rattle.celltable.specs.Table.{cell_at}
use Rattle.celltable.specs.Ranges.{cell_range, level_of}
use Rattle.celltable.specs.Descent.{place_of, on_square, leaf_of, down_from, descend_in}
use Rattle.celltable.proofs.Powers.{level_of_law}
use Rattle.celltable.proofs.Ranges.{passes_child}
use Rattle.celltable.proofs.Grid.{SaysCell, says_cell}
use Rattle.celltable.proofs.Parents.{few_places}

-- the cell that a leaf says it is: "finding a leaf reports as many steps as the leaf's depth", so its level is 16 less the steps
abbrev pub leaf_cell : Leaf → Cell
leaf_cell l = cell l.x l.y (16 - l.steps)

pub record LeafFound (t : List ℕ) (used entries : ℕ) (p : Position) (l : Leaf) : Type 0 where
  pub in_use : l.cell < used
  pub words : l ≡ leaf_of l.cell l.steps (cell_at t l.cell)
  pub passes : cell_range t l.cell used entries ≡ true
  pub whole : (cell_at t l.cell).child ≡ 0
  pub depth : l.steps ≤ 16
  pub side_is : l.side ≡ 2 ^ (16 - l.steps)
  pub level_is : level_of l.side ≡ 16 - l.steps
  pub holds : Holds (leaf_cell l) p

-- ---- one cell on the way: a leaf ends it, a cell that is split gives the child

module _ (t : List ℕ) (used entries : ℕ) (p : Position) (n i steps : ℕ) (c : Cell) (f : cell_range t i used entries ≡ true)
    (s : on_square (cell_at t i) c ≡ true) where
  pub down_leaf : (cell_at t i).child ≡ 0 → down_from t used entries p (suc n) i steps c ≡ Some (leaf_of i steps (cell_at t i))
  unfolding down_from
  down_leaf z = rw (f, s, eq-eqb (cell_at t i).child 0 z)

  pub down_split : ((cell_at t i).child ≡ 0 → ⊥)
      → down_from t used entries p (suc n) i steps c
      ≡ down_from t used entries p n ((cell_at t i).child + place_of (quarter_of c p)) (steps + 1) (child c (quarter_of c p))
  unfolding down_from
  down_split z = rw (f, s, ne_eqb (cell_at t i).child 0 z)

-- ---- the leaf that is found

pub broken_not : {A : Type 0} (l : Leaf) → None ≡ Some l → A
broken_not l e = absurd (let z : ◌≡◌ {A = ℕ} 0 1 = cc in omega arith)

module _ (t : List ℕ) (used entries : ℕ) (p : Position) (l : Leaf) where
  -- the cell c, i in the table, is the leaf
  landed : (i steps x y k : ℕ)
      → steps + k ≡ 16
      → i < used
      → Holds (cell x y k) p
      → cell_range t i used entries ≡ true
      → on_square (cell_at t i) (cell x y k) ≡ true
      → (cell_at t i).child ≡ 0
      → LeafFound t used entries p (leaf_of i steps (cell_at t i))
  landed i steps x y k d u h f s z =
      record {
        in_use = u;
        words = refl;
        passes = f;
        whole = z;
        depth = omega arith;
        side_is = says.same_side ∙ ap (λ (m : ℕ). 2 ^ m) same_level;
        level_is = ap level_of says.same_side ∙ level_of_law 16 k (omega arith) ∙ same_level;
        holds = rw (says.same_x, says.same_y, ← same_level) h;
      }
    where
      says : SaysCell (cell_at t i) (cell x y k)
      says = says_cell (cell_at t i) (cell x y k) s

      same_level : k ≡ 16 - steps
      same_level = omega arith

  -- at one cell, where the rest of the way finds such a leaf
  one_cell : (n i steps x y k : ℕ)
      → steps + k ≡ 16
      → i < used
      → Holds (cell x y k) p
      → ((cell_at t i).child + 3 < used
      → down_from t used entries p n ((cell_at t i).child + place_of (quarter_of (cell x y k) p)) (steps + 1)
      (child (cell x y k) (quarter_of (cell x y k) p))
      ≡ Some l
      → LeafFound t used entries p l)
      → down_from t used entries p (suc n) i steps (cell x y k) ≡ Some l
      → LeafFound t used entries p l
  unfolding down_from
  one_cell n i steps x y k d u h next e = go (cell_range t i used entries) (on_square w c) (eqb w.child 0) refl refl refl e
    where
      w : CellWords
      w = cell_at t i

      c : Cell
      c = cell x y k

      go : (a b z : Bool)
          → cell_range t i used entries ≡ a
          → on_square w c ≡ b
          → eqb w.child 0 ≡ z
          → cond a
          (cond b
          (cond z (Some (leaf_of i steps w))
          (down_from t used entries p n (w.child + place_of (quarter_of c p)) (steps + 1) (child c (quarter_of c p))))
          None)
          None
          ≡ Some l
          → LeafFound t used entries p l
      go true true true f s z q =
          let r : leaf_of i steps w ≡ l = cc in
          subst (λ (m : Leaf). LeafFound t used entries p m) r (landed i steps x y k d u h f s (eqb-true w.child 0 z))
      go true true false f s z q = next (passes_child t i used entries f (eqb-false w.child 0 z)) q
      go true false z f s m q = broken_not l q
      go false b z f s m q = broken_not l q

  down_found : (n i steps : ℕ) (c : Cell)
      → steps + level c ≡ 16
      → n ≤ suc (level c)
      → i < used
      → Holds c p
      → down_from t used entries p n i steps c ≡ Some l
      → LeafFound t used entries p l
  unfolding down_from
  down_found zero i steps c d m u h e = broken_not l e
  down_found (suc zero) i steps (cell x y k) d m u h e = one_cell zero i steps x y k d u h (λ b q. broken_not l q) e
  down_found (suc (suc n)) i steps (cell x y zero) d m u h e = absurd (omega arith)
  down_found (suc (suc n)) i steps (cell x y (suc k)) d m u h e =
      let c : Cell = cell x y (suc k) in
      let q : Quarter = quarter_of c p in
      one_cell (suc n) i steps x y (suc k) d u h
      (λ b r.
      down_found (suc n) ((cell_at t i).child + place_of q) (steps + 1) (child c q) (omega arith) (omega arith) (omega (arith, few_places q))
      (child_holds c p h) r)
      e

pub leaf_found : (t : List ℕ) (used entries x y : ℕ) (l : Leaf)
    → 1 ≤ used
    → OnGrid (at x y)
    → descend_in t used entries x y ≡ Some l
    → LeafFound t used entries (at x y) l
unfolding descend_in
leaf_found t used entries x y l u g e = down_found t used entries (at x y) l 17 0 0 root (omega arith) (omega arith) u (root_holds (at x y) g) e
