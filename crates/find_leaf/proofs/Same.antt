-- A leaf that is found from one position is found from each position of its square.
use mathlib.Core.Path.{◌≡◌, refl, sym, subst}
use mathlib.Core.Bool.{Bool, true, false, cond}
use mathlib.Core.List.{List}
use Prim.Native.Nat.{ℕ, zero, suc, ◌+◌, ◌^◌}
use native.Mathlib.Omega.{arith}
use lib.Dec.{eqb, leb}
use borrow.Author.Tests.{le-leb, lt-leb}
use Rattle.geometry.specs.Classes.{Inside}
use Rattle.cells.specs.Cells.{Position, at, col, row, Cell, cell, root, Holds, Quarter, child, quarter_by, quarter_of}
use Rattle.cells.proofs.Cells.{holds_up}
use Rattle.celltable.specs.declared.CellWords.{CellWords}
use Rattle.celltable.specs.declared.Leaf.{Leaf}
use Rattle.std.specs.Prelude.{Option, None, Some}
use Rattle.celltable.specs.Table.{cell_at}
use Rattle.celltable.specs.Ranges.{cell_range}
use Rattle.celltable.specs.Descent.{place_of, on_square, leaf_of, down_from, descend_in}
use Rattle.celltable.proofs.Grid.{says_cell}
use Rattle.celltable.proofs.Landing.{broken_not}
use Rattle.tables.specs.Tables.{Tree, cells_used, entries_used}
use Rattle.find_leaf.specs.Leaf.{leaf_in}
use Rattle.find_leaf.proofs.Landing.{leaf_landed, leaf_met}

-- the position is in the square of the leaf
abbrev pub LeafHolds : Leaf → Position → Type 0
LeafHolds l p = Inside l.x l.y l.side (col p) (row p)

-- a position of the quarter that is picked picks the same quarter
pub quarter_same : (c : Cell) (p p' : Position) → Holds (child c (quarter_of c p)) p' → quarter_of c p' ≡ quarter_of c p
quarter_same (cell x y zero) p p' h = refl
quarter_same (cell x y (suc k)) p p' h = go (leb (x + 2 ^ k) (col p)) (leb (y + 2 ^ k) (row p)) h
  where
    go : (a b : Bool) → Holds (child (cell x y (suc k)) (quarter_by a b)) p' → quarter_of (cell x y (suc k)) p' ≡ quarter_by a b
    go false false i = rw (lt-leb (x + 2 ^ k) (col p') (omega (arith, i.east)), lt-leb (y + 2 ^ k) (row p') (omega (arith, i.north)))
    go true false i = rw (le-leb (x + 2 ^ k) (col p') (omega (arith, i.west)), lt-leb (y + 2 ^ k) (row p') (omega (arith, i.north)))
    go false true i = rw (lt-leb (x + 2 ^ k) (col p') (omega (arith, i.east)), le-leb (y + 2 ^ k) (row p') (omega (arith, i.south)))
    go true true i = rw (le-leb (x + 2 ^ k) (col p') (omega (arith, i.west)), le-leb (y + 2 ^ k) (row p') (omega (arith, i.south)))

module _ (t : List ℕ) (used entries : ℕ) (p p' : Position) (l : Leaf) (h : LeafHolds l p') where
  abbrev rest : Position → (n i steps : ℕ) → Cell → Quarter → Option Leaf
  rest r n i steps c q = down_from t used entries r n ((cell_at t i).child + place_of q) (steps + 1) (child c q)

  -- each cell on the way to the leaf holds the positions of the leaf
  down_holds : (n i steps : ℕ) (c : Cell) → down_from t used entries p n i steps c ≡ Some l → Holds c p'
  unfolding down_from
  down_holds zero i steps c e = broken_not l e
  down_holds (suc n) i steps c e =
      go (cell_range t i used entries) (on_square w c) (eqb w.child 0) refl
      (λ q. down_holds n (w.child + place_of (quarter_of c p)) (steps + 1) (child c (quarter_of c p)) q)
      e
    where
      w : CellWords
      w = cell_at t i

      landed : on_square w c ≡ true → leaf_of i steps w ≡ l → Holds c p'
      landed s r =
          let g : LeafHolds (leaf_of i steps w) p' = subst (λ (m : Leaf). LeafHolds m p') (sym r) h in
          let says = says_cell w c s in
          record {
            west = omega (arith, g.west, says.same_x);
            east = omega (arith, g.east, says.same_x, says.same_side);
            south = omega (arith, g.south, says.same_y);
            north = omega (arith, g.north, says.same_y, says.same_side);
          }

      go : (a b z : Bool) → on_square w c ≡ b → (rest p n i steps c (quarter_of c p) ≡ Some l → Holds (child c (quarter_of c p)) p')
          → cond a (cond b (cond z (Some (leaf_of i steps w)) (rest p n i steps c (quarter_of c p))) None) None ≡ Some l → Holds c p'
      go true true true s next q =
          let r : leaf_of i steps w ≡ l = cc in
          landed s r
      go true true false s next q = holds_up c (quarter_of c p) p' (next q)
      go true false z s next q = broken_not l q
      go false b z s next q = broken_not l q

  same_down : (n i steps : ℕ) (c : Cell) → down_from t used entries p n i steps c ≡ Some l → down_from t used entries p' n i steps c ≡ Some l
  unfolding down_from
  same_down zero i steps c e = broken_not l e
  same_down (suc n) i steps c e =
      go (cell_range t i used entries) (on_square w c) (eqb w.child 0)
      (λ q. same_down n (w.child + place_of (quarter_of c p)) (steps + 1) (child c (quarter_of c p)) q)
      e
    where
      w : CellWords
      w = cell_at t i

      deeper : (rest p n i steps c (quarter_of c p) ≡ Some l → rest p' n i steps c (quarter_of c p) ≡ Some l)
          → rest p n i steps c (quarter_of c p) ≡ Some l → rest p' n i steps c (quarter_of c p') ≡ Some l
      deeper next q =
          subst (λ (k : Quarter). rest p' n i steps c k ≡ Some l)
          (sym (quarter_same c p p' (down_holds n (w.child + place_of (quarter_of c p)) (steps + 1) (child c (quarter_of c p)) q)))
          (next q)

      go : (a b z : Bool) → (rest p n i steps c (quarter_of c p) ≡ Some l → rest p' n i steps c (quarter_of c p) ≡ Some l)
          → cond a (cond b (cond z (Some (leaf_of i steps w)) (rest p n i steps c (quarter_of c p))) None) None ≡ Some l
          → cond a (cond b (cond z (Some (leaf_of i steps w)) (rest p' n i steps c (quarter_of c p'))) None) None ≡ Some l
      go true true true next q = q
      go true true false next q = deeper next q
      go true false z next q = q
      go false b z next q = q

pub descend_same : (t : List ℕ) (used entries x y x' y' : ℕ) (l : Leaf)
    → LeafHolds l (at x' y')
    → descend_in t used entries x y ≡ Some l
    → descend_in t used entries x' y' ≡ Some l
unfolding descend_in
descend_same t used entries x y x' y' l h e = same_down t used entries (at x y) (at x' y') l h 17 0 0 root e

-- so a run tries a leaf once
pub leaf_same : (t : Tree) (x y x' y' : ℕ) (l : Leaf) → LeafHolds l (at x' y') → leaf_in t x y ≡ Some l → leaf_in t x' y' ≡ Some l
leaf_same t x y x' y' l h e =
    let m = leaf_landed t x y l e in
    sym (leaf_met t x' y' l m.counts (sym (descend_same t.cells (cells_used t.head) (entries_used t.head) x y x' y' l h m.way)) m.stream)
