-- The cells of a history: each lies on the grid, those of a split cell are its quarters, each but cell 0 is one of its parent's four, and the leaves tile
-- the grid.
use mathlib.Core.Path.{◌≡◌, refl, sym, ap, ◌∙◌, subst}
use mathlib.Core.List.{List, [], ◌∷◌}
use Prim.Native.Nat.{ℕ, zero, suc, ◌+◌, ◌*◌, ◌≤◌, ◌<◌}
use native.Mathlib.Omega.{arith}
use native.Mathlib.Decide.{dec_lt, ℕ_discrete}
use lib.ListN.{length, get_or, set, length-append, length-set, get_or-append}
use lib.Seq.{get_or-set_same, get_or-set_other, get_or-append-add}
use Rattle.cells.specs.Cells.{Position, Cell, cell, level, root, Holds, Quarter, low_low, high_low, low_high, high_high, child, quarter_of}
use Rattle.cells.proofs.Cells.{root_holds, child_holds, holds_up}
use Rattle.celltable.specs.Descent.{place_of}
use Rattle.celltable.proofs.Grid.{Gridded, root_gridded, child_gridded}
use Rattle.demand.specs.History.{
  Node,
  node,
  node_cell,
  node_first,
  node_parent,
  begun,
  cell_in,
  first_in,
  parent_in,
  quarters,
  split_at,
  after_splits,
  LeafAt,
  Tiled,
}

-- a cell that was split: it had more than one position, and its four cells are its quarters, numbered in a row
pub record Divided (H : List Node) (i j : ℕ) : Type 0 where
  pub wide : 0 < level (cell_in H i)
  pub in_use : j + 4 ≤ length H
  pub quarter : (q : Quarter) → cell_in H (j + place_of q) ≡ child (cell_in H i) q

-- the parent of cell i is a split cell, and cell i is one of its four
pub record Hangs (H : List Node) (i : ℕ) : Type 0 where
  pub in_use : parent_in H i < length H
  pub parted : first_in H (parent_in H i) ≡ 0 → ⊥
  pub quarter : Quarter
  pub place : i ≡ first_in H (parent_in H i) + place_of quarter

pub record Grown (H : List Node) : Type 0 where
  pub some : 0 < length H
  pub first : cell_in H 0 ≡ root
  pub on_grid : (i : ℕ) → i < length H → Gridded (cell_in H i)
  pub divided : (i : ℕ) → i < length H → (first_in H i ≡ 0 → ⊥) → Divided H i (first_in H i)
  pub first_parent : parent_in H 0 ≡ 0
  pub hangs : (i : ℕ) → i < length H → (i ≡ 0 → ⊥) → Hangs H i
  pub tiled : Tiled H

-- it lies on that quarter of its parent's square
pub hangs_child : (H : List Node) (i : ℕ) → Grown H → (k : Hangs H i) → cell_in H i ≡ child (cell_in H (parent_in H i)) k.quarter
hangs_child H i g k = ap (cell_in H) k.place ∙ (g.divided (parent_in H i) k.in_use k.parted).quarter k.quarter

-- ---- one cell

one_on_grid : (i : ℕ) → i < 1 → Gridded (cell_in begun i)
one_on_grid zero h = root_gridded
one_on_grid (suc i) h = absurd (omega arith)

one_whole : (i : ℕ) → first_in begun i ≡ 0
one_whole zero = refl
one_whole (suc i) = refl

pub begun_grown : Grown begun
begun_grown =
    record {
      some = omega arith;
      first = refl;
      on_grid = one_on_grid;
      divided = λ i h n. absurd (n (one_whole i));
      first_parent = refl;
      hangs = λ i h z. absurd (z (omega arith));
      tiled =
          record {
            some_leaf = λ p g. (0, record { leaf = record { in_use = omega arith; undivided = refl }; holds = root_holds p g });
            one_leaf = λ p i j a b. omega (arith, a.leaf.in_use, b.leaf.in_use);
          };
    }

-- ---- the four quarters

pub few_places : (q : Quarter) → place_of q < 4
few_places low_low = omega arith
few_places high_low = omega arith
few_places low_high = omega arith
few_places high_high = omega arith

pub which : (n m : ℕ) → n ≤ m → m < n + 4 → (q : Quarter) × (m ≡ n + place_of q)
which n m h g = go (ℕ_discrete m (n + 0)) (ℕ_discrete m (n + 1)) (ℕ_discrete m (n + 2))
  where
    go : Dec (m ≡ n + 0) → Dec (m ≡ n + 1) → Dec (m ≡ n + 2) → (q : Quarter) × (m ≡ n + place_of q)
    go (yes e) b c = (low_low, e)
    go (no a) (yes e) c = (high_low, e)
    go (no a) (no b) (yes e) = (low_high, e)
    go (no a) (no b) (no c) = (high_high, omega arith)

-- two quarters that hold one position are one
one_quarter : (c : Cell) (p : Position) (q r : Quarter) → 0 < level c → Holds (child c q) p → Holds (child c r) p → q ≡ r
one_quarter (cell x y zero) p q r h i j = absurd (omega arith)
one_quarter (cell x y (suc k)) p low_low low_low h i j = refl
one_quarter (cell x y (suc k)) p low_low high_low h i j = absurd (omega (arith, i.east, j.west))
one_quarter (cell x y (suc k)) p low_low low_high h i j = absurd (omega (arith, i.north, j.south))
one_quarter (cell x y (suc k)) p low_low high_high h i j = absurd (omega (arith, i.north, j.south))
one_quarter (cell x y (suc k)) p high_low low_low h i j = absurd (omega (arith, j.east, i.west))
one_quarter (cell x y (suc k)) p high_low high_low h i j = refl
one_quarter (cell x y (suc k)) p high_low low_high h i j = absurd (omega (arith, i.north, j.south))
one_quarter (cell x y (suc k)) p high_low high_high h i j = absurd (omega (arith, i.north, j.south))
one_quarter (cell x y (suc k)) p low_high low_low h i j = absurd (omega (arith, j.north, i.south))
one_quarter (cell x y (suc k)) p low_high high_low h i j = absurd (omega (arith, j.north, i.south))
one_quarter (cell x y (suc k)) p low_high low_high h i j = refl
one_quarter (cell x y (suc k)) p low_high high_high h i j = absurd (omega (arith, i.east, j.west))
one_quarter (cell x y (suc k)) p high_high low_low h i j = absurd (omega (arith, j.north, i.south))
one_quarter (cell x y (suc k)) p high_high high_low h i j = absurd (omega (arith, j.north, i.south))
one_quarter (cell x y (suc k)) p high_high low_high h i j = absurd (omega (arith, j.east, i.west))
one_quarter (cell x y (suc k)) p high_high high_high h i j = refl

-- ---- a split of cell i
pub one_longer : (H : List Node) (i : ℕ) → length (split_at H i) ≡ length H + 4
one_longer H i =
    length-append (set H i (node (cell_in H i) (length H) (parent_in H i))) (quarters (cell_in H i) i)
    ∙ rw (length-set H i (node (cell_in H i) (length H) (parent_in H i)))

pub splits_longer : (H : List Node) (is : List ℕ) → length (after_splits H is) ≡ length H + 4 * length is
splits_longer H [] = omega arith
splits_longer H (i ∷ is) = omega (arith, splits_longer (split_at H i) is, one_longer H i)

module _ (H : List Node) (i : ℕ) (h : i < length H) where
  abbrev n : ℕ
  n = length H

  abbrev c : Cell
  c = cell_in H i

  abbrev K : List Node
  K = split_at H i

  abbrev none : Node
  none = node root 0 0

  -- cell i once it is split
  abbrev parted_node : Node
  parted_node = node c n (parent_in H i)

  pub split_length : length K ≡ n + 4
  split_length = one_longer H i

  in_front : (m : ℕ) → m < n → get_or K m none ≡ get_or (set H i parted_node) m none
  in_front m g = get_or-append (set H i parted_node) (quarters c i) none m (omega (arith, length-set H i parted_node))

  at_other : (m : ℕ) → m < n → (m ≡ i → ⊥) → get_or K m none ≡ get_or H m none
  at_other m g e = in_front m g ∙ get_or-set_other H i m parted_node none e

  at_split : get_or K i none ≡ parted_node
  at_split = in_front i h ∙ get_or-set_same H i parted_node none h

  quarter_at_law : (q : Quarter) → get_or (quarters c i) (place_of q) none ≡ node (child c q) 0 i
  quarter_at_law low_low = refl
  quarter_at_law high_low = refl
  quarter_at_law low_high = refl
  quarter_at_law high_high = refl

  at_quarter : (q : Quarter) → get_or K (n + place_of q) none ≡ node (child c q) 0 i
  at_quarter q =
      ap (λ (k : ℕ). get_or K (k + place_of q) none) (sym (length-set H i parted_node))
      ∙ (get_or-append-add (set H i parted_node) (quarters c i) (place_of q) none ∙ quarter_at_law q)

  pub cell_old : (m : ℕ) → m < n → cell_in K m ≡ cell_in H m
  cell_old m g = go (ℕ_discrete m i)
    where
      go : Dec (m ≡ i) → cell_in K m ≡ cell_in H m
      go (yes e) = rw e (ap node_cell at_split)
      go (no e) = ap node_cell (at_other m g e)

  pub cell_new : (q : Quarter) → cell_in K (n + place_of q) ≡ child c q
  cell_new q = ap node_cell (at_quarter q)

  pub first_other : (m : ℕ) → m < n → (m ≡ i → ⊥) → first_in K m ≡ first_in H m
  first_other m g e = ap node_first (at_other m g e)

  pub first_split : first_in K i ≡ n
  first_split = ap node_first at_split

  pub first_new : (q : Quarter) → first_in K (n + place_of q) ≡ 0
  first_new q = ap node_first (at_quarter q)

  pub parent_old : (m : ℕ) → m < n → parent_in K m ≡ parent_in H m
  parent_old m g = go (ℕ_discrete m i)
    where
      go : Dec (m ≡ i) → parent_in K m ≡ parent_in H m
      go (yes e) = rw e (ap node_parent at_split)
      go (no e) = ap node_parent (at_other m g e)

  pub parent_new : (q : Quarter) → parent_in K (n + place_of q) ≡ i
  parent_new q = ap node_parent (at_quarter q)

  -- where a cell of the split history comes from
  pub data From (m : ℕ) : Type 0 where
    kept : m < n → (m ≡ i → ⊥) → From m
    divides : m ≡ i → From m
    new : (q : Quarter) → m ≡ n + place_of q → From m

  pub comes : (m : ℕ) → m < length K → From m
  comes m g = go (dec_lt m n)
    where
      below : m < n → Dec (m ≡ i) → From m
      below l (yes e) = divides e
      below l (no e) = kept l e

      go : Dec (m < n) → From m
      go (yes l) = below l (ℕ_discrete m i)
      go (no l) = let w = which n m (omega arith) (omega (arith, split_length)) in new w.0 w.1

  module _ (g : Grown H) (w : first_in H i ≡ 0) (large : 0 < level (cell_in H i)) where
    some_cells : 0 < n
    some_cells = g.some

    grid_by : (m : ℕ) → From m → Gridded (cell_in K m)
    grid_by m (kept l e) = rw (cell_old m l) (g.on_grid m l)
    grid_by m (divides e) = rw (e, cell_old i h) (g.on_grid i h)
    grid_by m (new q e) = rw (e, cell_new q) (child_gridded c q (g.on_grid i h))

    divided_here : Divided K i n
    divided_here =
        record {
          wide = rw (cell_old i h) large;
          in_use = omega (arith, split_length);
          quarter = λ q. cell_new q ∙ ap (λ (x : Cell). child x q) (sym (cell_old i h));
        }

    divided_by : (m : ℕ) → From m → (first_in K m ≡ 0 → ⊥) → Divided K m (first_in K m)
    divided_by m (kept l e) z =
        let f = first_other m l e in
        let d = g.divided m l (λ o. z (f ∙ o)) in
        subst (Divided K m) (sym f)
        (record {
          wide = rw (cell_old m l) d.wide;
          in_use = omega (arith, d.in_use, split_length);
          quarter = λ q.
              cell_old (first_in H m + place_of q) (omega (arith, d.in_use, few_places q))
              ∙ (d.quarter q ∙ ap (λ (x : Cell). child x q) (sym (cell_old m l)));
        })
    divided_by m (divides e) z = subst (λ (x : ℕ). Divided K x (first_in K x)) (sym e) (subst (Divided K i) (sym first_split) divided_here)
    divided_by m (new q e) z = absurd (z (ap (first_in K) e ∙ first_new q))

    -- a cell that was there keeps its parent; that parent is not cell i, which was a leaf
    hangs_old : (m : ℕ) → m < n → (m ≡ 0 → ⊥) → Hangs K m
    hangs_old m l z =
        let k = g.hangs m l z in
        let e = parent_old m l in
        let f : first_in K (parent_in K m) ≡ first_in H (parent_in H m) =
        ap (first_in K) e ∙ first_other (parent_in H m) k.in_use (λ o. k.parted (ap (first_in H) o ∙ w)) in
        record {
          in_use = omega (arith, e, k.in_use, split_length);
          parted = λ o. k.parted (sym f ∙ o);
          quarter = k.quarter;
          place = k.place ∙ ap (λ (x : ℕ). x + place_of k.quarter) (sym f);
        }

    hangs_by : (m : ℕ) → From m → (m ≡ 0 → ⊥) → Hangs K m
    hangs_by m (kept l e) z = hangs_old m l z
    hangs_by m (divides e) z = hangs_old m (omega arith) z
    hangs_by m (new q e) z =
        let p : parent_in K m ≡ i = ap (parent_in K) e ∙ parent_new q in
        let f : first_in K (parent_in K m) ≡ n = ap (first_in K) p ∙ first_split in
        record {
          in_use = omega (arith, p, split_length);
          parted = λ o. omega (arith, f, o, some_cells);
          quarter = q;
          place = e ∙ ap (λ (x : ℕ). x + place_of q) (sym f);
        }

    -- a leaf that holds a position
    pub data Found (p : Position) (m : ℕ) : Type 0 where
      old : (m ≡ i → ⊥) → LeafAt H p m → Found p m
      quarter : (q : Quarter) → m ≡ n + place_of q → Holds (child c q) p → Found p m

    found_by_law : (p : Position) (m : ℕ) → From m → LeafAt K p m → Found p m
    found_by_law p m (kept l e) a =
        old e
        (record {
          leaf = record { in_use = l; undivided = sym (first_other m l e) ∙ a.leaf.undivided };
          holds = subst (λ (x : Cell). Holds x p) (cell_old m l) a.holds;
        })
    found_by_law p m (divides e) a = absurd (let f : n ≡ 0 = sym first_split ∙ (ap (first_in K) (sym e) ∙ a.leaf.undivided) in omega (arith, some_cells))
    found_by_law p m (new q e) a = quarter q e (subst (λ (x : Cell). Holds x p) (ap (cell_in K) e ∙ cell_new q) a.holds)

    found : (p : Position) (m : ℕ) → LeafAt K p m → Found p m
    found p m a = found_by_law p m (comes m a.leaf.in_use) a

    -- the split cell held what its quarters hold
    above : (p : Position) (q : Quarter) → Holds (child c q) p → LeafAt H p i
    above p q k = record { leaf = record { in_use = h; undivided = w }; holds = holds_up c q p k }

    one_by : (p : Position) (m k : ℕ) → Found p m → Found p k → m ≡ k
    one_by p m k (old e a) (old f b) = g.tiled.one_leaf p m k a b
    one_by p m k (old e a) (quarter q f b) = absurd (e (g.tiled.one_leaf p m i a (above p q b)))
    one_by p m k (quarter q e a) (old f b) = absurd (f (g.tiled.one_leaf p k i b (above p q a)))
    one_by p m k (quarter q e a) (quarter r f b) = e ∙ (ap (λ (x : Quarter). n + place_of x) (one_quarter c p q r large a b) ∙ sym f)

    leaf_kept : (p : Position) (m : ℕ) → (m ≡ i → ⊥) → LeafAt H p m → LeafAt K p m
    leaf_kept p m e a =
        let l = a.leaf.in_use in
        record {
          leaf = record { in_use = omega (arith, split_length); undivided = first_other m l e ∙ a.leaf.undivided };
          holds = rw (cell_old m l) a.holds;
        }

    leaf_new : (p : Position) → Holds c p → LeafAt K p (n + place_of (quarter_of c p))
    leaf_new p k =
        let q = quarter_of c p in
        record { leaf = record { in_use = omega (arith, split_length, few_places q); undivided = first_new q }; holds = rw (cell_new q) (child_holds c p k) }

    some_by : (p : Position) (m : ℕ) → LeafAt H p m → Dec (m ≡ i) → (k : ℕ) × LeafAt K p k
    some_by p m a (yes e) = (n + place_of (quarter_of c p), leaf_new p (subst (λ (x : ℕ). Holds (cell_in H x) p) e a.holds))
    some_by p m a (no e) = (m, leaf_kept p m e a)

    pub split_grown : Grown (split_at H i)
    split_grown =
        record {
          some = omega (arith, split_length);
          first = cell_old 0 some_cells ∙ g.first;
          on_grid = λ m l. grid_by m (comes m l);
          divided = λ m l z. divided_by m (comes m l) z;
          first_parent = parent_old 0 some_cells ∙ g.first_parent;
          hangs = λ m l z. hangs_by m (comes m l) z;
          tiled =
              record {
                some_leaf = λ p o. let s = g.tiled.some_leaf p o in some_by p s.0 s.1 (ℕ_discrete s.0 i);
                one_leaf = λ p m k a b. one_by p m k (found p m a) (found p k b);
              };
        }
