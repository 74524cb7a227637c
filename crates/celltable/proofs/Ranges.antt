-- What it says that a cell passes, and that the numbers in use do: its square is that of a cell of document 01, and the other numbers are below what is in use.
use Prim.Native.Nat.{ℕ, ◌+◌, ◌*◌, ◌/◌, ◌%◌, ◌^◌, ◌≤◌, ◌<◌}
use mathlib.Core.Path.{◌≡◌, refl}
use mathlib.Core.Bool.{Bool, true, false, cond, ◌&&◌, ◌||◌}
use mathlib.Core.List.{List}
use native.Mathlib.Omega.{arith}
use native.Mathlib.Nat.{one-le-pow, pow-le-pow_right}
use lib.Dec.{eqb, ltb, leb}
use lib.ListN.{length, get_or}
use borrow.Author.Tests.{eqb-true, eqb-false, ltb-true, leb-true, eq-eqb, ne_eqb, le-leb, lt-ltb, le-ltb}
use Rattle.laws.proofs.Booleans.{and_left, and_right, and_both, cond_left, cond_right}
use Rattle.celltable.proofs.Powers.{level_is, level_most}
use Rattle.cells.specs.Cells.{square_of}
use Rattle.celltable.specs.declared.CellWords.{CellWords}
use Rattle.celltable.specs.Table.{cell_at}
use Rattle.celltable.specs.Ranges.{
  side_range,
  grid_range,
  square_range,
  root_range,
  child_range,
  entry_range,
  held_by,
  parent_range,
  cell_range,
  cells_held,
  entries_held,
  head_range,
  CellsIn,
  level_of,
  cell_of,
  square_in,
}

-- ---- the square of a cell

pub record SquareFits (w : CellWords) : Type 0 where
  pub some_side : 0 < w.side
  pub most : w.side ≤ 65536
  pub x_multiple : w.x % w.side ≡ 0
  pub x_below : w.x < 65536
  pub y_multiple : w.y % w.side ≡ 0
  pub y_below : w.y < 65536
  pub power : 2 ^ level_of w.side ≡ w.side

pub side_some : (s : ℕ) → side_range s ≡ true → 0 < s
side_some s h = rw (level_is 16 s h) at (one-le-pow (level_of s) 2 (omega arith))

side_most : (s : ℕ) → side_range s ≡ true → s ≤ 65536
side_most s h = rw (level_is 16 s h) at (pow-le-pow_right {n = 2} (omega arith) {i = level_of s} {j = 16} (level_most 16 s))

module _ (w : CellWords) (h : square_range w ≡ true) where
  abbrev in_x : Bool
  in_x = grid_range w.x w.side

  abbrev in_y : Bool
  in_y = grid_range w.y w.side

  side_passes : side_range w.side ≡ true
  side_passes = cond_left (side_range w.side) (in_x && in_y) h

  x_passes : in_x ≡ true
  x_passes = and_left in_x in_y (cond_right (side_range w.side) (in_x && in_y) h)

  y_passes : in_y ≡ true
  y_passes = and_right in_x in_y (cond_right (side_range w.side) (in_x && in_y) h)

  pub square_fits_law : SquareFits w
  square_fits_law =
      record {
        some_side = side_some w.side side_passes;
        most = side_most w.side side_passes;
        x_multiple = eqb-true (w.x % w.side) 0 (and_left (eqb (w.x % w.side) 0) (ltb w.x 65536) x_passes);
        x_below = ltb-true w.x 65536 (and_right (eqb (w.x % w.side) 0) (ltb w.x 65536) x_passes);
        y_multiple = eqb-true (w.y % w.side) 0 (and_left (eqb (w.y % w.side) 0) (ltb w.y 65536) y_passes);
        y_below = ltb-true w.y 65536 (and_right (eqb (w.y % w.side) 0) (ltb w.y 65536) y_passes);
        power = level_is 16 w.side side_passes;
      }

-- ---- the numbers that a cell holds

-- the four children of a cell that is split are in use
pub child_in_use : (child used : ℕ) → child_range child used ≡ true → (child ≡ 0 → ⊥) → child + 3 < used
child_in_use child used h f = ltb-true (child + 3) used (go (eqb child 0) refl h)
  where
    go : (b : Bool) → eqb child 0 ≡ b → (b || ltb (child + 3) used) ≡ true → ltb (child + 3) used ≡ true
    go true e q = absurd (f (eqb-true child 0 e))
    go false e q = q

-- a leaf has none
pub leaf_child : (child used : ℕ) → child ≡ 0 → child_range child used ≡ true
leaf_child child used z = rw (eq-eqb child 0 z)

-- with more in use they are still in range
pub child_more : (child used used' : ℕ) → used ≤ used' → child_range child used ≡ true → child_range child used' ≡ true
child_more child used used' u h = go (eqb child 0) refl
  where
    go : (b : Bool) → eqb child 0 ≡ b → (b || ltb (child + 3) used') ≡ true
    go true e = refl
    go false e = lt-ltb (child + 3) used' (omega (arith, child_in_use child used h (eqb-false child 0 e)))

pub entries_more : (first count entries entries' : ℕ) → entries ≤ entries' → entry_range first count entries ≡ true → entry_range first count entries' ≡ true
entries_more first count entries entries' n h = le-leb (first + count) entries' (omega (arith, leb-true (first + count) entries h))

-- ---- the parent, test by test: w are the words of cell i
module _ (t : List ℕ) (i used : ℕ) (w : CellWords) (e : w ≡ cell_at t i) where
  pub parent_first : i ≡ 0 → eqb w.parent 0 ≡ parent_range t i used
  unfolding parent_range
  parent_first z = rw (e, eq-eqb i 0 z)

  module _ (z : i ≡ 0 → ⊥) where
    pub parent_met : (p : CellWords) (r : Bool) → w.parent < used → p ≡ cell_at t w.parent → r ≡ held_by p w i used → r ≡ parent_range t i used
    unfolding parent_range
    parent_met p r l f q =
        let q₁ : r ≡ held_by (cell_at t (cell_at t i).parent) (cell_at t i) i used = rw (f, e) at q in
        let l₁ : (cell_at t i).parent < used = rw e at l in
        rw (ne_eqb i 0 z, lt-ltb (cell_at t i).parent used l₁) q₁

    pub parent_past : used ≤ w.parent → false ≡ parent_range t i used
    unfolding parent_range
    parent_past l =
        let l₁ : used ≤ (cell_at t i).parent = rw e at l in
        rw (ne_eqb i 0 z, le-ltb (cell_at t i).parent used l₁)

-- ---- a cell that passes

module _ (t : List ℕ) (i used entries : ℕ) where
  abbrev w : CellWords
  w = cell_at t i

  abbrev in_child : Bool
  in_child = child_range w.child used

  abbrev in_run : Bool
  in_run = entry_range w.first w.count entries

  abbrev in_root : Bool
  in_root = root_range w i

  abbrev in_parent : Bool
  in_parent = parent_range t i used

  -- part by part
  pub range_parts : square_range (cell_at t i) ≡ true → child_range (cell_at t i).child used ≡ true
      → entry_range (cell_at t i).first (cell_at t i).count entries ≡ true → root_range (cell_at t i) i ≡ true → parent_range t i used ≡ true
      → cell_range t i used entries ≡ true
  unfolding cell_range
  range_parts a b d e f =
      and_both (square_range w) (in_child && (in_run && (in_root && in_parent))) a
      (and_both in_child (in_run && (in_root && in_parent)) b (and_both in_run (in_root && in_parent) d (and_both in_root in_parent e f)))

  module _ (h : cell_range t i used entries ≡ true) where
    parts : (square_range w && (in_child && (in_run && (in_root && in_parent)))) ≡ true
    unfolding cell_range
    parts = h

    past_square : (in_child && (in_run && (in_root && in_parent))) ≡ true
    past_square = and_right (square_range w) (in_child && (in_run && (in_root && in_parent))) parts

    past_child : (in_run && (in_root && in_parent)) ≡ true
    past_child = and_right in_child (in_run && (in_root && in_parent)) past_square

    past_run : (in_root && in_parent) ≡ true
    past_run = and_right in_run (in_root && in_parent) past_child

    pub passes_range : square_range (cell_at t i) ≡ true
    passes_range = and_left (square_range w) (in_child && (in_run && (in_root && in_parent))) parts

    pub passes_children : child_range (cell_at t i).child used ≡ true
    passes_children = and_left in_child (in_run && (in_root && in_parent)) past_square

    pub passes_run : entry_range (cell_at t i).first (cell_at t i).count entries ≡ true
    passes_run = and_left in_run (in_root && in_parent) past_child

    pub passes_root : root_range (cell_at t i) i ≡ true
    passes_root = and_left in_root in_parent past_run

    pub passes_parent : parent_range t i used ≡ true
    passes_parent = and_right in_root in_parent past_run

    passes_fits : SquareFits w
    passes_fits = square_fits_law w passes_range

    -- its square is that of a cell, of level 0 to 16
    pub passes_cell : square_of (cell_of (cell_at t i)) ≡ square_in (cell_at t i)
    passes_cell = λ d. record { x = w.x; y = w.y; side = passes_fits.power d }

    pub passes_child : ((cell_at t i).child ≡ 0 → ⊥) → (cell_at t i).child + 3 < used
    passes_child f = child_in_use w.child used passes_children f

    pub passes_entries : (cell_at t i).first + (cell_at t i).count ≤ entries
    passes_entries = leb-true (w.first + w.count) entries passes_run

-- ---- a head that passes

module _ (head t : List ℕ) (entries : ℕ) (h : head_range head (length t) entries ≡ true) where
  abbrev in_cells : Bool
  in_cells = cells_held (get_or head 0 0) (length t)

  abbrev in_entries : Bool
  in_entries = entries_held (get_or head 1 0) entries

  head_parts : cond (leb 2 (length head)) (in_cells && in_entries) false ≡ true
  unfolding head_range
  head_parts = h

  pub head_long : 2 ≤ length head
  head_long = leb-true 2 (length head) (cond_left (leb 2 (length head)) (in_cells && in_entries) head_parts)

  cells_held_law : in_cells ≡ true
  cells_held_law = and_left in_cells in_entries (cond_right (leb 2 (length head)) (in_cells && in_entries) head_parts)

  entries_held_law : in_entries ≡ true
  entries_held_law = and_right in_cells in_entries (cond_right (leb 2 (length head)) (in_cells && in_entries) head_parts)

  pub head_cells : CellsIn t (get_or head 0 0)
  head_cells =
      record {
        some = leb-true 1 (get_or head 0 0) (and_left (leb 1 (get_or head 0 0)) rest cells_held_law);
        few = leb-true (get_or head 0 0) 4096 (and_right (leb (get_or head 0 0) (length t / 8)) (leb (get_or head 0 0) 4096) tables);
        within = omega (arith, leb-true (get_or head 0 0) (length t / 8) (and_left (leb (get_or head 0 0) (length t / 8)) (leb (get_or head 0 0) 4096) tables));
      }
    where
      rest : Bool
      rest = leb (get_or head 0 0) (length t / 8) && leb (get_or head 0 0) 4096

      tables : rest ≡ true
      tables = and_right (leb 1 (get_or head 0 0)) rest cells_held_law

  pub head_entries : (get_or head 1 0 ≤ 65536) × (get_or head 1 0 * 4 ≤ entries)
  head_entries = (
    leb-true (get_or head 1 0) 65536 (and_right (leb (get_or head 1 0) (entries / 4)) (leb (get_or head 1 0) 65536) entries_held_law),
    omega (arith, leb-true (get_or head 1 0) (entries / 4) (and_left (leb (get_or head 1 0) (entries / 4)) (leb (get_or head 1 0) 65536) entries_held_law)),
  )
