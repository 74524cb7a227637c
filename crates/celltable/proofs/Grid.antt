-- Cells of the grid: cell 0 and each child of one are such cells, and a square passes exactly where it is that of one.
use Prim.Native.Nat.{ℕ, zero, suc, ◌+◌, ◌*◌, ◌-◌, ◌/◌, ◌%◌, ◌^◌, ◌≤◌, ◌<◌}
use mathlib.Core.Path.{◌≡◌, refl, ap, ◌∙◌}
use mathlib.Core.Bool.{Bool, true, false, ◌&&◌}
use mathlib.Core.List.{List}
use native.Mathlib.Omega.{arith}
use native.Mathlib.Nat.{one-le-pow, two-pow-succ, div-add-mod', div-lt_iff_lt-mul, mul-le-mul_right, mul-mod_left}
use lib.Dec.{eqb, ltb}
use borrow.Author.Tests.{eqb-true, eq-eqb, lt-ltb}
use Rattle.laws.proofs.Booleans.{and_left, and_right, and_both}
use Rattle.cells.specs.Cells.{Cell, cell, left, low, level, side, root, Quarter, low_low, high_low, low_high, high_high, along_x, along_y, child}
use Rattle.celltable.specs.declared.CellWords.{CellWords}
use Rattle.celltable.specs.Table.{cell_at}
use Rattle.celltable.specs.Ranges.{grid_range, square_range, root_range, child_range, entry_range, parent_range, cell_range, level_of, cell_of}
use Rattle.celltable.specs.Descent.{on_square}
use Rattle.celltable.proofs.Powers.{level_most, power_of, pow_split}
use Rattle.celltable.proofs.Ranges.{SquareFits, square_fits_law, range_parts}

-- a cell of the grid: of level 0 to 16, its low corner on the grid in multiples of its side, and all of it below 65,536
pub record Gridded (c : Cell) : Type 0 where
  pub few : level c ≤ 16
  pub x_multiple : left c % side c ≡ 0
  pub y_multiple : low c % side c ≡ 0
  pub east : left c + side c ≤ 65536
  pub north : low c + side c ≤ 65536

pub root_gridded : Gridded root
root_gridded = record { few = omega arith; x_multiple = refl; y_multiple = refl; east = omega arith; north = omega arith }

-- ---- a child of a cell of the grid

multiple_part : (x a k : ℕ) → x % 2 ^ suc k ≡ 0 → (x + a * 2 ^ k) % 2 ^ k ≡ 0
multiple_part x a k h = rw whole (mul-mod_left (m + m + a) (2 ^ k))
  where
    m : ℕ
    m = x / 2 ^ suc k

    x_is : x ≡ m * (2 ^ k + 2 ^ k)
    x_is = rw (← two-pow-succ k) (omega (arith, div-add-mod' x (2 ^ suc k)))

    whole : x + a * 2 ^ k ≡ (m + m + a) * 2 ^ k
    whole = omega (arith, x_is)

part_inside : (x a k : ℕ) → a ≤ 1 → x + 2 ^ suc k ≤ 65536 → x + a * 2 ^ k + 2 ^ k ≤ 65536
part_inside x a k l h = omega (arith, two-pow-succ k, mul-le-mul_right (2 ^ k) l)

along_x_law : (q : Quarter) → along_x q ≤ 1
along_x_law low_low = omega arith
along_x_law high_low = omega arith
along_x_law low_high = omega arith
along_x_law high_high = omega arith

along_y_law : (q : Quarter) → along_y q ≤ 1
along_y_law low_low = omega arith
along_y_law high_low = omega arith
along_y_law low_high = omega arith
along_y_law high_high = omega arith

pub child_gridded : (c : Cell) (q : Quarter) → Gridded c → Gridded (child c q)
child_gridded (cell x y zero) q g = g
child_gridded (cell x y (suc k)) q g =
    record {
      few = omega arith;
      x_multiple = multiple_part x (along_x q) k g.x_multiple;
      y_multiple = multiple_part y (along_y q) k g.y_multiple;
      east = part_inside x (along_x q) k (along_x_law q) g.east;
      north = part_inside y (along_y q) k (along_y_law q) g.north;
    }

-- ---- a cell that passes is one of the grid

inside : (x s k : ℕ) → 2 ^ k ≡ s → k ≤ 16 → 0 < s → x % s ≡ 0 → x < 65536 → x + s ≤ 65536
inside x s k e l p m h = omega (arith, mul-le-mul_right s below, div-add-mod' x s, grid)
  where
    grid : 2 ^ (16 - k) * s ≡ 65536
    grid =
        let all : 16 - k + k ≡ 16 = omega arith in
        rw (← e) (pow_split (16 - k) k ∙ ap (λ (n : ℕ). 2 ^ n) all)

    below : x / s + 1 ≤ 2 ^ (16 - k)
    below = omega (arith, (div-lt_iff_lt-mul {k = s} {x = x} {y = 2 ^ (16 - k)} p).1 (omega (arith, grid)))

pub passes_gridded : (w : CellWords) → square_range w ≡ true → Gridded (cell_of w)
passes_gridded w h =
    let f : SquareFits w = square_fits_law w h in
    record {
      few = level_most 16 w.side;
      x_multiple = rw f.power f.x_multiple;
      y_multiple = rw f.power f.y_multiple;
      east = rw f.power (inside w.x w.side (level_of w.side) f.power (level_most 16 w.side) f.some_side f.x_multiple f.x_below);
      north = rw f.power (inside w.y w.side (level_of w.side) f.power (level_most 16 w.side) f.some_side f.y_multiple f.y_below);
    }

pub passes_east : (w : CellWords) → square_range w ≡ true → w.x + w.side ≤ 65536
passes_east w h = rw (square_fits_law w h).power at (passes_gridded w h).east

pub passes_north : (w : CellWords) → square_range w ≡ true → w.y + w.side ≤ 65536
passes_north w h = rw (square_fits_law w h).power at (passes_gridded w h).north

-- ---- and words that say a cell of the grid pass

pub record SaysCell (w : CellWords) (c : Cell) : Type 0 where
  pub same_x : w.x ≡ left c
  pub same_y : w.y ≡ low c
  pub same_side : w.side ≡ side c

pub says_cell : (w : CellWords) (c : Cell) → on_square w c ≡ true → SaysCell w c
says_cell w c h =
    record {
      same_x = eqb-true w.x (left c) (and_left (eqb w.x (left c)) rest h);
      same_y = eqb-true w.y (low c) (and_left (eqb w.y (low c)) (eqb w.side (side c)) (and_right (eqb w.x (left c)) rest h));
      same_side = eqb-true w.side (side c) (and_right (eqb w.y (low c)) (eqb w.side (side c)) (and_right (eqb w.x (left c)) rest h));
    }
  where
    rest : Bool
    rest = eqb w.y (low c) && eqb w.side (side c)

pub on_square_law : (w : CellWords) (c : Cell) → SaysCell w c → on_square w c ≡ true
on_square_law w c s = rw (eq-eqb w.x (left c) s.same_x, eq-eqb w.y (low c) s.same_y, eq-eqb w.side (side c) s.same_side)

grid_true : (v s : ℕ) → v % s ≡ 0 → v < 65536 → grid_range v s ≡ true
grid_true v s m h = and_both (eqb (v % s) 0) (ltb v 65536) (eq-eqb (v % s) 0 m) (lt-ltb v 65536 h)

pub gridded_passes : (w : CellWords) (c : Cell) → Gridded c → SaysCell w c → square_range w ≡ true
gridded_passes w (cell x y k) g s =
    rw (s.same_x, s.same_y, s.same_side, power_of 16 k g.few)
    (and_both (grid_range x (2 ^ k)) (grid_range y (2 ^ k))
    (grid_true x (2 ^ k) g.x_multiple (omega (arith, one-le-pow k 2 (omega arith))))
    (grid_true y (2 ^ k) g.y_multiple (omega (arith, one-le-pow k 2 (omega arith)))))

-- where the words of cell 0 say the root, it is on its own square
own_square : (w : CellWords) (c : Cell) (i : ℕ) → (i ≡ 0 → c ≡ root) → SaysCell w c → root_range w i ≡ true
own_square w c i r s = go (eqb i 0) refl
  where
    go : (b : Bool) → eqb i 0 ≡ b → root_range w i ≡ true
    go true e =
        let q : c ≡ root = r (eqb-true i 0 e) in
        rw (e, s.same_x ∙ ap left q, s.same_y ∙ ap low q, s.same_side ∙ ap side q)
    go false e = rw e

-- where the words say a cell of the grid, and cell 0 the root, only the other numbers decide whether they pass
pub gridded_range : (t : List ℕ) (c : Cell) (i used entries : ℕ) → Gridded c → (i ≡ 0 → c ≡ root) → on_square (cell_at t i) c ≡ true
    → cell_range t i used entries
    ≡ (child_range (cell_at t i).child used && (entry_range (cell_at t i).first (cell_at t i).count entries && parent_range t i used))
unfolding cell_range
gridded_range t c i used entries g r h =
    let s : SaysCell (cell_at t i) c = says_cell (cell_at t i) c h in
    rw (gridded_passes (cell_at t i) c g s, own_square (cell_at t i) c i r s)

pub gridded_cell : (t : List ℕ) (c : Cell) (i used entries : ℕ) → Gridded c → (i ≡ 0 → c ≡ root) → SaysCell (cell_at t i) c
    → child_range (cell_at t i).child used ≡ true
    → entry_range (cell_at t i).first (cell_at t i).count entries ≡ true
    → parent_range t i used ≡ true
    → cell_range t i used entries ≡ true
gridded_cell t c i used entries g r s a b =
    range_parts t i used entries (gridded_passes (cell_at t i) c g s) a b (own_square (cell_at t i) c i r s)
