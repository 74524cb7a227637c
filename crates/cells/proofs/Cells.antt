-- The quarters of a cell: each lies in it, and the one that is picked holds the position.
use mathlib.Core.Path.{◌≡◌, refl}
use mathlib.Core.Bool.{Bool, true, false}
use Prim.Native.Nat.{ℕ, zero, suc, ◌+◌, ◌*◌, ◌^◌, ◌≤◌, ◌<◌}
use native.Mathlib.Nat.{one-le-pow, pow-suc}
use native.Mathlib.Omega.{arith}
use lib.Dec.{leb}
use borrow.Author.Tests.{leb-true, leb-false}
use Rattle.geometry.specs.Classes.{Contains}
use Rattle.cells.specs.Cells.{
  Position,
  at,
  col,
  row,
  OnGrid,
  Cell,
  cell,
  left,
  low,
  level,
  side,
  root,
  Holds,
  Quarter,
  low_low,
  high_low,
  low_high,
  high_high,
  along_x,
  along_y,
  child,
  quarter_by,
  quarter_of,
}

pub some_side : (c : Cell) → 0 < side c
some_side (cell x y k) = one-le-pow k 2 (omega arith)

pub root_holds : (p : Position) → OnGrid p → Holds root p
root_holds (at x y) g = record { west = omega arith; east = g.x_below; south = omega arith; north = g.y_below }

-- ---- a quarter lies in its cell

part_x : (q : Quarter) (n : ℕ) → along_x q * n ≤ n
part_x low_low n = omega arith
part_x high_low n = omega arith
part_x low_high n = omega arith
part_x high_high n = omega arith

part_y : (q : Quarter) (n : ℕ) → along_y q * n ≤ n
part_y low_low n = omega arith
part_y high_low n = omega arith
part_y low_high n = omega arith
part_y high_high n = omega arith

shifted : (x y a b s t : ℕ) → 0 < t → s ≡ t + t → a ≤ t → b ≤ t → Contains x y s (x + a) (y + b) t
shifted x y a b s t w e h k = record { some_side = w; west = omega arith; east = omega arith; south = omega arith; north = omega arith }

double : (k : ℕ) → 2 ^ suc k ≡ 2 ^ k + 2 ^ k
double k = omega (arith, pow-suc 2 k)

pub child_contains : (c : Cell) (q : Quarter) → Contains (left c) (low c) (side c) (left (child c q)) (low (child c q)) (side (child c q))
child_contains (cell x y zero) q = record { some_side = omega arith; west = omega arith; east = omega arith; south = omega arith; north = omega arith }
child_contains (cell x y (suc k)) q =
    shifted x y (along_x q * 2 ^ k) (along_y q * 2 ^ k) (2 ^ suc k) (2 ^ k) (one-le-pow k 2 (omega arith)) (double k) (part_x q (2 ^ k)) (part_y q (2 ^ k))

pub holds_up : (c : Cell) (q : Quarter) (p : Position) → Holds (child c q) p → Holds c p
holds_up c q p i = let w = child_contains c q in record { west = omega arith; east = omega arith; south = omega arith; north = omega arith }

-- ---- the quarter that is picked holds the position

pub child_holds : (c : Cell) (p : Position) → Holds c p → Holds (child c (quarter_of c p)) p
child_holds (cell x y zero) p i = i
child_holds (cell x y (suc k)) p i = go (leb (x + 2 ^ k) (col p)) (leb (y + 2 ^ k) (row p)) refl refl
  where
    go : (r u : Bool) → leb (x + 2 ^ k) (col p) ≡ r → leb (y + 2 ^ k) (row p) ≡ u → Holds (child (cell x y (suc k)) (quarter_by r u)) p
    go false false e f =
        let a = leb-false (x + 2 ^ k) (col p) e in let b = leb-false (y + 2 ^ k) (row p) f in let d = double k in
        record { west = omega arith; east = omega arith; south = omega arith; north = omega arith }
    go true false e f =
        let a = leb-true (x + 2 ^ k) (col p) e in let b = leb-false (y + 2 ^ k) (row p) f in let d = double k in
        record { west = omega arith; east = omega arith; south = omega arith; north = omega arith }
    go false true e f =
        let a = leb-false (x + 2 ^ k) (col p) e in let b = leb-true (y + 2 ^ k) (row p) f in let d = double k in
        record { west = omega arith; east = omega arith; south = omega arith; north = omega arith }
    go true true e f =
        let a = leb-true (x + 2 ^ k) (col p) e in let b = leb-true (y + 2 ^ k) (row p) f in let d = double k in
        record { west = omega arith; east = omega arith; south = omega arith; north = omega arith }

pub level_child : (c : Cell) (q : Quarter) → 0 < level c → suc (level (child c q)) ≡ level c
level_child (cell x y zero) q h = absurd (omega arith)
level_child (cell x y (suc k)) q h = refl
