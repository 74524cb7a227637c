-- Document 01, "Winding and meaning" and "Cells": positions, the squares of cells, and their quarters.
use Rattle.std.specs.Prelude.{Bool, true, false, ℕ, zero, suc, ◌+◌, ◌*◌, ◌^◌, ◌<◌, leb}
use Rattle.geometry.specs.Classes.{Inside}
use Rattle.geometry.specs.declared.class.Square.{Square}

pub data Position : Type 0 where
  at : (x y : ℕ) → Position

abbrev pub col : Position → ℕ
col (at x y) = x

abbrev pub row : Position → ℕ
row (at x y) = y

-- "Positions are whole x, y from 0 to 65,535."
pub record OnGrid (p : Position) : Type 0 where
  pub x_below : col p < 65536
  pub y_below : row p < 65536

-- a cell: the low corner of its square, and its level; the side is 2 ^ level
pub data Cell : Type 0 where
  cell : (x y level : ℕ) → Cell

abbrev pub left : Cell → ℕ
left (cell x y k) = x

abbrev pub low : Cell → ℕ
low (cell x y k) = y

abbrev pub level : Cell → ℕ
level (cell x y k) = k

abbrev pub side : Cell → ℕ
side (cell x y k) = 2 ^ k

abbrev pub square_of : Cell → Square
square_of c = record { x = left c; y = low c; side = side c }

-- "Cell 0 is the square of side 65,536 at (0, 0)."
abbrev pub root : Cell
root = cell 0 0 16

-- "A cell's square holds its low sides and not its high ones."
abbrev pub Holds : Cell → Position → Type 0
Holds c p = Inside (left c) (low c) (side c) (col p) (row p)

-- "low x low y, high x low y, low x high y, high x high y"
pub data Quarter : Type 0 where
  low_low high_low low_high high_high : Quarter

abbrev pub along_x : Quarter → ℕ
along_x low_low = 0
along_x high_low = 1
along_x low_high = 0
along_x high_high = 1

abbrev pub along_y : Quarter → ℕ
along_y low_low = 0
along_y high_low = 0
along_y low_high = 1
along_y high_high = 1

-- "A split makes four cells of half the side". A cell of side 1 is not split: refusal 10 comes first, and this is never asked of it.
abbrev pub child : Cell → Quarter → Cell
child (cell x y zero) q = cell x y zero
child (cell x y (suc k)) q = cell (x + along_x q * 2 ^ k) (y + along_y q * 2 ^ k) k

-- "Each step down picks one quarter"
abbrev pub quarter_by : (high_x high_y : Bool) → Quarter
quarter_by false false = low_low
quarter_by true false = high_low
quarter_by false true = low_high
quarter_by true true = high_high

abbrev pub quarter_of : Cell → Position → Quarter
quarter_of (cell x y zero) p = low_low
quarter_of (cell x y (suc k)) p = quarter_by (leb (x + 2 ^ k) (col p)) (leb (y + 2 ^ k) (row p))
