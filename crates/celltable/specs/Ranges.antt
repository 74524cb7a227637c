-- Document 01, "From the state", 12, and document 02, Item 5: when the numbers of a cell and the numbers in use are in range.
use Rattle.std.specs.Prelude.{ℕ, zero, suc, ◌+◌, ◌*◌, ◌-◌, ◌/◌, ◌%◌, ◌^◌, ◌≤◌, Bool, true, false, cond, ◌&&◌, ◌||◌, List, length, get_or, eqb, ltb, leb}
use Rattle.geometry.specs.declared.class.Square.{Square}
use Rattle.cells.specs.Cells.{Cell, cell}
use Rattle.celltable.specs.declared.CellWords.{CellWords}
use Rattle.celltable.specs.Table.{cell_at}

-- ---- the square of a cell

-- s is 2 ^ k for some k from 0 to n
unfoldable pub power_up_to : (n s : ℕ) → Bool
power_up_to zero s = eqb s 1
power_up_to (suc n) s = eqb s (2 ^ suc n) || power_up_to n s

-- "a cell's side a power of two up to 65,536"
abbrev pub side_range : ℕ → Bool
side_range s = power_up_to 16 s

-- "and its low corner on the grid in multiples of that side": a coordinate of the corner; positions are below 65,536
abbrev pub grid_range : (v s : ℕ) → Bool
grid_range v s = eqb (v % s) 0 && ltb v 65536

abbrev pub square_range : CellWords → Bool
square_range w = cond (side_range w.side) (grid_range w.x w.side && grid_range w.y w.side) false

-- "cell 0 ... on its own square": "Cell 0 is the square of side 65,536 at (0, 0)."
abbrev pub root_range : CellWords → ℕ → Bool
root_range w i = cond (eqb i 0) (eqb w.x 0 && (eqb w.y 0 && eqb w.side 65536)) true

-- ---- the numbers that a cell holds

-- "child ... numbers below what is in use": 0 for a leaf, else the first of four in a row
abbrev pub child_range : (child used : ℕ) → Bool
child_range child used = eqb child 0 || ltb (child + 3) used

-- "entry numbers below what is in use (the first number of an empty stream ... at most that)"; document 01 leaves that first number free up to there
abbrev pub entry_range : (first count used : ℕ) → Bool
entry_range first count used = leb (first + count) used

-- ---- the parent of a cell

-- document 02: "a split cell holding it as one of its four": cell i is one of the four in a row from `first` on, which are in use
abbrev pub is_child : (first used i : ℕ) → Bool
is_child first used i = leb 1 first && (ltb (first + 3) used && (leb first i && leb i (first + 3)))

-- a coordinate of the low corner of a half
abbrev pub half_at : (v side : ℕ) → (high : Bool) → ℕ
half_at v side high = cond high (v + side) v

-- "each child on its own square"; "four cells of half the side ...: low x low y, high x low y, low x high y, high x high y": words w of the child
-- at place q of a cell with the words p
abbrev pub on_quarter : (p w : CellWords) → (q : ℕ) → Bool
on_quarter p w q =
    eqb p.side (2 * w.side) && (eqb w.x (half_at p.x w.side (eqb (q % 2) 1)) && eqb w.y (half_at p.y w.side (leb 2 q)))

-- of the parent, whose words are p, nothing else is tried
abbrev pub held_by : (p w : CellWords) → (i used : ℕ) → Bool
held_by p w i used = is_child p.child used i && on_quarter p w (i - p.child)

-- document 02: "Cell 0 with another parent than itself, or any other cell whose parent is not a split cell holding it as one of its four, is met by 12"
unfoldable pub parent_range : List ℕ → (i used : ℕ) → Bool
parent_range t i used =
    cond (eqb i 0) (eqb (cell_at t i).parent 0)
    (cond (ltb (cell_at t i).parent used) (held_by (cell_at t (cell_at t i).parent) (cell_at t i) i used) false)

-- ---- a cell

-- "a number met in the tables used (... the path down ...; the cell ... when splitting) is outside its range": cell i of the table t, with so many
-- cells and entries in use
unfoldable pub cell_range : List ℕ → (i used entries : ℕ) → Bool
cell_range t i used entries =
    square_range (cell_at t i)
    && (child_range (cell_at t i).child used
    && (entry_range (cell_at t i).first (cell_at t i).count entries && (root_range (cell_at t i) i && parent_range t i used)))

-- ---- the numbers in use

-- "cells in use from 1 to what the table holds"; "so many whole cells (up to 4,096)"
abbrev pub cells_held : (n len : ℕ) → Bool
cells_held n len = leb 1 n && (leb n (len / 8) && leb n 4096)

-- "areas, corners and entries in use at most what their tables and limits hold"; "and entries (up to 65,536)"
abbrev pub entries_held : (n len : ℕ) → Bool
entries_held n len = leb n (len / 4) && leb n 65536

-- the head's words: cells in use, entries in use; the lengths of the table of cells and of the table of entries
unfoldable pub head_range : List ℕ → (cells entries : ℕ) → Bool
head_range head cells entries = cond (leb 2 (length head)) (cells_held (get_or head 0 0) cells && entries_held (get_or head 1 0) entries) false

-- what a reader of the cells may rely on once the head has passed
pub record CellsIn (t : List ℕ) (used : ℕ) : Type 0 where
  pub some : 1 ≤ used
  pub few : used ≤ 4096
  pub within : used * 8 ≤ length t

-- ---- the cell that the words say

-- the k up to n with s equal to 2 ^ k
unfoldable pub level_up_to : (n s : ℕ) → ℕ
level_up_to zero s = 0
level_up_to (suc n) s = cond (eqb s (2 ^ suc n)) (suc n) (level_up_to n s)

abbrev pub level_of : ℕ → ℕ
level_of s = level_up_to 16 s

abbrev pub cell_of : CellWords → Cell
cell_of w = cell w.x w.y (level_of w.side)

abbrev pub square_in : CellWords → Square
square_in w = record { x = w.x; y = w.y; side = w.side }
