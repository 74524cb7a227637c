-- The path down over the numbers that the code holds. `Rattle.celltable.proofs.Meaning` says that it is `descend_in`.
use Rattle.std.specs.Prelude.{ℕ, zero, suc, ◌+◌, ◌*◌, ◌/◌, ◌≤◌, ◌<◌, Bool, cond, ◌&&◌, ◌||◌, List, eqb, leb, Option, None, Some}
use Rattle.celltable.specs.declared.CellWords.{CellWords}
use Rattle.celltable.specs.declared.Cursor.{Cursor}
use Rattle.std.specs.declared.ops.ControlFlow.{ControlFlow}
use Rattle.std.specs.declared.ops.ControlFlow.TheVariants.{Continue, Break}
use Rattle.celltable.specs.declared.Leaf.{Leaf}
use Rattle.celltable.specs.Table.{cell_at}
use Rattle.celltable.specs.Ranges.{child_range, entry_range, half_at, parent_range}
use Rattle.celltable.specs.Descent.{leaf_of}

-- 1 for the high half of a side
abbrev pub half_bit : Bool → ℕ
half_bit high = cond high 1 0

-- the cursor at the child that holds (px, py), of the four children from `first` on
abbrev pub deeper_n : Cursor → (first px py : ℕ) → Cursor
deeper_n c first px py =
    record {
      parent = c.cell;
      cell = first + half_bit (leb (c.x + c.side / 2) px) + 2 * half_bit (leb (c.y + c.side / 2) py);
      x = half_at c.x (c.side / 2) (leb (c.x + c.side / 2) px);
      y = half_at c.y (c.side / 2) (leb (c.y + c.side / 2) py);
      side = c.side / 2;
      steps = c.steps + 1;
    }

abbrev pub stands_n : Cursor → CellWords → Bool
stands_n c w = eqb w.x c.x && (eqb w.y c.y && eqb w.side c.side)

-- the parent that a cell on the path names: the cell that the path came from, which holds it, or one that is tried
abbrev pub parent_n : List ℕ → (used : ℕ) → Cursor → CellWords → Bool
parent_n t used c w = eqb w.parent c.parent || parent_range t c.cell used

-- A cell on the square that the path expects has a side and a corner in range, so only its other numbers are tried.
abbrev pub numbers_n : List ℕ → (used entries : ℕ) → Cursor → CellWords → Bool
numbers_n t used entries c w = child_range w.child used && (entry_range w.first w.count entries && parent_n t used c w)

-- what a cell with the words w gives
unfoldable pub met_n : List ℕ → CellWords → (used entries : ℕ) → Cursor → (px py : ℕ) → Option (ControlFlow Leaf Cursor)
met_n t w used entries c px py =
    cond (stands_n c w)
    (cond (numbers_n t used entries c w)
    (cond (eqb w.child 0) (Some (Break (leaf_of c.cell c.steps w))) (Some (Continue (deeper_n c w.child px py))))
    None)
    None

-- "Each step down picks one quarter and gives the next cell"
abbrev pub step_n : List ℕ → (used entries : ℕ) → Cursor → (px py : ℕ) → Option (ControlFlow Leaf Cursor)
step_n t used entries c px py = met_n t (cell_at t c.cell) used entries c px py

abbrev pub go_on : Option (ControlFlow Leaf Cursor) → (Cursor → Option Leaf) → Option Leaf
go_on (Some (Continue c)) f = f c
go_on (Some (Break l)) f = Some l
go_on None f = None

-- over at most n cells
unfoldable pub walk_n : List ℕ → (used entries px py n : ℕ) → Cursor → Option Leaf
walk_n t used entries px py zero c = None
walk_n t used entries px py (suc n) c = go_on (step_n t used entries c px py) (walk_n t used entries px py n)

abbrev pub start_n : Cursor
start_n = record { cell = 0; parent = 0; x = 0; y = 0; side = 65536; steps = 0 }

-- what holds of the cursor on its path: the cell is in use, the square lies in the grid, and at most 16 steps were made
pub record CursorIn (c : Cursor) (used : ℕ) : Type 0 where
  pub in_use : c.cell < used
  pub east : c.x + c.side ≤ 65536
  pub north : c.y + c.side ≤ 65536
  pub steps_few : c.steps ≤ 16
