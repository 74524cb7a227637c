-- Document 01, "Cells" and "The list of demand 3", and document 02, Item 5: the cells that a list of splits makes, with no table: their squares, which of
-- them are divided, the parents, the leaves, and the way up from a cell.
use Rattle.std.specs.Prelude.{◌≡◌, List, [], ◌∷◌, ◌++◌, ℕ, zero, suc, ◌+◌, ◌-◌, ◌≤◌, ◌<◌, length, get_or, set}
use Rattle.cells.specs.Cells.{Position, OnGrid, Cell, level, root, Holds, low_low, high_low, low_high, high_high, child}

-- a cell, the first of its four cells, 0 where no split has divided it, and its parent; document 02: "Each cell carries its parent's number (its own for
-- cell 0)"
pub data Node : Type 0 where
  node : Cell → (first parent : ℕ) → Node

abbrev pub node_cell : Node → Cell
node_cell (node c j p) = c

abbrev pub node_first : Node → ℕ
node_first (node c j p) = j

abbrev pub node_parent : Node → ℕ
node_parent (node c j p) = p

-- "Cell 0 is the square of side 65,536 at (0, 0)."
abbrev pub begun : List Node
begun = node root 0 0 ∷ []

abbrev pub cell_in : List Node → ℕ → Cell
cell_in H i = node_cell (get_or H i (node root 0 0))

abbrev pub first_in : List Node → ℕ → ℕ
first_in H i = node_first (get_or H i (node root 0 0))

abbrev pub parent_in : List Node → ℕ → ℕ
parent_in H i = node_parent (get_or H i (node root 0 0))

-- "A split makes four cells of half the side, ...: low x low y, high x low y, low x high y, high x high y." Cell i is their parent.
abbrev pub quarters : Cell → (i : ℕ) → List Node
quarters c i = node (child c low_low) 0 i ∷ node (child c high_low) 0 i ∷ node (child c low_high) 0 i ∷ node (child c high_high) 0 i ∷ []

-- "numbered onward from the cells in use"
abbrev pub split_at : List Node → ℕ → List Node
split_at H i = set H i (node (cell_in H i) (length H) (parent_in H i)) ++ quarters (cell_in H i) i

-- the splits of these cells, one after the other
abbrev pub after_splits : List Node → List ℕ → List Node
after_splits H [] = H
after_splits H (i ∷ is) = after_splits (split_at H i) is

-- "A leaf is a cell in use that no split of the list, growing's included, has divided."
pub record Leaf (H : List Node) (i : ℕ) : Type 0 where
  pub in_use : i < length H
  pub undivided : first_in H i ≡ 0

-- a leaf that holds a position
pub record LeafAt (H : List Node) (p : Position) (i : ℕ) : Type 0 where
  pub leaf : Leaf H i
  pub holds : Holds (cell_in H i) p

-- the leaves tile the grid: each position lies in one, and in one only
pub record Tiled (H : List Node) : Type 0 where
  pub some_leaf : (p : Position) → OnGrid p → (i : ℕ) × LeafAt H p i
  pub one_leaf : (p : Position) (i j : ℕ) → LeafAt H p i → LeafAt H p j → i ≡ j

-- ---- the way up

-- document 02: "Map editors walk upward from a leaf.": the parent taken k times
abbrev pub up_in : List Node → (k i : ℕ) → ℕ
up_in H zero i = i
up_in H (suc k) i = up_in H k (parent_in H i)

-- the cell that is reached so from cell i: it is in use, it is k levels above cell i, and its square is around that of cell i
pub record Around (H : List Node) (i k : ℕ) : Type 0 where
  pub in_use : up_in H k i < length H
  pub level_is : level (cell_in H (up_in H k i)) ≡ level (cell_in H i) + k
  pub holds : (p : Position) → Holds (cell_in H i) p → Holds (cell_in H (up_in H k i)) p

-- from each cell in use, a leaf or not, each cell on the way up is around it, and where its depth is k, the parent taken k times is cell 0; the depth is
-- 16 - level
pub record Upward (H : List Node) : Type 0 where
  pub around : (i k : ℕ) → i < length H → k ≤ 16 - level (cell_in H i) → Around H i k
  pub to_root : (i : ℕ) → i < length H → up_in H (16 - level (cell_in H i)) i ≡ 0
