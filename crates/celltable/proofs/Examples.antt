-- Small trees, and what is found in them, computed from the definitions.
use mathlib.Core.Path.{◌≡◌, refl}
use mathlib.Core.Bool.{true, false}
use mathlib.Core.List.{List, [], ◌∷◌, ◌++◌}
use Prim.Native.Nat.{ℕ}
use Rattle.cells.specs.Cells.{at, cell}
use Rattle.celltable.specs.declared.CellWords.{CellWords}
use Rattle.std.specs.Prelude.{Option, None, Some}
use Rattle.celltable.specs.declared.Leaf.{Leaf}
use Rattle.celltable.specs.Table.{cell_row}
use Rattle.celltable.specs.Ranges.{power_up_to, side_range, parent_range, cell_range, head_range}
use Rattle.celltable.specs.Descent.{down_from, descend_in}

-- cells whose parent is cell 0, and whose line count is 5
abbrev words : (x y side child first count : ℕ) → CellWords
words x y side child first count = record { x = x; y = y; side = side; child = child; first = first; count = count; lines = 5; parent = 0 }

abbrev row : (x y side child first count : ℕ) → List ℕ
row x y side child first count = cell_row (words x y side child first count)

abbrev leaf : (i x y side steps first count : ℕ) → Option Leaf
leaf i x y side steps first count = Some (record { cell = i; x = x; y = y; side = side; steps = steps; first = first; count = count; lines = 5 })

-- ---- cell 0 alone, with three entries
abbrev alone : List ℕ
alone = row 0 0 65536 0 0 3

found_root : descend_in alone 1 3 100 65535 ≡ leaf 0 0 0 65536 0 0 3
unfolding descend_in down_from cell_range parent_range power_up_to
found_root = refl

-- its entries are not in use
entries_beyond : descend_in alone 1 2 100 65535 ≡ None
unfolding descend_in down_from cell_range parent_range power_up_to
entries_beyond = refl

-- ---- cell 0 split once: a position in each quarter
abbrev split : List ℕ
split = row 0 0 65536 1 0 3 ++ row 0 0 32768 0 3 1 ++ row 32768 0 32768 0 4 2 ++ row 0 32768 32768 0 6 0 ++ row 32768 32768 32768 0 6 1

low_low_law : descend_in split 5 7 32767 32767 ≡ leaf 1 0 0 32768 1 3 1
unfolding descend_in down_from cell_range parent_range power_up_to
low_low_law = refl

high_low_law : descend_in split 5 7 32768 32767 ≡ leaf 2 32768 0 32768 1 4 2
unfolding descend_in down_from cell_range parent_range power_up_to
high_low_law = refl

low_high_law : descend_in split 5 7 32767 32768 ≡ leaf 3 0 32768 32768 1 6 0
unfolding descend_in down_from cell_range parent_range power_up_to
low_high_law = refl

high_high_law : descend_in split 5 7 32768 32768 ≡ leaf 4 32768 32768 32768 1 6 1
unfolding descend_in down_from cell_range parent_range power_up_to
high_high_law = refl

-- a child is not in use
child_beyond : descend_in split 4 7 0 0 ≡ None
unfolding descend_in down_from cell_range parent_range power_up_to
child_beyond = refl

-- ---- two children on each other's squares: each is met by 12, and the way to it is broken
abbrev swapped : List ℕ
swapped = row 0 0 65536 1 0 3 ++ row 0 0 32768 0 3 1 ++ row 0 32768 32768 0 6 0 ++ row 32768 0 32768 0 4 2 ++ row 32768 32768 32768 0 6 1

off_its_quarter : cell_range swapped 2 5 7 ≡ false
unfolding cell_range parent_range power_up_to
off_its_quarter = refl

astray : descend_in swapped 5 7 32768 0 ≡ None
unfolding descend_in down_from cell_range parent_range power_up_to
astray = refl

-- a cell that says that it is its own child is no endless path down
abbrev circle : List ℕ
circle = row 0 0 65536 1 0 0 ++ row 0 0 32768 1 0 0 ++ row 32768 0 32768 0 0 0 ++ row 0 32768 32768 0 0 0 ++ row 32768 32768 32768 0 0 0

in_circles : descend_in circle 5 0 0 0 ≡ None
unfolding descend_in down_from cell_range parent_range power_up_to
in_circles = refl

-- a cell of side 1 that says that it is split
smallest : down_from (row 0 0 1 1 0 0) 9 0 (at 0 0) 1 0 16 (cell 0 0 0) ≡ None
unfolding down_from cell_range parent_range power_up_to
smallest = refl

-- ---- parents
-- cell 0, split once, with the parents of its four cells
abbrev under : (a b c d : ℕ) → List ℕ
under a b c d =
    row 0 0 65536 1 0 3 ++ (0 ∷ 0 ∷ 32768 ∷ 0 ∷ 3 ∷ 1 ∷ 0 ∷ a ∷ [])
    ++ (32768 ∷ 0 ∷ 32768 ∷ 0 ∷ 4 ∷ 2 ∷ 0 ∷ b ∷ [])
    ++ (0 ∷ 32768 ∷ 32768 ∷ 0 ∷ 6 ∷ 0 ∷ 0 ∷ c ∷ [])
    ++ (32768 ∷ 32768 ∷ 32768 ∷ 0 ∷ 6 ∷ 1 ∷ 0 ∷ d ∷ [])

right_parent : cell_range (under 0 0 0 0) 4 5 7 ≡ true
unfolding cell_range parent_range power_up_to
right_parent = refl

-- a leaf is no parent
leaf_parent : cell_range (under 0 0 0 1) 4 5 7 ≡ false
unfolding cell_range parent_range power_up_to
leaf_parent = refl

-- nor is a cell that is not in use
parent_beyond : cell_range (under 0 0 0 5) 4 5 7 ≡ false
unfolding cell_range parent_range power_up_to
parent_beyond = refl

-- the way meets it too
parent_on_the_way : descend_in (under 0 0 0 1) 5 7 65535 65535 ≡ None
unfolding descend_in down_from cell_range parent_range power_up_to
parent_on_the_way = refl

-- and where it does not go, it meets nothing
elsewhere : descend_in (under 0 0 0 1) 5 7 0 0 ≡ Some (record { cell = 1; x = 0; y = 0; side = 32768; steps = 1; first = 3; count = 1; lines = 0 })
unfolding descend_in down_from cell_range parent_range power_up_to
elsewhere = refl

-- cell 0 is its own parent
root_parent : cell_range (0 ∷ 0 ∷ 65536 ∷ 0 ∷ 0 ∷ 3 ∷ 0 ∷ 1 ∷ []) 0 5 7 ≡ false
unfolding cell_range parent_range power_up_to
root_parent = refl

-- ---- ranges
no_power : side_range 48 ≡ false
unfolding power_up_to
no_power = refl

off_grid : cell_range (row 0 0 65536 1 0 0 ++ row 16 8 16 0 0 0) 1 5 0 ≡ false
unfolding cell_range parent_range power_up_to
off_grid = refl

not_the_root : cell_range (row 0 0 32768 0 0 0) 0 5 0 ≡ false
unfolding cell_range parent_range power_up_to
not_the_root = refl

-- two words of head; tables of 40 and 27 words hold 5 cells and 6 entries
head_passes : head_range (5 ∷ 6 ∷ []) 40 27 ≡ true
unfolding head_range
head_passes = refl

no_cells : head_range (0 ∷ 0 ∷ []) 40 27 ≡ false
unfolding head_range
no_cells = refl

many_entries : head_range (5 ∷ 7 ∷ []) 40 27 ≡ false
unfolding head_range
many_entries = refl
