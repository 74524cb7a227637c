-- Small trees, and the answers of finding a leaf in them, computed from the definitions.
use Rattle.std.proofs.Common.{Result, Ok, Err}
use mathlib.Core.Path.{◌≡◌, refl}
use mathlib.Core.Bool.{Bool, true, false}
use mathlib.Core.List.{List, [], ◌∷◌, ◌++◌}
use Prim.Native.Nat.{ℕ}
use Rattle.refusals.specs.declared.Refusal.{Refusal}
use Rattle.refusals.specs.declared.Refusal.TheVariants.{Argument, Broken}
use Rattle.records.specs.Record.{area_range}
use Rattle.drawing.specs.Tables.{area_row}
use Rattle.stream.specs.Table.{words_from}
use Rattle.stream.specs.Grammar.{course, accepts, used_range}
use Rattle.celltable.specs.Ranges.{power_up_to, parent_range, cell_range, head_range}
use Rattle.celltable.specs.Descent.{down_from, descend_in}
use Rattle.tables.specs.Tables.{Tree, tree, counts_in}
use Rattle.find_leaf.specs.declared.FoundLeaf.{FoundLeaf}
use Rattle.find_leaf.specs.Leaf.{leaf_in, find_answer}

-- one area that paints, and three corners
abbrev drawn : (ys head cells entries : List ℕ) → Tree
drawn ys head cells entries = tree (4 ∷ 1 ∷ 3 ∷ []) (0 ∷ 0 ∷ 255 ∷ 0 ∷ 0 ∷ 0 ∷ 7 ∷ 0 ∷ []) (0 ∷ 10 ∷ 10 ∷ []) ys head cells entries

abbrev corners : List ℕ
corners = 0 ∷ 0 ∷ 10 ∷ []

-- a cell whose parent is cell 0
abbrev row : (x y side child first count lines : ℕ) → List ℕ
row x y side child first count lines = x ∷ y ∷ side ∷ child ∷ first ∷ count ∷ lines ∷ 0 ∷ []

abbrev report : (cell x y side steps entries lines : ℕ) → (uniform : Bool) → Result FoundLeaf Refusal
report cell x y side steps entries lines uniform =
    Ok (record { cell = cell; x = x; y = y; side = side; steps = steps; entries = entries; lines = lines; uniform = uniform })

-- an area, two lines and a shortcut
abbrev stream : List ℕ
stream = (4 ∷ 0 ∷ 0 ∷ 0 ∷ []) ++ (5 ∷ 1 ∷ 2 ∷ 0 ∷ []) ++ (6 ∷ 1 ∷ 0 ∷ 10 ∷ []) ++ (5 ∷ 2 ∷ 0 ∷ 0 ∷ [])

-- ---- cell 0 alone: two of its four entries are lines
abbrev alone : Tree
alone = drawn corners (1 ∷ 4 ∷ []) (row 0 0 65536 0 0 4 2) stream

found_root : find_answer alone 100 65535 ≡ report 0 0 0 65536 0 4 2 false
unfolding leaf_in counts_in head_range used_range descend_in down_from cell_range parent_range power_up_to area_range area_row words_from course accepts
found_root = refl

-- 7 comes before 12
outside : find_answer (drawn corners [] [] []) 65536 0 ≡ Err Argument
outside = refl

uneven : find_answer (drawn [] [] [] []) 0 0 ≡ Err Argument
uneven = refl

no_head : find_answer (drawn corners [] [] []) 0 0 ≡ Err Broken
unfolding leaf_in counts_in head_range
no_head = refl

-- ---- cell 0 split once: the leaf is one step down; only the leaf's own stream and line count are tried, and those of cell 0 are not
abbrev split : Tree
split =
    drawn corners (5 ∷ 5 ∷ [])
    (row 0 0 65536 1 0 4 9 ++ row 0 0 32768 0 0 4 2 ++ row 32768 0 32768 0 4 0 0 ++ row 0 32768 32768 0 4 1 1 ++ row 32768 32768 32768 0 4 0 1)
    (stream ++ (5 ∷ 2 ∷ 0 ∷ 0 ∷ []))

low_low_law : find_answer split 32767 0 ≡ report 1 0 0 32768 1 4 2 false
unfolding leaf_in counts_in head_range used_range descend_in down_from cell_range parent_range power_up_to area_range area_row words_from course accepts
low_low_law = refl

high_low_law : find_answer split 32768 0 ≡ report 2 32768 0 32768 1 0 0 true
unfolding leaf_in counts_in head_range used_range descend_in down_from cell_range parent_range power_up_to area_range area_row words_from course accepts
high_low_law = refl

-- a line that stands after no area
low_high_law : find_answer split 0 32768 ≡ Err Broken
unfolding leaf_in counts_in head_range used_range descend_in down_from cell_range parent_range power_up_to area_range area_row words_from course accepts
low_high_law = refl

-- a line count that differs
high_high_law : find_answer split 32768 32768 ≡ Err Broken
unfolding leaf_in counts_in head_range used_range descend_in down_from cell_range parent_range power_up_to area_range area_row words_from course accepts
high_high_law = refl
