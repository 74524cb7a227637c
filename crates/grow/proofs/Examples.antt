-- Growing small trees, computed.
use Prim.Native.Nat.{ℕ}
use mathlib.Core.Path.{◌≡◌, refl}
use mathlib.Core.List.{List, [], ◌∷◌}
use Rattle.std.specs.Prelude.{Ok, Err}
use Rattle.refusals.specs.declared.Refusal.TheVariants.{Argument, Broken}
use Rattle.records.specs.Record.{area_range}
use Rattle.drawing.specs.Tables.{area_row}
use Rattle.stream.specs.Table.{words_from}
use Rattle.stream.specs.Grammar.{course, accepts, used_range}
use Rattle.celltable.specs.Ranges.{power_up_to, level_up_to, parent_range, cell_range, head_range}
use Rattle.tables.specs.Tables.{Tree, tree, counts_in}
use Rattle.grow.specs.declared.Growth.TheVariants.{Done, Full}
use Rattle.grow.specs.Grow.{tried, lowest_from, round, growing, grown, grow_answer}

-- one paint area; cell 0 alone, whose stream has the area, two lines and a shortcut; tables with no room for more
abbrev areas : List ℕ
areas = 0 ∷ 0 ∷ 255 ∷ 200 ∷ 100 ∷ 50 ∷ 7 ∷ 0 ∷ []

abbrev small : (child lines : ℕ) → Tree
small child lines =
    tree (0 ∷ 1 ∷ 3 ∷ []) areas (0 ∷ 10 ∷ 20 ∷ []) (0 ∷ 0 ∷ 30 ∷ []) (1 ∷ 4 ∷ []) (0 ∷ 0 ∷ 65536 ∷ child ∷ 0 ∷ 4 ∷ lines ∷ 0 ∷ [])
    (4 ∷ 0 ∷ 0 ∷ 0 ∷ 5 ∷ 0 ∷ 1 ∷ 0 ∷ 5 ∷ 1 ∷ 2 ∷ 0 ∷ 6 ∷ 1 ∷ 0 ∷ 5 ∷ [])

-- two lines are more than one, and depth 0 is below 1
full_at_once : grow_answer (small 0 2) 1 1 ≡ Ok (Full 0)
unfolding grown growing round lowest_from tried counts_in head_range cell_range parent_range power_up_to level_up_to used_range accepts course words_from
    area_range area_row
full_at_once = refl

-- and not more than two: the shortcut is no line
not_more_lines : grow_answer (small 0 2) 2 16 ≡ Ok (Done 0)
unfolding grown growing round lowest_from tried counts_in head_range cell_range parent_range power_up_to level_up_to used_range accepts course words_from
    area_range area_row
not_more_lines = refl

-- depth 0 is not below 0
not_deeper : grow_answer (small 0 2) 0 0 ≡ Ok (Done 0)
unfolding grown growing round lowest_from tried counts_in head_range cell_range parent_range power_up_to level_up_to used_range accepts course words_from
    area_range area_row
not_deeper = refl

-- children that are not in use
child_beyond : grow_answer (small 1 2) 2 16 ≡ Err Broken
unfolding grown growing round lowest_from tried counts_in head_range cell_range parent_range power_up_to level_up_to used_range accepts course words_from
    area_range area_row
child_beyond = refl

-- a count that differs: of a leaf that is passed over it is read for what it says, of one that is to be split it is 12, and that before "full"
false_count : grow_answer (small 0 1) 1 16 ≡ Ok (Done 0)
unfolding grown growing round lowest_from tried counts_in head_range cell_range parent_range power_up_to level_up_to used_range accepts course words_from
    area_range area_row
false_count = refl

count_tried : grow_answer (small 0 3) 2 16 ≡ Err Broken
unfolding grown growing round lowest_from tried counts_in head_range cell_range parent_range power_up_to level_up_to used_range accepts course words_from
    area_range area_row
count_tried = refl

-- a depth limit of 17
too_deep : grow_answer (small 0 2) 0 17 ≡ Err Argument
too_deep = refl
