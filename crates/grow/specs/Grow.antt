-- Document 01, "Cells" and "From the state", and document 02, Item 5: growing a tree in lent tables: the answer, and every table afterwards.
use Rattle.std.specs.Prelude.{Bool, cond, ◌&&◌, List, [], ◌∷◌, ℕ, zero, suc, ◌+◌, ◌-◌, eqb, ltb, leb, length, Result, Ok, Err}
use Rattle.refusals.specs.Refusals.{number_of}
use Rattle.refusals.specs.declared.Refusal.{Refusal}
use Rattle.refusals.specs.declared.Refusal.TheVariants.{Argument, Broken}
use Rattle.celltable.specs.declared.CellWords.{CellWords}
use Rattle.celltable.specs.Ranges.{cell_range, level_of}
use Rattle.tables.specs.Tables.{Tree, cells_used, entries_used, counts_in}
use Rattle.split.specs.Split.{words, split_answer}
use Rattle.split_laws.specs.After.{split_tree}
use Rattle.grow.specs.declared.Growth.{Growth}
use Rattle.grow.specs.declared.Growth.TheVariants.{Done, Full}
use Rattle.grow.specs.declared.Tried.{Tried}
use Rattle.grow.specs.declared.Tried.TheVariants.{Bad, Past, Wanted}

-- ---- one cell

-- cell 0 has side 65,536 and depth 0, and each step down halves the side
abbrev pub depth_at : (side : ℕ) → ℕ
depth_at side = 16 - level_of side

-- a "leaf with more lines than the threshold and a depth below the limit": threshold n, depth limit l; its side, and how many lines it has
abbrev pub wanted_by : (n l side lines : ℕ) → Bool
wanted_by n l side lines = ltb n lines && ltb (depth_at side) l

-- document 02: "growing reads the count instead of the stream, but for the leaf it splits"
abbrev pub tried_leaf : (n l : ℕ) → CellWords → Tried
tried_leaf n l w = cond (wanted_by n l w.side w.lines) Wanted Past

-- cell i, whose words are w
abbrev pub tried_cell : (n l : ℕ) → (cells : List ℕ) → (i used free : ℕ) → CellWords → Tried
tried_cell n l cells i used free w = cond (cell_range cells i used free) (cond (eqb w.child 0) (tried_leaf n l w) Past) Bad

unfoldable pub tried : Tree → (n l i : ℕ) → Tried
tried t n l i = tried_cell n l t.cells i (cells_used t.head) (entries_used t.head) (words t i)

-- ---- "splits the lowest numbered leaf ...": "Growing reads cells from 0 upward, ... up to the one it splits"
pub data Lowest : Type 0 where
  none : Lowest
  bad : Lowest
  at : ℕ → Lowest

abbrev pub or_next : Tried → ℕ → Lowest → Lowest
or_next Bad i next = bad
or_next Past i next = next
or_next Wanted i next = at i

-- among the m cells from cell i on
unfoldable pub lowest_from : Tree → (n l i m : ℕ) → Lowest
lowest_from t n l i zero = none
lowest_from t n l i (suc m) = or_next (tried t n l i) i (lowest_from t n l (i + 1) m)

-- ---- one round: "it says "done" when there is none, "full" when that split would be refused with 11"; the split tries the stream of the leaf, by 12
pub data Round : Type 0 where
  splits : ℕ → Round
  done : Round
  full : Round
  broken : Round

abbrev pub round_at : ℕ → Result ℕ Refusal → Round
round_at i (Ok n) = splits i
round_at i (Err r) = cond (eqb (number_of r) 11) full broken

abbrev pub round_by : Tree → Lowest → Round
round_by t none = done
round_by t bad = broken
round_by t (at i) = round_at i (split_answer t i)

unfoldable pub round : (n l : ℕ) → Tree → Round
round n l t = cond (counts_in t) (round_by t (lowest_from t n l 0 (cells_used t.head))) broken

-- ---- "again and again ... and gives the splits made"
pub data Ending : Type 0 where
  none_left : Ending
  no_room : Ending
  not_passed : Ending

-- the cells that were split, in order; the tables afterwards; why it ended
pub record Grown : Type 0 where
  pub cells : List ℕ
  pub after : Tree
  pub ending : Ending

abbrev pub ended : Tree → Ending → Grown
ended t e = record { cells = []; after = t; ending = e }

abbrev pub also_split : ℕ → Grown → Grown
also_split i g = record { cells = i ∷ g.cells; after = g.after; ending = g.ending }

abbrev pub go_on : Round → Tree → (Tree → Grown) → Grown
go_on (splits i) t f = also_split i (f (split_tree t i))
go_on done t f = ended t none_left
go_on full t f = ended t no_room
go_on broken t f = ended t not_passed

-- over at most k rounds. A round that splits takes four cells, and there are at most 4,096: `Rattle.grow.proofs.Fuel` says that 1,025
-- rounds are enough, whatever the tables hold.
unfoldable pub growing : (k n l : ℕ) → Tree → Grown
growing zero n l t = ended t none_left
growing (suc k) n l t = go_on (round n l t) t (growing k n l)

unfoldable pub grown : (n l : ℕ) → Tree → Grown
grown n l t = growing 4096 n l t

-- ---- the call: "it passes on 7 and 12 only, and cells split before a 12 remain"
abbrev pub answer_by : Ending → ℕ → Result Growth Refusal
answer_by none_left k = Ok (Done k)
answer_by no_room k = Ok (Full k)
answer_by not_passed k = Err Broken

abbrev pub answer_of : Grown → Result Growth Refusal
answer_of g = answer_by g.ending (length g.cells)

-- 7: "a lent pair of x and y tables of unequal length"; "depth limit out of range": "a depth limit 0 to 16"
abbrev pub grow_answer : Tree → (n l : ℕ) → Result Growth Refusal
grow_answer t n l = cond (eqb (length t.xs) (length t.ys)) (cond (leb l 16) (answer_of (grown n l t)) (Err Argument)) (Err Argument)

-- the tables afterwards
abbrev pub grow_tree : Tree → (n l : ℕ) → Tree
grow_tree t n l = cond (eqb (length t.xs) (length t.ys)) (cond (leb l 16) (grown n l t).after t) t
