-- Document 01, "The list of demand 3": the calls of the list as a maker calls them: what each answers, the words that it writes, and the tables that it
-- leaves. Each is the definition that the contract of the exported call cites (`zones_open`, `zones_split`, `zones_grow`, `zones_find_leaf`,
-- `zones_position`, `zones_pixel_row`, `zones_zone_log`).
use Rattle.std.specs.Prelude.{Bool, true, false, cond, List, [], ℕ, eqb, leb, length, Result, Ok, Err}
use Rattle.refusals.specs.declared.Refusal.{Refusal}
use Rattle.find_leaf.specs.declared.FoundLeaf.{FoundLeaf}
use Rattle.position.specs.declared.Spot.{Spot}
use Rattle.refusals.specs.declared.Refused.{Refused}
use Rattle.refusals.specs.Refusals.{number_of}
use Rattle.tables.specs.Tables.{Tree}
use Rattle.split.specs.Split.{split_answer}
use Rattle.split_laws.specs.After.{split_tree}
use Rattle.open.specs.Open.{open_answer, open_tree}
use Rattle.grow.specs.declared.Growth.{Growth}
use Rattle.grow.specs.declared.Growth.TheVariants as Growths
use Rattle.grow.specs.Grow.{grown, grow_answer, grow_tree}
use Rattle.find_leaf.specs.Leaf.{find_answer}
use Rattle.position.specs.Spots.{position_answer}
use Rattle.pixel_row.specs.Rows.{row_filled}
use Rattle.zone_log.specs.Logs.{log_answer, out_after}
use Rattle.answers.specs.Answers.{open_number, split_number, grow_number, find_room, find_number, out_found}
use Rattle.answers.specs.Readings.{spot_room, spot_number, out_spot, row_number, log_number}
use Rattle.demand.specs.History.{Node, split_at, after_splits}

-- "calls that split, grow or read, none or more, in any sequence, accepted or refused; refused openings may be among them. Reading calls are all that
-- answer from the tree: leaves found, positions, pixel rows, zone logs."
pub data Call : Type 0 where
  opens : Call
  splits : (cell : ℕ) → Call
  grows : (threshold limit : ℕ) → Call
  -- the position, and the table that takes the eight words of the leaf
  finds : (x y : ℕ) (out : List ℕ) → Call
  -- the position, and the table that takes the ten words of what shows and of how far that reaches
  reads : (x y : ℕ) (out : List ℕ) → Call
  -- the row, its first pixel, and the buffer that takes the pixels
  rows : (row first : ℕ) (out : List ℕ) → Call
  -- the positions of the run, and the table that takes the indices
  logs : (px py out : List ℕ) → Call

abbrev pub is_opening : Call → Bool
is_opening opens = true
is_opening (splits i) = false
is_opening (grows n l) = false
is_opening (finds x y out) = false
is_opening (reads x y out) = false
is_opening (rows row first out) = false
is_opening (logs px py out) = false

abbrev pub is_growing : Call → Bool
is_growing opens = false
is_growing (splits i) = false
is_growing (grows n l) = true
is_growing (finds x y out) = false
is_growing (reads x y out) = false
is_growing (rows row first out) = false
is_growing (logs px py out) = false

-- ---- the answers
pub data Answer : Type 0 where
  opening : Result ℕ Refusal → Answer
  splitting : Result ℕ Refusal → Answer
  growing : Result Growth Refusal → Answer
  finding : Result FoundLeaf Refusal → Answer
  reading : Result Spot Refusal → Answer
  rowing : Result (Unit {0}) Refused → Answer
  logging : Result ℕ Refused → Answer

-- to a call that is lent these tables
abbrev pub answer_to : Call → Tree → Answer
answer_to opens t = opening (open_answer t)
answer_to (splits i) t = splitting (split_answer t i)
answer_to (grows n l) t = growing (grow_answer t n l)
answer_to (finds x y out) t = finding (find_room (find_answer t x y) (length out))
answer_to (reads x y out) t = reading (spot_room (position_answer t x y) (length out))
answer_to (rows row first out) t = rowing (row_filled t row first out).answer
answer_to (logs px py out) t = logging (log_answer t px py (length out))

-- the number that the exported call hands back
abbrev pub number_by : Answer → ℕ
number_by (opening a) = open_number a
number_by (splitting a) = split_number a
number_by (growing a) = grow_number a
number_by (finding a) = find_number a
number_by (reading a) = spot_number a
number_by (rowing a) = row_number a
number_by (logging a) = log_number a

-- the number of its refusal, 0 where it is accepted
abbrev pub refusal : Answer → ℕ
refusal (opening (Ok n)) = 0
refusal (opening (Err r)) = number_of r
refusal (splitting (Ok n)) = 0
refusal (splitting (Err r)) = number_of r
refusal (growing (Ok (Growths.Done k))) = 0
refusal (growing (Ok (Growths.Full k))) = 0
refusal (growing (Err r)) = number_of r
refusal (finding (Ok l)) = 0
refusal (finding (Err r)) = number_of r
refusal (reading (Ok s)) = 0
refusal (reading (Err r)) = number_of r
refusal (rowing (Ok u)) = 0
refusal (rowing (Err r)) = number_of r.refusal
refusal (logging (Ok n)) = 0
refusal (logging (Err r)) = number_of r.refusal

-- ---- the tables
-- the output that a call is lent, as it leaves it
abbrev pub output_after : Call → Tree → List ℕ
output_after opens t = []
output_after (splits i) t = []
output_after (grows n l) t = []
output_after (finds x y out) t = out_found (find_room (find_answer t x y) (length out)) out
output_after (reads x y out) t = out_spot (spot_room (position_answer t x y) (length out)) out
output_after (rows row first out) t = (row_filled t row first out).bytes
output_after (logs px py out) t = out_after t px py (log_answer t px py (length out)) out

-- the seven tables that a call is lent, as it leaves them
abbrev pub tree_after : Call → Tree → Tree
tree_after opens t = open_tree t
tree_after (splits i) t = split_tree t i
tree_after (grows n l) t = grow_tree t n l
tree_after (finds x y out) t = t
tree_after (reads x y out) t = t
tree_after (rows row first out) t = t
tree_after (logs px py out) t = t

-- what a call gives: its answer and the words that it writes
pub record Given : Type 0 where
  pub answer : Answer
  pub output : List ℕ

abbrev pub gives : Answer → List ℕ → Given
gives a out = record { answer = a; output = out }

abbrev pub given : Call → Tree → Given
given c t = gives (answer_to c t) (output_after c t)

-- ---- the history
abbrev pub after_split : List Node → ℕ → Result ℕ Refusal → List Node
after_split H i (Ok n) = split_at H i
after_split H i (Err r) = H

-- the cells that growing splits, in order; it is refused with 7 as `grow_answer` says
abbrev pub grown_cells : Tree → (n l : ℕ) → List ℕ
grown_cells t n l = cond (eqb (length t.xs) (length t.ys)) (cond (leb l 16) (grown n l t).cells []) []

-- "no split of the list, growing's included"
abbrev pub history_after : Call → Tree → List Node → List Node
history_after opens t H = H
history_after (splits i) t H = after_split H i (split_answer t i)
history_after (grows n l) t H = after_splits H (grown_cells t n l)
history_after (finds x y out) t H = H
history_after (reads x y out) t H = H
history_after (rows row first out) t H = H
history_after (logs px py out) t H = H
