-- One turn of the sweep over the numbers that the code holds. `Rattle.grow.proofs.Swept` says that the sweep is growing.
use Rattle.std.specs.Prelude.{Bool, cond, List, ℕ, ◌+◌, eqb, Result, Ok, Err, Option, Some, None}
use Rattle.refusals.specs.Refusals.{number_of}
use Rattle.refusals.specs.declared.Refusal.{Refusal}
use Rattle.refusals.specs.declared.Refusal.TheVariants.{Broken}
use Rattle.tables.specs.Tables.{Tree, entries_used}
use Rattle.split.specs.Split.{split_answer}
use Rattle.split_laws.specs.After.{split_tree}
use Rattle.grow.specs.declared.Tried.{Tried}
use Rattle.grow.specs.declared.Tried.TheVariants.{Bad, Past, Wanted}
use Rattle.grow.specs.declared.Sweep.{Sweep}

-- the cell is passed over
abbrev pub past_n : Sweep → Sweep
past_n s = record { cell = s.cell + 1; used = s.used; free = s.free; splits = s.splits }

-- the cell was split, and so many entries are in use now
abbrev pub split_n : Sweep → ℕ → Sweep
split_n s free = record { cell = s.cell + 1; used = s.used + 4; free = free; splits = s.splits + 1 }

-- a split that is refused ends the sweep: full where it is refused for room
abbrev pub stop_if : (room : Bool) → Result (Option Sweep) Refusal
stop_if room = cond room (Ok None) (Err Broken)

-- by the answer of the split, with the head afterwards
abbrev pub by_answer : Result ℕ Refusal → Sweep → (head : List ℕ) → Result (Option Sweep) Refusal
by_answer (Ok n) s head = Ok (Some (split_n s (entries_used head)))
by_answer (Err r) s head = stop_if (eqb (number_of r) 11)

-- by what is met at the cell
abbrev pub turn_by : Tried → Tree → Sweep → Result (Option Sweep) Refusal
turn_by Bad t s = Err Broken
turn_by Past t s = Ok (Some (past_n s))
turn_by Wanted t s = by_answer (split_answer t s.cell) s (split_tree t s.cell).head

abbrev pub tree_by : Tried → Tree → ℕ → Tree
tree_by Bad t i = t
tree_by Past t i = t
tree_by Wanted t i = split_tree t i
