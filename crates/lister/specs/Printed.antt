-- Document 01, "Spots to try": what the leaf lister works out before it prints, in the tables t that it lends; u are those of a tree that is opened.
use Rattle.std.specs.Prelude.{true, false, List, ℕ, length, Result, Ok, Err}
use Rattle.refusals.specs.declared.Refusal.{Refusal}
use Rattle.tables.specs.Tables.{Tree}
use Rattle.open.specs.Open.{open_answer, open_tree}
use Rattle.grow.specs.declared.Growth.{Growth}
use Rattle.grow.specs.declared.Growth.TheVariants as Growths
use Rattle.grow.specs.Grow.{grow_answer, grow_tree}
use Rattle.listing.specs.declared.Line.{Line}
use Rattle.listing.specs.Listed.{listed}
use Rattle.listing.specs.Numbers.{lines_in, written}
use Rattle.lister.specs.declared.Listed.{Listed}

-- so many lines, with `full` after them or without, or a refusal
abbrev pub Outcome : Type 0
Outcome = Result Listed Refusal

-- "grows with threshold 0 and depth limit 4"
abbrev pub grows : Tree → Result Growth Refusal
grows u = grow_answer u 0 4

abbrev pub grown_tree : Tree → Tree
grown_tree u = grow_tree u 0 4

-- of n lines; "if growing ends on "full", a last line `full` follows"
abbrev pub outcome_of : Result Growth Refusal → (n : ℕ) → Outcome
outcome_of (Ok (Growths.Done k)) n = Ok (record { lines = n; full = false })
outcome_of (Ok (Growths.Full k)) n = Ok (record { lines = n; full = true })
outcome_of (Err r) n = Err r

abbrev pub lines_of : Outcome → ℕ
lines_of (Ok o) = o.lines
lines_of (Err r) = 0

abbrev pub outcome_grown : Tree → Outcome
outcome_grown u = outcome_of (grows u) (length (listed (grown_tree u)))

-- the lines, in their table
abbrev pub rows_grown : Tree → (rows : List ℕ) → List ℕ
rows_grown u rows = written rows 0 (listed (grown_tree u))

-- after the opening: "A refused drawing prints only `refused N at P`."
abbrev pub outcome_opened : Tree → Result ℕ Refusal → Outcome
outcome_opened t (Ok n) = outcome_grown (open_tree t)
outcome_opened t (Err r) = Err r

abbrev pub rows_opened : Tree → Result ℕ Refusal → (rows : List ℕ) → List ℕ
rows_opened t (Ok n) rows = rows_grown (open_tree t) rows
rows_opened t (Err r) rows = rows

abbrev pub outcome : Tree → Outcome
outcome t = outcome_opened t (open_answer t)

abbrev pub rows_after : Tree → (rows : List ℕ) → List ℕ
rows_after t rows = rows_opened t (open_answer t) rows

-- the lines that are printed: as many of the table as the outcome says
abbrev pub printed : Tree → (rows : List ℕ) → List Line
printed t rows = lines_in (rows_after t rows) 0 (lines_of (outcome t))
