-- What the code knows of a new tree before it writes it.
use Rattle.std.specs.Prelude.{◌≡◌, ℕ, Result, Ok, Err}
use Rattle.refusals.specs.declared.Refusal.{Refusal}
use Rattle.drawing.specs.Tables.{drawing_verdict}
use Rattle.stream.specs.Entry.{lines_in}
use Rattle.tables.specs.Tables.{Tree}
use Rattle.open.specs.declared.Planned.{Planned}
use Rattle.open.specs.Open.{drawing_tables, stream_opened}

-- a plan by an answer: the answer's entries, the counts of the drawing, and the lines of cell 0's stream; or the answer's refusal
abbrev pub Plans : Tree → (answer : Result ℕ Refusal) → Result Planned Refusal → Type 0
Plans t answer (Ok p) = (answer ≡ Ok p.entries) × (drawing_verdict (drawing_tables t) ≡ Ok p.counts) × (p.lines ≡ lines_in (stream_opened t))
Plans t answer (Err r) = answer ≡ Err r
