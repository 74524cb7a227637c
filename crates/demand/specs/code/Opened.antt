-- The seven tables after an opening, by its answer.
use Rattle.std.specs.Prelude.{Result, ℕ}
use Rattle.refusals.specs.declared.Refusal.{Refusal}
use Rattle.tables.specs.Tables.{Tree, tree}
use Rattle.open.specs.Open.{head_opened, cells_opened, entries_opened}

-- by the answer; those before where the opening is refused
abbrev pub opened_by : Tree → Result ℕ Refusal → Tree
opened_by t r = tree t.plan t.areas t.xs t.ys (head_opened t r) (cells_opened t r) (entries_opened t r)
