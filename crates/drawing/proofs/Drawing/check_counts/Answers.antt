use Rattle.drawing.proofs.Rows.{holds_ready}
use mathlib.Core.Path.{sym, ◌∙◌}
use Rattle.drawing.proofs.Drawing.check_counts.Goals as goal

pub invariant_of-held : goal.invariant_of-held
invariant_of-held c =
    record { ready = holds_ready _ _ _ _ _ c.if-used-gt-MOST_RECORDS.false (sym c.tables_hold.ensures.answer ∙ c.if-not-tables_hold.false) c.requires }
