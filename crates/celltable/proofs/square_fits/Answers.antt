use mathlib.Core.Path.{sym, ◌∙◌}
use Rattle.celltable.proofs.Ranges.{side_some}
use Rattle.celltable.proofs.square_fits.Goals as goal

pub nonzero_rem-result : goal.nonzero_rem-result
nonzero_rem-result c = side_some _ (sym c.side_fits.ensures.answer ∙ c.if-side_fits.true)

pub nonzero_rem-result-then-side_fits : goal.nonzero_rem-result-then-side_fits
nonzero_rem-result-then-side_fits c = side_some _ (sym c.side_fits.ensures.answer ∙ c.if-side_fits.true)
