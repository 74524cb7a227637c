use mathlib.Core.Path.{◌≡◌, ap, ◌∙◌}
use mathlib.Core.Bool.{true}
use Rattle.celltable.specs.Ranges.{square_range, cell_range}
use Rattle.celltable.proofs.Ranges.{passes_range}
use Rattle.grow.proofs.Turned.{side_passes}
use Rattle.grow.proofs.try_cell.Goals as goal

pub wants-requires : goal.wants-requires
wants-requires c =
    let s = c.args.s in
    let h : cell_range c.args.cells.now s.cell s.used s.free ≡ true = cc in
    side_passes c.cell-w.result (ap square_range c.cell-w.ensures.answer ∙ passes_range c.args.cells.now s.cell s.used s.free h)
