use mathlib.Core.Path.{◌≡◌, ap, ◌∙◌}
use mathlib.Core.Bool.{true}
use Rattle.celltable.specs.Ranges.{square_range, cell_range}
use Rattle.celltable.proofs.Ranges.{passes_range}
use Rattle.split.proofs.judge_cell.Goals as goal

pub judge_leaf-requires : goal.judge_leaf-requires
judge_leaf-requires c =
    let a = c.args in
    let h : cell_range a.tree.cells.now a.i a.in_use.cells a.in_use.entries ≡ true = cc in
    ap square_range c.cell-w.ensures.answer ∙ passes_range a.tree.cells.now a.i a.in_use.cells a.in_use.entries h
