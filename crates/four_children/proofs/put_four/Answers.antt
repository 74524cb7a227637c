use native.Mathlib.Omega.{arith}
use Rattle.celltable.specs.Ranges.{cell_of}
use Rattle.four_children.proofs.Placed.{placed_begin, placed_turn}
use Rattle.four_children.proofs.put_four.Goals as goal

pub loop-n-init : goal.loop-n-init
loop-n-init c =
    let a = c.args in
    placed_begin (cell_of a.w.words) a.ts a.cells.now a.i a.in_use.cells a.in_use.entries c.requires.few_each

pub loop-n-preserved : goal.loop-n-preserved
loop-n-preserved c =
    let a = c.args in
    placed_turn (cell_of a.w.words) a.ts a.cells.now a.i a.in_use.cells a.in_use.entries c.requires.few_each c.loop-n.n c.loop-n.at
    c.loop-n.cells c.loop-n.invariant (omega (arith, c.loop-n-test.true)) c.child_words-c.result _
    c.child_words-c.ensures.answer c.put_cell.ensures.cells
