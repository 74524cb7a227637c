use Rattle.celltable.specs.Ranges.{cell_of}
use Rattle.four_children.proofs.Placed.{Placed}
use Rattle.four_children.proofs.put_four.Given as goal

abbrev pub invariant-loop-n : goal.invariant-loop-n
invariant-loop-n l = Placed (cell_of l.w.words) l.ts l.initial.cells l.i l.in_use.cells l.in_use.entries l.n l.at l.cells
