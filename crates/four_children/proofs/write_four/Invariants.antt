use Rattle.celltable.specs.Ranges.{cell_of}
use Rattle.ranges.specs.Held.{lent_of}
use Rattle.four_children.proofs.Filled.{Filled}
use Rattle.four_children.proofs.write_four.Given as goal

abbrev pub invariant-loop-q : goal.invariant-loop-q
invariant-loop-q l = Filled (lent_of l.context) (cell_of l.w.words) l.initial.entries l.first l.count l.free l.q l.at l.entries
