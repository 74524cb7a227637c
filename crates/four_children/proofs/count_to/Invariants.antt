use Rattle.celltable.specs.Ranges.{cell_of}
use Rattle.stream.specs.Table.{words_in}
use Rattle.ranges.specs.Held.{lent_of}
use Rattle.four_children.proofs.Worked.{Working}
use Rattle.four_children.proofs.count_to.Given as goal

abbrev pub invariant-loop-q : goal.invariant-loop-q
invariant-loop-q l = Working (lent_of l.passed.context) (cell_of l.w.words) (words_in l.passed.stream) l.n l.q l.ts
