use Rattle.stream.specs.Grammar.{env_of}
use Rattle.ranges.specs.Held.{lent_of}
use Rattle.making.specs.code.Numbers.{cell_in}
use Rattle.child_stream.proofs.Noting.{Counting}
use Rattle.child_stream.proofs.count_child.Given as goal

abbrev pub invariant-loop-i : goal.invariant-loop-i
invariant-loop-i l =
    Counting (env_of l.context) (lent_of l.context) (cell_in l.s) l.parent.entries.now l.parent.first l.parent.count l.i l.m l.at
