use Rattle.stream.specs.Grammar.{env_of}
use Rattle.ranges.specs.Held.{lent_of}
use Rattle.making.specs.code.Numbers.{cell_in}
use Rattle.child_stream.proofs.Fill.{Filling}
use Rattle.child_stream.proofs.write_child.Given as goal

abbrev pub invariant-loop-i : goal.invariant-loop-i
invariant-loop-i l =
    Filling (env_of l.context) (lent_of l.context) (cell_in l.s) l.fn.entries l.first l.count l.made l.i l.m l.out
