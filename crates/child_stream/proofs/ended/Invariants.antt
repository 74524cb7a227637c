use Rattle.child_stream.proofs.Clear.{Cleared}
use Rattle.child_stream.proofs.ended.Given as goal

abbrev pub invariant-loop-i : goal.invariant-loop-i
invariant-loop-i l = Cleared l.initial.at l.count l.i l.at
