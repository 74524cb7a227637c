use mathlib.Core.Path.{◌≡◌}
use lib.Seq.{paste}
use Rattle.records.proofs.put.Given as goal

abbrev pub invariant-loop-k : goal.invariant-loop-k
invariant-loop-k g l = l.out ≡ paste l.fn.out l.at l.values l.k
