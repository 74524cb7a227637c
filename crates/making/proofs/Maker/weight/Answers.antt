use mathlib.Core.Path.{sym, ap, ◌∙◌}
use Rattle.pruning.specs.code.Counters.{length_of}
use Rattle.pruner.proofs.Near.{counted_weight}
use Rattle.making.proofs.Maker.weight.Goals as goal

pub returns : goal.returns
returns c = record { answer = sym (counted_weight c.settle.new.self.pruner) ∙ ap length_of c.settle.ensures.pruner }
