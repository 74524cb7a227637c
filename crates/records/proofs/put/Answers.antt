use mathlib.Core.Path.{ap, ◌∙◌}
use native.Mathlib.Omega.{arith}
use lib.ListN.{set}
use Rattle.records.proofs.Laws.{copied_more, copied_all}
use Rattle.records.proofs.put.Goals as goal

pub loop-k-preserved : goal.loop-k-preserved
loop-k-preserved g c =
    ap (set c.loop-k.out _) c.index-values-k.is
    ∙ copied_more c.args.out.now c.args.values.now c.args.at (omega arith) _ _ _ (omega arith) c.loop-k.invariant

pub returns : goal.returns
returns g c = record { out = copied_all c.args.out.now c.args.values.now c.args.at (omega arith) _ c.loop-k.k (omega arith) (omega arith) c.loop-k.invariant }
