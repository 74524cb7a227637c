use Rattle.paint.specs.Areas.{paint_at}
use Rattle.paint.proofs.Colours.{Mixing}
use Rattle.paint.proofs.colour.channel_sums.Given as goal

abbrev pub invariant-loop-k : goal.invariant-loop-k
invariant-loop-k l = Mixing (paint_at l.areas) l.shown l.rest l.first l.m

abbrev pub decreases-loop-k : goal.decreases-loop-k
decreases-loop-k l = l.rest
