use mathlib.Core.Path.{ap}
use Rattle.child_stream.specs.code.Numbers.{starts}
use Rattle.child_stream.proofs.Clear.{clear_end}
use Rattle.child_stream.proofs.ended.Goals as goal

pub returns : goal.returns
returns c =
    let a = c.args in
    record { answer = ap (starts a.count) (clear_end a.at c.well_formed.0.1.0.1 a.count c.loop-i.i c.loop-i.at c.loop-i.invariant c.loop-i-test.false) }
