use native.Mathlib.Omega.{arith}
use Rattle.std.proofs.Common.{Some, None}
use Rattle.zone_log.proofs.Runs.{outside_law}
use Rattle.zone_log.proofs.first_outside.Goals as goal

pub returns-in_default : goal.returns-in_default
returns-in_default c = record {
  answer = outside_law c.args.px.now c.args.py.now (Some c.loop-i.i) (c.loop-i-test.true, c.in_default.ensures, c.loop-i.invariant);
}

pub returns : goal.returns
returns c = record { answer = outside_law c.args.px.now c.args.py.now None (λ k h. c.loop-i.invariant k (omega (arith, h, c.loop-i-test.false))) }
