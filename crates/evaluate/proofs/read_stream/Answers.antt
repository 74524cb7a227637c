-- `evaluate::read_stream` meets its contract: the entries that are left give, from where the machine stands, the set of the whole.
use Prim.Native.Nat.{◌+◌}
use native.Mathlib.Omega.{arith}
use Rattle.stream.specs.Grammar.{env_of}
use Rattle.evaluate.proofs.Steps.{stopped_set, last_set}
use Rattle.evaluate.proofs.Loop.{passed_ranged, begin}
use Rattle.evaluate.proofs.read_stream.Goals as goal

pub loop-i-init : goal.loop-i-init
loop-i-init c =
    let v = c.args.s.context in
    let s = c.args.s.stream in
    rw c.begun-m.ensures.answer
    (record {
      above = omega arith;
      below = omega arith;
      deep = omega arith;
      same = begin v.areas.now v.xs.now v.ys.now c.args.at.x c.args.at.y s.entries.now s.first s.count;
    })

pub returns-then-m-eq-STOPPED : goal.returns-then-m-eq-STOPPED
returns-then-m-eq-STOPPED c =
    let v = c.args.s.context in
    record {
      answer = stopped_set v.areas.now v.xs.now v.ys.now c.args.at.x c.args.at.y c.loop-i.m _ c.if-m-eq-STOPPED.true c.loop-i.invariant.same;
    }

pub read_next-r-requires-clause-ranged : goal.read_next-r-requires-clause-ranged
read_next-r-requires-clause-ranged c =
    let s = c.args.s.stream in
    passed_ranged s.entries.now s.first s.count c.loop-i.i (env_of c.args.s.context) c.args.s.passed c.loop-i.invariant.above c.loop-i-test.true

pub returns : goal.returns
returns c =
    let v = c.args.s.context in
    let s = c.args.s.stream in
    record {
      answer = last_set v.areas.now v.xs.now v.ys.now c.args.at.x c.args.at.y c.loop-i.m s.entries.now c.loop-i.i (s.first + s.count)
          c.loop-i-test.false c.loop-i.invariant.same;
    }
