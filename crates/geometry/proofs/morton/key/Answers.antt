use native.Mathlib.Omega.{arith}
use Rattle.geometry.specs.Keys.{key_of}
use Rattle.geometry.proofs.Keys.{spread_bound}
use Rattle.geometry.proofs.morton.key.Goals as goal

pub overflow_mul-result : goal.overflow_mul-result
overflow_mul-result c = omega (arith, c.spread_half-2.ensures.answer, spread_bound 16 c.args.y)

pub overflow_add-result : goal.overflow_add-result
overflow_add-result c =
    let a = c.args in
    omega (arith, c.spread_half.ensures.answer, c.spread_half-2.ensures.answer, spread_bound 16 a.x, spread_bound 16 a.y)

pub returns : goal.returns
unfolding key_of
returns c = record { answer = omega (arith, c.spread_half.ensures.answer, c.spread_half-2.ensures.answer) }
