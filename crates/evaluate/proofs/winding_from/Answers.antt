-- `evaluate::winding_from` meets its contract: the running sum and the lines, curves and shortcuts that are left make the winding.
use mathlib.Core.Path.{sym, ap, subst, ◌∙◌}
use Prim.Native.Nat.{◌+◌, ◌-◌, ◌≤◌, ◌<◌}
use native.Mathlib.Omega.{arith}
use lib.IntN.{◌+ℤ◌, nat_abs}
use Rattle.laws.proofs.Signed.{running_more, running_done}
use Rattle.stream.specs.Table.{words_from}
use Rattle.evaluate.specs.code.Numbers.{segment_adds, segments_sum}
use Rattle.stream.proofs.Runs.{count_more, count_stop, count_last}
use Rattle.evaluate.proofs.Laws.{small_back}
use Rattle.evaluate.proofs.Loop.{sum_more, sum_stop, sum_last}
use Rattle.evaluate.proofs.winding_from.Goals as goal

pub loop-i-preserved : goal.loop-i-preserved
loop-i-preserved c =
    let a = c.args in
    let v = a.context in
    let t = a.stream.entries.now in
    let e = a.stream.first + a.stream.count in
    let i = c.loop-i.i in
    let w = c.read_entry-w in
    let lt : i < e = omega arith in
    let s = sym c.is_segment.ensures.answer ∙ c.if-not-is_segment.false in
    let z = c.segment_adds-sum.ensures.answer in
    record {
      above = omega arith;
      sum = running_more c.loop-i.invariant.sum (segment_adds v.xs.now v.ys.now a.at.x a.at.y w.result) _ _ (2048 + (i + 1 - a.from)) 1
          (sum_more t v.xs.now v.ys.now a.at.x a.at.y i e w.result w.ensures.answer lt s)
          z.0 (subst (λ z. nat_abs z ≤ 1) z.0 z.1) (omega arith) (omega (arith, c.requires.segments_in.few));
      next = omega (arith, count_more t i e w.result w.ensures.answer lt s);
    }

pub returns-then-not-is_segment-clause-sum : goal.returns-then-not-is_segment-clause-sum
returns-then-not-is_segment-clause-sum c =
    let a = c.args in
    let v = a.context in
    let t = a.stream.entries.now in
    let e = a.stream.first + a.stream.count in
    let w = c.read_entry-w in
    let lt : c.loop-i.i < e = omega arith in
    running_done
    (sum_stop t v.xs.now v.ys.now a.at.x a.at.y c.loop-i.i e w.result w.ensures.answer lt (sym c.is_segment.ensures.answer ∙ c.if-not-is_segment.true))
    c.loop-i.invariant.sum
    ∙ ap (λ z. z +ℤ segments_sum v.xs.now v.ys.now a.at.x a.at.y (words_from t a.from (e - a.from)))
    (small_back a.start (omega (arith, c.requires.start_bound)))

pub returns-then-not-is_segment-clause-next : goal.returns-then-not-is_segment-clause-next
returns-then-not-is_segment-clause-next c =
    let t = c.args.stream.entries.now in
    let e = c.args.stream.first + c.args.stream.count in
    let w = c.read_entry-w in
    let lt : c.loop-i.i < e = omega arith in
    omega (arith, count_stop t c.loop-i.i e w.result w.ensures.answer lt (sym c.is_segment.ensures.answer ∙ c.if-not-is_segment.true))

pub returns-clause-sum : goal.returns-clause-sum
returns-clause-sum c =
    let a = c.args in
    let v = a.context in
    let t = a.stream.entries.now in
    let e = a.stream.first + a.stream.count in
    running_done (sum_last t v.xs.now v.ys.now a.at.x a.at.y c.loop-i.i e (omega arith)) c.loop-i.invariant.sum
    ∙ ap (λ z. z +ℤ segments_sum v.xs.now v.ys.now a.at.x a.at.y (words_from t a.from (e - a.from)))
    (small_back a.start (omega (arith, c.requires.start_bound)))

pub returns-clause-next : goal.returns-clause-next
returns-clause-next c =
    let t = c.args.stream.entries.now in
    let e = c.args.stream.first + c.args.stream.count in
    let le : e ≤ c.loop-i.i = omega arith in
    omega (arith, count_last t c.loop-i.i e le)
