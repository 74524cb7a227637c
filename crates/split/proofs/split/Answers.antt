use Rattle.std.proofs.lemmas.Result.{err_from_is_err_and}
use Rattle.tables.specs.Tables.{tree}
use Rattle.split.proofs.Accepted.{split_accepted}
use Rattle.split.proofs.Plans.{answer_planned, answer_refused}
use Rattle.split.proofs.split.Goals as goal

pub returns-in_err-plan-clause-answer : goal.returns-in_err-plan-clause-answer
returns-in_err-plan-clause-answer c =
    let p = err_from_is_err_and c.from_residual.result c.from_residual.ensures.1 in rw (p.1, p.2) (answer_refused _ _ _ c.in_err-plan.ensures.answer)

pub make_split-requires-clause-accepted : goal.make_split-requires-clause-accepted
make_split-requires-clause-accepted c =
    let a = c.args in
    let T = tree a.drawing.plan.now a.drawing.areas.now a.drawing.xs.now a.drawing.ys.now a.head.now a.cells.now a.entries.now in
    split_accepted T a.i _ (answer_planned _ _ _ c.in_ok-plan.ensures.answer).0
