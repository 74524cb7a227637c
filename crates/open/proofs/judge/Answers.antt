use mathlib.Core.Path.{sym, subst, ◌∙◌}
use Prim.Native.Nat.{ℕ}
use Rattle.std.specs.Prelude.{Result}
use Rattle.refusals.specs.declared.Refusal.{Refusal}
use Rattle.tables.specs.Tables.{Tree, tree}
use Rattle.open.specs.code.Judged.{Plans}
use Rattle.open.proofs.Judged.{judged_err, judged_ok}
use Rattle.open.proofs.judge.Goals as goal

pub judge_room-requires : goal.judge_room-requires
judge_room-requires c = sym c.check.ensures.answer ∙ c.in-Ok.is

pub returns-in-Ok : goal.returns-in-Ok
returns-in-Ok c =
    let a = c.args.tree in
    let t : Tree = tree a.drawing.plan.now a.drawing.areas.now a.drawing.xs.now a.drawing.ys.now a.head.now a.cells.now a.entries.now in
    record {
      answer = subst (λ (r : Result ℕ Refusal). Plans t r c.judge_room.result) (sym (judged_ok t _ (sym c.check.ensures.answer ∙ c.in-Ok.is)))
          c.judge_room.ensures.answer;
    }

pub returns-in-Err : goal.returns-in-Err
returns-in-Err c =
    let a = c.args.tree in
    let t : Tree = tree a.drawing.plan.now a.drawing.areas.now a.drawing.xs.now a.drawing.ys.now a.head.now a.cells.now a.entries.now in
    record { answer = judged_err t _ (sym c.check.ensures.answer ∙ c.in-Err.is) }
