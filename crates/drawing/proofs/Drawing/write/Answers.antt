use mathlib.Core.Path.{◌≡◌}
use borrow.Author.Rules.{rules}
use borrow.Author.Tests.{le-leb, lt-leb}
use Rattle.std.specs.Prelude.{Ok, Err}
use Rattle.std.proofs.lemmas.Grind.{common_steps}
use native.Mathlib.Omega.{arith}
use Rattle.drawing.specs.Tables.{tables_of, drawing_verdict, write_answer}
use Rattle.drawing.proofs.Rows.{ready, drawn, drawn_good, drawn_left}
use Rattle.drawing.proofs.Drawing.write.Goals as goal

pub returns-in_err-used-clause-answer : goal.returns-in_err-used-clause-answer
unfolding write_answer
returns-in_err-used-clause-answer c = let v : c.from_residual.result ≡ Err c.in_err-used.field-0.0 = search rules in grind (arith, common_steps, v)

pub returns-then-used-out-clause-answer : goal.returns-then-used-out-clause-answer
unfolding write_answer
returns-then-used-out-clause-answer c =
    let v : drawing_verdict (tables_of c.args.self) ≡ Ok c.in_ok-used.used = grind (arith, common_steps) in rw (v, lt-leb _ _ c.if-used-out.true)

pub invariant_of-held : goal.invariant_of-held
invariant_of-held c =
    let v : drawing_verdict (tables_of c.args.self) ≡ Ok c.in_ok-used.used = grind (arith, common_steps) in
    record { ready = ready (tables_of c.args.self) _ (drawn _ _ v) }

pub write_all-requires-clause-records_value : goal.write_all-requires-clause-records_value
write_all-requires-clause-records_value c =
    let v : drawing_verdict (tables_of c.args.self) ≡ Ok c.in_ok-used.used = grind (arith, common_steps) in drawn_good _ _ (drawn _ _ v)

pub returns-clause-answer : goal.returns-clause-answer
unfolding write_answer
returns-clause-answer c =
    let v : drawing_verdict (tables_of c.args.self) ≡ Ok c.in_ok-used.used = grind (arith, common_steps) in rw (v, le-leb _ _ c.if-used-out.false)

pub returns-clause-out : goal.returns-clause-out
returns-clause-out c =
    let v : drawing_verdict (tables_of c.args.self) ≡ Ok c.in_ok-used.used = grind (arith, common_steps) in drawn_left _ _ v _ _ c.write_all.ensures.out
