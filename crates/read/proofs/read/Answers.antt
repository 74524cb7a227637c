use Rattle.read.specs.Reading.{read_answer}
use native.Mathlib.Omega.{arith}
use borrow.Author.Tests.{eq-eqb, ne_eqb}
use mathlib.Core.Path.{◌≡◌, sym, ◌∙◌}
use borrow.Author.Rules.{rules}
use Rattle.std.specs.Prelude.{Err}
use Rattle.read.proofs.Files.{filed, held}
use Rattle.read.proofs.read.Goals as goal

pub returns-then-xs-ys-clause-answer : goal.returns-then-xs-ys-clause-answer
unfolding read_answer
returns-then-xs-ys-clause-answer c = rw (c.into.ensures, ne_eqb _ _ c.if-xs-ys.true)

pub returns-in_err-counts-clause-answer : goal.returns-in_err-counts-clause-answer
unfolding read_answer
returns-in_err-counts-clause-answer c =
    let q : c.from_residual.result ≡ Err c.in_err-counts.field-0.0 = search rules in
    rw (q, eq-eqb _ _ c.if-xs-ys.false, ← c.check_records.ensures.answer, c.in_err-counts.was)

pub returns-then-not-tables_hold-clause-answer : goal.returns-then-not-tables_hold-clause-answer
unfolding read_answer
returns-then-not-tables_hold-clause-answer c =
    rw (
      eq-eqb _ _ c.if-xs-ys.false,
      ← c.check_records.ensures.answer,
      c.in_ok-counts.was,
      sym c.tables_hold.ensures.answer ∙ c.if-not-tables_hold.true,
      c.into-then-not-tables_hold.ensures,
    )

pub fill-requires : goal.fill-requires
fill-requires c =
    record {
      filed = filed _ _ (sym c.check_records.ensures.answer ∙ c.in_ok-counts.was);
      records_in_bounds = let h = held _ _ _ _ (sym c.tables_hold.ensures.answer ∙ c.if-not-tables_hold.false) in
          (h.plan, h.areas, h.corners, omega arith);
    }

pub returns-clause-answer : goal.returns-clause-answer
unfolding read_answer
returns-clause-answer c =
    rw (
      eq-eqb _ _ c.if-xs-ys.false,
      ← c.check_records.ensures.answer,
      c.in_ok-counts.was,
      sym c.tables_hold.ensures.answer ∙ c.if-not-tables_hold.false,
    )
