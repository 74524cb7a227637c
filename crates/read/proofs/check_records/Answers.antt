use Rattle.read.specs.Reading.{verdict_of}
use Rattle.grammar.proofs.Meaning.{checked_is}
use Rattle.read.proofs.Files.{length_from}
use mathlib.Core.Path.{◌≡◌, sym, ap, ◌∙◌}
use borrow.Author.Rules.{rules}
use Rattle.std.specs.Prelude.{Err, ◌/◌, length}
use Rattle.grammar.specs.code.Machine.{Scan, ended_n}
use borrow.Author.Tests.{le-leb, lt-leb, eq-eqb, ne_eqb}
use Rattle.read.proofs.check_records.Goals as goal
use Rattle.read.proofs.check_records.Goals.{then-records-ne0-via-then-records-ne0, then-records-ne0-via-else-records-ne0+then-n-gt-MOST_RECORDS}

pub returns-then-records-ne0 : goal.returns-then-records-ne0
unfolding verdict_of
returns-then-records-ne0 c =
    record {
      answer = elim c.then-records-ne0.branch [
        | then-records-ne0-via-then-records-ne0 w ↦ rw (c.into.ensures, ne_eqb _ _ w.if-records-ne0.true)
        | then-records-ne0-via-else-records-ne0+then-n-gt-MOST_RECORDS w ↦ rw (
          c.into.ensures,
          eq-eqb _ _ w.if-records-ne0.false,
          lt-leb _ _
              w.if-n-gt-MOST_RECORDS.true,
        )
      ];
    }

pub returns-in_err-scan_records : goal.returns-in_err-scan_records
unfolding verdict_of
returns-in_err-scan_records c =
    let same : c.from_residual.result ≡ Err c.in_err-scan_records.field-0.0 = search rules in
    let scan = sym c.in_err-scan_records.was ∙ c.scan_records.ensures.answer in
    record {
      answer = rw (same, eq-eqb _ _ c.if-records-ne0.false, le-leb _ _ c.if-n-gt-MOST_RECORDS.false)
          (ap (λ (v : Scan). ended_n v (length c.args.records.now / 16)) scan ∙ checked_is _ _ (sym (length_from _ _ _)));
    }

pub returns : goal.returns
unfolding verdict_of
returns c =
    let scan = sym c.in_ok-scan_records.was ∙ c.scan_records.ensures.answer in
    record {
      answer = rw (eq-eqb _ _ c.if-records-ne0.false, le-leb _ _ c.if-n-gt-MOST_RECORDS.false, c.ended.ensures.answer)
          (ap (λ (v : Scan). ended_n v (length c.args.records.now / 16)) scan ∙ checked_is _ _ (sym (length_from _ _ _)));
    }
