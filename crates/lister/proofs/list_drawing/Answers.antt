use Rattle.std.proofs.Common.{◌≡◌, ◌∙◌, Err, rules}
use native.Mathlib.Omega.{arith}
use Rattle.tables.specs.Tables.{tree}
use Rattle.lister.proofs.Outcomes.{handed_opened, opened_outcome, opened_rows, refused_outcome, refused_rows}
use Rattle.lister.proofs.Leaves.{prints_each_leaf}
use Rattle.lister.proofs.list_drawing.Goals as goal

pub returns : goal.returns
returns c =
    let a = c.args in
    let d = a.drawing in
    let t = tree d.plan.now d.areas.now d.xs.now d.ys.now a.head.now a.cells.now a.entries.now in
    let o = c.open.ensures in
    let same = handed_opened t _ _ _ _ o.answer o.head o.cells o.entries in
    record {
      answer = opened_outcome t _ o.answer _ _ _ c.in_ok-open.was same c.list_grown.ensures.answer;
      rows = opened_rows t _ o.answer _ _ _ _ c.in_ok-open.was same c.list_grown.ensures.rows;
      range = c.list_grown.ensures.range;
      leaves = prints_each_leaf;
    }

pub returns-in_err-open : goal.returns-in_err-open
returns-in_err-open c =
    let a = c.args in
    let d = a.drawing in
    let t = tree d.plan.now d.areas.now d.xs.now d.ys.now a.head.now a.cells.now a.entries.now in
    let w = c.open.ensures.answer in
    let same : c.from_residual.result ≡ Err c.in_err-open.field-0.0 = search rules in
    record {
      answer = same ∙ refused_outcome t _ w _ c.in_err-open.was;
      rows = refused_rows t _ w _ _ c.in_err-open.was;
      range = rw same (omega arith);
      leaves = prints_each_leaf;
    }
