use Rattle.tables.specs.Tables.{tree}
use Rattle.lister.proofs.Outcomes.{handed_grown, grown_outcome, grown_rows}
use Rattle.lister.proofs.list_grown.Goals as goal

pub returns : goal.returns
returns c =
    let a = c.args in
    let d = a.drawing in
    let u = tree d.plan.now d.areas.now d.xs.now d.ys.now a.head.now a.cells.now a.entries.now in
    let g = c.grow-grown.ensures in
    let l = c.list_leaves-lines.ensures in
    let same = handed_grown u _ _ _ g.head g.cells g.entries in
    record {
      answer = grown_outcome u _ same _ _ _ g.answer l.answer c.outcome_of.ensures.answer;
      rows = grown_rows u _ same _ _ l.rows;
      range = c.outcome_of.ensures.range;
    }
