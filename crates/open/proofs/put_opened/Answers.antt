use mathlib.Core.Path.{◌∙◌}
use Rattle.drawing.specs.Tables.{tables_of}
use Rattle.tables.specs.Tables.{tree}
use Rattle.open.proofs.Rooms.{opened_with, elements_words}
use Rattle.open.proofs.Accepted.{open_accepts}
use Rattle.open.proofs.put_opened.Goals as goal

pub write_open-requires : goal.write_open-requires
write_open-requires c =
    let a = c.args in
    let D = tables_of a.drawing in
    let T = tree D.plan D.areas D.xs D.ys a.head.now a.cells.now a.entries.now in
    let r = open_accepts T a.plan.entries c.requires.0 in
    record {
      opened = opened_with D a.plan.counts c.requires.1 c.root_bounds-bounds.result c.root_bounds-bounds.ensures.answer;
      made_value = r.entries ∙ elements_words D;
      made_in_bounds = r.entries_room;
    }
