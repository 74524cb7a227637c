use mathlib.Core.Path.{ap, ◌∙◌}
use Rattle.tables.specs.Tables.{tree}
use Rattle.answers.specs.Readings.{row_number}
use Rattle.zones.proofs.Rows.{row_place_law}
use Rattle.zones.proofs.readings.zones_pixel_row.Goals as goal

pub pack_row-requires : goal.pack_row-requires
pack_row-requires c =
    let a = c.args in
    let t = tree a.plan.now a.areas.now a.xs.now a.ys.now a.head.now a.cells.now a.entries.now in
    rw c.pixel_row-a.ensures.answer (row_place_law t a.row a.first a.out.now)

pub returns : goal.returns
returns c = record { answer = c.pack_row.ensures.answer ∙ ap row_number c.pixel_row-a.ensures.answer; out = c.pixel_row-a.ensures.out }
