use mathlib.Core.Path.{ap, ◌∙◌}
use Rattle.tables.specs.Tables.{tree}
use Rattle.answers.specs.Answers.{grow_number}
use Rattle.zones.proofs.Low.{grow_low}
use Rattle.zones.proofs.zones_grow.Goals as goal

pub pack_grow-requires : goal.pack_grow-requires
pack_grow-requires c =
    let a = c.args in
    let t = tree a.plan.now a.areas.now a.xs.now a.ys.now a.head.now a.cells.now a.entries.now in
    rw c.grow-a.ensures.answer (grow_low t a.threshold a.limit)

pub returns : goal.returns
returns c = record {
  answer = c.pack_grow.ensures.answer ∙ ap grow_number c.grow-a.ensures.answer;
  head = c.grow-a.ensures.head;
  cells = c.grow-a.ensures.cells;
  entries = c.grow-a.ensures.entries;
}
