use mathlib.Core.Path.{ap, ◌∙◌}
use Rattle.answers.specs.Answers.{open_number}
use Rattle.zones.proofs.zones_open.Goals as goal

pub returns : goal.returns
returns c = record {
  answer = c.pack_count.ensures.opened ∙ ap open_number c.open-a.ensures.answer;
  head = rw (← c.open-a.ensures.answer) c.open-a.ensures.head;
  cells = rw (← c.open-a.ensures.answer) c.open-a.ensures.cells;
  entries = rw (← c.open-a.ensures.answer) c.open-a.ensures.entries;
}
