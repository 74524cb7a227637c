use mathlib.Core.Path.{ap, ◌∙◌}
use Rattle.answers.specs.Answers.{split_number}
use Rattle.zones.proofs.zones_split.Goals as goal

pub returns : goal.returns
returns c = record {
  answer = c.pack_count.ensures.split ∙ ap split_number c.split-a.ensures.answer;
  head = rw (← c.split-a.ensures.answer) c.split-a.ensures.head;
  cells = rw (← c.split-a.ensures.answer) c.split-a.ensures.cells;
  entries = rw (← c.split-a.ensures.answer) c.split-a.ensures.entries;
}
