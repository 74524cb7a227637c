use mathlib.Core.Path.{ap, ◌∙◌}
use Rattle.answers.specs.Answers.{read_number}
use Rattle.zones.proofs.Low.{read_low_law}
use Rattle.zones.proofs.zones_read.Goals as goal

pub pack_read-requires : goal.pack_read-requires
pack_read-requires c = rw c.read-v.ensures.answer (read_low_law _ _ _ _ _)

pub returns : goal.returns
returns c = record {
  answer = c.pack_read.ensures.answer ∙ ap read_number c.read-v.ensures.answer;
  plan = rw (← c.read-v.ensures.answer) c.read-v.ensures.plan;
  areas = rw (← c.read-v.ensures.answer) c.read-v.ensures.areas;
  xs = rw (← c.read-v.ensures.answer) c.read-v.ensures.xs;
  ys = rw (← c.read-v.ensures.answer) c.read-v.ensures.ys;
}
