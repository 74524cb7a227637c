use mathlib.Core.Path.{ap, ◌∙◌}
use Rattle.answers.specs.Answers.{write_number}
use Rattle.zones.proofs.Low.{write_low_law}
use Rattle.zones.proofs.zones_write.Goals as goal

pub pack_written-requires : goal.pack_written-requires
pack_written-requires c = rw c.write-w.ensures.answer (write_low_law _ _)

pub returns : goal.returns
returns c =
    record { answer = c.pack_written.ensures.answer ∙ ap write_number c.write-w.ensures.answer; out = rw (← c.write-w.ensures.answer) c.write-w.ensures.out }
