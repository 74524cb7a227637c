use mathlib.Core.Path.{ap, ◌∙◌}
use Rattle.answers.specs.Readings.{log_number}
use Rattle.zones.proofs.readings.zones_zone_log.Goals as goal

pub returns : goal.returns
returns c =
    record { answer = c.pack_log.ensures.answer ∙ ap log_number c.zone_log-a.ensures.answer; out = rw (← c.zone_log-a.ensures.answer) c.zone_log-a.ensures.out }
