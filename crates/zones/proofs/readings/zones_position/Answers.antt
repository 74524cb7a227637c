use Rattle.zones.proofs.readings.zones_position.Goals as goal

pub returns : goal.returns
returns c =
    record { answer = rw (← c.position-a.ensures.answer) (c.put_shown.ensures.answer); out = rw (← c.position-a.ensures.answer) c.put_shown.ensures.out }
