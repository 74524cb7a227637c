use Rattle.zones.proofs.zones_find_leaf.Goals as goal

pub returns : goal.returns
returns c =
    record { answer = rw (← c.find_leaf-a.ensures.answer) (c.put_found.ensures.answer); out = rw (← c.find_leaf-a.ensures.answer) c.put_found.ensures.out }
