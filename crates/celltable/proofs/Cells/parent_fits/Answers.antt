use borrow.Author.Tests.{le-ltb}
use Rattle.celltable.proofs.Ranges.{parent_first, parent_met, parent_past}
use Rattle.celltable.proofs.Cells.parent_fits.Goals as goal

pub returns-then-i-eq0 : goal.returns-then-i-eq0
returns-then-i-eq0 c = record { answer = search parent_first }

pub returns-then-up-self : goal.returns-then-up-self
returns-then-up-self c = record { answer = search parent_met }

pub returns-else-up-self : goal.returns-else-up-self
returns-else-up-self c = record { answer = rw (le-ltb _ _ c.if-up-self.false) (search parent_past) }
