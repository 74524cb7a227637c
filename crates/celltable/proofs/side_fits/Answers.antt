use borrow.Author.Tests.{eq-eqb}
use Rattle.celltable.proofs.Powers.{divides_side, zero_side}
use Rattle.celltable.proofs.side_fits.Goals as goal

pub returns-then-s-ne0 : goal.returns-then-s-ne0
returns-then-s-ne0 c = record { answer = divides_side _ c.if-s-ne0.true }

pub returns-else-s-ne0 : goal.returns-else-s-ne0
returns-else-s-ne0 c = record { answer = rw (eq-eqb _ _ c.if-s-ne0.false) (zero_side _ c.if-s-ne0.false) }
