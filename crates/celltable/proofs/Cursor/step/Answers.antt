use Rattle.celltable.proofs.Walk.{step_astray, step_unfit, step_landed, step_deeper}
use Rattle.celltable.proofs.Cursor.step.Goals as goal

pub returns-then-not-stands_on : goal.returns-then-not-stands_on
returns-then-not-stands_on c = record { answer = search step_astray }

pub returns-then-not-numbers_fit : goal.returns-then-not-numbers_fit
returns-then-not-numbers_fit c = record { answer = search step_unfit }

pub returns-then-w-ne0 : goal.returns-then-w-ne0
returns-then-w-ne0 c = record { answer = search step_deeper }

pub returns : goal.returns
returns c = record { answer = search step_landed }
