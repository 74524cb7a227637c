use borrow.Author.Tests.{le-leb, lt-leb}
use Rattle.celltable.specs.Ranges.{head_range}
use Rattle.celltable.proofs.head_fits.Goals as goal

pub returns-then-head-lt-HEAD_WORDS : goal.returns-then-head-lt-HEAD_WORDS
unfolding head_range
returns-then-head-lt-HEAD_WORDS c = record { answer = rw (lt-leb _ _ c.if-head-lt-HEAD_WORDS.true) }

pub returns : goal.returns
unfolding head_range
returns c = record { answer = rw (le-leb _ _ c.if-head-lt-HEAD_WORDS.false) }
