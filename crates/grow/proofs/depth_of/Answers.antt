use native.Mathlib.Omega.{arith}
use Rattle.celltable.proofs.Powers.{level_most}
use Rattle.grow.proofs.Depths.{zeros_level}
use Rattle.grow.proofs.depth_of.Goals as goal

pub overflow_sub-result : goal.overflow_sub-result
overflow_sub-result c = omega (arith, zeros_level c.args.side c.requires, level_most 16 c.args.side)

pub returns : goal.returns
returns c = record { answer = rw (zeros_level c.args.side c.requires) }
