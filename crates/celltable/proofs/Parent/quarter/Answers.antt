use native.Mathlib.Omega.{arith}
use Rattle.celltable.proofs.Grid.{passes_east, passes_north}
use Rattle.celltable.proofs.Quarters.{quarter_is}
use Rattle.celltable.proofs.Parent.quarter.Goals as goal

pub half_of-requires : goal.half_of-requires
half_of-requires c = omega (arith, passes_east c.args.self.words c.args.self.on_grid)

pub half_of-requires-2 : goal.half_of-requires-2
half_of-requires-2 c = omega (arith, passes_north c.args.self.words c.args.self.on_grid)

pub returns : goal.returns
returns c =
    record {
      answer = rw (c.half_of-2.ensures.answer, c.half_of.ensures.answer)
          (quarter_is c.args.self.words c.args.q c.args.self.on_grid c.args.self.halves);
    }
