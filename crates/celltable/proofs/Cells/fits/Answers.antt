use Rattle.celltable.specs.Ranges.{cell_range}
use Rattle.celltable.proofs.Cells.fits.Goals as goal

pub returns : goal.returns
unfolding cell_range
returns c =
    record {
      answer = rw (
        c.parent_fits.ensures.answer,
        c.root_fits.ensures.answer,
        c.entries_fit.ensures.answer,
        c.children_fit.ensures.answer,
        c.square_fits.ensures.answer,
        c.cell-w.ensures.answer,
      );
    }
