use Rattle.std.proofs.Common.{◌∙◌, arith}
use native.Mathlib.Numerals.{towards_suc}
use Rattle.records.proofs.Laws.{part_sets}
use Rattle.listing.proofs.put_line.Goals as goal

pub returns : goal.returns
returns c = record { rows = part_sets _ _ _ _ _ c.copy_from_slice.ensures.after (omega arith) (omega arith) ∙ simp towards_suc }
