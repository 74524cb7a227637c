-- `paint::pixel::row_offset` meets its contract: each offset is below 16, by one test over the table.
use mathlib.Core.Path.{refl}
use native.Mathlib.Omega.{arith}
use lib.Dec.{ltb, ltb→lt}
use Rattle.laws.proofs.Tables.{entry_at}
use Rattle.paint.specs.Pixels.{row_offset, row_offsets}
use Rattle.paint.proofs.pixel.row_offset.Goals as goal

pub returns : goal.returns
returns c = record { answer = refl; range = ltb→lt (row_offset c.args.i) 16 (entry_at (λ k v. ltb v 16) row_offsets tt c.args.i (omega arith)) }
