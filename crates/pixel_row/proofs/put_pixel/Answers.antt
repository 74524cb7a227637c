use lib.ListN.{length-set}
use native.Mathlib.Omega.{arith}
use Rattle.pixel_row.proofs.put_pixel.Goals as goal

pub bounds-out-at-2 : goal.bounds-out-at-2
bounds-out-at-2 c = simp length-set (omega arith)

pub bounds-out-at-3 : goal.bounds-out-at-3
bounds-out-at-3 c = simp length-set (omega arith)
