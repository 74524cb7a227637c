use mathlib.Core.Path.{refl}
use native.Mathlib.Omega.{arith}
use Rattle.spots.proofs.Tables.{painted}
use Rattle.spots.proofs.colours.Goals as goal

pub write_shown-requires : goal.write_shown-requires
write_shown-requires g c = painted _ 1 1 tt refl (omega arith)

pub write_shown-requires-2 : goal.write_shown-requires-2
write_shown-requires-2 g c = painted _ 2 3 tt refl (omega arith)

pub write_shown-requires-3 : goal.write_shown-requires-3
write_shown-requires-3 g c = painted _ 2 3 tt refl (omega arith)

pub write_shown-requires-4 : goal.write_shown-requires-4
write_shown-requires-4 g c = painted _ 0 0 tt refl (omega arith)
