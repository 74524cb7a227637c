use mathlib.Core.Path.{◌≡◌, ap}
use mathlib.Core.Bool.{not}
use native.Mathlib.Omega.{arith}
use mir.Syntax.{w64}
use mir.Val.{to_z, of_z}
use mir.ValLaws.{to_z-of_z}
use Rattle.geometry.proofs.FillRules.{zero_test, rem_test, half_fits}
use Rattle.geometry.proofs.fill.fill_passes.Goals.{Start}
use Rattle.geometry.proofs.fill.fill_passes.Goals as goal

back : (c : Start) → to_z w64 (of_z w64 c.args.winding) ≡ c.args.winding
back c = to_z-of_z w64 c.args.winding c.ranges.winding

-- src/lib.rt:15:26
pub nonzero_rem-result : goal.nonzero_rem-result
nonzero_rem-result c = (omega arith, record { sfits = rw (back c.before) (half_fits c.args.winding c.ranges.winding.sfits) })

-- src/lib.rt:10:1
pub returns-in-NonZero : goal.returns-in-NonZero
returns-in-NonZero c = let w = c.args.winding in record { answer = rw c.in-NonZero.is (ap not (zero_test w c.ranges.winding.sfits)) }

-- src/lib.rt:10:1
pub returns-in-EvenOdd : goal.returns-in-EvenOdd
returns-in-EvenOdd c = record { answer = rw (back c.before, c.in-EvenOdd.is) (rem_test c.args.winding) }
