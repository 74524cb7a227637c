use mathlib.Core.Path.{◌≡◌, ap, ◌∙◌}
use Prim.Native.Nat.{◌/◌, ◌%◌}
use native.Mathlib.Omega.{arith}
use Rattle.geometry.specs.Keys.{spread}
use Rattle.geometry.proofs.Keys.{spread_bound, spread_halves}
use Rattle.geometry.proofs.morton.spread_half.Goals.{After-spread_byte-2}
use Rattle.geometry.proofs.morton.spread_half.Goals as goal

low : (c : After-spread_byte-2) → c.spread_byte.result ≡ spread 8 (c.args.x % 256)
low c = rw c.to_le_bytes.ensures at c.spread_byte.ensures.answer

high : (c : After-spread_byte-2) → c.spread_byte-2.result ≡ spread 8 (c.args.x / 256)
high c = rw c.to_le_bytes.ensures at c.spread_byte-2.ensures.answer ∙ ap (spread 8) (omega arith)

pub overflow_mul-result : goal.overflow_mul-result
overflow_mul-result c = omega (arith, high c, spread_bound 8 (c.args.x / 256))

pub overflow_add-result : goal.overflow_add-result
overflow_add-result c = let x = c.args.x in omega (arith, low c, high c, spread_bound 8 (x % 256), spread_bound 8 (x / 256))

pub returns : goal.returns
returns c = record { answer = omega (arith, low c, high c, spread_halves c.args.x) }
