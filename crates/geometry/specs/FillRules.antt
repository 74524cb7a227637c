-- Document 01, "Winding and meaning": the fill rules.
use Rattle.std.specs.Prelude.{Bool, not, ◌%◌, eqb, ℤ, nat_abs}
use Rattle.geometry.specs.declared.fill.FillRule.{FillRule}
use Rattle.geometry.specs.declared.fill.FillRule.TheVariants.{NonZero, EvenOdd}

-- odd, by the magnitude: below zero too
abbrev pub odd : ℤ → Bool
odd z = eqb (nat_abs z % 2) 1

-- "The area passes if its sum is not 0 (rule 0) or odd (rule 1)."
abbrev pub passes : FillRule → ℤ → Bool
passes NonZero w = not (eqb (nat_abs w) 0)
passes EvenOdd w = odd w
