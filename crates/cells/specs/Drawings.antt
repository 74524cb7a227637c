-- Document 01, "Winding and meaning": a drawing, the winding of each of its areas, and the shown areas, with no tree.
use Rattle.std.specs.Prelude.{Bool, cond, List, [], ℕ, eqb, get_or, ℤ}
use Rattle.geometry.specs.FillRules.{passes}
use Rattle.geometry.specs.Windings as Windings
use Rattle.geometry.specs.Windings.{Contour}
use Rattle.geometry.specs.declared.fill.FillRule.{FillRule}
use Rattle.geometry.specs.declared.fill.FillRule.TheVariants.{NonZero, EvenOdd}
use Rattle.records.specs.declared.Fields.{Fields}
use Rattle.pruning.specs.Sides.{Kind, paint, clip, Side}
use Rattle.pruning.specs.Meaning.{shown}
use Rattle.cells.specs.Cells.{Position, col, row}

-- its areas by number, its corners by number, the contours of each area, and its plan: the numbers of its areas on sides and in groups
pub record Drawing : Type 0 where
  pub fields : List Fields
  pub xs : List ℕ
  pub ys : List ℕ
  pub contours : List (List Contour)
  pub plan : Side ℕ

-- what a number that is no area's has
abbrev pub no_fields : Fields
no_fields = record { role = 0; rule = 0; alpha = 0; red = 0; green = 0; blue = 0; material = 0 }

-- "fill rule (0 non-zero, 1 even-odd)"
abbrev pub rule_of : ℕ → FillRule
rule_of n = cond (eqb n 0) NonZero EvenOdd

-- "role (0 paint, 1 clip)"
abbrev pub kind_of : ℕ → Kind
kind_of n = cond (eqb n 0) paint clip

module _ (D : Drawing) where
  abbrev pub fields_of : ℕ → Fields
  fields_of n = get_or D.fields n no_fields

  -- the winding of area n at a position
  abbrev pub winding : ℕ → Position → ℤ
  winding n p = Windings.winding D.xs D.ys (get_or D.contours n []) (col p) (row p)

  -- "The area passes if its sum is not 0 (rule 0) or odd (rule 1)."
  abbrev pub passes_by : ℕ → ℤ → Bool
  passes_by n z = passes (rule_of (fields_of n).rule) z

  abbrev pub passes_at : Position → ℕ → Bool
  passes_at p n = passes_by n (winding n p)

  abbrev pub is_opaque : ℕ → Bool
  is_opaque n = eqb (fields_of n).alpha 255

  -- the shown set, front to back
  abbrev pub shown_at : Position → List ℕ
  shown_at p = shown (passes_at p) is_opaque D.plan
