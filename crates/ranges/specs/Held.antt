-- When lent tables hold the areas and corners of a drawing.
use Rattle.std.specs.Prelude.{◌≡◌, List, [], ◌∷◌, ℕ, zero, suc, ◌+◌, ◌<◌, length, take}
use Rattle.records.specs.declared.Fields.{Fields}
use Rattle.records.specs.declared.Record.TheVariants.{Area}
use Rattle.std.specs.Prelude.{Ok}
use Rattle.drawing.specs.Tables.{fields_at, area_row}
use Rattle.pruning.specs.Sides.{end}
use Rattle.cells.specs.Drawings.{Drawing, fields_of}
use denote.Triple.Both.{Both}
use Rattle.stream.specs.declared.Bounds.{Bounds}
use Rattle.stream.specs.declared.Context.{Context}
use Rattle.stream.specs.Grammar.{Ready}

-- the fields of the n areas from area i on
abbrev pub fields_from : List ℕ → (i n : ℕ) → List Fields
fields_from t i zero = []
fields_from t i (suc n) = fields_at t i ∷ fields_from t (i + 1) n

-- the areas and corners in use of lent tables, with no contour and nothing on the plan: what a stream is read against
abbrev pub lent : (areas xs ys : List ℕ) → Bounds → Drawing
lent areas xs ys b =
    record { fields = fields_from areas 0 b.areas; xs = take b.corners xs; ys = take b.corners ys; contours = []; plan = end }

abbrev pub lent_of : Context → Drawing
lent_of c = lent c.areas.now c.xs.now c.ys.now c.bounds

abbrev pub lent_passed : Both Context Context → Drawing
lent_passed c = lent_of c.entry

-- the tables hold the areas and corners of a drawing, and its numbers are those in use
pub record Held (areas xs ys : List ℕ) (b : Bounds) (D : Drawing) : Type 0 where
  pub ready : Ready areas xs ys b
  pub areas_used : b.areas ≡ length D.fields
  pub corners_used : b.corners ≡ length D.xs
  pub fields_same : fields_from areas 0 b.areas ≡ D.fields
  pub xs_same : take b.corners xs ≡ D.xs
  pub ys_same : take b.corners ys ≡ D.ys
  pub rows : (n : ℕ) → n < b.areas → area_row areas b.areas n ≡ Ok (Area (fields_of D n))
