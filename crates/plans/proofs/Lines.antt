-- The lines and curves of a contour, one at a time: from each corner the one that the record behind it tells.
use mathlib.Core.Path.{◌≡◌, refl, ap}
use mathlib.Core.Bool.{false}
use mathlib.Core.List.{List, [], ◌∷◌}
use Prim.Native.Nat.{ℕ, suc}
use Rattle.laws.proofs.Booleans.{clash}
use Rattle.geometry.specs.Windings.{Line, line, curve, lines_from}
use Rattle.records.specs.declared.Record.{Record}
use Rattle.records.specs.declared.Record.TheVariants.{Area, First, Next, Control, Open, Bar, Close}
use Rattle.plans.specs.Plans.{pieces}
use Rattle.plans.specs.code.Source.{edge_from}
use Rattle.plans.proofs.Bent.{corner, Bent}

-- the lines from the next corners at the front, of a contour that began at corner `first`; the first corner among these records is corner c
abbrev pub rest_lines : List Record → (c first : ℕ) → List Line
rest_lines [] c first = []
rest_lines (Area f ∷ rs) c first = []
rest_lines (First x y ∷ rs) c first = []
rest_lines (Next x y ∷ rs) c first = edge_from rs c first ∷ rest_lines rs (suc c) first
rest_lines (Control x y ∷ rs) c first = rest_lines rs (suc c) first
rest_lines (Open ∷ rs) c first = []
rest_lines (Bar ∷ rs) c first = []
rest_lines (Close ∷ rs) c first = []

-- the lines from corner c on
pub edge_more : (rs : List Record) (c first : ℕ) → Bent corner rs → edge_from rs c first ∷ rest_lines rs (suc c) first ≡ lines_from first c (pieces false rs)
edge_more [] c first q = refl
edge_more (Area f ∷ rs) c first q = refl
edge_more (First x y ∷ rs) c first q = refl
edge_more (Next x y ∷ rs) c first q = ap (λ (z : List Line). line c (suc c) ∷ z) (edge_more rs (suc c) first q.1)
edge_more (Control x y ∷ []) c first q = absurd q.1
edge_more (Control x y ∷ Area f ∷ rs) c first q = clash q.1.0
edge_more (Control x y ∷ First u v ∷ rs) c first q = clash q.1.0
edge_more (Control x y ∷ Next u v ∷ rs) c first q = ap (λ (z : List Line). curve c ∷ z) (edge_more rs (suc (suc c)) first q.1.1)
edge_more (Control x y ∷ Control u v ∷ rs) c first q = clash q.1.0
edge_more (Control x y ∷ Open ∷ rs) c first q = clash q.1.0
edge_more (Control x y ∷ Bar ∷ rs) c first q = clash q.1.0
edge_more (Control x y ∷ Close ∷ rs) c first q = clash q.1.0
edge_more (Open ∷ rs) c first q = refl
edge_more (Bar ∷ rs) c first q = refl
edge_more (Close ∷ rs) c first q = refl
