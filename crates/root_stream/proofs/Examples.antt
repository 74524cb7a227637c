-- Entries of a few plans, computed from the definitions, and tables that may be opened.
use mathlib.Core.Path.{◌≡◌, refl, sym, subst}
use mathlib.Core.List.{List, [], ◌∷◌}
use Prim.Native.Nat.{ℕ}
use native.Mathlib.Omega.{arith}
use Rattle.records.specs.declared.Record.{Record}
use Rattle.records.specs.declared.Record.TheVariants.{Area, First, Next}
use Rattle.records.specs.Record.{area_range}
use Rattle.grammar.specs.Grammar as Grammar
use Rattle.grammar.specs.Grammar.{counts}
use Rattle.read.specs.Words.{joined}
use Rattle.drawing.specs.Tables.{Tables, tables, drawn_in}
use Rattle.drawing.specs.code.Held.{Acceptable, Holding}
use Rattle.drawing.proofs.Theorems.{drawn_records}
use Rattle.stream.specs.Grammar.{bounds}
use Rattle.evaluate.specs.Words.{words}
use Rattle.root_stream.specs.code.Numbers.{source_at, entries_n, Opened}

-- ---- one area: the triangle (0, 0) (10, 0) (10, 10)

abbrev triangle : List Record
triangle = Area (record { role = 0; rule = 0; alpha = 255; red = 0; green = 0; blue = 0; material = 1 }) ∷ First 0 0 ∷ Next 10 0 ∷ Next 10 10 ∷ []

abbrev lent : Tables
lent = tables (4 ∷ 1 ∷ 3 ∷ 1 ∷ 2 ∷ 3 ∷ 3 ∷ []) (0 ∷ 0 ∷ 255 ∷ 0 ∷ 0 ∷ 0 ∷ 1 ∷ 0 ∷ []) (0 ∷ 10 ∷ 10 ∷ []) (0 ∷ 0 ∷ 10 ∷ [])

triangle_entries : entries_n lent.plan 4 0 (source_at 0 0 0) 4 ≡ words 4 0 0 0 ∷ words 5 0 1 0 ∷ words 5 1 2 0 ∷ words 5 2 0 0 ∷ []
triangle_entries = refl

triangle_accepted : Acceptable triangle (counts 4 1 3)
unfolding area_range Grammar.checked Grammar.course
triangle_accepted = record { range = refl; below = omega arith; fold = refl }

triangle_held : Holding lent triangle
unfolding joined
triangle_held =
    record {
      plan = record { room = omega arith; same = refl };
      areas = record { room = omega arith; same = refl };
      xs = record { room = omega arith; same = refl };
      ys = record { room = omega arith; same = refl };
      pair = refl;
    }

-- so what `count_open` and `write_open` ask can be met
triangle_opened : Opened lent 4 (bounds 1 3 0 65536)
triangle_opened =
    let e : triangle ≡ drawn_in lent = sym (drawn_records lent triangle triangle_accepted.range triangle_held) in
    record {
      used = counts 4 1 3;
      accepted = subst (λ (rs : List Record). Acceptable rs (counts 4 1 3)) e triangle_accepted;
      holding = subst (λ (rs : List Record). Holding lent rs) e triangle_held;
      records_used = refl;
      bounds_used = refl;
    }

-- ---- a group: on its left an area of two contours, on its right an area with none

abbrev clipped : List ℕ
clipped = 11 ∷ 2 ∷ 6 ∷ 4 ∷ 1 ∷ 2 ∷ 3 ∷ 3 ∷ 2 ∷ 3 ∷ 3 ∷ 5 ∷ 1 ∷ 6 ∷ 3 ∷ []

clipped_entries : entries_n clipped 11 0 (source_at 0 0 0) 11
    ≡ words 1 0 0 0
    ∷ words 4 0 0 0
    ∷ words 5 0 1 0
    ∷ words 5 1 2 0
    ∷ words 5 2 0 0
    ∷ words 5 3 4 0
    ∷ words 5 4 5 0
    ∷ words 5 5 3 0
    ∷ words 2 0 0 0
    ∷ words 4 1 0 0
    ∷ words 3 0 0 0
    ∷ []
clipped_entries = refl

-- the last edge closes its contour, whatever stands behind the last record
last_closes : entries_n (4 ∷ 1 ∷ 3 ∷ 1 ∷ 2 ∷ 3 ∷ 3 ∷ 3 ∷ []) 4 3 (source_at 1 2 0) 1 ≡ words 5 2 0 0 ∷ []
last_closes = refl
