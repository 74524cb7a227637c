-- The abstract drawing is its list of records: how many areas and corners it has.
use Rattle.std.specs.Prelude.{ℕ, ◌+◌, List, [], ◌∷◌}
use Rattle.records.specs.declared.Record.{Record}
use Rattle.records.specs.declared.Record.TheVariants.{Area, First, Next, Open, Bar, Close, Control}
use Rattle.records.specs.Record.{Decoded}
use Rattle.std.specs.Prelude.{Ok, Err}

-- the records among what was decoded: all of it where nothing is refused
abbrev pub good_records : List Decoded → List Record
good_records [] = []
good_records (Ok r ∷ ds) = r ∷ good_records ds
good_records (Err x ∷ ds) = good_records ds

abbrev pub area_one : Record → ℕ
area_one (Area f) = 1
area_one (First x y) = 0
area_one (Next x y) = 0
area_one Open = 0
area_one Bar = 0
area_one Close = 0
area_one (Control x y) = 0

abbrev pub corner_one : Record → ℕ
corner_one (Area f) = 0
corner_one (First x y) = 1
corner_one (Next x y) = 1
corner_one Open = 0
corner_one Bar = 0
corner_one Close = 0
corner_one (Control x y) = 1

abbrev pub areas_in : List Record → ℕ
areas_in [] = 0
areas_in (r ∷ rs) = area_one r + areas_in rs

abbrev pub corners_in : List Record → ℕ
corners_in [] = 0
corners_in (r ∷ rs) = corner_one r + corners_in rs
