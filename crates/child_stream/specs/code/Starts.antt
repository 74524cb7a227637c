-- Document 01, "Cells": the start numbers of a stream.
use Rattle.std.specs.Prelude.{List, [], ◌∷◌, ℤ}
use Rattle.cells.specs.Elements.{Element, opens, bar, closes, bare, named, segment}

-- "each area (with its start number)": the start numbers of the areas, one for each area entry, in the order of the entries
abbrev pub starts_of : List Element → List ℤ
starts_of [] = []
starts_of (opens ∷ rs) = starts_of rs
starts_of (bar ∷ rs) = starts_of rs
starts_of (closes ∷ rs) = starts_of rs
starts_of (bare ∷ rs) = starts_of rs
starts_of (named n z ∷ rs) = z ∷ starts_of rs
starts_of (segment g ∷ rs) = starts_of rs
