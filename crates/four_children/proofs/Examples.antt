-- The tallies after each pass, computed from the definitions: one area of alpha 255, the square from (0, 0) to (6, 6), in a cell of side 8.
use mathlib.Core.Path.{◌≡◌, refl}
use mathlib.Core.List.{List, [], ◌∷◌}
use Prim.Native.Nat.{ℕ, ◌≤◌}
use native.Mathlib.Omega.{arith}
use lib.ListN.{length}
use lib.IntN.{ℤ, pos}
use Rattle.laws.specs.Ranges.{all}
use Rattle.curves.specs.Lines.{line_counts, product}
use Rattle.geometry.specs.Edges.{counts, sign}
use Rattle.geometry.specs.Classes.{edge_class, class_of, verdict, nowhere, everywhere, cut}
use Rattle.records.specs.Record.{area_range}
use Rattle.drawing.specs.Tables.{area_row}
use Rattle.cells.specs.Cells.{cell}
use Rattle.cells.specs.Drawings.{Drawing}
use Rattle.stream.specs.declared.Bounds.{Bounds}
use Rattle.stream.specs.declared.Words.{Words}
use Rattle.stream.specs.Table.{words_from}
use Rattle.stream.specs.Grammar.{env, bounds, course, accepts, Passed}
use Rattle.evaluate.specs.Reading.{elements_in}
use Rattle.ranges.specs.Held.{lent}
use Rattle.making.specs.Made.{elements_made}
use Rattle.child_stream.specs.code.Numbers.{filled}
use Rattle.four_children.specs.declared.Tally.{Tally}
use Rattle.four_children.specs.Worked.{AfterPasses}
use Rattle.four_children.specs.code.Numbers.{empty_tally, worked_to}
use Rattle.four_children.proofs.Tallied.{worked_right}

abbrev areas : List ℕ
areas = 0 ∷ 0 ∷ 255 ∷ 0 ∷ 0 ∷ 0 ∷ 7 ∷ 0 ∷ []

abbrev xs : List ℕ
xs = 0 ∷ 6 ∷ 6 ∷ 0 ∷ []

abbrev ys : List ℕ
ys = 0 ∷ 0 ∷ 6 ∷ 6 ∷ []

-- the area and its right side
abbrev entries : List ℕ
entries = 4 ∷ 0 ∷ 0 ∷ 0 ∷ 5 ∷ 1 ∷ 2 ∷ 0 ∷ []

abbrev used : Bounds
used = bounds 1 4 0 8

abbrev box : Drawing
box = lent areas xs ys used

abbrev stream : List Words
stream = words_from entries 0 2

passes : Passed entries 0 2 (env areas xs ys used)
unfolding accepts course words_from area_range area_row
passes =
    record {
      within = omega arith;
      few = omega arith;
      few_areas = omega arith;
      ready = record { areas = omega arith; xs = omega arith; ys = omega arith };
      grammar = refl;
    }

-- entries, lines and start numbers
abbrev counted : (entries lines : ℕ) → List ℤ → Tally
counted e l zs = record { entries = e; lines = l; starts = record { count = length zs; at = filled 64 zs } }

-- inside the box the area alone is left, with start number 1
one_pass : worked_to box (cell 0 0 3) stream 1 ≡ counted 1 0 (pos 1 ∷ []) ∷ empty_tally ∷ empty_tally ∷ empty_tally ∷ []
unfolding elements_made elements_in words_from filled edge_class class_of verdict nowhere everywhere cut all counts line_counts product sign
one_pass = refl

-- at its right side the line is kept
two_passes : worked_to box (cell 0 0 3) stream 2 ≡ counted 1 0 (pos 1 ∷ []) ∷ counted 2 1 (pos 0 ∷ []) ∷ empty_tally ∷ empty_tally ∷ []
unfolding elements_made elements_in words_from filled edge_class class_of verdict nowhere everywhere cut all counts line_counts product sign
two_passes = refl

-- left of it a shortcut of the rows 4 and 5, and at its corner the line
four_passes : worked_to box (cell 0 0 3) stream 4
    ≡ counted 1 0 (pos 1 ∷ []) ∷ counted 2 1 (pos 0 ∷ []) ∷ counted 2 0 (pos 0 ∷ []) ∷ counted 2 1 (pos 0 ∷ []) ∷ []
unfolding elements_made elements_in words_from filled edge_class class_of verdict nowhere everywhere cut all counts line_counts product sign
four_passes = refl

right : (q : ℕ) → q ≤ 4 → AfterPasses box (cell 0 0 3) stream (worked_to box (cell 0 0 3) stream 0) q (worked_to box (cell 0 0 3) stream q)
right q h = worked_right entries areas xs ys used 0 2 (cell 0 0 3) q passes h
