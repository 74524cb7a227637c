-- Openings of a few tables, computed from the definitions.
use mathlib.Core.Path.{◌≡◌, refl}
use mathlib.Core.List.{List, [], ◌∷◌}
use Prim.Native.Nat.{ℕ}
use Rattle.std.specs.Prelude.{Ok, Err}
use Rattle.refusals.specs.declared.Refusal.TheVariants.{Argument, Room, Broken}
use Rattle.grammar.specs.Grammar.{course, checked}
use Rattle.read.specs.Words.{joined}
use Rattle.read.specs.Reading.{holds}
use Rattle.drawing.specs.Tables.{rebuilt, counts_judged, drawing_verdict}
use Rattle.stream.proofs.Table.{written_nil}
use Rattle.root_stream.specs.Opened.{elements_opened, words_opened}
use Rattle.tables.specs.Tables.{Tree, tree}
use Rattle.open.specs.Open.{open_answer, head_opened, cells_opened, entries_opened}

-- no records, over tables that held something
abbrev none : (xs cells : List ℕ) → Tree
none xs cells = tree (0 ∷ 0 ∷ 0 ∷ []) [] xs [] (7 ∷ 7 ∷ 7 ∷ []) cells (7 ∷ [])

abbrev seven : List ℕ
seven = 7 ∷ 7 ∷ 7 ∷ 7 ∷ 7 ∷ 7 ∷ 7 ∷ []

none_opens : open_answer (none [] (7 ∷ seven)) ≡ Ok 0
unfolding drawing_verdict counts_judged rebuilt holds course checked joined elements_opened words_opened
none_opens = refl

none_head : head_opened (none [] (7 ∷ seven)) (Ok 0) ≡ 1 ∷ 0 ∷ 7 ∷ []
none_head = refl

none_cells : cells_opened (none [] (7 ∷ 7 ∷ seven)) (Ok 0) ≡ 0 ∷ 0 ∷ 65536 ∷ 0 ∷ 0 ∷ 0 ∷ 0 ∷ 0 ∷ 7 ∷ []
unfolding rebuilt joined elements_opened words_opened
none_cells = refl

none_entries : entries_opened (none [] (7 ∷ seven)) (Ok 0) ≡ 7 ∷ []
unfolding rebuilt joined elements_opened words_opened
none_entries = written_nil (7 ∷ []) 0

-- seven words are not a whole cell
none_short : open_answer (none [] seven) ≡ Err Room
unfolding drawing_verdict counts_judged rebuilt holds course checked
none_short = refl

-- 7 before 11
none_unequal : open_answer (none (0 ∷ []) seven) ≡ Err Argument
none_unequal = refl

-- 12 before 11: a plan of two words
plan_short : open_answer (tree (0 ∷ 0 ∷ []) [] [] [] [] [] []) ≡ Err Broken
unfolding drawing_verdict
plan_short = refl
