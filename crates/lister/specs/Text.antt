-- Document 01, "Spots to try": what the leaf lister prints, byte by byte. A space is 32, a line ends with 10.
use Rattle.std.specs.Prelude.{cond, List, [], ◌∷◌, ◌++◌, ℕ, codes, replicate, Ok, Err}
use Rattle.std.proofs.lemmas.List.Edits.{sets}
use Rattle.std.specs.Fmt.{decimal}
use Rattle.refusals.specs.declared.Refusal.{Refusal}
use Rattle.refusals.specs.Refusals.{number_of}
use Rattle.grammar.specs.Grammar.{Verdict}
use Rattle.read.specs.Words.{plan_words, area_words, x_words, y_words}
use Rattle.read.specs.Reading.{records_in, verdict_of}
use Rattle.tables.specs.Tables.{Tree, tree}
use Rattle.listing.specs.declared.Line.{Line}
use Rattle.listing.specs.Numbers.{lines_in}
use Rattle.lister.specs.Printed.{Outcome, outcome, rows_after}

-- "cell, key, side, entries, lines"
abbrev pub line_text : Line → List ℕ
line_text l =
    decimal l.cell ++ codes " " ++ decimal l.key ++ codes " " ++ decimal l.side ++ codes " " ++ decimal l.entries ++ codes " " ++ decimal l.lines ++ 10 ∷ []

unfoldable pub lines_text : List Line → List ℕ
lines_text [] = []
lines_text (l ∷ ls) = line_text l ++ lines_text ls

-- "A refused drawing prints only `refused N at P`."
abbrev pub refused_text : Refusal → (place : ℕ) → List ℕ
refused_text r p = codes "refused " ++ decimal (number_of r) ++ (codes " at " ++ (decimal p ++ 10 ∷ []))

abbrev pub full_text : List ℕ
full_text = codes "full" ++ 10 ∷ []

-- "if growing ends on "full", a last line `full` follows"
abbrev pub outcome_text : Outcome → (rows : List ℕ) → List ℕ
outcome_text (Ok o) rows = cond o.full (lines_text (lines_in rows 0 o.lines) ++ full_text) (lines_text (lines_in rows 0 o.lines))
outcome_text (Err r) rows = refused_text r 0

unfoldable pub zeros : (n : ℕ) → List ℕ
zeros n = replicate n 0

-- "Its tables hold 1,024 cells and 4,096 entries": of eight and of four words, and the head of two
abbrev pub begun_tree : (plan areas xs ys : List ℕ) → Tree
begun_tree plan areas xs ys = tree plan areas xs ys (zeros 2) (zeros 8192) (zeros 16384)

-- of a drawing, whose lines go into a table of 256
abbrev pub tree_text : Tree → List ℕ
tree_text t = outcome_text (outcome t) (rows_after t (zeros 1280))

abbrev pub drawing_text : (plan areas xs ys : List ℕ) → List ℕ
drawing_text plan areas xs ys = tree_text (begun_tree plan areas xs ys)

-- the tree of an accepted file, before it is opened: the words of its drawing stand at the beginning of tables as long as the limits ask
abbrev pub file_tree : (file : List ℕ) → Tree
file_tree b =
    let rs = records_in b in
    begun_tree (sets (zeros 4099) 0 (plan_words rs)) (sets (zeros 512) 0 (area_words rs)) (sets (zeros 2048) 0 (x_words rs)) (sets (zeros 2048) 0 (y_words rs))

-- of a file: of its drawing, or of its refusal
abbrev pub verdict_text : (file : List ℕ) → Verdict → List ℕ
verdict_text b (Ok k) = tree_text (file_tree b)
verdict_text b (Err e) = refused_text e.refusal e.place

abbrev pub file_text : (file : List ℕ) → List ℕ
file_text b = verdict_text b (verdict_of b)
