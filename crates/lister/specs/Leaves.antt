-- Document 01, "Spots to try": that the lister prints each leaf.
use Rattle.std.specs.Prelude.{◌≡◌, cond, List, [], ◌∷◌, ◌++◌, ℕ, ◌≤◌, length, Ok, Err}
use Rattle.refusals.specs.declared.Refusal.{Refusal}
use Rattle.grammar.specs.declared.Counts.{Counts}
use Rattle.read.specs.Reading.{verdict_of}
use Rattle.tables.specs.Tables.{Tree}
use Rattle.open.specs.Open.{open_answer, open_tree}
use Rattle.listing.specs.declared.Line.{Line}
use Rattle.listing.specs.Listed.{keys_from, Among, IsLeaf, leaf_line}
use Rattle.lister.specs.Printed.{Outcome, grown_tree, outcome, printed}
use Rattle.lister.specs.Text.{lines_text, full_text, file_tree, file_text}

-- the lines ls are those of the leaves of u: each leaf has its line, each line is a leaf's, no cell has two, and the keys ascend
pub record EachLeaf (u : Tree) (ls : List Line) : Type 0 where
  pub each : (i : ℕ) → IsLeaf u i → Among (leaf_line u i) ls
  pub only : (l : Line) → Among l ls → (i : ℕ) × IsLeaf u i × (l ≡ leaf_line u i)
  pub once : (before between after : List Line) (l m : Line) → ls ≡ before ++ l ∷ (between ++ m ∷ after) → l.cell ≡ m.cell → ⊥
  pub in_order : keys_from 0 ls

pub record Prints (t : Tree) (rows : List ℕ) : Type 0 where
  pub accepted : (r : Refusal) → outcome t ≡ Err r → ⊥
  pub leaves : EachLeaf (grown_tree (open_tree t)) (printed t rows)

-- "The leaf lister reads a drawing on standard input, grows with threshold 0 and depth limit 4, and prints each leaf in key order: cell, key, side,
-- entries, lines.": after an accepted opening, whatever the table of 256 lines or more held
abbrev pub PrintsEachLeaf : Type 0
PrintsEachLeaf = (t : Tree) (n : ℕ) → open_answer t ≡ Ok n → (rows : List ℕ) → 1280 ≤ length rows → Prints t rows

-- "if growing ends on "full", a last line `full` follows"
abbrev pub last_line : Outcome → List ℕ
last_line (Ok o) = cond o.full full_text []
last_line (Err r) = []

-- what is printed of a file is the line of each leaf of its tree, and maybe the last line
pub record PrintsLeaves (file : List ℕ) : Type 0 where
  pub lines : List Line
  pub leaves : EachLeaf (grown_tree (open_tree (file_tree file))) lines
  pub text : file_text file ≡ lines_text lines ++ last_line (outcome (file_tree file))

-- the same sentence, of the bytes that are printed: of any file that is accepted, and whose tree opens
abbrev pub FilePrintsEachLeaf : Type 0
FilePrintsEachLeaf = (file : List ℕ) (k : Counts) (n : ℕ) → verdict_of file ≡ Ok k → open_answer (file_tree file) ≡ Ok n → PrintsLeaves file
