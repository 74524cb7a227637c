-- From the file to the answer: a file of records is read, a tree is opened over what was read, and any list of calls follows. What an accepted reading then
-- gives is what the records of the file show, worked out with no tree.
use Rattle.std.specs.Prelude.{◌≡◌, List, ℕ, ◌/◌, length, Ok}
use Rattle.std.proofs.lemmas.List.Edits.{sets}
use Rattle.grammar.specs.declared.Counts.{Counts}
use Rattle.grammar.specs.Grammar.{Verdict}
use Rattle.read.specs.Words.{plan_words, area_words, x_words, y_words}
use Rattle.read.specs.Reading.{records_in, read_answer, left_by}
use Rattle.cells.specs.Cells.{at}
use Rattle.cells.specs.Drawings.{Drawing}
use Rattle.plans.specs.Plans.{drawing_from}
use Rattle.tables.specs.Tables.{Tree, tree}
use Rattle.open.specs.Open.{open_answer, open_tree}
use Rattle.answers.specs.Readings.{spot_put, low_half}
use Rattle.demand.specs.History.{Node, begun, LeafAt}
use Rattle.demand.specs.NoTree.{material_shown}
use Rattle.demand.specs.Calls.{Call, reads, rows, logs, answer_to, number_by, refusal, output_after}
use Rattle.demand.specs.Shown.{fill_shown, log_shown}
use Rattle.demand.specs.Lists.{Listed, AllAllowed, tables_after_all, nodes_after_all}
use Rattle.demand.specs.Demand.{spot_there, Throughout}

-- ---- the file
-- the seven tables after `zones_read` has read the file into the first four of them
abbrev pub read_by : Verdict → (file : List ℕ) → Tree → Tree
read_by v file t =
    tree (left_by v t.plan (plan_words (records_in file))) (left_by v t.areas (area_words (records_in file))) (left_by v t.xs (x_words (records_in file)))
    (left_by v t.ys (y_words (records_in file))) t.head t.cells t.entries

abbrev pub read_tree : (file : List ℕ) → Tree → Tree
read_tree file t = read_by (read_answer file t.plan t.areas t.xs t.ys) file t

-- the file is accepted, and so is the opening of a tree over what was read
pub record FileOpened (file : List ℕ) (t : Tree) : Type 0 where
  pub counts : Counts
  pub read : read_answer file t.plan t.areas t.xs t.ys ≡ Ok counts
  pub entries : ℕ
  pub opened : open_answer (read_tree file t) ≡ Ok entries

-- the tables then
abbrev pub file_tree : (file : List ℕ) (t : Tree) → Tree
file_tree file t = open_tree (read_tree file t)

-- the drawing that the records of a file are
abbrev pub drawing_of_file : List ℕ → Drawing
drawing_of_file file = drawing_from (records_in file)

-- ---- demand 3 over the drawing of the file
abbrev pub FileDemand3 : Type 0
FileDemand3 = (file : List ℕ) (t : Tree) → FileOpened file t → (cs : List Listed) → Throughout (drawing_of_file file) cs (file_tree file t) begun

-- ---- the answers
-- a call that reads what shows: at a position, in a row of pixels, along a run
pub data Shows : Type 0 where
  position : (x y : ℕ) (out : List ℕ) → Shows
  pixels : (row first : ℕ) (out : List ℕ) → Shows
  run : (px py out : List ℕ) → Shows

abbrev pub call_of : Shows → Call
call_of (position x y out) = reads x y out
call_of (pixels row first out) = rows row first out
call_of (run px py out) = logs px py out

-- the number that it hands back where it is accepted: the material, nothing, how many indices
abbrev pub number_shown : Drawing → Shows → ℕ
number_shown D (position x y out) = material_shown D (at x y)
number_shown D (pixels row first out) = 0
number_shown D (run px py out) = low_half (length (log_shown D px py))

-- leaf i of the history holds the position; a row and a run are of no one leaf
abbrev pub InLeaf : List Node → Shows → (i : ℕ) → Type 0
InLeaf H (position x y out) i = LeafAt H (at x y) i
InLeaf H (pixels row first out) i = Unit {0}
InLeaf H (run px py out) i = Unit {0}

-- and the output afterwards: shown set, material and colour, and how far they reach; red, green, blue of each pixel; the indices
abbrev pub output_shown : Drawing → List Node → (i : ℕ) → Shows → List ℕ
output_shown D H i (position x y out) = spot_put (spot_there D H i (at x y)) out
output_shown D H i (pixels row first out) = fill_shown D row first 0 (length out / 3) out
output_shown D H i (run px py out) = sets out 0 (log_shown D px py)

-- what such a call gives, lent the tables t of a tree with the history H, is what the drawing shows
pub record GivesShown (D : Drawing) (H : List Node) (r : Shows) (t : Tree) : Type 0 where
  pub number : number_by (answer_to (call_of r) t) ≡ number_shown D r
  pub leaf : ℕ
  pub holds : InLeaf H r leaf
  pub output : output_after (call_of r) t ≡ output_shown D H leaf r

-- after any list of calls that are allowed
abbrev pub FromFile : Type 0
FromFile = (file : List ℕ) (t : Tree) → FileOpened file t → (cs : List Listed) → AllAllowed cs (file_tree file t) → (r : Shows)
    → refusal (answer_to (call_of r) (tables_after_all cs (file_tree file t))) ≡ 0
    → GivesShown (drawing_of_file file) (nodes_after_all cs (file_tree file t) begun) r (tables_after_all cs (file_tree file t))
