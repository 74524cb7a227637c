-- The claims are not empty: the file of the triangle's four records is read into tables with room for 9 cells and 40 entries, and opened; a list of calls
-- follows, refused ones among them; and the words that a position then gives are computed.
use Rattle.std.specs.Prelude.{Ok}
use mathlib.Core.Path.{◌≡◌, refl, sym, ap, ◌∙◌}
use mathlib.Core.Bool.{Bool, true}
use mathlib.Core.List.{List, [], ◌∷◌, ◌++◌}
use Prim.Native.Nat.{ℕ, zero, suc, ◌≤◌}
use native.Mathlib.Omega.{arith}
use lib.ListN.{length, get_or, take}
use borrow.Author.Tests.{le-leb}
use Rattle.std.specs.Prelude.{Result, Ok, Err}
use Rattle.laws.proofs.Booleans.{clash}
use Rattle.curves.specs.Lines.{product, line_counts}
use Rattle.geometry.specs.Edges.{counts, sign}
use Rattle.geometry.specs.Windings.{adds, sum_of}
use Rattle.refusals.specs.declared.Refusal.{Refusal}
use Rattle.refusals.specs.declared.Refusal.TheVariants as Refusals
use Rattle.records.specs.declared.Record.{Record}
use Rattle.records.specs.declared.Record.TheVariants.{Area, First, Next}
use Rattle.records.specs.Record.{area_range, corner_of, delimiter_of}
use Rattle.records.specs.Bytes.{decoded_raw, unnamed_zero, named, fields_of}
use Rattle.grammar.specs.Grammar as Grammar
use Rattle.read.specs.Reading.{decoded_from, records_in, verdict_of, holds, read_answer}
use Rattle.read.specs.Words.{joined}
use Rattle.paint.specs.Sets.{each}
use Rattle.paint.specs.Areas.{material_of}
use Rattle.paint.specs.Colours.{mix_of}
use Rattle.drawing.specs.code.Held.{Acceptable, Holding}
use Rattle.drawing.proofs.Theorems.{drawn_records, holding_passes}
use Rattle.cells.specs.Cells.{at, Cell, root}
use Rattle.cells.specs.Drawings.{Drawing}
use Rattle.cells.specs.Streams.{source, made}
use Rattle.pruning.specs.Sides.{paint}
use Rattle.ranges.specs.code.Valid.{weigh, lines}
use Rattle.ranges.proofs.Weights.{elements_length, made_elements_law}
use Rattle.plans.specs.Plans.{drawing_from}
use Rattle.root_stream.specs.Opened.{elements_opened}
use Rattle.tables.specs.Tables.{Tree, tree}
use Rattle.open.specs.Open.{drawing_tables, stream_opened, room_for, drawing_answer, open_answer}
use Rattle.open.proofs.Rooms.{elements_words, has_room}
use Rattle.stream.specs.Entry.{is_uniform}
use Rattle.find_leaf.specs.Leaf.{position_range}
use Rattle.demand.specs.History.{Node, begun, cell_in}
use Rattle.demand.specs.NoTree.{spot_shown}
use Rattle.demand.specs.Stands.{drawing_of, words_of_cell}
use Rattle.answers.specs.Readings.{spot_put}
use Rattle.demand.specs.Calls.{opens, splits, reads, opening, answer_to, number_by, refusal, output_after, Given, given}
use Rattle.demand.specs.Demand.{ReadRight}
use Rattle.demand.specs.Lists.{Listed, own, other, Refused, AllAllowed, tables_after_all, nodes_after_all}
use Rattle.demand.specs.Files.{read_tree, FileOpened, file_tree, drawing_of_file, Shows, position, call_of, GivesShown}
use Rattle.demand.proofs.Lists.{list_goes_on, refused_same}
use Rattle.demand.proofs.Files.{file_demand, from_file}

-- ---- "Triangle (0,0) (10,0) (10,10)"
abbrev triangle : List Record
triangle = Area (record { role = 0; rule = 0; alpha = 255; red = 9; green = 8; blue = 7; material = 6 }) ∷ First 0 0 ∷ Next 10 0 ∷ Next 10 10 ∷ []

abbrev zeros : ℕ → List ℕ
zeros zero = []
zeros (suc n) = 0 ∷ zeros n

abbrev example : Tree
example =
    tree (4 ∷ 1 ∷ 3 ∷ 1 ∷ 2 ∷ 3 ∷ 3 ∷ []) (0 ∷ 0 ∷ 255 ∷ 9 ∷ 8 ∷ 7 ∷ 6 ∷ 0 ∷ []) (0 ∷ 10 ∷ 10 ∷ []) (0 ∷ 0 ∷ 10 ∷ []) (zeros 2) (zeros 72) (zeros 160)

accepted : Acceptable triangle (Grammar.counts 4 1 3)
unfolding area_range Grammar.checked Grammar.course
accepted = record { range = refl; below = omega arith; fold = refl }

held : Holding (drawing_tables example) triangle
unfolding joined
held =
    record {
      plan = record { room = omega arith; same = refl };
      areas = record { room = omega arith; same = refl };
      xs = record { room = omega arith; same = refl };
      ys = record { room = omega arith; same = refl };
      pair = refl;
    }

drawing_is : drawing_of example ≡ drawing_from triangle
drawing_is = ap drawing_from (drawn_records (drawing_tables example) triangle accepted.range held)

-- ---- it is opened
four_elements : (D : Drawing) → D ≡ drawing_from triangle → weigh (λ n. suc (length (lines D n))) 1 D.plan ≡ 4
four_elements D e = ap (λ (E : Drawing). weigh (λ n. suc (length (lines E n))) 1 E.plan) e

few_elements : length (elements_opened (drawing_tables example)) ≤ 4
unfolding elements_opened
few_elements =
    let D : Drawing = drawing_of example in
    omega (arith, elements_length paint (made D root (source D)), made_elements_law D root, four_elements D drawing_is)

few : length (stream_opened example) ≤ 4
few = omega (arith, elements_words (drawing_tables example), few_elements)

room : (n : ℕ) → n ≤ 4 → room_for 2 72 160 n ≡ true
room n h = rw (le-leb n 40 (omega arith), le-leb n 65536 (omega arith))

pub example_opened : open_answer example ≡ Ok (length (stream_opened example))
example_opened =
    ap (drawing_answer example) (holding_passes (drawing_tables example) triangle (Grammar.counts 4 1 3) accepted held)
    ∙ has_room example (length (stream_opened example)) refl (room (length (stream_opened example)) few)

-- ---- "winding 1 at (5,5)", "0 at (4,5)": what shows there, with no tree: the six words of set, material and colour
spot : (D : Drawing) (c : Cell) (u : Bool) → D ≡ drawing_from triangle
    → take 6 (spot_put (spot_shown D (at 5 5) c u) (zeros 10)) ≡ 1 ∷ 0 ∷ 6 ∷ 9 ∷ 8 ∷ 7 ∷ []
unfolding material_of mix_of each sum_of adds counts sign line_counts product joined
spot D c u e = ap (λ (E : Drawing). take 6 (spot_put (spot_shown E (at 5 5) c u) (zeros 10))) e

ground : (D : Drawing) (c : Cell) (u : Bool) → D ≡ drawing_from triangle
    → take 6 (spot_put (spot_shown D (at 4 5) c u) (zeros 10)) ≡ 0 ∷ 0 ∷ 0 ∷ 255 ∷ 255 ∷ 255 ∷ []
unfolding material_of mix_of each sum_of adds counts sign line_counts product joined
ground D c u e = ap (λ (E : Drawing). take 6 (spot_put (spot_shown E (at 4 5) c u) (zeros 10))) e

-- ---- the file of the triangle, read into empty tables and opened
abbrev file : List ℕ
file =
    1 ∷ 0 ∷ 0 ∷ 255 ∷ 9 ∷ 8 ∷ 7 ∷ 0 ∷ 6 ∷ 0 ∷ 0 ∷ 0 ∷ 0 ∷ 0 ∷ 0 ∷ 0 ∷
    2 ∷ 0 ∷ 0 ∷ 0 ∷ 0 ∷ 0 ∷ 0 ∷ 0 ∷ 0 ∷ 0 ∷ 0 ∷ 0 ∷ 0 ∷ 0 ∷ 0 ∷ 0 ∷
    3 ∷ 0 ∷ 0 ∷ 0 ∷ 10 ∷ 0 ∷ 0 ∷ 0 ∷ 0 ∷ 0 ∷ 0 ∷ 0 ∷ 0 ∷ 0 ∷ 0 ∷ 0 ∷
    3 ∷ 0 ∷ 0 ∷ 0 ∷ 10 ∷ 0 ∷ 0 ∷ 0 ∷ 10 ∷ 0 ∷ 0 ∷ 0 ∷ 0 ∷ 0 ∷ 0 ∷ 0 ∷ []

abbrev blank : Tree
blank = tree (zeros 7) (zeros 8) (zeros 3) (zeros 3) (zeros 2) (zeros 72) (zeros 160)

file_read : read_answer file (zeros 7) (zeros 8) (zeros 3) (zeros 3) ≡ Ok (Grammar.counts 4 1 3)
unfolding read_answer verdict_of holds decoded_from decoded_raw unnamed_zero named fields_of area_range corner_of delimiter_of Grammar.checked Grammar.course
file_read = refl

file_records : records_in file ≡ triangle
unfolding decoded_from decoded_raw unnamed_zero named fields_of area_range corner_of delimiter_of
file_records = refl

read_example : read_tree file blank ≡ example
unfolding read_answer verdict_of holds decoded_from decoded_raw unnamed_zero named fields_of area_range corner_of delimiter_of Grammar.checked
    Grammar.course joined
read_example = refl

pub file_opened : FileOpened file blank
file_opened =
    record {
      counts = Grammar.counts 4 1 3;
      read = file_read;
      entries = length (stream_opened example);
      opened = ap open_answer read_example ∙ example_opened;
    }

-- ---- a list: cell 0 is split; a split is lent one x less than there are y, which is 7; an opening is lent a head of one word, which is 11
abbrev unequal : Tree
unequal = tree example.plan example.areas (0 ∷ 10 ∷ []) example.ys (zeros 2) (zeros 72) (zeros 160)

abbrev headless : Tree
headless = tree example.plan example.areas example.xs example.ys (zeros 1) (zeros 72) (zeros 160)

abbrev calls : List Listed
calls = own (splits 0) ∷ other unequal (splits 0) ∷ other headless opens ∷ []

no_room : open_answer headless ≡ Err Refusals.Room
no_room = ap (drawing_answer headless) (holding_passes (drawing_tables example) triangle (Grammar.counts 4 1 3) accepted held)

seven : Refused (splits 0) unequal
seven e = omega arith

eleven : Refused opens headless
eleven e = let z : ◌≡◌ {A = ℕ} 11 0 = sym (ap (λ (a : Result ℕ Refusal). refusal (opening a)) no_room) ∙ e in omega arith

allowed : AllAllowed calls (file_tree file blank)
allowed = (λ e. clash e, ((seven, refused_same (splits 0) unequal refl seven), ((eleven, refused_same opens headless refl eleven), tt)))

abbrev after : Tree
after = tables_after_all calls (file_tree file blank)

abbrev split_nodes : List Node
split_nodes = nodes_after_all calls (file_tree file blank) begun

-- a position is read behind it, with its ten words
abbrev reading : (x y : ℕ) → Shows
reading x y = position x y (zeros 10)

abbrev D : Drawing
D = drawing_of_file file

given_there : (x y : ℕ) → ReadRight D split_nodes x y (zeros 10) (given (call_of (reading x y)) after)
given_there x y =
    (list_goes_on D calls (own (call_of (reading x y)) ∷ []) (file_tree file blank) begun
    (file_demand file blank file_opened (calls ++ (own (call_of (reading x y)) ∷ []))) allowed (λ e. clash e)).0.right

there : (x y : ℕ) → position_range x y ≡ true → GivesShown D split_nodes (reading x y) after
there x y e = from_file file blank file_opened calls allowed (reading x y) (ap (λ (g : Given). refusal g.answer) ((given_there x y).inside e).2)

drawn : D ≡ drawing_from triangle
drawn = ap drawing_from file_records

-- the material that is handed back, and the words: set, material, colour
pub inside_number : number_by (answer_to (reads 5 5 (zeros 10)) after) ≡ 6
inside_number = (there 5 5 refl).number ∙ ap (λ (ws : List ℕ). get_or ws 2 0) (spot D root true drawn)

abbrev leaf_of_spot : (x y : ℕ) → position_range x y ≡ true → Cell
leaf_of_spot x y e = cell_in split_nodes (there x y e).leaf

pub inside_words : take 6 (output_after (reads 5 5 (zeros 10)) after) ≡ 1 ∷ 0 ∷ 6 ∷ 9 ∷ 8 ∷ 7 ∷ []
inside_words = ap (take 6) (there 5 5 refl).output ∙ spot D (leaf_of_spot 5 5 refl) (is_uniform (words_of_cell D (leaf_of_spot 5 5 refl))) drawn

pub outside_words : take 6 (output_after (reads 4 5 (zeros 10)) after) ≡ 0 ∷ 0 ∷ 0 ∷ 255 ∷ 255 ∷ 255 ∷ []
outside_words = ap (take 6) (there 4 5 refl).output ∙ ground D (leaf_of_spot 4 5 refl) (is_uniform (words_of_cell D (leaf_of_spot 4 5 refl))) drawn
