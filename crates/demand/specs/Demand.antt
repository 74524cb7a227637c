-- Document 01, "The list of demand 3", as a single claim about the list; document 02, Item 4.
use Rattle.std.specs.Prelude.{◌≡◌, true, false, List, [], ◌∷◌, ℕ, ◌+◌, ◌*◌, ◌-◌, ◌<◌, length, Result, Ok, Err}
use Rattle.refusals.specs.declared.Refusal.{Refusal}
use Rattle.refusals.specs.declared.Refusal.TheVariants as Refusals
use Rattle.geometry.specs.Classes.{Inside}
use Rattle.cells.specs.Cells.{Position, at, col, row, left, low, side, level}
use Rattle.cells.specs.Drawings.{Drawing}
use Rattle.stream.specs.Entry.{lines_in, is_uniform}
use Rattle.tables.specs.Tables.{Tree}
use Rattle.split.specs.Split.{split_answer}
use Rattle.open.specs.Open.{drawing_tables, open_answer, open_tree}
use Rattle.grow.specs.declared.Growth.{Growth}
use Rattle.grow.specs.declared.Growth.TheVariants as Growths
use Rattle.grow.specs.Grow.{grow_answer, grow_tree}
use Rattle.find_leaf.specs.declared.FoundLeaf.{FoundLeaf}
use Rattle.find_leaf.specs.Leaf.{position_range}
use Rattle.position.specs.declared.Spot.{Spot}
use Rattle.answers.specs.Answers.{find_room, out_found}
use Rattle.answers.specs.Readings.{spot_room, out_spot}
use Rattle.demand.specs.History.{Node, begun, after_splits, cell_in, Leaf, LeafAt}
use Rattle.demand.specs.Stands.{drawing_of, words_of_cell, Stands}
use Rattle.demand.specs.Calls.{Call, opens, splits, grows, finds, reads, rows, logs, is_opening, finding, reading, answer_to, refusal, Given, gives, given}
use Rattle.demand.specs.Calls.{grown_cells}
use Rattle.demand.specs.NoTree.{set_shown, material_shown, colour_shown, spot_shown}
use Rattle.demand.specs.Shown.{row_given, log_given}
use Rattle.demand.specs.Lists.{Listed, own, other, Allowed, tables_after, nodes_after}

-- ---- the answers

-- a split gives the first of the four new cells, "numbered onward from the cells in use"; it divides a leaf
abbrev pub SplitRight : List Node → ℕ → Result ℕ Refusal → Type 0
SplitRight H i (Ok n) = (n ≡ length H) × Leaf H i
SplitRight H i (Err r) = Unit {0}

-- growing, with threshold n and depth limit l: a "leaf with more lines than the threshold and a depth below the limit"
pub record Wanted (D : Drawing) (n l : ℕ) (H : List Node) (i : ℕ) : Type 0 where
  pub leaf : Leaf H i
  pub lines : n < lines_in (words_of_cell D (cell_in H i))
  pub shallow : 16 - level (cell_in H i) < l

-- "it says "done" when there is none"
abbrev pub NoneWanted : Drawing → (n l : ℕ) → List Node → Type 0
NoneWanted D n l H = (i : ℕ) → Wanted D n l H i → ⊥

-- ""full" when that split would be refused with 11": of "the lowest numbered leaf"
pub record FullAt (D : Drawing) (n l : ℕ) (H : List Node) (t : Tree) : Type 0 where
  pub cell : ℕ
  pub wanted : Wanted D n l H cell
  pub lowest : (j : ℕ) → j < cell → Wanted D n l H j → ⊥
  pub refused : split_answer t cell ≡ Err Refusals.Room

-- "and gives the splits made", each of which makes four cells; K and t are the history and the tables after it
abbrev pub GrowRight : Drawing → (n l : ℕ) → (H K : List Node) → Tree → Result Growth Refusal → Type 0
GrowRight D n l H K t (Ok (Growths.Done k)) = (length K ≡ length H + 4 * k) × NoneWanted D n l K
GrowRight D n l H K t (Ok (Growths.Full k)) = (length K ≡ length H + 4 * k) × FullAt D n l K t
GrowRight D n l H K t (Err r) = K ≡ H

-- a leaf of the history: its number, its square, as many steps as its depth, and the entries and lines of the stream that is made from the drawing;
-- document 02: "yes exactly when the leaf's stream holds no line, curve or shortcut"
abbrev pub report_shown : Drawing → List Node → ℕ → FoundLeaf
report_shown D H i =
    record {
      cell = i;
      x = left (cell_in H i);
      y = low (cell_in H i);
      side = side (cell_in H i);
      steps = 16 - level (cell_in H i);
      entries = length (words_of_cell D (cell_in H i));
      lines = lines_in (words_of_cell D (cell_in H i));
      uniform = is_uniform (words_of_cell D (cell_in H i));
    }

-- a leaf as it is found, in a table of words: 11 where that is too short
abbrev pub found_given : Result FoundLeaf Refusal → List ℕ → Given
found_given a out = gives (finding (find_room a (length out))) (out_found (find_room a (length out)) out)

-- the leaf that holds the position; 7 where the position is out of range
pub record FindRight (D : Drawing) (H : List Node) (x y : ℕ) (out : List ℕ) (g : Given) : Type 0 where
  pub inside : position_range x y ≡ true → (i : ℕ) × LeafAt H (at x y) i × (g ≡ found_given (Ok (report_shown D H i)) out)
  pub outside : position_range x y ≡ false → g ≡ found_given (Err Refusals.Argument) out

-- what shows at a position of leaf i of the history, and how far that reaches
abbrev pub spot_there : Drawing → List Node → (i : ℕ) → Position → Spot
spot_there D H i p = spot_shown D p (cell_in H i) (is_uniform (words_of_cell D (cell_in H i)))

-- an answer at a position, in a table of words: 11 where that is too short
abbrev pub position_given : Result Spot Refusal → List ℕ → Given
position_given a out = gives (reading (spot_room a (length out))) (out_spot (spot_room a (length out)) out)

-- what an answer says is what the drawing shows at q, worked out with no tree
pub record SaysShown (D : Drawing) (s : Spot) (q : Position) : Type 0 where
  pub set : s.set ≡ set_shown D q
  pub material : s.material ≡ material_shown D q
  pub red : s.red ≡ (colour_shown D q).red
  pub green : s.green ≡ (colour_shown D q).green
  pub blue : s.blue ≡ (colour_shown D q).blue

-- what the drawing shows at the position, with the leaf that holds it; 7 where the position is out of range
pub record ReadRight (D : Drawing) (H : List Node) (x y : ℕ) (out : List ℕ) (g : Given) : Type 0 where
  pub inside : position_range x y ≡ true → (i : ℕ) × LeafAt H (at x y) i × (g ≡ position_given (Ok (spot_there D H i (at x y))) out)
  pub outside : position_range x y ≡ false → g ≡ position_given (Err Refusals.Argument) out
  -- document 02: "A yes means that each position of the leaf has this shown set, material and colour.": of the leaf whose square the answer names
  pub reach : (s : Spot) → g.answer ≡ reading (Ok s) → s.uniform ≡ true → (q : Position) → Inside s.x s.y s.side (col q) (row q)
      → SaysShown D s q

-- what a call gives that is lent the tables of a tree with the history H, over the drawing D
abbrev pub Right : Drawing → Call → Tree → List Node → Type 0
Right D opens t H = Unit {0}
Right D (splits i) t H = SplitRight H i (split_answer t i)
Right D (grows n l) t H = GrowRight D n l H (after_splits H (grown_cells t n l)) (grow_tree t n l) (grow_answer t n l)
Right D (finds x y out) t H = FindRight D H x y out (given (finds x y out) t)
Right D (reads x y out) t H = ReadRight D H x y out (given (reads x y out) t)
Right D (rows row first out) t H = given (rows row first out) t ≡ row_given D row first out
Right D (logs px py out) t H = given (logs px py out) t ≡ log_given D px py out

-- of a call that is lent other tables, which is refused, nothing is asked
abbrev pub RightListed : Drawing → Listed → Tree → List Node → Type 0
RightListed D (own c) t H = Right D c t H
RightListed D (other u c) t H = Unit {0}

-- 12 meets no call that is lent the tree's tables
abbrev pub Unmet : Listed → Tree → Type 0
Unmet (own c) t = is_opening c ≡ false → refusal (answer_to c t) ≡ 12 → ⊥
Unmet (other u c) t = Unit {0}

-- ---- the list
-- at each call: the tables stand as it finds them and as it leaves them, the drawing's are not changed, what it gives is right, and 12 does not meet it
pub record Claim (D : Drawing) (c : Listed) (t : Tree) (H : List Node) : Type 0 where
  pub before : Stands D t H
  pub after : Stands D (tables_after c t) (nodes_after c t H)
  pub unchanged : drawing_tables (tables_after c t) ≡ drawing_tables t
  pub right : RightListed D c t H
  pub unmet : Unmet c t

-- each call that is lent the tree's tables finds them as the one before left them
abbrev pub Throughout : Drawing → List Listed → Tree → List Node → Type 0
Throughout D [] t H = Stands D t H
Throughout D (c ∷ cs) t H = Allowed c t → Claim D c t H × Throughout D cs (tables_after c t) (nodes_after c t H)

-- "After one accepted opening come calls that split, grow or read, none or more, in any sequence, accepted or refused": over the drawing that is opened
abbrev pub Demand3 : Type 0
Demand3 = (t : Tree) (n : ℕ) → open_answer t ≡ Ok n → (cs : List Listed) → Throughout (drawing_of t) cs (open_tree t) begun
