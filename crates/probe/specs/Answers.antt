-- What the calls for the tests answer, by the check of the stream that is handed in.
use Rattle.std.specs.Prelude.{Option, Some, None, ℕ, ◌+◌, ◌-◌, ◌/◌, ◌%◌, Bool, false, cond, ◌&&◌, List, eqb, leb, ltb, length, get_or, ℤ, pos}
use Rattle.geometry.specs.declared.class.Square.{Square}
use Rattle.cells.specs.Elements.{Element}
use Rattle.celltable.specs.declared.CellWords.{CellWords}
use Rattle.celltable.specs.Ranges.{square_range, cell_of}
use Rattle.stream.specs.declared.Words.{Words}
use Rattle.stream.specs.Table.{words_from, written}
use Rattle.stream.specs.Grammar.{Env, check_stream}
use Rattle.evaluate.specs.Reading.{set_at}
use Rattle.ranges.specs.Held.{lent}
use Rattle.making.specs.Made.{elements_made, words_made}
use Rattle.making.specs.code.Numbers.{cell_in}
use Rattle.four_children.specs.declared.Tally.{Tally}
use Rattle.four_children.specs.code.Numbers.{no_tally, worked_to}

-- "Positions are whole x, y from 0 to 65,535."
abbrev pub position_range : (x y : ℕ) → Bool
position_range x y = leb x 65535 && leb y 65535

-- the shown set of the stream, or 0
abbrev pub read_answer : List ℕ → (first count used : ℕ) → Env → (x y : ℕ) → ℕ
read_answer t first count used v x y =
    cond (check_stream t first count used v) (cond (position_range x y) (set_at v.areas v.xs v.ys x y (words_from t first count)) 0) 0

-- ---- the stream of a child

abbrev pub square : (x y side : ℕ) → Square
square x y side = record { x = x; y = y; side = side }

-- a leaf on this square, with an empty stream
abbrev pub leaf_on : Square → CellWords
leaf_on s = record { x = s.x; y = s.y; side = s.side; child = 0; first = 0; count = 0; lines = 0; parent = 0 }

-- "a cell's side a power of two up to 65,536 and its low corner on the grid in multiples of that side"
unfoldable pub square_fits : Square → Bool
square_fits s = square_range (leaf_on s)

-- what is made of the stream in the square
abbrev pub child_elements : List ℕ → (first count : ℕ) → Env → Square → List Element
child_elements t first count v s = elements_made (lent v.areas v.xs v.ys v.used) (cell_in s) (words_from t first count)

abbrev pub child_words : List ℕ → (first count : ℕ) → Env → Square → List Words
child_words t first count v s = words_made (lent v.areas v.xs v.ys v.used) (cell_in s) (words_from t first count)

-- it fits behind the entries in use
abbrev pub child_room : List ℕ → (first count used : ℕ) → Env → Square → Bool
child_room t first count used v s = leb (used + length (child_elements t first count v s)) (length t / 4)

abbrev pub child_fits : List ℕ → (first count used : ℕ) → Env → Square → Bool
child_fits t first count used v s = cond (check_stream t first count used v) (cond (square_fits s) (child_room t first count used v s) false) false

-- what the call gives of it: the number of its entries and 1 more, or 0
abbrev pub number_of : Option ℕ → ℕ
number_of (Some n) = n + 1
number_of None = 0

-- the number of its entries and 1 more, or 0
abbrev pub answer_by : Bool → List ℕ → (first count : ℕ) → Env → Square → ℕ
answer_by b t first count v s = cond b (length (child_elements t first count v s) + 1) 0

-- the table with it behind the entries in use, or as it was
abbrev pub table_by : Bool → List ℕ → (first count used : ℕ) → Env → Square → List ℕ
table_by b t first count used v s = cond b (written t used (child_words t first count v s)) t

-- ---- the tallies of the children

-- a number of a tally: its entries, its lines, how many start numbers it has, each start number
abbrev pub number_in : Tally → (number : ℕ) → ℤ
number_in t number =
    cond (eqb number 0) (pos (t.entries % 65536))
    (cond (eqb number 1) (pos (t.lines % 65536))
    (cond (eqb number 2) (pos (t.starts.count % 65536))
    (cond (ltb (number - 3) 64) (get_or t.starts.at (number - 3) (pos 0)) (pos 0))))

-- of child k, after the passes of the first q children of the square
abbrev pub tally_number : List ℕ → (first count : ℕ) → Env → Square → (q k number : ℕ) → ℤ
tally_number t first count v s q k number =
    number_in (get_or (worked_to (lent v.areas v.xs v.ys v.used) (cell_of (leaf_on s)) (words_from t first count) q) k no_tally) number

abbrev pub tally_answer : List ℕ → (first count used : ℕ) → Env → Square → (q k number : ℕ) → ℤ
tally_answer t first count used v s q k number =
    cond (check_stream t first count used v)
    (cond (square_fits s)
    (cond ((ltb 1 s.side && leb q 4) && ltb k 4) (tally_number t first count v s q k number) (pos 0)) (pos 0)) (pos 0)
