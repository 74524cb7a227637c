-- Document 02, Item 3: what each child has after its pass, in document 01's words.
use Rattle.std.specs.Prelude.{◌≡◌, List, [], ◌∷◌, ◌++◌, ℕ, ◌+◌, ◌≤◌, ◌<◌, length, get_or, ℤ, pos}
use Rattle.pruning.specs.Sides.{paint, Side, Entry, item, push, activate, pop, flat}
use Rattle.cells.specs.Cells.{Cell}
use Rattle.cells.specs.Segments.{Segment, drawn, shortcut}
use Rattle.cells.specs.Drawings.{Drawing}
use Rattle.cells.specs.Streams.{Item, always, area, made}
use Rattle.cells.specs.Elements.{stream_of, role_in}
use Rattle.stream.specs.declared.Bounds.{Bounds}
use Rattle.stream.specs.declared.Words.{Words}
use Rattle.stream.specs.Table.{words_from}
use Rattle.stream.specs.Grammar.{env, Passed}
use Rattle.evaluate.specs.Reading.{elements_in}
use Rattle.ranges.specs.Held.{lent}
use Rattle.ranges.specs.code.Valid.{weigh, elements}
use Rattle.four_children.specs.declared.Tally.{Tally}
use Rattle.four_children.specs.Children.{cell_of_child}
use Rattle.four_children.specs.code.Numbers.{no_tally, worked_to}

-- how many of an item's are lines, document 02: "a kept curve is one entry that the lister and growing count as a line"
abbrev pub lines_among : List Segment → ℕ
lines_among [] = 0
lines_among (drawn l ∷ gs) = 1 + lines_among gs
lines_among (shortcut z lo hi ∷ gs) = lines_among gs

abbrev pub item_lines : Item → ℕ
item_lines always = 0
item_lines (area n z gs) = lines_among gs

-- the areas that a stream names, in its order, each with its start number
pub record Started : Type 0 where
  pub number : ℕ
  pub start : ℤ

abbrev pub item_areas : Item → List Started
item_areas always = []
item_areas (area n z gs) = record { number = n; start = z } ∷ []

abbrev pub areas_named : List (Entry Item) → List Started
areas_named [] = []
areas_named (item k a ∷ es) = item_areas a ++ areas_named es
areas_named (push ∷ es) = areas_named es
areas_named (activate ∷ es) = areas_named es
areas_named (pop ∷ es) = areas_named es

abbrev pub no_area : Started
no_area = record { number = 0; start = pos 0 }

-- a tally has the entries, lines and starts of a stream: "A stream holds one entry for each delimiter, each area (with its start number), line and shortcut";
-- start j is that of the area that the stream names after j others
pub record Tallied (y : Side Item) (t : Tally) : Type 0 where
  pub entries : t.entries ≡ weigh elements 1 y
  pub lines : t.lines ≡ weigh item_lines 0 y
  pub areas : t.starts.count ≡ length (areas_named (flat paint y))
  pub starts : (j : ℕ) → j < length (areas_named (flat paint y)) → get_or t.starts.at j (pos 0) ≡ (get_or (areas_named (flat paint y)) j no_area).start

-- of cell c with the stream that ws say
module _ (D : Drawing) (c : Cell) (ws : List Words) where
  -- "A child is made from its parent's stream by this rule, orders kept. ... It is then pruned"
  abbrev pub stream_of_child : ℕ → Side Item
  stream_of_child k = made D (cell_of_child D c ws k) (stream_of (role_in D) (elements_in ws))

  -- so many passes after the tallies of before: the children that passed have theirs, those of the others are untouched
  pub record AfterPasses (before : List Tally) (q : ℕ) (ts : List Tally) : Type 0 where
    pub passed : (k : ℕ) → k < q → Tallied (stream_of_child k) (get_or ts k no_tally)
    pub to_come : (k : ℕ) → q ≤ k → get_or ts k no_tally ≡ get_or before k no_tally

-- document 02: "Show that after each child's pass its entries, lines and starts are already those that document 01 defines for it.": of every stream that
-- passes 12, in every cell, after each pass
abbrev pub EachPass : Type 0
EachPass =
    (t areas xs ys : List ℕ) (b : Bounds) (first count : ℕ) (c : Cell) (q : ℕ)
    → Passed t first count (env areas xs ys b)
    → q ≤ 4
    → let D = lent areas xs ys b in let ws = words_from t first count in AfterPasses D c ws (worked_to D c ws 0) q (worked_to D c ws q)
