-- The four children as the numbers that the code holds: document 01 asks for an "array of four child tallies".
use Rattle.std.specs.Prelude.{cond, List, [], ◌∷◌, ℕ, zero, suc, ◌+◌, ◌/◌, ◌%◌, ◌≤◌, ◌<◌, ltb, length, get_or}
use Rattle.pruning.specs.code.Weights.{total}
use Rattle.cells.specs.Cells.{Cell, child}
use Rattle.cells.specs.Segments.{drawn, shortcut}
use Rattle.cells.specs.Drawings.{Drawing}
use Rattle.cells.specs.Elements.{Element, opens, bar, closes, bare, named, segment}
use Rattle.stream.specs.declared.Words.{Words}
use Rattle.celltable.specs.Table.{put_cell_at}
use Rattle.celltable.specs.Descent.{quarter_at}
use Rattle.child_stream.specs.declared.Count.{Count}
use Rattle.child_stream.specs.code.Numbers.{starts_in}
use Rattle.four_children.specs.declared.Tally.{Tally}
use Rattle.four_children.specs.Children.{words_with, elements_of_child}

-- how many elements are lines
abbrev pub line_one : Element → ℕ
line_one opens = 0
line_one bar = 0
line_one closes = 0
line_one bare = 0
line_one (named n z) = 0
line_one (segment (drawn l)) = 1
line_one (segment (shortcut z lo hi)) = 0

-- the tally of a stream: its entries, its lines, and the start numbers of its areas
abbrev pub tally : List Element → Tally
tally rs = record { entries = length rs; lines = total line_one rs; starts = starts_in rs }

-- the same from the stream's weight: 1 for each entry, 65,536 more for a line, 4,294,967,296 more for an area
abbrev pub tally_n : Count → Tally
tally_n k = record { entries = k.weight % 65536; lines = k.weight / 65536 % 65536; starts = k.starts }

-- what the array has past its end
abbrev pub no_tally : Tally
no_tally = record { entries = 0; lines = 0; starts = record { count = 0; at = [] } }

-- what a child has before its pass
abbrev pub empty_tally : Tally
empty_tally = tally []

-- where the stream of child n begins, by the tallies
abbrev pub first_by : List Tally → (free n : ℕ) → ℕ
first_by ts free zero = free
first_by ts free (suc n) = first_by ts free n + (get_or ts n no_tally).entries

-- the first n children of cell c, which is cell i, from cell `used` on, by the tallies
unfoldable pub cells_by : Cell → List Tally → (t : List ℕ) (i used free n : ℕ) → List ℕ
cells_by c ts t i used free zero = t
cells_by c ts t i used free (suc n) =
    put_cell_at (cells_by c ts t i used free n) (used + n)
    (words_with (child c (quarter_at n)) (first_by ts free n) (get_or ts n no_tally).entries (get_or ts n no_tally).lines i)

-- each has at most 4,096 entries, and no more lines
pub record FewEach (ts : List Tally) : Type 0 where
  pub few : (n : ℕ) → n < 4 → (get_or ts n no_tally).entries ≤ 4096
  pub few_lines : (n : ℕ) → n < 4 → (get_or ts n no_tally).lines ≤ 4096

-- the tallies after the passes of the first q children of cell c with the stream that ws say: those of the first q, the others as they were
module _ (D : Drawing) (c : Cell) (ws : List Words) where
  abbrev pub worked_at : (q k : ℕ) → Tally
  worked_at q k = cond (ltb k q) (tally (elements_of_child D c ws k)) empty_tally

  abbrev pub worked_to : (q : ℕ) → List Tally
  worked_to q = worked_at q 0 ∷ worked_at q 1 ∷ worked_at q 2 ∷ worked_at q 3 ∷ []
