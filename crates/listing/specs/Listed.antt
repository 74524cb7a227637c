-- Document 01, "Spots to try": the lines of the leaves of a tree. Leaves of a depth above 4 are left out: the leaf lister grows to depth limit 4, so it
-- has none (`PrintsEachLeaf`, `Rattle.lister.specs`).
use Rattle.std.specs.Prelude.{◌≡◌, Option, Some, None, Result, Ok, Err, cond, ◌&&◌, List, [], ◌∷◌, ◌++◌, ℕ, zero, suc, ◌+◌, ◌*◌, ◌/◌, ◌%◌, ◌≤◌, ◌<◌, eqb}
use Rattle.geometry.specs.Keys.{key_of}
use Rattle.stream.specs.Entry.{lines_in}
use Rattle.refusals.specs.declared.Refusal.{Refusal}
use Rattle.tables.specs.Tables.{Tree, cells_used}
use Rattle.split.specs.Split.{words, stream}
use Rattle.find_leaf.specs.declared.FoundLeaf.{FoundLeaf}
use Rattle.find_leaf.specs.Leaf.{find_answer}
use Rattle.listing.specs.declared.Line.{Line}

-- bits 0, 2, 4 and 6 of k, side by side
abbrev pub every_other : ℕ → ℕ
every_other k = k % 2 + 2 * (k / 4 % 2) + (4 * (k / 16 % 2) + 8 * (k / 64 % 2))

-- A leaf of a depth of at most 4 has its low corner at multiples of 65,536 / 2^4 = 4,096: 256 corners. The key of corner k is k * 2^24
-- (`corner_key`), so k counts them in the order of their keys.
unfoldable pub corner_x : ℕ → ℕ
corner_x k = 4096 * every_other k

unfoldable pub corner_y : ℕ → ℕ
corner_y k = 4096 * every_other (k / 2)

-- "prints each leaf in key order: cell, key, side, entries, lines"; "A cell's key is that of its low corner."
abbrev pub line_of : FoundLeaf → Line
line_of f = record { cell = f.cell; key = key_of f.x f.y; side = f.side; entries = f.entries; lines = f.lines }

-- the leaf that holds (x, y), if that is its low corner: so each leaf comes once
abbrev pub if_low : (x y : ℕ) → FoundLeaf → Option Line
if_low x y f = cond (eqb f.x x && eqb f.y y) (Some (line_of f)) None

abbrev pub of_answer : (x y : ℕ) → Result FoundLeaf Refusal → Option Line
of_answer x y (Ok f) = if_low x y f
of_answer x y (Err r) = None

abbrev pub corner_at : Tree → ℕ → Option Line
corner_at t k = of_answer (corner_x k) (corner_y k) (find_answer t (corner_x k) (corner_y k))

abbrev pub with_corner : Option Line → List Line → List Line
with_corner (Some l) ls = l ∷ ls
with_corner None ls = ls

-- the lines of n corners from corner k on
unfoldable pub lines_from : Tree → (k n : ℕ) → List Line
lines_from t k zero = []
lines_from t k (suc n) = with_corner (corner_at t k) (lines_from t (k + 1) n)

-- The lines of all leaves of a depth of at most 4, and of no others, by a sweep over the corners, as the code goes. The sentence "prints each leaf in key
-- order" is the theorems `in_key_order`, `every_leaf`, `only_leaves` and `one_line`.
abbrev pub listed : Tree → List Line
listed t = lines_from t 0 256

-- "in key order": every key is at least b and above those of the lines before it
abbrev pub keys_from : (b : ℕ) → List Line → Type 0
keys_from b [] = Unit {0}
keys_from b (l ∷ ls) = (b ≤ l.key) × keys_from (suc l.key) ls

-- a line is one of a list
abbrev pub Among : Line → List Line → Type 0
Among l ls = (before : List Line) × (after : List Line) × (ls ≡ before ++ l ∷ after)

-- "A leaf is a cell in use that no split of the list, growing's included, has divided.": in the tables, a cell in use with no child
pub record IsLeaf (t : Tree) (i : ℕ) : Type 0 where
  pub in_use : i < cells_used t.head
  pub undivided : (words t i).child ≡ 0

-- "cell, key, side, entries, lines" of cell i, by its words and its stream; "A cell's key is that of its low corner."
abbrev pub leaf_line : Tree → ℕ → Line
leaf_line t i =
    record { cell = i; key = key_of (words t i).x (words t i).y; side = (words t i).side; entries = (words t i).count; lines = lines_in (stream t i) }
