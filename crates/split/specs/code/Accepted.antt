-- What holds where a split is not refused, part by part: no promise, but what proofs assume and conclude.
use Rattle.std.specs.Prelude.{true, ◌≡◌, ℕ, ◌+◌, ◌*◌, ◌≤◌, ◌<◌, length}
use Rattle.celltable.specs.Ranges.{cell_range}
use Rattle.tables.specs.Tables.{Tree, cells_used, entries_used, counts_in, leaf_passes}
use Rattle.split.specs.Split.{words, against, made}

-- a leaf of a side over 1, in tables whose numbers in use, whose cell i and whose stream pass: of all refusals only 11 is left
pub record Splittable (t : Tree) (i : ℕ) : Type 0 where
  pub pair : length t.xs ≡ length t.ys
  pub counts : counts_in t ≡ true
  pub in_use : i < cells_used t.head
  pub cell : cell_range t.cells i (cells_used t.head) (entries_used t.head) ≡ true
  pub leaf : (words t i).child ≡ 0
  pub passes : leaf_passes t.entries (words t i).first (words t i).count (words t i).lines (entries_used t.head) (against t i) ≡ true
  pub halves : 1 < (words t i).side

-- and there is room
pub record Accepted (t : Tree) (i : ℕ) : Type 0 where
  pub able : Splittable t i
  pub cells : (cells_used t.head + 4) * 8 ≤ length t.cells
  pub few_cells : cells_used t.head + 4 ≤ 4096
  pub entries : (entries_used t.head + length (made t i)) * 4 ≤ length t.entries
  pub few_entries : entries_used t.head + length (made t i) ≤ 65536
