-- Document 01, "Cells": what becomes of entries.
use Rattle.std.specs.Prelude.{◌≡◌, ℕ, ◌+◌, ◌≤◌, ◌<◌}
use Rattle.celltable.specs.declared.CellWords.{CellWords}
use Rattle.stream.specs.Table.{words_from}
use Rattle.tables.specs.Tables.{Tree, cells_used, entries_used}
use Rattle.split.specs.Split.{words, stream}
use Rattle.split_laws.specs.After.{split_tree}

module _ (t : Tree) (i : ℕ) where
  -- child q of cell i, in the tables afterwards
  abbrev pub child_after : ℕ → CellWords
  child_after q = words (split_tree t i) (cells_used t.head + q)

  -- "Entries of split cells are not used again.": where cell i of the tables t is split,
  pub record NotUsedAgain : Type 0 where
    -- every entry that was in use keeps its words,
    pub kept : (first count : ℕ) → first + count ≤ entries_used t.head
        → words_from (split_tree t i).entries first count ≡ words_from t.entries first count
    -- so cell i's stream still stands where it stood;
    pub stands : stream (split_tree t i) i ≡ stream t i
    -- a child's stream begins behind all of them, "from the first unused entry onward",
    pub behind : (q : ℕ) → q < 4 → entries_used t.head ≤ (child_after q).first
    -- ends within the entries in use afterwards,
    pub within : (q : ℕ) → q < 4 → (child_after q).first + (child_after q).count ≤ entries_used (split_tree t i).head
    -- and has no entry in common with another child's: "child by child"
    pub apart : (p q : ℕ) → p < q → q < 4 → (child_after p).first + (child_after p).count ≤ (child_after q).first
