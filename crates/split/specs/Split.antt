-- Document 01, "Cells" and "From the state", and document 02, Item 5: splitting a cell of a tree in lent tables: the answer, and every table afterwards.
use Rattle.std.specs.Prelude.{cond, List, ℕ, Result, Ok, Err, ◌+◌, eqb, ltb, length, set}
use Rattle.refusals.specs.declared.Refusal.{Refusal}
use Rattle.refusals.specs.declared.Refusal.TheVariants.{Argument, NoCell, AlreadySplit, Smallest, Room, Broken}
use Rattle.stream.specs.declared.Bounds.{Bounds}
use Rattle.stream.specs.declared.Words.{Words}
use Rattle.stream.specs.Table.{words_from, written}
use Rattle.stream.specs.Grammar.{Env, env}
use Rattle.celltable.specs.declared.CellWords.{CellWords}
use Rattle.celltable.specs.Table.{cell_at, put_child_at}
use Rattle.celltable.specs.Ranges.{cell_range, cells_held, entries_held, cell_of}
use Rattle.cells.specs.Drawings.{Drawing}
use Rattle.ranges.specs.Held.{lent}
use Rattle.four_children.specs.Children.{streams_to, cells_to}
use Rattle.tables.specs.Tables.{Tree, tree, cells_used, entries_used, bounds_of, counts_in, leaf_passes}

-- the four streams, child by child
abbrev pub made_by : (areas xs ys : List ℕ) → Bounds → CellWords → (entries : List ℕ) → List Words
made_by areas xs ys b w entries = streams_to (lent areas xs ys b) (cell_of w) (words_from entries w.first w.count) 4

-- 11: "cells, entries or another output table too short for the whole result"; the lengths of the tables of cells and of entries, how many of
-- each are in use, and how many entries the four streams have
abbrev pub room_answer : (cells entries used free made : ℕ) → Result ℕ Refusal
room_answer cells entries used free made = cond (cells_held (used + 4) cells) (cond (entries_held (free + made) entries) (Ok used) (Err Room)) (Err Room)

-- 10: "cell of side 1"
abbrev pub size_answer : (areas xs ys : List ℕ) → Bounds → CellWords → (entries : List ℕ) → (cells used free : ℕ) → Result ℕ Refusal
size_answer areas xs ys b w entries cells used free =
    cond (eqb w.side 1) (Err Smallest) (room_answer cells (length entries) used free (length (made_by areas xs ys b w entries)))

-- 12 over the stream of a leaf and its line count
abbrev pub leaf_answer : (areas xs ys : List ℕ) → Bounds → CellWords → (entries : List ℕ) → (cells used free : ℕ) → Result ℕ Refusal
leaf_answer areas xs ys b w entries cells used free =
    cond (leaf_passes entries w.first w.count w.lines free (env areas xs ys b)) (size_answer areas xs ys b w entries cells used free) (Err Broken)

-- 12 over cell i, whose words are w, then 9: "cell already split"; of a leaf 12 over its stream comes first
abbrev pub cell_answer : (areas xs ys : List ℕ) → Bounds → CellWords → (entries cells : List ℕ) → (i used free : ℕ) → Result ℕ Refusal
cell_answer areas xs ys b w entries cells i used free =
    cond (cell_range cells i used free) (cond (eqb w.child 0) (leaf_answer areas xs ys b w entries (length cells) used free) (Err AlreadySplit)) (Err Broken)

-- ---- the tables afterwards: "Nothing lent changes" on a refusal
abbrev pub head_by : Result ℕ Refusal → (head : List ℕ) → (used free : ℕ) → List Words → List ℕ
head_by (Ok n) head used free made = set (set head 0 (used + 4)) 1 (free + length made)
head_by (Err r) head used free made = head

-- the first number of a child's empty stream, which document 01 leaves free, is where its first entry would stand
abbrev pub cells_of : Result ℕ Refusal → Drawing → CellWords → List Words → (cells : List ℕ) → (i used free : ℕ) → List ℕ
cells_of (Ok n) D w ws cells i used free = put_child_at (cells_to D (cell_of w) ws cells i used free 4) i used
cells_of (Err r) D w ws cells i used free = cells

abbrev pub entries_by : Result ℕ Refusal → (entries : List ℕ) → (free : ℕ) → List Words → List ℕ
entries_by (Ok n) entries free made = written entries free made
entries_by (Err r) entries free made = entries

module _ (t : Tree) where
  module _ (i : ℕ) where
    abbrev pub words : CellWords
    words = cell_at t.cells i

    abbrev pub against : Env
    against = env t.areas t.xs t.ys (bounds_of t.plan words)

    abbrev pub drawing : Drawing
    drawing = lent t.areas t.xs t.ys (bounds_of t.plan words)

    abbrev pub stream : List Words
    stream = words_from t.entries words.first words.count

    abbrev pub made : List Words
    made = made_by t.areas t.xs t.ys (bounds_of t.plan words) words t.entries

    abbrev pub cell_split : Result ℕ Refusal
    cell_split =
        cell_answer t.areas t.xs t.ys (bounds_of t.plan words) words t.entries t.cells i (cells_used t.head)
        (entries_used t.head)

    -- 12 over the numbers in use
    abbrev pub counts_split : Result ℕ Refusal
    counts_split = cond (counts_in t) cell_split (Err Broken)

    -- 7: "a lent pair of x and y tables of unequal length"; 8: "cell number not below the cells in use"
    abbrev pub split_answer : Result ℕ Refusal
    split_answer = cond (eqb (length t.xs) (length t.ys)) (cond (ltb i (cells_used t.head)) counts_split (Err NoCell)) (Err Argument)

    abbrev pub head_after : Result ℕ Refusal → List ℕ
    head_after r = head_by r t.head (cells_used t.head) (entries_used t.head) made

    abbrev pub cells_after : Result ℕ Refusal → List ℕ
    cells_after r = cells_of r drawing words stream t.cells i (cells_used t.head) (entries_used t.head)

    abbrev pub entries_after : Result ℕ Refusal → List ℕ
    entries_after r = entries_by r t.entries (entries_used t.head) made

    -- the seven tables after the call; those before where it is refused
    abbrev pub split_tables : Tree
    split_tables = tree t.plan t.areas t.xs t.ys (head_after split_answer) (cells_after split_answer) (entries_after split_answer)
