-- The tables of a drawing and of its tree, together; 12 over the numbers in use, which every call on a tree meets, and over a leaf.
use Rattle.std.specs.Prelude.{Bool, false, cond, ◌&&◌, List, ℕ, eqb, leb, length, get_or}
use denote.Triple.Both.{Both}
use Rattle.std.specs.Borrow.{Bor, MutBor}
use Rattle.stream.specs.declared.Bounds.{Bounds}
use Rattle.stream.specs.declared.Context.{Context}
use Rattle.stream.specs.Entry.{lines_in}
use Rattle.stream.specs.Table.{words_from}
use Rattle.stream.specs.Grammar.{Env, bounds, used_range, check_stream}
use Rattle.celltable.specs.declared.CellWords.{CellWords}
use Rattle.celltable.specs.Ranges.{head_range}
use Rattle.drawing.specs.declared.Drawing.{Drawing}
use Rattle.tables.specs.declared.Tree.{Tree as LentTree}

-- the seven tables: the drawing's plan, areas, xs and ys, and the tree's head, cells and entries
pub record Tree : Type 0 where
  pub plan : List ℕ
  pub areas : List ℕ
  pub xs : List ℕ
  pub ys : List ℕ
  pub head : List ℕ
  pub cells : List ℕ
  pub entries : List ℕ

abbrev pub tree : (plan areas xs ys head cells entries : List ℕ) → Tree
tree p a x y h c e = record { plan = p; areas = a; xs = x; ys = y; head = h; cells = c; entries = e }

-- the seven tables as they are lent to a call, which is what a contract compares with: in an `ensures` the name of a slice stands for the slice
-- at the call's entry and at its exit, and this takes what each holds at entry
abbrev pub tree_lent : (plan areas xs ys head cells entries : Both (Bor (List ℕ)) (Bor (List ℕ))) → Tree
tree_lent p a x y h c e =
    tree p.entry.now a.entry.now x.entry.now y.entry.now h.entry.now c.entry.now e.entry.now

-- the same, where the last three are lent to be written
abbrev pub tree_lent_mut : (plan areas xs ys : Both (Bor (List ℕ)) (Bor (List ℕ)))
    → (head cells entries : Both (MutBor (List ℕ)) (MutBor (List ℕ)))
    → Tree
tree_lent_mut p a x y h c e =
    tree p.entry.now a.entry.now x.entry.now y.entry.now h.entry.now c.entry.now e.entry.now

-- what the seven tables of a tree hold, and what they hold as a call begins
abbrev pub tree_of : LentTree → Tree
tree_of t =
    tree t.drawing.plan.now t.drawing.areas.now t.drawing.xs.now t.drawing.ys.now t.head.now t.cells.now t.entries.now

abbrev pub tree_passed : Both LentTree LentTree → Tree
tree_passed t = tree_of t.entry

-- the same of a drawing and three tables that are lent to be written
abbrev pub tree_passed_mut : Both Drawing Drawing → (head cells entries : Both (MutBor (List ℕ)) (MutBor (List ℕ))) → Tree
tree_passed_mut d h c e =
    tree d.entry.plan.now d.entry.areas.now d.entry.xs.now d.entry.ys.now h.entry.now c.entry.now e.entry.now

-- "cells in use": a head too short for its two words has none
abbrev pub cells_used : List ℕ → ℕ
cells_used head = cond (leb 2 (length head)) (get_or head 0 0) 0

abbrev pub entries_used : List ℕ → ℕ
entries_used head = get_or head 1 0

-- the areas and corners in use, and the rows of a cell
abbrev pub bounds_of : List ℕ → CellWords → Bounds
bounds_of plan w = bounds (get_or plan 1 0) (get_or plan 2 0) w.y w.side

-- what a stream of a cell with these rows is read against: a drawing, with the areas and corners that its plan says are in use
abbrev pub against : Drawing → (low side : ℕ) → Context
against d low side =
    record { areas = d.areas; xs = d.xs; ys = d.ys; bounds = bounds (get_or d.plan.now 1 0) (get_or d.plan.now 2 0) low side }

-- 12 over the numbers in use: "cells in use from 1 to what the table holds; areas, corners and entries in use at most what their tables and
-- limits hold"; a plan too short for its counts
unfoldable pub counts_in : Tree → Bool
counts_in t =
    cond (head_range t.head (length t.cells) (length t.entries))
    (cond (leb 3 (length t.plan))
    (used_range (length t.entries) (entries_used t.head) (length t.areas) (length t.xs) (length t.ys)
    (bounds (get_or t.plan 1 0) (get_or t.plan 2 0) 0 0))
    false)
    false

-- 12 over a leaf, its first entry, how many it has and its line count: "the whole leaf when answering", "the cell and, if it is a leaf, its stream when
-- splitting"; document 02: "and so, where its stream is read, is a leaf whose count differs". `free` entries are in use.
abbrev pub leaf_passes : (entries : List ℕ) → (first count lines free : ℕ) → Env → Bool
leaf_passes entries first count lines free v = check_stream entries first count free v && eqb (lines_in (words_from entries first count)) lines
