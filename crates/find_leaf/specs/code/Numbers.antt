-- A leaf that was found, with what its stream holds, as the code hands it on.
use Rattle.std.specs.Prelude.{Some, None, Bool, ℕ, Option, Result, Ok, Err}
use Rattle.refusals.specs.declared.Refusal.{Refusal}
use Rattle.refusals.specs.declared.Refusal.TheVariants as Refusals
use Rattle.stream.specs.declared.Checked.{Checked}
use Rattle.stream.specs.Grammar.{Env, env}
use Rattle.stream.specs.code.Checks.{checked}
use Rattle.stream.specs.Entry.{lines_in, is_uniform}
use Rattle.celltable.specs.declared.Leaf.{Leaf}
use Rattle.tables.specs.Tables.{Tree}
use Rattle.find_leaf.specs.declared.FoundLeaf.{FoundLeaf}
use Rattle.find_leaf.specs.declared.LeafRead.{LeafRead}
use Rattle.find_leaf.specs.Leaf.{leaf_bounds, leaf_stream, leaf_in}

-- its number, low corner, side, steps and entries, with these lines and this answer
abbrev pub report_n : Leaf → (lines : ℕ) → (uniform : Bool) → FoundLeaf
report_n l n u =
    record { cell = l.cell; x = l.x; y = l.y; side = l.side; steps = l.steps; entries = l.count; lines = n; uniform = u }

-- what a leaf's stream is read against
abbrev pub leaf_env : Tree → Leaf → Env
leaf_env t l = env t.areas t.xs t.ys (leaf_bounds t l)

-- what the check of a leaf's stream says, where `free` entries are in use
abbrev pub leaf_checked : Tree → (free : ℕ) → Leaf → Option Checked
leaf_checked t free l = checked t.entries l.first l.count free (leaf_env t l)

abbrev pub read_n : Leaf → (lines : ℕ) → (uniform : Bool) → LeafRead
read_n l n u = record { leaf = l; lines = n; uniform = u }

abbrev pub read_by : Tree → Option Leaf → Result LeafRead Refusal
read_by t (Some l) = Ok (read_n l (lines_in (leaf_stream t l)) (is_uniform (leaf_stream t l)))
read_by t None = Err Refusals.Broken

-- the leaf that holds (x, y)
abbrev pub leaf_read : Tree → (x y : ℕ) → Result LeafRead Refusal
leaf_read t x y = read_by t (leaf_in t x y)
