-- What a run of positions keeps: the leaf that was read last, and the set that shows in it where it is uniform, which serve all positions of its square.
use Rattle.std.specs.Prelude.{◌≡◌, Bool, false, cond, ℕ, ◌-◌, ◌≤◌, Option, Some, None, Result, Ok, Err, ltb, leb, length}
use Rattle.refusals.specs.declared.Refusal.{Refusal}
use Rattle.refusals.specs.declared.Refusal.TheVariants as Refusals
use Rattle.stream.specs.Entry.{is_uniform}
use Rattle.stream.specs.Grammar.{Passed}
use Rattle.celltable.specs.declared.Leaf.{Leaf}
use Rattle.tables.specs.Tables.{Tree}
use Rattle.find_leaf.specs.Leaf.{leaf_stream, leaf_in}
use Rattle.find_leaf.specs.code.Numbers.{leaf_env}
use Rattle.position.specs.declared.Shown.{Shown}
use Rattle.position.specs.declared.Read.{Read}
use Rattle.position.specs.Spots.{set_read, set_in}

-- v is one of the side's numbers from low on
abbrev pub between : (low side v : ℕ) → Bool
between low side v = cond (leb low v) (ltb (v - low) side) false

-- (x, y) lies in the leaf's square: "A cell's square holds its low sides and not its high ones."
abbrev pub in_square : Leaf → (x y : ℕ) → Bool
in_square l x y = cond (between l.x l.side x) (between l.y l.side y) false

abbrev pub shown_n : Leaf → Option ℕ → Shown
shown_n l s = record { leaf = l; set = s }

-- the leaf, with the set that is read there where it is uniform; or 12
abbrev pub shown_by : Tree → (x y : ℕ) → Option Leaf → Result Shown Refusal
shown_by t x y (Some l) = Ok (shown_n l (cond (is_uniform (leaf_stream t l)) (Some (set_read t l x y)) None))
shown_by t x y None = Err Refusals.Broken

unfoldable pub shown_there : Tree → (x y : ℕ) → Result Shown Refusal
shown_there t x y = shown_by t x y (leaf_in t x y)

-- what is read at a position: the leaf, and the set that shows there; or 12
abbrev pub with_set : Shown → (set : ℕ) → Read
with_set s v = record { shown = s; set = v }

abbrev pub with_set_by : (set : ℕ) → Result Shown Refusal → Result Read Refusal
with_set_by v (Ok s) = Ok (with_set s v)
with_set_by v (Err e) = Err e

unfoldable pub read_there : Tree → (x y : ℕ) → Result Read Refusal
read_there t x y = with_set_by (set_in t x y) (shown_there t x y)

-- what reading the set at (x, y) of a leaf asks
pub record Readable (t : Tree) (s : Shown) (x y : ℕ) : Type 0 where
  pub plan_long : 3 ≤ length t.plan
  pub stream : Passed t.entries s.leaf.first s.leaf.count (leaf_env t s.leaf)
  pub read : (v : ℕ) → s.set ≡ Some v → v ≡ set_read t s.leaf x y

-- it was read at some position
pub record WasShown (t : Tree) (s : Shown) : Type 0 where
  pub x : ℕ
  pub y : ℕ
  pub was : Ok s ≡ shown_there t x y

-- what a run keeps: what was read last, or nothing yet
abbrev pub LastIn : Tree → Option Shown → Type 0
LastIn t (Some s) = WasShown t s
LastIn t None = Unit {0}
