-- The making of a stream, one entry at a time, as the numbers that the code holds. `Rattle.making.proofs` says that they go as the elements do
-- (`Rattle.cells.specs.code.Making`).
use Rattle.std.specs.Prelude.{◌≡◌, Bool, true, cond, List, ℕ, zero, suc, ◌+◌, ◌*◌, ◌/◌, ◌^◌, ◌<◌, ◌≤◌, eqb, leb, get_or, length, ℤ, pos, ◌+ℤ◌}
use Rattle.std.specs.Prelude.{nat_abs, Option, Some, None}
use Rattle.std.specs.Int.{w32}
use Rattle.std.proofs.Common.{to_z}
use Rattle.geometry.specs.declared.class.Class.{Class}
use Rattle.geometry.specs.declared.class.Class.TheVariants.{Dropped, Start, Shortcut, Kept}
use Rattle.geometry.specs.declared.class.Square.{Square}
use Rattle.pruning.specs.Sides.{clip, item, push, activate, pop}
use Rattle.pruning.specs.Items.{passes}
use Rattle.pruning.specs.code.Counters.{Count, count_step}
use Rattle.pruning.specs.code.Weights.{sized, sized_items, size_of}
use Rattle.cells.specs.Cells.{Cell, cell}
use Rattle.cells.specs.Segments.{sign_of, class_on}
use Rattle.pruner.specs.declared.Pruner.{Pruner}
use Rattle.pruner.specs.declared.ItemClass.{ItemClass}
use Rattle.pruner.specs.declared.ItemClass.TheVariants.{Fails, Passes, Neither}
use Rattle.pruner.specs.code.Numbers.{class_of, skip_of, skip_number}
use Rattle.stream.specs.declared.Words.{Words}
use Rattle.stream.specs.Entry.{is_segment}
use Rattle.stream.specs.Grammar.{Env}
use Rattle.evaluate.specs.Reading.{role_at, pass_at, opaque_at}
use Rattle.evaluate.specs.code.Numbers.{segment_of, segment_range}
use Rattle.making.specs.declared.Waiting.{Waiting}
use Rattle.making.specs.declared.Maker.{Maker}

-- ---- the cell of a square that the code is handed: its side is 2 to the level

abbrev pub level_from : (fuel side : ℕ) → ℕ
level_from zero s = 0
level_from (suc n) s = cond (leb s 1) 0 (suc (level_from n (s / 2)))

unfoldable pub cell_in : Square → Cell
cell_in s = cell s.x s.y (level_from 16 s.side)

-- ---- what is left of a line, a curve or a shortcut in a square

abbrev pub left_sign : (xs ys : List ℕ) → Words → ℤ
left_sign xs ys w = cond (is_segment w.kind) (sign_of xs ys (segment_of w)) (pos 0)

abbrev pub left_class : (xs ys : List ℕ) → Square → Words → Class
left_class xs ys s w = cond (is_segment w.kind) (class_on xs ys s (segment_of w)) Dropped

-- its numbers are in range
abbrev pub left_range : (xs ys : List ℕ) (corners : ℕ) → Words → Bool
left_range xs ys corners w = cond (is_segment w.kind) (segment_range xs ys corners w) true

-- ---- the area that waits, if one does: its number, its start number, its weight with what is left of its lines, curves and shortcuts

abbrev pub waiting_as : ℕ → ℤ → ℕ → Waiting
waiting_as n z s = record { number = n; start = z; weight = s }

abbrev pub waiting : ℕ → ℤ → ℕ → Option Waiting
waiting n z s = Some (waiting_as n z s)

abbrev pub resting : Option Waiting
resting = None

-- 0 where none waits
abbrev pub start_in : Option Waiting → ℤ
start_in None = pos 0
start_in (Some a) = a.start

abbrev pub weight_in : Option Waiting → ℕ
weight_in None = 0
weight_in (Some a) = a.weight

abbrev pub with_class : Class → Waiting → ℤ → Waiting
with_class Dropped a z = a
with_class Start a z = waiting_as a.number (a.start +ℤ z) a.weight
with_class (Shortcut lo hi) a z = waiting_as a.number a.start (a.weight + 1)
with_class Kept a z = waiting_as a.number a.start (a.weight + 65537)

abbrev pub with_left : Option Waiting → Class → ℤ → Option Waiting
with_left None f z = None
with_left (Some a) f z = Some (with_class f a z)

-- after an entry that is no line, curve or shortcut: an area alone weighs 4,294,967,297
abbrev pub waiting_from : Words → Option Waiting
waiting_from w = cond (eqb w.kind 4) (waiting w.p (to_z w32 w.q) 4294967297) resting

abbrev pub waiting_n : Option Waiting → Class → ℤ → Words → Option Waiting
waiting_n a f z w = cond (is_segment w.kind) (with_left a f z) (waiting_from w)

-- ---- the pruner

abbrev pub class_n : List ℕ → Waiting → ItemClass
class_n areas a =
    cond (eqb a.weight 4294967297)
    (cond (pass_at areas a.number a.start)
    (cond (eqb (get_or areas (a.number * 8) 0) 0) (cond (opaque_at areas a.number) Passes Neither) Passes) Fails)
    Neither

abbrev pub settled_n : List ℕ → Count → Option Waiting → Count
settled_n areas c None = c
settled_n areas c (Some a) = count_step sized_items size_of c (item (role_at areas a.number) (sized (class_of (class_n areas a)) a.weight))

abbrev pub moved_n : ℕ → Count → Count
moved_n kind c =
    cond (eqb kind 1) (count_step sized_items size_of c push)
    (cond (eqb kind 2) (count_step sized_items size_of c activate)
    (cond (eqb kind 3) (count_step sized_items size_of c pop)
    (cond (eqb kind 7) (count_step sized_items size_of c (item clip (sized passes 1))) c)))

abbrev pub pruned_n : List ℕ → Count → Option Waiting → ℕ → Count
pruned_n areas c a kind = cond (is_segment kind) c (moved_n kind (settled_n areas c a))

abbrev pub maker : Pruner → Option Waiting → Maker
maker p a = record { pruner = p; waiting = a }

-- the numbers, weights first, are far from their ends
pub record Room (p : Pruner) (a : Option Waiting) (kind : ℕ) : Type 0 where
  pub weight : p.weight + weight_in a < 2 ^ 60
  pub base : p.base < 2 ^ 60
  pub skip : skip_number (skip_of p.skip) < 4000
  pub depth : p.depth ≤ 8
  pub deep : kind ≡ 1 → p.skip ≡ None → p.depth < 8

-- an area that waits is one of a table of so many words
pub record AreaIn (words : ℕ) (a : Waiting) : Type 0 where
  pub small : nat_abs a.start ≤ 8192
  pub inside : a.number * 8 + 8 ≤ words

abbrev pub Inside : (words : ℕ) → Option Waiting → Type 0
Inside words None = Unit {0}
Inside words (Some a) = AreaIn words a

-- what entry w, the next, asks of a making read against v
pub record Asks (v : Env) (m : Maker) (w : Words) : Type 0 where
  pub xs : v.used.corners ≤ length v.xs
  pub ys : v.used.corners ≤ length v.ys
  pub inside : Inside (length v.areas) m.waiting
  pub room : Room m.pruner m.waiting w.kind
  pub left : left_range v.xs v.ys v.used.corners w ≡ true
  pub sign : nat_abs (left_sign v.xs v.ys w) ≤ 1
  pub small : nat_abs (start_in m.waiting) ≤ 8192
  pub light : weight_in m.waiting < 2 ^ 60
