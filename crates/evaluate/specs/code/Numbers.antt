-- A reading as the numbers that the code holds. `Rattle.evaluate.proofs` says that they go as the elements do (`Rattle.cells.specs.Elements`).
use Rattle.std.specs.Prelude.{◌≡◌, Bool, true, cond, List, [], ◌∷◌, ℕ, ◌+◌, ◌*◌, ◌-◌, ◌<◌, ◌≤◌, eqb, length, ℤ, pos, ◌+ℤ◌}
use Rattle.std.specs.Int.{w32}
use Rattle.std.proofs.Common.{to_z}
use Rattle.geometry.specs.Windings.{Line, line, curve}
use Rattle.pruning.specs.Sides.{clip}
use Rattle.pruning.specs.Registers.{Registers, out_of, on_item, on_push, on_activate, on_pop}
use Rattle.stream.specs.declared.Words.{Words}
use Rattle.stream.specs.declared.Bounds.{Bounds}
use Rattle.stream.specs.Entry.{sign_range, decode, is_curve, is_line, is_segment}
use Rattle.stream.specs.Table.{words_at, words_from}
use Rattle.stream.specs.Grammar.{Env, line_range, curve_range, in_range, Ready}
use Rattle.machine.specs.declared.Machine.{Machine}
use Rattle.machine.specs.code.Registers.{meant}
use Rattle.cells.specs.Cells.{at}
use Rattle.cells.specs.Segments.{Segment, drawn, shortcut, adds_at}
use Rattle.cells.specs.Elements.{settled, State, state, settle, on_elements}
use Rattle.evaluate.specs.declared.Reading.{Reading}
use Rattle.evaluate.specs.Reading.{role_at, pass_at, opaque_at, elements_in}

-- ---- the lines, curves and shortcuts of an area

-- the line or the curve that an entry of either names; that or the shortcut that an entry says
abbrev pub line_of : Words → Line
line_of w = cond (is_curve w.kind) (curve w.p) (line w.p w.q)

abbrev pub segment_of : Words → Segment
segment_of w = cond (is_line w.kind) (drawn (line_of w)) (shortcut (to_z w32 w.p) w.q w.r)

-- the numbers of a line or a curve are in range; of a shortcut too; what it adds
abbrev pub line_met : (xs ys : List ℕ) → (corners : ℕ) → Line → Bool
line_met xs ys corners (line a b) = line_range xs ys corners a b
line_met xs ys corners (curve a) = curve_range xs ys corners a

abbrev pub segment_range : List ℕ → List ℕ → ℕ → Words → Bool
segment_range xs ys corners w = cond (is_line w.kind) (line_met xs ys corners (line_of w)) (sign_range w.p)

abbrev pub segment_adds : List ℕ → List ℕ → ℕ → ℕ → Words → ℤ
segment_adds xs ys x y w = adds_at xs ys (at x y) (segment_of w)

-- what the lines, curves and shortcuts that stand in front add
unfoldable pub segments_sum : (xs ys : List ℕ) (x y : ℕ) → List Words → ℤ
segments_sum xs ys x y [] = pos 0
segments_sum xs ys x y (w ∷ ws) = cond (is_segment w.kind) (segment_adds xs ys x y w +ℤ segments_sum xs ys x y ws) (pos 0)

-- the lines, curves and shortcuts of the entries from `from` up to `end` are in range
pub record SegmentsIn (t : List ℕ) (from end : ℕ) (xs ys : List ℕ) (b : Bounds) : Type 0 where
  pub ordered : from ≤ end
  pub within : end * 4 ≤ length t
  pub few : end ≤ from + 4096
  pub corners_x : b.corners ≤ length xs
  pub corners_y : b.corners ≤ length ys
  pub range : (i : ℕ) → from ≤ i → i < end → is_segment (words_at t i).kind ≡ true → segment_range xs ys b.corners (words_at t i) ≡ true

-- ---- the machine

-- after an entry that is no area; a line, a curve or a shortcut leaves it as it is
abbrev pub moved_by : ℕ → Registers ℕ → Registers ℕ
moved_by kind m =
    cond (eqb kind 1) (on_push m) (cond (eqb kind 2) (on_activate m)
    (cond (eqb kind 3) (on_pop m) (cond (is_segment kind) m (on_item clip true true (λ s. s) m))))

-- the entries from i up to `end`, one at least, are in range
pub record Ranged (t : List ℕ) (i end : ℕ) (v : Env) : Type 0 where
  pub some : i < end
  pub within : end * 4 ≤ length t
  pub few : end ≤ i + 4096
  pub few_areas : v.used.areas ≤ 64
  pub ready : Ready v.areas v.xs v.ys v.used
  pub range : (k : ℕ) → i ≤ k → k < end → in_range v (decode (words_at t k)) ≡ true

module _ (areas xs ys : List ℕ) (x y : ℕ) where
  -- the set in the end, from a state of the elements on
  abbrev pub set_from : State → List Words → ℕ
  set_from st ws =
      out_of
      (settle (role_at areas) (pass_at areas) (opaque_at areas) (adds_at xs ys (at x y))
      (on_elements (role_at areas) (pass_at areas) (opaque_at areas) (adds_at xs ys (at x y)) (elements_in ws) st))

  -- from entry i the machine m has come to another entry: what is left gives the same set
  pub record Onward (t : List ℕ) (i end : ℕ) (m : Machine) (r : Reading) : Type 0 where
    pub later : i < r.next
    pub inside : r.next ≤ end
    pub deeper : r.machine.depth ≤ m.depth + 1
    pub same : set_from (state (meant r.machine) settled) (words_from t r.next (end - r.next))
        ≡ set_from (state (meant m) settled) (words_from t i (end - i))
