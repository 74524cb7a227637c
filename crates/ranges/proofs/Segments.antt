-- What is kept of a drawing's lines in a cell is in range: a line has corners in use, a curve is one that a drawing may have, a shortcut
-- the sign 1 or −1 and some rows, all inside the cell.
use mathlib.Core.Path.{◌≡◌, refl}
use mathlib.Core.Bool.{Bool, true, false, cond, ◌&&◌, ◌||◌}
use mathlib.Core.List.{List, [], ◌∷◌, map}
use Prim.Native.Nat.{ℕ, ◌+◌, ◌≤◌, ◌<◌, min, max}
use native.Mathlib.Omega.{arith}
use native.Mathlib.Decide.{dec_lt}
use lib.Dec.{ltb, leb, eqb}
use lib.ListN.{length}
use lib.IntN.{pos, negsuc, nat_abs}
use borrow.Author.Tests.{lt-ltb, le-ltb, leb-false}
use Rattle.geometry.specs.Edges.{sign, counts, first_row, end_row}
use Rattle.geometry.specs.Windings.{Line, edge_of}
use Rattle.geometry.specs.Classes.{nowhere, everywhere, verdict, class_of, edge_class}
use Rattle.geometry.specs.code.Reach.{CurveIn, LineBelow}
use Rattle.geometry.specs.declared.edge.Edge.{Edge}
use Rattle.geometry.specs.declared.class.Class.{Class}
use Rattle.geometry.specs.declared.class.Class.TheVariants.{Dropped, Start, Shortcut, Kept}
use Rattle.cells.specs.Cells.{Cell, left, low, side}
use Rattle.cells.specs.Segments.{Segment, drawn, shortcut, class_in, kept_by, kept_in}
use Rattle.ranges.specs.code.Valid.{CornersBelow, CurvesIn}

-- an edge that has rows is drawn upward or downward
sign_one : (e : Edge) → first_row e < end_row e → nat_abs (sign e) ≡ 1
unfolding sign
sign_one e h = go (dec_lt e.from.y e.to.y)
  where
    go : Dec (e.from.y < e.to.y) → nat_abs (cond (ltb e.from.y e.to.y) (pos 1) (cond (ltb e.to.y e.from.y) (negsuc 0) (pos 0))) ≡ 1
    go (yes p) = rw (lt-ltb e.from.y e.to.y p)
    go (no p) = rw (le-ltb e.from.y e.to.y (omega arith), lt-ltb e.to.y e.from.y (omega arith))

-- a verdict of a shortcut is one with rows
verdict_cases : (P : Class → Type 0) (none every : Bool) (lo hi Y S : ℕ)
    → P Dropped
    → P Start
    → P Kept
    → (lo < hi → P (Shortcut lo hi))
    → P (verdict none every lo hi Y S)
unfolding verdict
verdict_cases P none every lo hi Y S d s k f = go (leb hi lo) none every (eqb lo Y && eqb hi (Y + S)) (λ e. f (leb-false hi lo e))
  where
    go : (r n e w : Bool) → (r ≡ false → P (Shortcut lo hi)) → P (cond (r || n) Dropped (cond e (cond w Start (Shortcut lo hi)) Kept))
    go true n e w g = d
    go false true e w g = d
    go false false true true g = s
    go false false true false g = g refl
    go false false false w g = k

class_cases : (P : Class → Type 0) (f : ℕ → ℕ → Bool) (b d X Y S : ℕ) → P Dropped → P Start → P Kept
    → (max b Y < min d (Y + S) → P (Shortcut (max b Y) (min d (Y + S)))) → P (class_of f b d X Y S)
unfolding class_of
class_cases P f b d X Y S = verdict_cases P (nowhere f (max b Y) (min d (Y + S)) X S) (everywhere f (max b Y) (min d (Y + S)) X S) (max b Y) (min d (Y + S)) Y S

module _ (xs ys : List ℕ) (c : Cell) where
  -- a line, curve or shortcut in range
  abbrev pub SegmentIn : Segment → Type 0
  SegmentIn (drawn l) = LineBelow (length xs) l × CurveIn (edge_of xs ys l)
  SegmentIn (shortcut z lo hi) = (nat_abs z ≡ 1) × (low c ≤ lo) × (lo < hi) × (hi ≤ low c + side c)

  abbrev pub EachIn : List Segment → Type 0
  EachIn [] = Unit {0}
  EachIn (g ∷ gs) = SegmentIn g × EachIn gs

  line_kept : (l : Line) (gs : List Segment) → SegmentIn (drawn l) → EachIn gs → EachIn (kept_by xs ys (class_in xs ys c (drawn l)) (drawn l) gs)
  unfolding edge_class
  line_kept l gs h g =
      let e : Edge = edge_of xs ys l in
      class_cases (λ k. EachIn (kept_by xs ys k (drawn l) gs)) (counts e) (first_row e) (end_row e) (left c) (low c) (side c) g g (h, g)
      (λ r. ((sign_one e (omega arith), omega arith, r, omega arith), g))

  -- of the lines of an area
  pub lines_kept : (ls : List Line) → CornersBelow (length xs) ls → CurvesIn xs ys ls → EachIn (kept_in xs ys c (map drawn ls))
  lines_kept [] h f = tt
  lines_kept (l ∷ ls) h f = line_kept l (kept_in xs ys c (map drawn ls)) (h.0, f.0) (lines_kept ls h.1 f.1)

  pub lines_in_law : (ls : List Line) → CornersBelow (length xs) ls → CurvesIn xs ys ls → EachIn (map drawn ls)
  lines_in_law [] h f = tt
  lines_in_law (l ∷ ls) h f = ((h.0, f.0), lines_in_law ls h.1 f.1)
