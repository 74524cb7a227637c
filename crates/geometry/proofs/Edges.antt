-- A drawn edge, straight or bent, is a segment.
use mathlib.Core.Path.{subst₃, fun_ext}
use mathlib.Core.Bool.{Bool, cond}
use Prim.Native.Nat.{ℕ, ◌≤◌, min, max}
use native.Mathlib.Omega.{arith}
use native.Mathlib.Decide.{dec_le}
use lib.Dec.{leb}
use borrow.Author.Tests.{lt-leb, le-leb}
use Rattle.curves.proofs.Segments.{Segment}
use Rattle.curves.proofs.Lines.{line_segment}
use Rattle.curves.proofs.Shapes.{curve_segment}
use Rattle.geometry.specs.Edges.{counts_by, counts, first_row, end_row}
use Rattle.std.specs.Prelude.{Option, Some, None}
use Rattle.curves.specs.declared.Point.{Point}
use Rattle.geometry.specs.declared.edge.Edge.{Edge}

-- between the rows b and d: f from the end in row b, g from the end in row d, taken from the lower one
from_lower : (f g : ℕ → ℕ → Bool) (b d : ℕ) → Segment f b d → Segment g d b → Segment (λ x y. cond (leb b d) (f x y) (g x y)) (min b d) (max b d)
from_lower f g b d up down = go (dec_le b d)
  where
    go : Dec (b ≤ d) → Segment (λ x y. cond (leb b d) (f x y) (g x y)) (min b d) (max b d)
    go (yes h) = subst₃ Segment (fun_ext (λ x. fun_ext (λ y. simp (le-leb b d h)))) (omega arith) (omega arith) up
    go (no h) = subst₃ Segment (fun_ext (λ x. fun_ext (λ y. simp (lt-leb b d (omega arith))))) (omega arith) (omega arith) down

pub edge_segment : (e : Edge) → Segment (counts e) (first_row e) (end_row e)
unfolding counts
edge_segment e = go e.control
  where
    go : (k : Option Point) → Segment (counts_by k e) (first_row e) (end_row e)
    go (Some c) =
        from_lower _ _ e.from.y e.to.y (curve_segment e.from.x e.from.y c.x c.y e.to.x e.to.y)
        (curve_segment e.to.x e.to.y c.x c.y e.from.x e.from.y)
    go None =
        from_lower _ _ e.from.y e.to.y (line_segment e.from.x e.from.y e.to.x e.to.y)
        (line_segment e.to.x e.to.y e.from.x e.from.y)
