-- The ranges that the code asks of its numbers.
use Rattle.std.specs.Prelude.{◌≡◌, true, Option, Some, None, List, ℕ, ◌+◌, ◌≤◌, ◌<◌, length, get_or}
use Rattle.curves.specs.Curves.{curve_fits}
use Rattle.curves.specs.code.Reach.{reach, EndsIn}
use Rattle.geometry.specs.Windings.{Line, line, curve}
use Rattle.curves.specs.declared.Point.{Point}
use Rattle.geometry.specs.declared.edge.Edge.{Edge}
use Rattle.geometry.specs.declared.class.Square.{Square}

-- a curve, if it is one, that a drawing may have
abbrev pub CurveBy : Option Point → (p q : Point) → Type 0
CurveBy None p q = Unit {0}
CurveBy (Some c) p q = curve_fits p.x p.y c.x c.y q.x q.y ≡ true

abbrev pub CurveIn : Edge → Type 0
CurveIn e = CurveBy e.control e.from e.to

-- an edge, by its two ends and its curve
pub record EdgeIn (e : Edge) : Type 0 where
  pub ends : EndsIn e.from.x e.from.y e.to.x e.to.y
  pub fits : CurveIn e

-- a line of which each corner is below n
abbrev pub LineBelow : (n : ℕ) → Line → Type 0
LineBelow n (line p q) = (p < n) × (q < n)
LineBelow n (curve p) = p + 2 < n

-- a square with some position
pub record SquareIn (s : Square) : Type 0 where
  pub some_side : 0 < s.side
  pub right : s.x + s.side ≤ reach
  pub top : s.y + s.side ≤ reach

-- the tables of corners
pub record CornersIn (xs ys : List ℕ) : Type 0 where
  pub paired : length xs ≡ length ys
  pub each_x : (k : ℕ) → k < length xs → get_or xs k 0 ≤ reach
  pub each_y : (k : ℕ) → k < length xs → get_or ys k 0 ≤ reach
