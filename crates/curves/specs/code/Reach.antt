-- The ranges that the code asks of its numbers.
use Rattle.std.specs.Prelude.{ℕ, ◌+◌, ◌≤◌}

-- Corners have coordinates 0 to 65,536 and positions 0 to 65,535. Positions between grid points are whole numbers too, once every
-- coordinate is multiplied by their denominator: so the code takes both up to 65,536 × 1,024.
abbrev pub reach : ℕ
reach = 67108864

-- the two ends of an edge
pub record EndsIn (x0 y0 x1 y1 : ℕ) : Type 0 where
  pub first_x : x0 ≤ reach
  pub first_y : y0 ≤ reach
  pub second_x : x1 ≤ reach
  pub second_y : y1 ≤ reach

-- a position
pub record PositionIn (x y : ℕ) : Type 0 where
  pub position_x : x ≤ reach
  pub position_y : y ≤ reach

-- a position in the box with the low corner (l, b) and sides of 4,096 units
pub record Near (l b x y : ℕ) : Type 0 where
  pub west : l ≤ x
  pub east : x ≤ l + 4096
  pub south : b ≤ y
  pub north : y ≤ b + 4096

-- the three corners of a curve and a position, in one such box
pub record BoxIn (x0 y0 x1 y1 x2 y2 x y : ℕ) : Type 0 where
  pub l : ℕ
  pub b : ℕ
  pub first : Near l b x0 y0
  pub control : Near l b x1 y1
  pub second : Near l b x2 y2
  pub position : Near l b x y

-- the signed products there are at most twice the square of 4,096
abbrev pub widest : ℕ
widest = 33554432
