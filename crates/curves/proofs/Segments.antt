-- Any segment: a test of positions f, with the rows b to d − 1. Straight lines, curves and shortcuts are instances.
use mathlib.Core.Bool.{Bool, not}
use Prim.Native.Nat.{ℕ, ◌≤◌, ◌<◌}
use native.Mathlib.Omega.{arith}
use lib.Dec.{T}
use Rattle.laws.proofs.Booleans.{T_contra}

pub record Segment (f : ℕ → ℕ → Bool) (b d : ℕ) : Type 0 where
  -- it counts in its own rows alone
  pub rows : (x y : ℕ) → T (f x y) → (b ≤ y) × (y < d)
  -- where it counts, it counts further left
  pub leftward : (x x' y : ℕ) → x ≤ x' → T (f x' y) → T (f x y)
  -- in a column, two of its rows decide those between them
  pub between : (x y0 y y1 : ℕ) → y0 ≤ y → y ≤ y1 → T (f x y0) → T (f x y1) → T (f x y)
  pub outside : (x y0 y y1 : ℕ) → b ≤ y0 → y0 ≤ y → y ≤ y1 → y1 < d → T (not (f x y0)) → T (not (f x y1)) → T (not (f x y))

-- a test that only comes, or only goes, from row to row is a segment
module _ (f : ℕ → ℕ → Bool) (b d : ℕ) (within : (x y : ℕ) → T (f x y) → (b ≤ y) × (y < d)) (left : (x x' y : ℕ) → x ≤ x' → T (f x' y) → T (f x y)) where
  pub rising : ((x y y' : ℕ) → y ≤ y' → y' < d → T (f x y) → T (f x y')) → Segment f b d
  rising r =
      record {
        rows = within;
        leftward = left;
        between = λ x y0 y y1 p q s t. let w = within x y1 t in r x y0 y p (omega arith) s;
        outside = λ x y0 y y1 h p q k s t. T_contra (f x y) (f x y1) (r x y y1 q k) t;
      }

  pub falling : ((x y y' : ℕ) → b ≤ y → y ≤ y' → T (f x y') → T (f x y)) → Segment f b d
  falling r =
      record {
        rows = within;
        leftward = left;
        between = λ x y0 y y1 p q s t. let w = within x y0 s in r x y y1 (omega arith) q t;
        outside = λ x y0 y y1 h p q k s t. T_contra (f x y) (f x y0) (r x y0 y h p) s;
      }
