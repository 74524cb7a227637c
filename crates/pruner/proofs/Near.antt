-- How far an item moves the pruner's numbers.
use mathlib.Core.Path.{◌≡◌, refl, ap}
use mathlib.Core.List.{List}
use Prim.Native.Nat.{ℕ, zero, suc, ◌+◌, ◌≤◌}
use native.Mathlib.Omega.{arith}
use lib.ListN.{length}
use Rattle.pruning.specs.Sides.{Kind, paint, clip, item}
use Rattle.pruning.specs.Items as Items
use Rattle.pruning.specs.Items.{fails, passes, other}
use Rattle.pruning.specs.code.Pruner.{going, shut}
use Rattle.pruning.specs.code.Counters.{Count, ct, length_of, count_step}
use Rattle.pruning.specs.code.Weights.{sized, sized_items, size_of}
use Rattle.pruning.proofs.Bounded.{frames}
use Rattle.pruner.specs.declared.Frame.{Frame}
use Rattle.pruner.specs.declared.Pruner.{Pruner}
use Rattle.pruner.specs.code.Numbers.{skip_of, frames_of, counted, base_of, skip_number, skip_in}

-- ---- the numbers of a count

frames_length : (l : List Frame) (d : ℕ) → length (frames_of l d) ≡ d
frames_length l zero = refl
frames_length l (suc d) = ap suc (frames_length l d)

module _ (p : Pruner) where
  pub counted_weight : length_of (counted p) ≡ p.weight
  unfolding counted
  counted_weight = refl

  pub counted_base : base_of (counted p) ≡ p.base
  unfolding counted
  counted_base = refl

  pub counted_skip : skip_in (counted p) ≡ skip_number (skip_of p.skip)
  unfolding counted
  counted_skip = refl

  pub counted_depth : frames (counted p) ≡ p.depth
  unfolding counted
  counted_depth = frames_length p.frames p.depth

-- ---- after an item

pub record Near (weight : ℕ) (c d : Count) : Type 0 where
  pub weight_near : length_of d ≤ length_of c + base_of c + weight + 1
  pub base_same : base_of d ≡ base_of c
  pub depth_same : frames d ≡ frames c
  pub skip_near : skip_in d ≤ skip_in c + 1
  pub skip_zero : skip_in d ≡ 0 → skip_in c ≡ 0

pub near_same : (weight : ℕ) (c : Count) → Near weight c c
near_same weight c = record { weight_near = omega arith; base_same = refl; depth_same = refl; skip_near = omega arith; skip_zero = λ e. e }

pub item_near : (k : Kind) (d : Items.Class) (weight : ℕ) (c : Count) → Near weight c (count_step sized_items size_of c (item k (sized d weight)))
item_near k d weight (ct n b (shut m) fs) = near_same weight (ct n b (shut m) fs)
item_near k fails weight (ct n b going fs) = near_same weight (ct n b going fs)
item_near paint passes weight (ct n b going fs) =
    record { weight_near = omega arith; base_same = refl; depth_same = refl; skip_near = omega arith; skip_zero = λ e. refl }
item_near clip passes weight (ct n b going fs) =
    record { weight_near = omega arith; base_same = refl; depth_same = refl; skip_near = omega arith; skip_zero = λ e. refl }
item_near k other weight (ct n b going fs) =
    record { weight_near = omega arith; base_same = refl; depth_same = refl; skip_near = omega arith; skip_zero = λ e. refl }
