-- Neither classing in a cell nor pruning opens more groups at once: a made stream has at most the open groups of the drawing.
use mathlib.Core.Path.{◌≡◌, refl}
use mathlib.Core.Bool.{Bool, true, false, cond}
use Prim.Native.Nat.{suc, ◌≤◌, max}
use native.Mathlib.Omega.{arith}
use Rattle.pruning.specs.Sides.{Kind, paint, clip, Side, end, leaf, group, map_side}
use Rattle.pruning.specs.Items.{Items, Class, fails, passes, other}
use Rattle.pruning.specs.Normal.{Status, empty, always, mixed, has_one, cut_leaf, join, always_side, seal, one_leaf, status, one_group, put, normal, group_of}
use Rattle.cells.specs.Cells.{Cell}
use Rattle.cells.specs.Drawings.{Drawing}
use Rattle.cells.specs.Streams.{items, within, whole, source, made}
use Rattle.cells.proofs.Streams.{made_normal}
use Rattle.ranges.specs.code.Valid.{depth}

pub depth_map : {A B : Type 0} (f : A → B) (s : Side A) → depth (map_side f s) ≡ depth s
depth_map f end = refl
depth_map f (leaf a t) = depth_map f t
depth_map f (group l r t) = rw (depth_map f l, depth_map f r, depth_map f t)

module _ (I : Items) where
  open I use {Item, class, bare}

  depth_cut : (c : Class) (a : Item) (s : Side Item) → depth (cut_leaf I c a s) ≤ depth s
  depth_cut fails a s = omega arith
  depth_cut passes a s = omega arith
  depth_cut other a s = omega arith

  depth_join : (k : Kind) (x y : Side Item) → depth (join I k x y) ≤ max (depth x) (depth y)
  depth_join k end y = omega arith
  depth_join k (leaf a x) y = omega (arith, depth_cut (class k a) a (join I k x y), depth_join k x y)
  depth_join k (group l r x) y = omega (arith, depth_join k x y)

  depth_seal : (k : Kind) (s : Side Item) → depth (seal I k s) ≤ depth s
  depth_seal paint s = omega arith
  depth_seal clip s = go (has_one I clip s)
    where
      go : (b : Bool) → depth (cond b (always_side I) s) ≤ depth s
      go true = omega arith
      go false = omega arith

  depth_leaf : (k : Kind) (c : Class) (a : Item) → depth (one_leaf I k c a) ≤ 0
  depth_leaf k fails a = omega arith
  depth_leaf k passes a = omega arith
  depth_leaf k other a = omega arith

  depth_group : (s : Status) (l r : Side Item) → depth (one_group I s l r) ≤ suc (max (depth l) (depth r))
  depth_group empty l r = omega arith
  depth_group always l r = omega arith
  depth_group mixed l end = omega arith
  depth_group mixed l (leaf a r) = omega arith
  depth_group mixed l (group l₁ r₁ r) = omega arith

  depth_put : (k : Kind) (x y : Side Item) → depth (put I k x y) ≤ max (depth x) (depth y)
  depth_put k x y = omega (arith, depth_seal k (join I k x y), depth_join k x y)

  pub depth_normal : (k : Kind) (s : Side Item) → depth (normal I k s) ≤ depth s
  depth_normal k end = omega arith
  depth_normal k (leaf a t) = omega (arith, depth_put k (one_leaf I k (class k a) a) (normal I k t), depth_leaf k (class k a) a, depth_normal k t)
  depth_normal k (group l r t) =
      omega (
        arith,
        depth_put k (group_of I k l r) (normal I k t),
        depth_group (status I (normal I clip l)) (normal I clip l) (normal I k r),
        depth_normal clip l,
        depth_normal k r,
        depth_normal k t,
      )

-- the groups of a made stream that are open at once
pub made_depth : (D : Drawing) (c : Cell) → depth (made D c (source D)) ≤ depth D.plan
made_depth D c =
    rw (made_normal D c (source D))
    (omega (arith, depth_normal (items D) paint (map_side (within D c) (source D)), depth_map (within D c) (source D), depth_map (whole D) D.plan))
