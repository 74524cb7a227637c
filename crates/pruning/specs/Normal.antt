-- The normal form of a side under the pruning rules, by recursion over the side. `Rattle.pruning.proofs.Order` says that the rules in their literal
-- order, and in every other, end in it.
use Rattle.std.specs.Prelude.{Bool, true, false, ◌||◌, cond}
use Rattle.pruning.specs.Sides.{Kind, paint, clip, Side, end, leaf, group}
use Rattle.pruning.specs.Items.{Items, Class, fails, passes, other, is_passes}

-- what is known of a left side: nothing on it, an item on it that always passes, or neither
pub data Status : Type 0 where
  empty always mixed : Status

module _ (I : Items) where
  open I use {Item, class, bare, bare_passes}

  -- some item of the side itself (in no group of it) always passes
  abbrev pub has_one : Kind → Side Item → Bool
  has_one k end = false
  has_one k (leaf a t) = is_passes (class k a) || has_one k t
  has_one k (group l r t) = has_one k t

  -- one side behind another, where nothing follows an item that always passes
  abbrev pub cut_leaf : Class → Item → Side Item → Side Item
  cut_leaf fails a t = leaf a t
  cut_leaf passes a t = leaf a end
  cut_leaf other a t = leaf a t

  abbrev pub join : Kind → Side Item → Side Item → Side Item
  join k end t = t
  join k (leaf a s) t = cut_leaf (class k a) a (join k s t)
  join k (group l r s) t = group l r (join k s t)

  abbrev pub always_side : Side Item
  always_side = leaf bare end

  -- a clip side with an item that always passes is that item, bare
  abbrev pub seal : Kind → Side Item → Side Item
  seal paint s = s
  seal clip s = cond (has_one clip s) always_side s

  abbrev pub mark : Kind → Item → Item
  mark paint a = a
  mark clip a = bare

  abbrev pub one_leaf : Kind → Class → Item → Side Item
  one_leaf k fails a = end
  one_leaf k passes a = leaf (mark k a) end
  one_leaf k other a = leaf a end

  abbrev pub status_of : Bool → Side Item → Status
  status_of b end = empty
  status_of true (leaf a t) = always
  status_of false (leaf a t) = mixed
  status_of true (group l r t) = always
  status_of false (group l r t) = mixed

  abbrev pub status : Side Item → Status
  status s = status_of (has_one clip s) s

  abbrev pub one_group : Status → Side Item → Side Item → Side Item
  one_group empty l r = end
  one_group always l r = r
  one_group mixed l end = end
  one_group mixed l (leaf a r) = group l (leaf a r) end
  one_group mixed l (group l₁ r₁ r) = group l (group l₁ r₁ r) end

  -- a sealed join
  abbrev pub put : Kind → Side Item → Side Item → Side Item
  put k x t = seal k (join k x t)

  abbrev pub normal : Kind → Side Item → Side Item
  normal k end = end
  normal k (leaf a t) = put k (one_leaf k (class k a) a) (normal k t)
  normal k (group l r t) = put k (one_group (status (normal clip l)) (normal clip l) (normal k r)) (normal k t)

  -- what a group comes to
  abbrev pub group_of : Kind → Side Item → Side Item → Side Item
  group_of k l r = one_group (status (normal clip l)) (normal clip l) (normal k r)
