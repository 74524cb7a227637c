-- Document 01, "Cells": pruning "by rules 12 to 18 of document 000, leftmost place first, lowest rule first".
use Rattle.std.specs.Prelude.{Bool, true, false, ◌&&◌, ℕ, suc, zero, ltb}
use Rattle.std.proofs.Math.Option.{Option, none, some}
use Rattle.pruning.specs.Sides.{is_end, Kind, paint, clip, Side, end, leaf, group, append, size}
use Rattle.pruning.specs.Items.{Items, Class, fails, passes, other}
use Rattle.pruning.specs.Normal.{has_one, mark}

-- the first that is there
abbrev pub first : {A : Type 0} → Option A → Option A → Option A
first (some a) o = some a
first none o = o

abbrev pub within : {A B : Type 0} → (A → B) → Option A → Option B
within f none = none
within f (some a) = some (f a)

abbrev pub when : {A : Type 0} → Bool → A → Option A
when true a = some a
when false a = none

module _ (I : Items) where
  open I use {Item, class}

  -- B F1 C becomes B F1, at the first F1, where C is not empty
  abbrev pub cut_leaf_at : Class → Item → Side Item → Option (Side Item) → Option (Side Item)
  cut_leaf_at fails a t o = within (leaf a) o
  cut_leaf_at passes a t o = when (ltb 0 (size t)) (leaf a end)
  cut_leaf_at other a t o = within (leaf a) o

  abbrev pub cut_first : Side Item → Option (Side Item)
  cut_first end = none
  cut_first (leaf a t) = cut_leaf_at (class paint a) a t (cut_first t)
  cut_first (group l r t) = within (group l r) (cut_first t)

  -- the rules at a group of a side of the kind
  abbrev pub rule14 : Kind → Side Item → Side Item → Side Item → Option (Side Item)
  rule14 paint l r t = within (λ r'. group l r' t) (cut_first r)
  rule14 clip l r t = none

  abbrev pub rule15 : Side Item → Side Item → Side Item → Option (Side Item)
  rule15 l r t = when (is_end l) t

  abbrev pub rule16 : Side Item → Side Item → Side Item → Option (Side Item)
  rule16 l r t = when (is_end r) t

  abbrev pub rule17 : Side Item → Side Item → Side Item → Option (Side Item)
  rule17 l r t = when (has_one I clip l) (append r t)

  -- the first item of the side that always passes, alone
  abbrev pub lone : Class → Item → Side Item → Side Item
  lone fails a t = t
  lone passes a t = leaf a end
  lone other a t = t

  abbrev pub first_one : Kind → Side Item → Side Item
  first_one k end = end
  first_one k (leaf a t) = lone (class k a) a (first_one k t)
  first_one k (group l r t) = first_one k t

  abbrev pub rule18 : Kind → Side Item → Side Item → Side Item → Option (Side Item)
  rule18 paint l r t = none
  rule18 clip l r t = when (has_one I clip r && ltb 1 (size r)) (group l (first_one clip r) t)

  abbrev pub rules : Kind → Side Item → Side Item → Side Item → Option (Side Item)
  rules k l r t = first (rule14 k l r t) (first (rule15 l r t) (first (rule16 l r t) (first (rule17 l r t) (rule18 k l r t))))

  abbrev pub walk_leaf : Class → Item → Side Item → Option (Side Item) → Option (Side Item)
  walk_leaf fails a t o = some t
  walk_leaf passes a t o = within (leaf a) o
  walk_leaf other a t o = within (leaf a) o

  -- the leftmost place of the side where a rule applies, and there the lowest rule
  abbrev pub walk : Kind → Side Item → Option (Side Item)
  walk k end = none
  walk k (leaf a t) = walk_leaf (class k a) a t (walk k t)
  walk k (group l r t) =
      first (rules k l r t) (first (within (λ l'. group l' r t) (walk clip l)) (first (within (λ r'. group l r' t) (walk k r)) (within (group l r) (walk k t))))

  abbrev pub walk_top : Side Item → Option (Side Item)
  walk_top s = first (cut_first s) (walk paint s)

  abbrev pub again : (Side Item → Side Item) → Side Item → Option (Side Item) → Side Item
  again f s none = s
  again f s (some s') = f s'

  -- at most so many steps
  abbrev pub steps : ℕ → Side Item → Side Item
  steps zero s = s
  steps (suc n) s = again (steps n) s (walk_top s)

  -- C1 becomes the bare item
  abbrev pub mark_by : Kind → Class → Item → Item
  mark_by k fails a = a
  mark_by k passes a = mark I k a
  mark_by k other a = a

  abbrev pub bare_side : Kind → Side Item → Side Item
  bare_side k end = end
  bare_side k (leaf a t) = leaf (mark_by k (class k a) a) (bare_side k t)
  bare_side k (group l r t) = group (bare_side clip l) (bare_side k r) (bare_side k t)

  -- the pruned side
  abbrev pub pruned : Side Item → Side Item
  pruned s = bare_side paint (steps (size s) s)
