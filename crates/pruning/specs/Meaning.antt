-- Document 01, "Winding and meaning": what a side shows at a position, given which items pass there and which have alpha 255.
use Rattle.std.specs.Prelude.{Bool, false, ◌||◌, ◌&&◌, cond, List, [], ◌∷◌, ◌++◌}
use Rattle.pruning.specs.Sides.{Side, end, leaf, group}

module _ {A : Type 0} (pass : A → Bool) where
  -- "A clip side passes if any item on it does. A group on a clip side passes if both its sides pass."
  abbrev pub clip_passes : Side A → Bool
  clip_passes end = false
  clip_passes (leaf a t) = pass a || clip_passes t
  clip_passes (group l r t) = (clip_passes l && clip_passes r) || clip_passes t

  -- "A group on a paint side shows its right side where its left passes." "the passing paint areas that every group around them shows, front to back"
  abbrev pub shown_all : Side A → List A
  shown_all end = []
  shown_all (leaf a t) = cond (pass a) (a ∷ []) [] ++ shown_all t
  shown_all (group l r t) = cond (clip_passes l) (shown_all r) [] ++ shown_all t

-- "up to and including the first with alpha 255"
abbrev pub up_to : {A : Type 0} → (opaque : A → Bool) → List A → List A
up_to opaque [] = []
up_to opaque (a ∷ l) = a ∷ cond (opaque a) [] (up_to opaque l)

-- the shown set, front to back
abbrev pub shown : {A : Type 0} → (pass opaque : A → Bool) → Side A → List A
shown pass opaque s = up_to opaque (shown_all pass s)
