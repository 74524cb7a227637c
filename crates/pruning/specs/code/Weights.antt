-- The pruner by numbers where each element has a weight: what is written weighs so much. With weight 1 for each element it is the length.
use Rattle.std.specs.Prelude.{List, [], ◌∷◌, map, ℕ, ◌+◌, take}
use Rattle.pruning.specs.Sides.{Entry, item, push, activate, pop}
use Rattle.pruning.specs.Items.{Class, passes, Items}
use Rattle.pruning.specs.code.Pruner.{Frame, frame, State, st}
use Rattle.pruning.specs.code.Counters.{Count, ct}

module _ {Element : Type 0} (weight : Element → ℕ) where
  abbrev pub total : List Element → ℕ
  total [] = 0
  total (r ∷ rs) = weight r + total rs

  -- the weight before place p
  abbrev pub before : List Element → ℕ → ℕ
  before out p = total (take p out)

  abbrev pub frame_at : List Element → Frame → Frame
  frame_at out (frame m s o) = frame m (before out s) (before out o)

  -- a state with weights in the place of places
  abbrev pub weighed : State Element → Count
  weighed (st out b w fs) = ct (total out) (before out b) w (map (frame_at out) fs)

-- an item as the counters see it: its class on its side, and what it weighs
pub data Sized : Type 0 where
  sized : Class → ℕ → Sized

abbrev pub class_in : Sized → Class
class_in (sized c n) = c

abbrev pub sized_items : Items
sized_items = record { Item = Sized; class = λ k a. class_in a; bare = sized passes 1; bare_passes = λ i. passes }

-- delimiters and the bare item weigh 1
abbrev pub size_of : Entry Sized → ℕ
size_of (item k (sized c n)) = n
size_of push = 1
size_of activate = 1
size_of pop = 1
