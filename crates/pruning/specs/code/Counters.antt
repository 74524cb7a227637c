-- The pruner by numbers alone: the length of the output in place of the output. A first pass counts what a second writes.
use Rattle.std.specs.Prelude.{Bool, true, false, List, [], ◌∷◌, ℕ, suc, zero, ◌+◌, eqb, length}
use Rattle.pruning.specs.Sides.{Kind, paint, clip, Entry, item, push, activate, pop}
use Rattle.pruning.specs.Items.{Items, Class, fails, passes, other}
use Rattle.pruning.specs.code.Pruner.{left, right, through, dead, Frame, frame, Skip, going, shut}

-- the length, where the side begins, what is skipped, the open groups
pub data Count : Type 0 where
  ct : ℕ → ℕ → Skip → List Frame → Count

abbrev pub length_of : Count → ℕ
length_of (ct n b w fs) = n

-- the open groups: those with a frame, and those opened while skipping
abbrev pub skipped : Skip → ℕ
skipped going = 0
skipped (shut m) = m

abbrev pub opened : Count → ℕ
opened (ct n b w fs) = length fs + skipped w

-- `wid` gives how many elements an entry is written as
module _ (I : Items) (wid : Entry I.Item → ℕ) where
  open I use {Item, class, bare}

  abbrev pub count_passes : Kind → Item → ℕ → ℕ → List Frame → Count
  count_passes paint a n b fs = ct (n + wid (item paint a)) b (shut 0) fs
  count_passes clip a n b fs = ct (b + wid (item clip bare)) b (shut 0) fs

  abbrev pub count_item : Kind → Class → Item → ℕ → ℕ → List Frame → Count
  count_item k fails a n b fs = ct n b going fs
  count_item k passes a n b fs = count_passes k a n b fs
  count_item k other a n b fs = ct (n + wid (item k a)) b going fs

  abbrev pub count_keep_left : Bool → ℕ → ℕ → ℕ → List Frame → Count
  count_keep_left true s o n fs = ct s o (shut 0) (frame dead o o ∷ fs)
  count_keep_left false s o n fs = ct (n + wid activate) (n + wid activate) going (frame right s o ∷ fs)

  abbrev pub count_left : ℕ → ℕ → Skip → List Frame → Count
  count_left n b w [] = ct n b w []
  count_left n b going (frame left s o ∷ fs) = count_keep_left (eqb n b) s o n fs
  count_left n b (shut m) (frame left s o ∷ fs) = ct s o going (frame through o o ∷ fs)
  count_left n b w (frame right s o ∷ fs) = ct n b w (frame right s o ∷ fs)
  count_left n b w (frame through s o ∷ fs) = ct n b w (frame through s o ∷ fs)
  count_left n b w (frame dead s o ∷ fs) = ct n b w (frame dead s o ∷ fs)

  abbrev pub count_keep_right : Bool → ℕ → ℕ → ℕ → List Frame → Count
  count_keep_right true s o n fs = ct s o going fs
  count_keep_right false s o n fs = ct (n + wid pop) o going fs

  abbrev pub count_right : ℕ → ℕ → Skip → List Frame → Count
  count_right n b w [] = ct n b w []
  count_right n b w (frame left s o ∷ fs) = ct n b w (frame left s o ∷ fs)
  count_right n b w (frame right s o ∷ fs) = count_keep_right (eqb n b) s o n fs
  count_right n b w (frame through s o ∷ fs) = ct n b w fs
  count_right n b w (frame dead s o ∷ fs) = ct n o going fs

  abbrev pub count_step : Count → Entry Item → Count
  count_step (ct n b going fs) (item k a) = count_item k (class k a) a n b fs
  count_step (ct n b going fs) push = ct (n + wid push) (n + wid push) going (frame left n b ∷ fs)
  count_step (ct n b going fs) activate = count_left n b going fs
  count_step (ct n b going fs) pop = count_right n b going fs
  count_step (ct n b (shut m) fs) (item k a) = ct n b (shut m) fs
  count_step (ct n b (shut m) fs) push = ct n b (shut (suc m)) fs
  count_step (ct n b (shut zero) fs) activate = count_left n b (shut zero) fs
  count_step (ct n b (shut zero) fs) pop = count_right n b (shut zero) fs
  count_step (ct n b (shut (suc m)) fs) activate = ct n b (shut (suc m)) fs
  count_step (ct n b (shut (suc m)) fs) pop = ct n b (shut m) fs

  -- all steps
  abbrev pub counts : List (Entry Item) → Count → Count
  counts [] c = c
  counts (e ∷ es) c = counts es (count_step c e)
