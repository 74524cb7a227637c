-- The pruner's frames, and the groups that it skips, are the open groups: as many frames as a stream has open groups at once are enough.
use mathlib.Core.Path.{◌≡◌, refl, ap}
use mathlib.Core.Bool.{Bool, true, false}
use mathlib.Core.List.{List, [], ◌∷◌}
use Prim.Native.Nat.{ℕ, suc, zero, ◌+◌, ◌≤◌}
use native.Mathlib.Omega.{arith}
use lib.Dec.{eqb}
use lib.ListN.{length}
use Rattle.pruning.specs.Sides.{Kind, paint, clip, Entry, item, push, activate, pop}
use Rattle.pruning.specs.Items.{Items, Class, fails, passes, other}
use Rattle.pruning.specs.code.Pruner.{left, right, through, dead, Frame, frame, going, shut}
use Rattle.pruning.specs.code.Counters.{Count, ct, opened, count_step, count_item, count_keep_left, count_left, count_keep_right, count_right}
use Rattle.pruning.specs.Grammar.{Open, in_left, in_right}

-- the frames are those of the open groups
abbrev pub Aligned : List Frame → List Open → Type 0
Aligned [] [] = Unit {0}
Aligned [] (o ∷ os) = ⊥
Aligned (f ∷ fs) [] = ⊥
Aligned (frame left s b ∷ fs) (in_left o ∷ os) = Aligned fs os
Aligned (frame right s b ∷ fs) (in_left o ∷ os) = ⊥
Aligned (frame through s b ∷ fs) (in_left o ∷ os) = ⊥
Aligned (frame dead s b ∷ fs) (in_left o ∷ os) = ⊥
Aligned (frame left s b ∷ fs) (in_right o ∷ os) = ⊥
Aligned (frame right s b ∷ fs) (in_right o ∷ os) = Aligned fs os
Aligned (frame through s b ∷ fs) (in_right o ∷ os) = Aligned fs os
Aligned (frame dead s b ∷ fs) (in_right o ∷ os) = Aligned fs os

-- the same behind the groups that were opened while skipping
abbrev pub Behind : ℕ → List Frame → List Open → Type 0
Behind zero fs os = Aligned fs os
Behind (suc m) fs [] = ⊥
Behind (suc m) fs (o ∷ os) = Behind m fs os

abbrev pub Tracks : Count → List Open → Type 0
Tracks (ct n b going fs) os = Aligned fs os
Tracks (ct n b (shut m) fs) os = Behind m fs os

aligned_length : (fs : List Frame) (os : List Open) → Aligned fs os → length fs ≡ length os
aligned_length [] [] h = refl
aligned_length [] (o ∷ os) h = absurd h
aligned_length (f ∷ fs) [] h = absurd h
aligned_length (frame left s b ∷ fs) (in_left o ∷ os) h = ap suc (aligned_length fs os h)
aligned_length (frame right s b ∷ fs) (in_left o ∷ os) h = absurd h
aligned_length (frame through s b ∷ fs) (in_left o ∷ os) h = absurd h
aligned_length (frame dead s b ∷ fs) (in_left o ∷ os) h = absurd h
aligned_length (frame left s b ∷ fs) (in_right o ∷ os) h = absurd h
aligned_length (frame right s b ∷ fs) (in_right o ∷ os) h = ap suc (aligned_length fs os h)
aligned_length (frame through s b ∷ fs) (in_right o ∷ os) h = ap suc (aligned_length fs os h)
aligned_length (frame dead s b ∷ fs) (in_right o ∷ os) h = ap suc (aligned_length fs os h)

behind_length : (m : ℕ) (fs : List Frame) (os : List Open) → Behind m fs os → length fs + m ≡ length os
behind_length zero fs os h = omega (arith, aligned_length fs os h)
behind_length (suc m) fs [] h = absurd h
behind_length (suc m) fs (o ∷ os) h = omega (arith, behind_length m fs os h)

abbrev pub frames : Count → ℕ
frames (ct n b w fs) = length fs

pub tracks_length : (c : Count) (os : List Open) → Tracks c os → frames c ≤ length os
tracks_length (ct n b going fs) os h = omega (arith, aligned_length fs os h)
tracks_length (ct n b (shut m) fs) os h = omega (arith, behind_length m fs os h)

-- with the groups opened while skipping there are as many
pub tracks_opened : (c : Count) (os : List Open) → Tracks c os → opened c ≡ length os
tracks_opened (ct n b going fs) os h = omega (arith, aligned_length fs os h)
tracks_opened (ct n b (shut m) fs) os h = behind_length m fs os h

module _ (I : Items) (wid : Entry I.Item → ℕ) where
  open I use {Item, class}

  abbrev next : Count → Entry Item → Count
  next = count_step I wid

  pub tracks_item : (c : Count) (k : Kind) (a : Item) (os : List Open) → Tracks c os → Tracks (next c (item k a)) os
  tracks_item (ct n b going fs) k a os h = go k (class k a)
    where
      go : (j : Kind) (d : Class) → Tracks (count_item I wid j d a n b fs) os
      go j fails = h
      go paint passes = h
      go clip passes = h
      go j other = h
  tracks_item (ct n b (shut m) fs) k a os h = h

  pub tracks_push : (c : Count) (k : Kind) (os : List Open) → Tracks c os → Tracks (next c push) (in_left k ∷ os)
  tracks_push (ct n b going fs) k os h = h
  tracks_push (ct n b (shut m) fs) k os h = h

  keeps_left : (t : Bool) (s b n : ℕ) (fs : List Frame) (o : Kind) (os : List Open) → Aligned fs os
      → Tracks (count_keep_left I wid t s b n fs) (in_right o ∷ os)
  keeps_left true s b n fs o os h = h
  keeps_left false s b n fs o os h = h

  tracks_left : (n b : ℕ) (fs : List Frame) (o : Kind) (os : List Open) → Aligned fs (in_left o ∷ os) → Tracks (count_left I wid n b going fs) (in_right o ∷ os)
  tracks_left n b [] o os h = absurd h
  tracks_left n b (frame left s p ∷ fs) o os h = keeps_left (eqb n b) s p n fs o os h
  tracks_left n b (frame right s p ∷ fs) o os h = absurd h
  tracks_left n b (frame through s p ∷ fs) o os h = absurd h
  tracks_left n b (frame dead s p ∷ fs) o os h = absurd h

  tracks_left_shut : (n b : ℕ) (fs : List Frame) (o : Kind) (os : List Open)
      → Aligned fs (in_left o ∷ os)
      → Tracks (count_left I wid n b (shut 0) fs) (in_right o ∷ os)
  tracks_left_shut n b [] o os h = absurd h
  tracks_left_shut n b (frame left s p ∷ fs) o os h = h
  tracks_left_shut n b (frame right s p ∷ fs) o os h = absurd h
  tracks_left_shut n b (frame through s p ∷ fs) o os h = absurd h
  tracks_left_shut n b (frame dead s p ∷ fs) o os h = absurd h

  pub tracks_activate : (c : Count) (o : Kind) (os : List Open) → Tracks c (in_left o ∷ os) → Tracks (next c activate) (in_right o ∷ os)
  tracks_activate (ct n b going fs) o os h = tracks_left n b fs o os h
  tracks_activate (ct n b (shut zero) fs) o os h = tracks_left_shut n b fs o os h
  tracks_activate (ct n b (shut (suc m)) fs) o os h = h

  keeps_right : (t : Bool) (s b n : ℕ) (fs : List Frame) (os : List Open) → Aligned fs os → Tracks (count_keep_right I wid t s b n fs) os
  keeps_right true s b n fs os h = h
  keeps_right false s b n fs os h = h

  tracks_right : (n b : ℕ) (fs : List Frame) (o : Kind) (os : List Open) → Aligned fs (in_right o ∷ os) → Tracks (count_right I wid n b going fs) os
  tracks_right n b [] o os h = absurd h
  tracks_right n b (frame left s p ∷ fs) o os h = absurd h
  tracks_right n b (frame right s p ∷ fs) o os h = keeps_right (eqb n b) s p n fs os h
  tracks_right n b (frame through s p ∷ fs) o os h = h
  tracks_right n b (frame dead s p ∷ fs) o os h = h

  tracks_right_shut : (n b : ℕ) (fs : List Frame) (o : Kind) (os : List Open) → Aligned fs (in_right o ∷ os) → Tracks (count_right I wid n b (shut 0) fs) os
  tracks_right_shut n b [] o os h = absurd h
  tracks_right_shut n b (frame left s p ∷ fs) o os h = absurd h
  tracks_right_shut n b (frame right s p ∷ fs) o os h = keeps_right (eqb n b) s p n fs os h
  tracks_right_shut n b (frame through s p ∷ fs) o os h = h
  tracks_right_shut n b (frame dead s p ∷ fs) o os h = h

  pub tracks_pop : (c : Count) (o : Kind) (os : List Open) → Tracks c (in_right o ∷ os) → Tracks (next c pop) os
  tracks_pop (ct n b going fs) o os h = tracks_right n b fs o os h
  tracks_pop (ct n b (shut zero) fs) o os h = tracks_right_shut n b fs o os h
  tracks_pop (ct n b (shut (suc m)) fs) o os h = h
