-- The grammar of a stream's delimiters and sides, tested from the front, and the tree of a stream, built from the back.
use Rattle.std.specs.Prelude.{Bool, true, false, ◌&&◌, List, [], ◌∷◌}
use Rattle.pruning.specs.Sides.{Kind, paint, clip, Side, end, leaf, group, Entry, item, push, activate, pop}

-- an open group: which of its sides is being read, and the kind of the side that it stands on
pub data Open : Type 0 where
  in_left in_right : Kind → Open

abbrev pub same_kind : Kind → Kind → Bool
same_kind paint paint = true
same_kind paint clip = false
same_kind clip paint = false
same_kind clip clip = true

-- a group read from the back: its right side is being read and what follows it is known; its left side is being read and both are known
pub data Pending (A : Type 0) : Type 0 where
  inside : Side A → Pending A
  before : Side A → Side A → Pending A

-- the side read so far, and the groups around it
pub data Built (A : Type 0) : Type 0 where
  built : Side A → List (Pending A) → Built A

module _ {A : Type 0} where
  -- the entries may stand here, on a side of this kind with these groups open: "`|` fits on the left side of the innermost open group, `)` on
  -- its right"; an item stands on a side of its kind; no group is open at the end
  abbrev pub fits : List (Entry A) → Kind → List Open → Bool
  fits [] k [] = true
  fits [] k (o ∷ os) = false
  fits (item j a ∷ es) k os = same_kind j k && fits es k os
  fits (push ∷ es) k os = fits es clip (in_left k ∷ os)
  fits (activate ∷ es) k [] = false
  fits (activate ∷ es) k (in_left o ∷ os) = fits es o (in_right o ∷ os)
  fits (activate ∷ es) k (in_right o ∷ os) = false
  fits (pop ∷ es) k [] = false
  fits (pop ∷ es) k (in_left o ∷ os) = false
  fits (pop ∷ es) k (in_right o ∷ os) = fits es o os

  -- one entry more in front
  abbrev pub back : Entry A → Built A → Built A
  back (item k a) (built s ps) = built (leaf a s) ps
  back push (built l []) = built l []
  back push (built l (inside t ∷ ps)) = built l (inside t ∷ ps)
  back push (built l (before r t ∷ ps)) = built (group l r t) ps
  back activate (built r []) = built r []
  back activate (built r (inside t ∷ ps)) = built end (before r t ∷ ps)
  back activate (built r (before s t ∷ ps)) = built r (before s t ∷ ps)
  back pop (built t ps) = built end (inside t ∷ ps)

  abbrev pub build : List (Entry A) → Built A
  build [] = built end []
  build (e ∷ es) = back e (build es)

  abbrev pub side_of : Built A → Side A
  side_of (built s ps) = s

  -- the tree of a stream
  abbrev pub tree : List (Entry A) → Side A
  tree es = side_of (build es)
