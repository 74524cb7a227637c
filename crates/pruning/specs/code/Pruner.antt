-- A pruner that reads a stream once: a frame for each open group, and an output that may be cut back to where a side or a group begins.
-- What an entry is written as is a parameter, one element or more. `Rattle.pruning.proofs.Pruner` says that it writes the pruned stream.
use Rattle.std.specs.Prelude.{Bool, true, false, List, [], ◌∷◌, ◌++◌, ℕ, suc, zero, eqb, length, take}
use Rattle.pruning.specs.Sides.{Kind, paint, clip, Side, end, leaf, group, Entry, item, push, activate, pop}
use Rattle.pruning.specs.Items.{Items, Class, fails, passes, other}

-- the mode of an open group: on its left side; on its right, kept; on its right, its left always passes; its left is empty
pub data Place : Type 0 where
  left right through dead : Place

-- an open group: its mode, the output's length at its `(` (not needed any more where its left side always passes or is empty: then as the next), where
-- the side around it begins
pub data Frame : Type 0 where
  frame : Place → ℕ → ℕ → Frame

-- the side is read on, or skipped, with so many groups opened on the way
pub data Skip : Type 0 where
  going : Skip
  shut : ℕ → Skip

-- the output, where the side begins in it, what is skipped, the open groups
pub data State (Element : Type 0) : Type 0 where
  st : List Element → ℕ → Skip → List Frame → State Element

module _ (I : Items) (Element : Type 0) (enc : Entry I.Item → List Element) where
  open I use {Item, class, bare}

  -- a side as elements
  abbrev pub elements : Kind → Side Item → List Element
  elements k end = []
  elements k (leaf a t) = enc (item k a) ++ elements k t
  elements k (group l r t) = enc push ++ (elements clip l ++ (enc activate ++ (elements k r ++ (enc pop ++ elements k t))))

  -- which is its stream, each entry written out
  abbrev pub written : List (Entry Item) → List Element
  written [] = []
  written (e ∷ es) = enc e ++ written es

  abbrev pub add_passes : Kind → Item → List Element → ℕ → List Frame → State Element
  add_passes paint a out base fs = st (out ++ enc (item paint a)) base (shut 0) fs
  add_passes clip a out base fs = st (take base out ++ enc (item clip bare)) base (shut 0) fs

  abbrev pub add_item : Kind → Class → Item → List Element → ℕ → List Frame → State Element
  add_item k fails a out base fs = st out base going fs
  add_item k passes a out base fs = add_passes k a out base fs
  add_item k other a out base fs = st (out ++ enc (item k a)) base going fs

  abbrev pub keep_left : Bool → ℕ → ℕ → List Element → List Frame → State Element
  keep_left true start outer out fs = st (take start out) outer (shut 0) (frame dead outer outer ∷ fs)
  keep_left false start outer out fs = st (out ++ enc activate) (length (out ++ enc activate)) going (frame right start outer ∷ fs)

  -- at `|`
  abbrev pub end_left : List Element → ℕ → Skip → List Frame → State Element
  end_left out base w [] = st out base w []
  end_left out base going (frame left start outer ∷ fs) = keep_left (eqb (length out) base) start outer out fs
  end_left out base (shut n) (frame left start outer ∷ fs) = st (take start out) outer going (frame through outer outer ∷ fs)
  end_left out base w (frame right start outer ∷ fs) = st out base w (frame right start outer ∷ fs)
  end_left out base w (frame through start outer ∷ fs) = st out base w (frame through start outer ∷ fs)
  end_left out base w (frame dead start outer ∷ fs) = st out base w (frame dead start outer ∷ fs)

  abbrev pub keep_right : Bool → ℕ → ℕ → List Element → List Frame → State Element
  keep_right true start outer out fs = st (take start out) outer going fs
  keep_right false start outer out fs = st (out ++ enc pop) outer going fs

  -- at `)`
  abbrev pub end_right : List Element → ℕ → Skip → List Frame → State Element
  end_right out base w [] = st out base w []
  end_right out base w (frame left start outer ∷ fs) = st out base w (frame left start outer ∷ fs)
  end_right out base w (frame right start outer ∷ fs) = keep_right (eqb (length out) base) start outer out fs
  end_right out base w (frame through start outer ∷ fs) = st out base w fs
  end_right out base w (frame dead start outer ∷ fs) = st out outer going fs

  abbrev pub step : State Element → Entry Item → State Element
  step (st out base going fs) (item k a) = add_item k (class k a) a out base fs
  step (st out base going fs) push = st (out ++ enc push) (length (out ++ enc push)) going (frame left (length out) base ∷ fs)
  step (st out base going fs) activate = end_left out base going fs
  step (st out base going fs) pop = end_right out base going fs
  step (st out base (shut n) fs) (item k a) = st out base (shut n) fs
  step (st out base (shut n) fs) push = st out base (shut (suc n)) fs
  step (st out base (shut zero) fs) activate = end_left out base (shut zero) fs
  step (st out base (shut zero) fs) pop = end_right out base (shut zero) fs
  step (st out base (shut (suc n)) fs) activate = st out base (shut (suc n)) fs
  step (st out base (shut (suc n)) fs) pop = st out base (shut n) fs

  abbrev pub run : List (Entry Item) → State Element → State Element
  run [] s = s
  run (e ∷ es) s = run es (step s e)

  abbrev pub skip_of : Bool → Skip
  skip_of true = shut 0
  skip_of false = going
