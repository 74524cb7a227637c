-- Document 01, "Drawing" and "Cells": what stands on a side, and the stream of a side.
use Rattle.std.specs.Prelude.{Bool, true, false, List, [], ◌∷◌, ◌++◌, ℕ, ◌+◌}

-- "The top level and the right side of a group opened on a paint side are paint sides; all other sides of groups are clip sides."
pub data Kind : Type 0 where
  paint clip : Kind

-- a side, front first: empty; an item and what follows; a group, its left and right side, and what follows. The kind of a side is said by
-- whoever reads it.
pub data Side (A : Type 0) : Type 0 where
  end : Side A
  leaf : A → Side A → Side A
  group : Side A → Side A → Side A → Side A

-- an entry of a stream: an item, with the kind of the side that it stands on, or `(`, `|`, `)`
pub data Entry (A : Type 0) : Type 0 where
  item : Kind → A → Entry A
  push activate pop : Entry A

module _ {A : Type 0} where
  abbrev pub is_end : Side A → Bool
  is_end end = true
  is_end (leaf a t) = false
  is_end (group l r t) = false

  -- one side behind another
  abbrev pub append : Side A → Side A → Side A
  append end t = t
  append (leaf a s) t = leaf a (append s t)
  append (group l r s) t = group l r (append s t)

  -- "A stream holds one entry for each delimiter, each area ..."; the left side of a group is a clip side
  abbrev pub flat : Kind → Side A → List (Entry A)
  flat k end = []
  flat k (leaf a t) = item k a ∷ flat k t
  flat k (group l r t) = push ∷ (flat clip l ++ (activate ∷ (flat k r ++ (pop ∷ flat k t))))

  -- the number of entries
  abbrev pub size : Side A → ℕ
  size end = 0
  size (leaf a t) = 1 + size t
  size (group l r t) = 3 + (size l + (size r + size t))

-- each item in a smaller square
abbrev pub map_side : {A B : Type 0} → (A → B) → Side A → Side B
map_side f end = end
map_side f (leaf a t) = leaf (f a) (map_side f t)
map_side f (group l r t) = group (map_side f l) (map_side f r) (map_side f t)

abbrev pub map_entry : {A : Type 0} → (A → A) → Entry A → Entry A
map_entry f (item k a) = item k (f a)
map_entry f push = push
map_entry f activate = activate
map_entry f pop = pop
