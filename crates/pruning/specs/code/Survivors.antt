-- What pruning may leave of a stream.
use Rattle.std.specs.Prelude.{◌≡◌, List, [], ◌∷◌}
use Rattle.pruning.specs.Sides.{clip, Entry, item}
use Rattle.pruning.specs.Items.{Items, passes}

module _ (I : Items) where
  open I use {Item, class, bare}

  -- some entries of a stream, in their order and unchanged, but that "C1 becomes a bare entry"
  pub data Sub : List (Entry Item) → List (Entry Item) → Type 0 where
    nothing : Sub [] []
    drops : {e : Entry Item} {xs ys : List (Entry Item)} → Sub xs ys → Sub xs (e ∷ ys)
    keeps : {e : Entry Item} {xs ys : List (Entry Item)} → Sub xs ys → Sub (e ∷ xs) (e ∷ ys)
    bares : {a : Item} {xs ys : List (Entry Item)} → class clip a ≡ passes → Sub xs ys → Sub (item clip bare ∷ xs) (item clip a ∷ ys)
