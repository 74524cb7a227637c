-- A stream made from another in one pass, element by element: an area waits, with its start number and what is left of its lines and shortcuts, until the
-- next element that is none of these, and then goes to the pruner.
use Rattle.std.specs.Prelude.{List, [], ◌∷◌, ◌++◌, ℕ, ℤ}
use Rattle.pruning.specs.Sides.{clip, Entry, item, push, activate, pop}
use Rattle.pruning.specs.code.Pruner as Pruner
use Rattle.pruning.specs.code.Pruner.{st, going}
use Rattle.pruning.specs.code.Effects.{out_of}
use Rattle.cells.specs.Cells.{Cell}
use Rattle.cells.specs.Segments.{Segment, drawn, shortcut, class_in, kept_by, start_by}
use Rattle.cells.specs.Drawings.{Drawing}
use Rattle.cells.specs.Streams.{Item, always, area, items}
use Rattle.cells.specs.Elements.{Element, opens, bar, closes, bare, named, segment, entry_elements, role_in}

-- the area that waits: its number, its start number so far, its lines and shortcuts that are left so far
pub data Waiting : Type 0 where
  nothing : Waiting
  held : ℕ → ℤ → List Segment → Waiting

-- the pruner's state, and what waits
pub data Making : Type 0 where
  making : Pruner.State Element → Waiting → Making

module _ (D : Drawing) (c : Cell) where
  abbrev pub prune : Pruner.State Element → Entry Item → Pruner.State Element
  prune x e = Pruner.step (items D) Element entry_elements x e

  abbrev pub settle : Making → Pruner.State Element
  settle (making x nothing) = x
  settle (making x (held n z gs)) = prune x (item (role_in D n) (area n z gs))

  -- "dropped"; "its sign is added to the area's start number"; "a shortcut with its sign and those rows"; "kept as a line"
  abbrev pub add_to : Segment → Making → Making
  add_to g (making x nothing) = making x nothing
  add_to g (making x (held n z gs)) =
      making x (held n (start_by D.xs D.ys (class_in D.xs D.ys c g) g z) (gs ++ kept_by D.xs D.ys (class_in D.xs D.ys c g) g []))

  abbrev pub on_element : Element → Making → Making
  on_element opens m = making (prune (settle m) push) nothing
  on_element bar m = making (prune (settle m) activate) nothing
  on_element closes m = making (prune (settle m) pop) nothing
  on_element bare m = making (prune (settle m) (item clip always)) nothing
  on_element (named n z) m = making (settle m) (held n z [])
  on_element (segment g) m = add_to g m

  abbrev pub on_elements : List Element → Making → Making
  on_elements [] m = m
  on_elements (w ∷ ws) m = on_elements ws (on_element w m)

  abbrev pub begun : Making
  begun = making (st [] 0 going []) nothing

  -- the elements that are made of elements
  abbrev pub made_elements : List Element → List Element
  made_elements ws = out_of (settle (on_elements ws begun))

-- an element in one number: 1 for the element, 65,536 for a line, 4,294,967,296 for an area
abbrev pub element_size : Element → ℕ
element_size opens = 1
element_size bar = 1
element_size closes = 1
element_size bare = 1
element_size (named n z) = 4294967297
element_size (segment (drawn l)) = 65537
element_size (segment (shortcut z lo hi)) = 1
