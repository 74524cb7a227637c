-- Document 01, "Cells": the stream of a cell, and what is read from it.
use Rattle.std.specs.Prelude.{◌≡◌, refl, Bool, true, cond, List, [], ◌∷◌, map, ℕ, get_or, ℤ, pos, ◌+ℤ◌}
use Rattle.geometry.specs.Windings.{lines_of}
use Rattle.pruning.specs.Sides.{Kind, paint, clip, Side, end, leaf, group, Entry, item, push, activate, pop, flat, map_side}
use Rattle.pruning.specs.Items.{Class, fails, passes, other, Items}
use Rattle.pruning.specs.Meaning.{shown}
use Rattle.pruning.specs.Machine.{scan, processing}
use Rattle.pruning.specs.Order.{pruned}
use Rattle.cells.specs.Cells.{Position, Cell, Holds, Quarter, child}
use Rattle.cells.specs.Segments.{Segment, drawn, sum_at, kept_in, start_in}
use Rattle.cells.specs.Drawings.{Drawing, winding, passes_by, is_opaque, shown_at}

-- "A stream holds one entry for each delimiter, each area (with its start number), line and shortcut"; "a bare entry "passes", with no area
-- number"
pub data Item : Type 0 where
  always : Item
  area : (number : ℕ) (start : ℤ) → List Segment → Item

-- an area's number; 64 is no area's
abbrev pub number_of : Item → ℕ
number_of always = 64
number_of (area n z gs) = n

-- what holds of each item of a stream, with the kind of the side that it stands on
module _ {A : Type 0} (P : Kind → A → Type 0) where
  abbrev pub Each : List (Entry A) → Type 0
  Each [] = Unit {0}
  Each (item k a ∷ es) = P k a × Each es
  Each (push ∷ es) = Each es
  Each (activate ∷ es) = Each es
  Each (pop ∷ es) = Each es

-- the same of each item of a side
abbrev pub On : {A : Type 0} → (Kind → A → Type 0) → Kind → Side A → Type 0
On Q k end = Unit {0}
On Q k (leaf a t) = Q k a × On Q k t
On Q k (group l r t) = On Q clip l × On Q k r × On Q k t

module _ (D : Drawing) where
  -- "F0, C0, F1, C1 are areas with no line or shortcut, whose start number fails or passes; F1 also has alpha 255."
  -- Nor has one a curve, document 02: "In cells, streams, their grammar and pruning a curve goes as an edge or line does".
  abbrev pub passing : Kind → ℕ → Class
  passing paint n = cond (is_opaque D n) passes other
  passing clip n = passes

  abbrev pub class_of : Kind → Item → Class
  class_of k always = passes
  class_of k (area n z []) = cond (passes_by D n z) (passing k n) fails
  class_of k (area n z (g ∷ gs)) = other

  abbrev pub items : Items
  items = record { Item = Item; class = class_of; bare = always; bare_passes = refl }

  -- "An area's winding in it at (x, y) is its start number, plus the sign of each of its shortcuts with row y, plus +1 or −1 for each of its
  -- kept lines that counts there." ""passes" being a clip area that passes"
  abbrev pub passes_in : Position → Item → Bool
  passes_in p always = true
  passes_in p (area n z gs) = passes_by D n (z +ℤ sum_at D.xs D.ys p gs)

  abbrev pub opaque_in : Item → Bool
  opaque_in always = true
  opaque_in (area n z gs) = is_opaque D n

  -- an area in a cell
  abbrev pub within : Cell → Item → Item
  within c always = always
  within c (area n z gs) = area n (start_in D.xs D.ys c z gs) (kept_in D.xs D.ys c gs)

  -- "each area, then its edges, contour by contour, corner to next corner, the closing edge last of its contour"
  abbrev pub whole : ℕ → Item
  whole n = area n (pos 0) (map drawn (lines_of (get_or D.contours n [])))

  abbrev pub source : Side Item
  source = map_side whole D.plan

  -- a stream made from another by the rule of cells and pruned: cell 0's from the drawing, "A child is made from its parent's stream"
  abbrev pub made : Cell → Side Item → Side Item
  made c x = pruned items (map_side (within c) x)

  -- what is read from a stream at a position, by the meaning and by the machine
  abbrev pub shown_in : Position → Side Item → List ℕ
  shown_in p x = map number_of (shown (passes_in p) opaque_in x)

  abbrev pub read_in : Position → Side Item → List ℕ
  read_in p x = map number_of (scan (passes_in p) opaque_in (flat paint x) processing 0)

  -- the winding of an area of a stream is the drawing's, at each position of the cell
  abbrev pub Winds : Cell → Kind → Item → Type 0
  Winds c k always = Unit {0}
  Winds c k (area n z gs) = (p : Position) → Holds c p → z +ℤ sum_at D.xs D.ys p gs ≡ winding D n p

  -- the cells that splits lead to from a cell with a stream, each with its own stream
  pub data Reached (c : Cell) (x : Side Item) : Cell → Side Item → Type 0 where
    here : Reached c x c x
    down : {d : Cell} {y : Side Item} → Reached c x d y → (q : Quarter) → Reached c x (child d q) (made (child d q) y)

  -- demand 3 of one cell: its stream is made from the drawing; each area that it names has the winding of the whole drawing at every position of the
  -- cell; what is read there is what the drawing shows
  pub record Right (c : Cell) (y : Side Item) : Type 0 where
    pub stream : y ≡ made c source
    pub windings : Each (Winds c) (flat paint y)
    pub reading : (p : Position) → Holds c p → read_in p y ≡ shown_at D p
