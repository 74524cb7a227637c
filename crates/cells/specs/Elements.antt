-- A stream as elements, one for each entry of a table, what any elements say, and the reading of elements in one pass.
-- The word is document 000's: "elements in the stream".
use Rattle.std.specs.Prelude.{◌≡◌, Bool, true, List, [], ◌∷◌, ◌++◌, map, ℕ, ℤ, ◌+ℤ◌}
use Rattle.paint.specs.Sets.{with_area}
use Rattle.pruning.specs.Sides.{Kind, paint, clip, Side, Entry, item, push, activate, pop}
use Rattle.pruning.specs.Grammar.{tree}
use Rattle.pruning.specs.Registers.{P, Registers, reg, out_of, on_item, on_push, on_activate, on_pop}
use Rattle.cells.specs.Cells.{Position}
use Rattle.cells.specs.Segments.{Segment, adds_at}
use Rattle.cells.specs.Drawings.{Drawing, fields_of, kind_of, passes_by, is_opaque}
use Rattle.cells.specs.Streams.{Item, always, area, On}

-- "A stream holds one entry for each delimiter, each area (with its start number), line and shortcut": `(`, `|`, `)`, an area, one of its lines and
-- shortcuts, and the bare "passes"
pub data Element : Type 0 where
  opens bar closes bare : Element
  named : (number : ℕ) (start : ℤ) → Element
  segment : Segment → Element

abbrev pub item_elements : Item → List Element
item_elements always = bare ∷ []
item_elements (area n z gs) = named n z ∷ map segment gs

abbrev pub entry_elements : Entry Item → List Element
entry_elements (item k a) = item_elements a
entry_elements push = opens ∷ []
entry_elements activate = bar ∷ []
entry_elements pop = closes ∷ []

abbrev pub elements_of : List (Entry Item) → List Element
elements_of [] = []
elements_of (e ∷ es) = entry_elements e ++ elements_of es

-- elements, read from the back: lines and shortcuts that still want their area, and the entries behind them
pub data Decoded : Type 0 where
  dec : List Segment → List (Entry Item) → Decoded

abbrev pub entries_of : Decoded → List (Entry Item)
entries_of (dec gs es) = es

-- the side on which an area stands is told by its role
module _ (role : ℕ → Kind) where
  abbrev pub decode_element : Element → Decoded → Decoded
  decode_element opens (dec gs es) = dec [] (push ∷ es)
  decode_element bar (dec gs es) = dec [] (activate ∷ es)
  decode_element closes (dec gs es) = dec [] (pop ∷ es)
  decode_element bare (dec gs es) = dec [] (item clip always ∷ es)
  decode_element (named n z) (dec gs es) = dec [] (item (role n) (area n z gs) ∷ es)
  decode_element (segment g) (dec gs es) = dec (g ∷ gs) es

  abbrev pub decode : List Element → Decoded
  decode [] = dec [] []
  decode (w ∷ ws) = decode_element w (decode ws)

  -- "Tables that pass 12 but were written by others are read for what they say."
  abbrev pub stream_of : List Element → Side Item
  stream_of ws = tree (entries_of (decode ws))

  -- an area stands on a side of its role; "passes" stands where a clip area may
  abbrev pub OnSide : Kind → Item → Type 0
  OnSide paint always = ⊥
  OnSide clip always = Unit {0}
  OnSide k (area n z gs) = role n ≡ k

-- an area waits, with its sum so far, until its lines and shortcuts are read
pub data Pending : Type 0 where
  settled : Pending
  waits : ℕ → ℤ → Pending

pub data State : Type 0 where
  state : Registers ℕ → Pending → State

-- an area's role, whether it passes with a winding, whether it has alpha 255; what a line or shortcut adds
module _ (role : ℕ → Kind) (pass : ℕ → ℤ → Bool) (opaque : ℕ → Bool) (adds : Segment → ℤ) where
  abbrev pub settle : State → Registers ℕ
  settle (state r settled) = r
  settle (state r (waits n z)) = on_item (role n) (pass n z) (opaque n) (λ set. with_area set n) r

  abbrev pub add_to : Segment → State → State
  add_to g (state r settled) = state r settled
  add_to g (state r (waits n z)) = state r (waits n (z +ℤ adds g))

  -- "the machine's move is decided by state, kind of entry and depth"
  abbrev pub on_element : Element → State → State
  on_element opens st = state (on_push (settle st)) settled
  on_element bar st = state (on_activate (settle st)) settled
  on_element closes st = state (on_pop (settle st)) settled
  on_element bare st = state (on_item clip true true (λ set. set) (settle st)) settled
  on_element (named n z) st = state (settle st) (waits n z)
  on_element (segment g) st = add_to g st

  abbrev pub on_elements : List Element → State → State
  on_elements [] st = st
  on_elements (w ∷ ws) st = on_elements ws (on_element w st)

  -- the shown set, begun in P with no group open
  abbrev pub read_elements : List Element → ℕ
  read_elements ws = out_of (settle (on_elements ws (state (reg P 0 0 0) settled)))

module _ (D : Drawing) where
  abbrev pub role_in : ℕ → Kind
  role_in n = kind_of (fields_of D n).role

  -- the set that elements show at a position, with the areas and corners of a drawing
  abbrev pub read_at : Position → List Element → ℕ
  read_at p = read_elements role_in (passes_by D) (is_opaque D) (adds_at D.xs D.ys p)

  -- "An area's role fits its side."
  abbrev pub Fitted : Type 0
  Fitted = On (λ k n. role_in n ≡ k) paint D.plan
