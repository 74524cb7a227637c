-- Any elements are read, in one pass, for the shown set of what they say; the elements of a stream say that stream.
use mathlib.Core.Path.{◌≡◌, refl, sym, ap, ◌∙◌, fun_ext}
use mathlib.Core.Bool.{Bool, true}
use mathlib.Core.List.{List, [], ◌∷◌, ◌++◌, map}
use Prim.Native.Nat.{ℕ}
use lib.IntN.{ℤ, pos, ◌+ℤ◌, +ℤ_assoc, +ℤ_idr}
use Rattle.paint.specs.Sets.{with_area, with_areas, set_of}
use Rattle.pruning.specs.Sides.{Kind, paint, clip, Side, Entry, item, push, activate, pop, flat, map_side}
use Rattle.pruning.specs.Meaning.{shown}
use Rattle.pruning.specs.Grammar.{tree}
use Rattle.pruning.specs.Registers.{P, Registers, reg, out_of, on_item, on_push, on_activate, on_pop, moves, gathered}
use Rattle.pruning.proofs.Grammar.{tree_flat}
use Rattle.pruning.proofs.Registers.{clip_shows, registers}
use Rattle.pruning.proofs.Sides.{map_map}
use Rattle.pruning.proofs.Survivors.{normal_sub}
use Rattle.cells.specs.Cells.{Position, Cell, Holds}
use Rattle.cells.specs.Segments.{Segment, adds_at, sum_at}
use Rattle.cells.specs.Drawings.{Drawing, passes_by, is_opaque, shown_at}
use Rattle.cells.specs.Streams.{Item, always, area, number_of, Each, items, passes_in, opaque_in, within, whole, source, made, shown_in}
use Rattle.cells.proofs.Each.{each_sub, each_mapped}
use Rattle.cells.proofs.Streams.{made_normal, made_shown, source_shown}
use Rattle.cells.specs.Elements.{
  Element,
  opens,
  bar,
  closes,
  bare,
  named,
  segment,
  item_elements,
  elements_of,
  Decoded,
  dec,
  entries_of,
  decode_element,
  decode,
  stream_of,
  settled,
  waits,
  State,
  state,
  settle,
  add_to,
  on_elements,
  read_elements,
  OnSide,
  role_in,
  read_at,
  Fitted,
}

abbrev pub add_number : Item → ℕ → ℕ
add_number a set = with_area set (number_of a)

gathered_set : (l : List Item) (set : ℕ) → gathered add_number l set ≡ with_areas set (map number_of l)
gathered_set [] set = refl
gathered_set (a ∷ l) set = gathered_set l (with_area set (number_of a))

module _ (role : ℕ → Kind) (pass : ℕ → ℤ → Bool) (opaque : ℕ → Bool) (adds : Segment → ℤ) where
  -- the sum of what lines and shortcuts add
  abbrev pub total : List Segment → ℤ
  total [] = pos 0
  total (g ∷ gs) = adds g +ℤ total gs

  abbrev pub pass_item : Item → Bool
  pass_item always = true
  pass_item (area n z gs) = pass n (z +ℤ total gs)

  abbrev pub opaque_item : Item → Bool
  opaque_item always = true
  opaque_item (area n z gs) = opaque n

  abbrev end : State → Registers ℕ
  end = settle role pass opaque adds

  abbrev go : List Element → State → State
  go = on_elements role pass opaque adds

  abbrev mv : List (Entry Item) → Registers ℕ → Registers ℕ
  mv = moves pass_item opaque_item add_number

  -- the waiting area with the lines and shortcuts in front
  abbrev later : State → List Segment → State
  later (state r settled) gs = state r settled
  later (state r (waits n z)) gs = state r (waits n (z +ℤ total gs))

  later_none : (st : State) → end (later st []) ≡ end st
  later_none (state r settled) = refl
  later_none (state r (waits n z)) = ap (λ v. on_item (role n) (pass n v) (opaque n) (λ set. with_area set n) r) (+ℤ_idr z)

  later_more : (g : Segment) (st : State) (gs : List Segment) → later (add_to role pass opaque adds g st) gs ≡ later st (g ∷ gs)
  later_more g (state r settled) gs = refl
  later_more g (state r (waits n z)) gs = ap (λ v. state r (waits n v)) (+ℤ_assoc z (adds g) (total gs))

  abbrev Says : List Element → Decoded → Type 0
  Says ws (dec gs es) = (st : State) → end (go ws st) ≡ mv es (end (later st gs))

  element_says : (w : Element) (ws : List Element) (d : Decoded) → Says ws d → Says (w ∷ ws) (decode_element role w d)
  element_says opens ws (dec gs es) h = λ st. h (state (on_push (end st)) settled) ∙ ap (λ r. mv es (on_push r)) (sym (later_none st))
  element_says bar ws (dec gs es) h = λ st. h (state (on_activate (end st)) settled) ∙ ap (λ r. mv es (on_activate r)) (sym (later_none st))
  element_says closes ws (dec gs es) h = λ st. h (state (on_pop (end st)) settled) ∙ ap (λ r. mv es (on_pop r)) (sym (later_none st))
  element_says bare ws (dec gs es) h =
      λ st.
      h (state (on_item clip true true (λ set. set) (end st)) settled)
      ∙ (ap (mv es) (clip_shows true true true (λ set. set) (add_number always) (end st))
      ∙ ap (λ r. mv es (on_item clip true true (add_number always) r)) (sym (later_none st)))
  element_says (named n z) ws (dec gs es) h = λ st. h (state (end st) (waits n z))
      ∙ ap (λ r. mv es (on_item (role n) (pass n (z +ℤ total gs)) (opaque n) (λ set. with_area set n) r)) (sym (later_none st))
  element_says (segment g) ws (dec gs es) h = λ st. h (add_to role pass opaque adds g st) ∙ ap (λ x. mv es (end x)) (later_more g st gs)

  elements_say : (ws : List Element) → Says ws (decode role ws)
  elements_say [] = λ st. sym (later_none st)
  elements_say (w ∷ ws) = element_says w ws (decode role ws) (elements_say ws)

  read_by : (ws : List Element) (d : Decoded) → Says ws d → read_elements role pass opaque adds ws ≡ out_of (mv (entries_of d) (reg P 0 0 0))
  read_by ws (dec gs es) h = ap out_of (h (state (reg P 0 0 0) settled))

  -- any elements are read for what they say
  pub read_says : (ws : List Element) → read_elements role pass opaque adds ws ≡ out_of (mv (entries_of (decode role ws)) (reg P 0 0 0))
  read_says ws = read_by ws (decode role ws) (elements_say ws)

  -- so elements whose entries are a side's give the set of what the side shows
  pub read_side : (ws : List Element) (x : Side Item)
      → entries_of (decode role ws) ≡ flat paint x
      → read_elements role pass opaque adds ws ≡ set_of (map number_of (shown pass_item opaque_item x))
  read_side ws x e =
      read_says ws
      ∙ (ap (λ es. out_of (mv es (reg P 0 0 0))) e
      ∙ (registers pass_item opaque_item add_number x 0 ∙ gathered_set (shown pass_item opaque_item x) 0))

-- ---- the elements of a stream say that stream, where the roles fit the sides

module _ (role : ℕ → Kind) where
  decode_segments : (gs : List Segment) (ws : List Element) (es : List (Entry Item)) → decode role ws ≡ dec [] es
      → decode role (map segment gs ++ ws) ≡ dec gs es
  decode_segments [] ws es e = e
  decode_segments (g ∷ gs) ws es e = rw (decode_segments gs ws es e)

  decode_item : (k : Kind) (a : Item) (ws : List Element) (es : List (Entry Item))
      → OnSide role k a
      → decode role ws ≡ dec [] es
      → decode role (item_elements a ++ ws) ≡ dec [] (item k a ∷ es)
  decode_item paint always ws es h e = absurd h
  decode_item clip always ws es h e = rw e
  decode_item k (area n z gs) ws es h e = rw (decode_segments gs ws es e, h)

  pub decode_elements : (es : List (Entry Item)) → Each (OnSide role) es → decode role (elements_of es) ≡ dec [] es
  decode_elements [] h = refl
  decode_elements (item k a ∷ es) h = decode_item k a (elements_of es) es h.0 (decode_elements es h.1)
  decode_elements (push ∷ es) h = rw (decode_elements es h)
  decode_elements (activate ∷ es) h = rw (decode_elements es h)
  decode_elements (pop ∷ es) h = rw (decode_elements es h)

  pub elements_back : (x : Side Item) → Each (OnSide role) (flat paint x) → stream_of role (elements_of (flat paint x)) ≡ x
  elements_back x h = ap (λ d. tree (entries_of d)) (decode_elements (flat paint x) h) ∙ tree_flat x

-- ---- of a drawing

module _ (D : Drawing) where
  total_sum : (p : Position) (gs : List Segment) → total (role_in D) (passes_by D) (is_opaque D) (adds_at D.xs D.ys p) gs ≡ sum_at D.xs D.ys p gs
  total_sum p [] = refl
  total_sum p (g ∷ gs) = ap (λ z. adds_at D.xs D.ys p g +ℤ z) (total_sum p gs)

  pass_same : (p : Position) (a : Item) → pass_item (role_in D) (passes_by D) (is_opaque D) (adds_at D.xs D.ys p) a ≡ passes_in D p a
  pass_same p always = refl
  pass_same p (area n z gs) = ap (λ v. passes_by D n (z +ℤ v)) (total_sum p gs)

  opaque_same : (p : Position) (a : Item) → opaque_item (role_in D) (passes_by D) (is_opaque D) (adds_at D.xs D.ys p) a ≡ opaque_in D a
  opaque_same p always = refl
  opaque_same p (area n z gs) = refl

  -- elements whose entries are those of a stream, read at a position: the set that the stream shows
  pub side_read : (p : Position) (ws : List Element) (x : Side Item) → entries_of (decode (role_in D) ws) ≡ flat paint x → read_at D p ws
      ≡ set_of (shown_in D p x)
  side_read p ws x h =
      read_side (role_in D) (passes_by D) (is_opaque D) (adds_at D.xs D.ys p) ws x h
      ∙ (ap (λ f. set_of (map number_of (shown f (opaque_item (role_in D) (passes_by D) (is_opaque D) (adds_at D.xs D.ys p)) x))) (fun_ext (pass_same p))
      ∙ ap (λ f. set_of (map number_of (shown (passes_in D p) f x))) (fun_ext (opaque_same p)))

  -- the elements of a stream whose areas stand on sides of their roles
  pub elements_read : (p : Position) (x : Side Item) → Each (OnSide (role_in D)) (flat paint x) → read_at D p (elements_of (flat paint x))
      ≡ set_of (shown_in D p x)
  elements_read p x h = side_read p (elements_of (flat paint x)) x (ap entries_of (decode_elements (role_in D) (flat paint x) h))

  pub made_on_side : Fitted D → (c : Cell) → Each (OnSide (role_in D)) (flat paint (made D c (source D)))
  made_on_side f c =
      rw (made_normal D c (source D))
      (each_sub (items D) (OnSide (role_in D)) tt (normal_sub (items D) paint (map_side (within D c) (source D)))
      (rw (map_map (whole D) (within D c) D.plan)
      (each_mapped (λ k n. role_in D n ≡ k) (OnSide (role_in D)) (λ n. within D c (whole D n)) (λ k n e. stands k n e) paint D.plan f)))
    where
      stands : (k : Kind) (n : ℕ) → role_in D n ≡ k → OnSide (role_in D) k (within D c (whole D n))
      stands paint n e = e
      stands clip n e = e

  -- the elements of a cell's stream, read in one pass at any position of the cell, give the set that the drawing shows there
  pub cell_read : Fitted D → (c : Cell) (p : Position) → Holds c p → read_at D p (elements_of (flat paint (made D c (source D)))) ≡ set_of (shown_at D p)
  cell_read f c p i = elements_read p (made D c (source D)) (made_on_side f c) ∙ ap set_of (made_shown D c p i (source D) ∙ source_shown D p)
