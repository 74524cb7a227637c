-- The words of elements say those elements; so a cell's stream, in tables that hold the drawing, is read for the set that the drawing shows.
use mathlib.Core.Path.{◌≡◌, refl, ap, ◌∙◌}
use mathlib.Core.List.{List, [], ◌∷◌, ◌++◌, map}
use Prim.Native.Nat.{ℕ, ◌≤◌}
use native.Mathlib.Omega.{arith}
use lib.ListN.{length, get_or}
use lib.IntN.{ℤ, nat_abs}
use mir.Val.{SFits}
use mir.Syntax.{w32}
use mir.ValLaws.{to_z-of_z}
use Rattle.laws.proofs.Differences.{mag_abs}
use Rattle.geometry.specs.Windings.{line, curve, lines_of}
use Rattle.paint.specs.Sets.{set_of}
use Rattle.pruning.specs.Sides.{Kind, paint, Entry, item, push, activate, pop, flat, map_side}
use Rattle.pruning.specs.Registers.{P, Registers, reg, out_of, on_push, on_activate, on_pop}
use Rattle.stream.specs.Entry.{decode}
use Rattle.cells.specs.Cells.{Position, at, Cell, Holds}
use Rattle.cells.specs.Segments.{Segment, drawn, shortcut, adds_at}
use Rattle.cells.specs.Drawings.{Drawing, passes_by, is_opaque, shown_at}
use Rattle.pruning.proofs.Sides.{map_map}
use Rattle.pruning.proofs.Survivors.{normal_sub}
use Rattle.cells.specs.Streams.{Item, always, area, Each, On, items, within, whole, source, made}
use Rattle.cells.specs.code.Sizes.{SignsIn, Small}
use Rattle.cells.specs.Elements.{
  Element,
  opens,
  bar,
  closes,
  bare,
  named,
  segment,
  elements_of,
  settled,
  waits,
  State,
  state,
  settle,
  add_to,
  on_element,
  on_elements,
  read_elements,
  role_in,
  read_at,
  Fitted,
}
use Rattle.cells.proofs.Each.{each_sub, each_mapped}
use Rattle.cells.proofs.Streams.{made_normal}
use Rattle.cells.proofs.Bounds.{made_small}
use Rattle.cells.proofs.Elements.{cell_read}
use Rattle.evaluate.specs.Reading.{element_for, elements_in, role_at, pass_at, opaque_at, set_at}
use Rattle.evaluate.specs.Words.{words_of, ElementFits, EachFits, Agrees, EachAgrees}

-- ---- there and back

element_back : (w : Element) (ws : List Element) → ElementFits w → element_for (decode (words_of w)) ws ≡ w ∷ ws
element_back opens ws h = refl
element_back bar ws h = refl
element_back closes ws h = refl
element_back bare ws h = refl
element_back (named n z) ws h = rw (to_z-of_z w32 z h)
element_back (segment (drawn (line a b))) ws h = refl
element_back (segment (drawn (curve a))) ws h = refl
element_back (segment (shortcut z lo hi)) ws h = rw (to_z-of_z w32 z h)

pub elements_back : (ws : List Element) → EachFits ws → elements_in (map words_of ws) ≡ ws
unfolding elements_in
elements_back [] h = refl
elements_back (w ∷ ws) h = ap (element_for (decode (words_of w))) (elements_back ws h.1) ∙ element_back w ws h.0

-- ---- tables that hold the drawing

module _ (areas : List ℕ) (D : Drawing) (f : Segment → ℤ) where
  -- the waiting area is one on which they agree
  abbrev AgreesOn : State → Type 0
  AgreesOn (state r settled) = Unit {0}
  AgreesOn (state r (waits n z)) = Agrees areas D n

  settle_same : (st : State) → AgreesOn st → settle (role_at areas) (pass_at areas) (opaque_at areas) f st ≡ settle (role_in D) (passes_by D) (is_opaque D) f st
  settle_same (state r settled) a = refl
  settle_same (state r (waits n z)) a = rw (a.role, a.pass z, a.opaque)

  abbrev end : State → Registers ℕ
  end = settle (role_in D) (passes_by D) (is_opaque D) f

  read_same : (ws : List Element) (st : State) → AgreesOn st → EachAgrees areas D ws
      → settle (role_at areas) (pass_at areas) (opaque_at areas) f (on_elements (role_at areas) (pass_at areas) (opaque_at areas) f ws st)
      ≡ end (on_elements (role_in D) (passes_by D) (is_opaque D) f ws st)
  read_same [] st a e = settle_same st a
  read_same (opens ∷ ws) st a e = rw (settle_same st a) (read_same ws (state (on_push (end st)) settled) tt e)
  read_same (bar ∷ ws) st a e = rw (settle_same st a) (read_same ws (state (on_activate (end st)) settled) tt e)
  read_same (closes ∷ ws) st a e = rw (settle_same st a) (read_same ws (state (on_pop (end st)) settled) tt e)
  read_same (bare ∷ ws) st a e = rw (settle_same st a) (read_same ws (on_element (role_in D) (passes_by D) (is_opaque D) f bare st) tt e)
  read_same (named n z ∷ ws) st a e = rw (settle_same st a) (read_same ws (state (end st) (waits n z)) e.0 e.1)
  read_same (segment g ∷ ws) (state r settled) a e = read_same ws (state r settled) tt e
  read_same (segment g ∷ ws) (state r (waits n z)) a e = read_same ws (add_to (role_in D) (passes_by D) (is_opaque D) f g (state r (waits n z))) a e

-- elements on whose areas the tables and the drawing agree show the same set with both
pub agreed_read : (areas : List ℕ) (D : Drawing) (p : Position) (ws : List Element) → EachAgrees areas D ws
    → read_elements (role_at areas) (pass_at areas) (opaque_at areas) (adds_at D.xs D.ys p) ws ≡ read_at D p ws
agreed_read areas D p ws e = ap out_of (read_same areas D (adds_at D.xs D.ys p) ws (state (reg P 0 0 0) settled) tt e)

-- the words of elements, read in the tables at a position, give the set that the elements show with the drawing
pub words_read : (areas : List ℕ) (D : Drawing) (x y : ℕ) (ws : List Element)
    → EachFits ws
    → EachAgrees areas D ws
    → set_at areas D.xs D.ys x y (map words_of ws) ≡ read_at D (at x y) ws
unfolding set_at
words_read areas D x y ws h e =
    ap (read_elements (role_at areas) (pass_at areas) (opaque_at areas) (adds_at D.xs D.ys (at x y))) (elements_back ws h)
    ∙ agreed_read areas D (at x y) ws e

-- ---- the elements of a cell's stream

small_fits : (z : ℤ) (m : ℕ) → nat_abs z ≤ m → m ≤ 2048 → SFits w32 z
small_fits z m h k = record { sfits = mag_abs z (omega arith) }

fits_append : (x y : List Element) → EachFits x → EachFits y → EachFits (x ++ y)
fits_append [] y h g = g
fits_append (w ∷ x) y h g = (h.0, fits_append x y h.1 g)

fits_segments : (xs ys : List ℕ) (gs : List Segment) → SignsIn xs ys gs → EachFits (map segment gs)
fits_segments xs ys [] s = tt
fits_segments xs ys (drawn l ∷ gs) s = (tt, fits_segments xs ys gs s.1)
fits_segments xs ys (shortcut z lo hi ∷ gs) s = (small_fits z 1 s.0 (omega arith), fits_segments xs ys gs s.1)

pub fits_elements : (D : Drawing) (es : List (Entry Item)) → Each (Small D 2048) es → EachFits (elements_of es)
fits_elements D [] h = tt
fits_elements D (item k always ∷ es) h = (tt, fits_elements D es h.1)
fits_elements D (item k (area n z gs) ∷ es) h = (
  small_fits z 2048 (omega (arith, h.0.0)) (omega arith),
  fits_append (map segment gs) (elements_of es) (fits_segments D.xs D.ys gs h.0.1) (fits_elements D es h.1),
)
fits_elements D (push ∷ es) h = (tt, fits_elements D es h)
fits_elements D (activate ∷ es) h = (tt, fits_elements D es h)
fits_elements D (pop ∷ es) h = (tt, fits_elements D es h)

module _ (areas : List ℕ) (D : Drawing) where
  abbrev AgreesIn : Kind → Item → Type 0
  AgreesIn k always = Unit {0}
  AgreesIn k (area n z gs) = Agrees areas D n

  agrees_segments : (gs : List Segment) (ws : List Element) → EachAgrees areas D ws → EachAgrees areas D (map segment gs ++ ws)
  agrees_segments [] ws e = e
  agrees_segments (g ∷ gs) ws e = agrees_segments gs ws e

  agrees_elements : (es : List (Entry Item)) → Each AgreesIn es → EachAgrees areas D (elements_of es)
  agrees_elements [] h = tt
  agrees_elements (item k always ∷ es) h = agrees_elements es h.1
  agrees_elements (item k (area n z gs) ∷ es) h = (h.0, agrees_segments gs (elements_of es) (agrees_elements es h.1))
  agrees_elements (push ∷ es) h = agrees_elements es h
  agrees_elements (activate ∷ es) h = agrees_elements es h
  agrees_elements (pop ∷ es) h = agrees_elements es h

  agrees_made : On (λ k n. Agrees areas D n) paint D.plan → (c : Cell) → Each AgreesIn (flat paint (made D c (source D)))
  agrees_made o c =
      rw (made_normal D c (source D))
      (each_sub (items D) AgreesIn tt (normal_sub (items D) paint (map_side (within D c) (source D)))
      (rw (map_map (whole D) (within D c) D.plan)
      (each_mapped (λ k n. Agrees areas D n) AgreesIn (λ n. within D c (whole D n)) (λ k n a. a) paint D.plan o)))

  -- a cell's stream, as words in tables that hold the drawing, is read at each position of the cell for the set that the drawing shows
  pub cell_words_read : Fitted D
      → On (λ k n. Agrees areas D n) paint D.plan
      → ((n : ℕ) → length (lines_of (get_or D.contours n [])) ≤ 2048)
      → (c : Cell) (x y : ℕ)
      → Holds c (at x y)
      → set_at areas D.xs D.ys x y (map words_of (elements_of (flat paint (made D c (source D))))) ≡ set_of (shown_at D (at x y))
  cell_words_read f o m c x y i =
      words_read areas D x y (elements_of (flat paint (made D c (source D))))
      (fits_elements D (flat paint (made D c (source D))) (made_small D 2048 m c))
      (agrees_elements (flat paint (made D c (source D))) (agrees_made o c))
      ∙ cell_read D f c (at x y) i
