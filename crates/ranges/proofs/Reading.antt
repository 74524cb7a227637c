-- The stream of each cell of an accepted drawing, read in tables that hold the drawing, gives at each position of the cell the set that the drawing shows.
use mathlib.Core.Path.{◌≡◌, refl, sym, ap, ◌∙◌}
use mathlib.Core.Bool.{Bool, cond}
use mathlib.Core.List.{List, [], ◌∷◌, ◌++◌, map}
use Prim.Native.Nat.{ℕ, zero, suc, ◌+◌, ◌<◌}
use native.Mathlib.Omega.{arith}
use lib.Dec.{eqb}
use lib.ListN.{length, get_or}
use lib.IntN.{ℤ, pos, ◌+ℤ◌}
use Rattle.geometry.specs.FillRules as FillRules
use Rattle.geometry.specs.Edges.{counts, sign}
use Rattle.geometry.specs.Windings.{Line, line, curve}
use Rattle.geometry.specs.code.Reach.{LineBelow}
use Rattle.geometry.specs.declared.edge.Edge.{Edge}
use Rattle.drawing.specs.Tables.{fields_at}
use Rattle.paint.specs.Sets.{set_of}
use Rattle.pruning.specs.Sides.{Kind, paint, Entry, item, push, activate, pop, flat}
use Rattle.pruning.specs.Registers.{P, reg, out_of}
use Rattle.stream.specs.declared.Bounds.{Bounds}
use Rattle.records.specs.declared.Fields.{Fields}
use Rattle.cells.specs.Cells.{at, Cell, Holds}
use Rattle.cells.specs.Segments.{Segment, drawn, shortcut, adds_at}
use Rattle.cells.specs.Drawings.{Drawing, no_fields, fields_of, kind_of, rule_of, shown_at}
use Rattle.cells.specs.Streams.{Item, always, area, Each, On, source, made}
use Rattle.cells.specs.Elements.{
  Element,
  opens,
  bar,
  closes,
  bare,
  named,
  segment,
  elements_of,
  settled,
  waits,
  State,
  state,
  settle,
  add_to,
  on_element,
  on_elements,
  read_elements,
}
use Rattle.evaluate.specs.Reading.{elements_in, role_at, pass_at, opaque_at, set_at}
use Rattle.evaluate.specs.Words.{words_of, Agrees}
use Rattle.evaluate.proofs.Words.{cell_words_read}
use Rattle.ranges.specs.code.Valid.{Valid}
use Rattle.ranges.specs.Held.{fields_from, Held}
use Rattle.ranges.proofs.Segments.{EachIn}
use Rattle.ranges.proofs.Numbers.{edge_same}
use Rattle.ranges.proofs.Items.{on_both, Numbered, made_numbered}

-- ---- the table of areas

pub fields_at_law : (t : List ℕ) (i n k : ℕ) → k < n → get_or (fields_from t i n) k no_fields ≡ fields_at t (i + k)
fields_at_law t i zero k l = absurd (omega arith)
fields_at_law t i (suc n) zero l = ap (fields_at t) (omega arith)
fields_at_law t i (suc n) (suc k) l = fields_at_law t (i + 1) n k (omega arith) ∙ ap (fields_at t) (omega arith)

module _ (D : Drawing) (areas xs ys : List ℕ) (b : Bounds) (H : Held areas xs ys b D) where
  pub fields_are : (n : ℕ) → n < length D.fields → fields_at areas n ≡ fields_of D n
  fields_are n l =
      ap (fields_at areas) (omega arith)
      ∙ (sym (fields_at_law areas 0 b.areas n (omega (arith, H.areas_used))) ∙ ap (λ (f : List Fields). get_or f n no_fields) H.fields_same)

  agrees : (n : ℕ) → n < length D.fields → Agrees areas D n
  agrees n l =
      let e = fields_are n l in
      record {
        role = ap (λ (f : Fields). kind_of f.role) e;
        pass = λ z. ap (λ (f : Fields). FillRules.passes (rule_of f.rule) z) e;
        opaque = ap (λ (f : Fields). eqb f.alpha 255) e;
      }

-- the table says of the areas on the plan what the drawing says
pub held_agrees : (D : Drawing) (areas xs ys : List ℕ) (b : Bounds) → Held areas xs ys b D → Valid D → On (λ k n. Agrees areas D n) paint D.plan
held_agrees D areas xs ys b H ok =
    on_both (λ k n. n < length D.fields) (λ k n. n < length D.fields) (λ k n. Agrees areas D n)
    (λ k n l m. agrees D areas xs ys b H n l) paint D.plan ok.numbers ok.numbers

-- ---- the tables of corners

-- elements are read by what their lines, curves and shortcuts add, and by nothing else of them
module _ (role : ℕ → Kind) (pass : ℕ → ℤ → Bool) (opaque : ℕ → Bool) (f g : Segment → ℤ) where
  abbrev pub SameOn : List Element → Type 0
  SameOn [] = Unit {0}
  SameOn (opens ∷ ws) = SameOn ws
  SameOn (bar ∷ ws) = SameOn ws
  SameOn (closes ∷ ws) = SameOn ws
  SameOn (bare ∷ ws) = SameOn ws
  SameOn (named n z ∷ ws) = SameOn ws
  SameOn (segment s ∷ ws) = (f s ≡ g s) × SameOn ws

  settle_same : (st : State) → settle role pass opaque f st ≡ settle role pass opaque g st
  settle_same (state r settled) = refl
  settle_same (state r (waits n z)) = refl

  add_same : (s : Segment) → f s ≡ g s → (st : State) → add_to role pass opaque f s st ≡ add_to role pass opaque g s st
  add_same s e (state r settled) = refl
  add_same s e (state r (waits n z)) = ap (λ a. state r (waits n (z +ℤ a))) e

  element_same : (w : Element) (ws : List Element) → SameOn (w ∷ ws) → (st : State)
      → (on_element role pass opaque f w st ≡ on_element role pass opaque g w st) × SameOn ws
  element_same opens ws h st = (rw (settle_same st), h)
  element_same bar ws h st = (rw (settle_same st), h)
  element_same closes ws h st = (rw (settle_same st), h)
  element_same bare ws h st = (rw (settle_same st), h)
  element_same (named n z) ws h st = (rw (settle_same st), h)
  element_same (segment s) ws h st = (add_same s h.0 st, h.1)

  elements_same : (ws : List Element) → SameOn ws → (st : State) → on_elements role pass opaque f ws st ≡ on_elements role pass opaque g ws st
  elements_same [] h st = refl
  elements_same (w ∷ ws) h st =
      let q = element_same w ws h st in elements_same ws q.1 (on_element role pass opaque f w st) ∙ ap (on_elements role pass opaque g ws) q.0

  pub read_same : (ws : List Element) → SameOn ws → read_elements role pass opaque f ws ≡ read_elements role pass opaque g ws
  read_same ws h =
      let st = state (reg P 0 0 0) settled in
      ap (λ x. out_of (settle role pass opaque f x)) (elements_same ws h st) ∙ ap out_of (settle_same (on_elements role pass opaque g ws st))

module _ (D : Drawing) (areas xs ys : List ℕ) (b : Bounds) (H : Held areas xs ys b D) (c : Cell) (x y : ℕ) where
  abbrev Same : List Element → Type 0
  Same = SameOn (role_at areas) (pass_at areas) (opaque_at areas) (adds_at xs ys (at x y)) (adds_at D.xs D.ys (at x y))

  line_same : (l : Line) → LineBelow (length D.xs) l → adds_at xs ys (at x y) (drawn l) ≡ adds_at D.xs D.ys (at x y) (drawn l)
  line_same l h = ap (λ (e : Edge). cond (counts e x y) (sign e) (pos 0)) (edge_same D areas xs ys b H l h)

  segments_same : (gs : List Segment) (ws : List Element)
      → EachIn D.xs D.ys c gs
      → Same (elements_in (map words_of ws))
      → Same (elements_in (map words_of (map segment gs ++ ws)))
  unfolding elements_in
  segments_same [] ws h s = s
  segments_same (drawn (line i j) ∷ gs) ws h s = (line_same (line i j) h.0.0, segments_same gs ws h.1 s)
  segments_same (drawn (curve i) ∷ gs) ws h s = (line_same (curve i) h.0.0, segments_same gs ws h.1 s)
  segments_same (shortcut z lo hi ∷ gs) ws h s = (refl, segments_same gs ws h.1 s)

  entries_same : (es : List (Entry Item)) → Each (Numbered D c) es → Same (elements_in (map words_of (elements_of es)))
  unfolding elements_in
  entries_same [] h = tt
  entries_same (item k always ∷ es) h = entries_same es h.1
  entries_same (item k (area n z gs) ∷ es) h = segments_same gs (elements_of es) h.0.1 (entries_same es h.1)
  entries_same (push ∷ es) h = entries_same es h
  entries_same (activate ∷ es) h = entries_same es h
  entries_same (pop ∷ es) h = entries_same es h

-- "A stream is read in one pass": the reader's answer in the lent tables is the set that the drawing shows
pub valid_words_read : (D : Drawing) → Valid D → (areas xs ys : List ℕ) (b : Bounds) → Held areas xs ys b D → (c : Cell) (x y : ℕ) → Holds c (at x y)
    → set_at areas xs ys x y (map words_of (elements_of (flat paint (made D c (source D))))) ≡ set_of (shown_at D (at x y))
unfolding set_at
valid_words_read D ok areas xs ys b H c x y i =
    let es = flat paint (made D c (source D)) in
    read_same (role_at areas) (pass_at areas) (opaque_at areas) (adds_at xs ys (at x y)) (adds_at D.xs D.ys (at x y))
    (elements_in (map words_of (elements_of es)))
    (entries_same D areas xs ys b H c x y es (made_numbered D c ok))
    ∙ cell_words_read areas D ok.roles (held_agrees D areas xs ys b H ok) ok.few_each c x y i
