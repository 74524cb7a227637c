-- A stream that holds no line, curve or shortcut shows one set at all positions.
use mathlib.Core.Path.{◌≡◌, refl, sym, ap, subst, ◌∙◌}
use mathlib.Core.Bool.{Bool, true, false, cond}
use mathlib.Core.List.{List, [], ◌∷◌}
use Prim.Native.Nat.{ℕ, ◌+◌}
use native.Mathlib.Omega.{arith}
use lib.Dec.{eqb}
use lib.IntN.{ℤ}
use borrow.Author.Tests.{eqb-true}
use Rattle.pruning.specs.Sides.{Kind}
use Rattle.pruning.specs.Registers.{P, reg, out_of}
use Rattle.cells.specs.Cells.{at}
use Rattle.cells.specs.Segments.{Segment, adds_at}
use Rattle.cells.specs.Elements.{Element, opens, bar, closes, bare, named, segment, State, state, settled, settle, on_element, on_elements, read_elements}
use Rattle.stream.specs.declared.Words.{Words}
use Rattle.stream.specs.Entry.{Entry, decode, is_segment, segments_in, is_uniform}
use Rattle.stream.proofs.Entries.{by_tests, decode_is}
use Rattle.evaluate.specs.Reading.{element_for, elements_in, role_at, pass_at, opaque_at, set_at}

-- no element is a line, a curve or a shortcut
abbrev NoSegment : List Element → Type 0
NoSegment [] = Unit {0}
NoSegment (opens ∷ es) = NoSegment es
NoSegment (bar ∷ es) = NoSegment es
NoSegment (closes ∷ es) = NoSegment es
NoSegment (bare ∷ es) = NoSegment es
NoSegment (named n z ∷ es) = NoSegment es
NoSegment (segment g ∷ es) = ⊥

-- then what a line or a shortcut adds is not asked for
module _ (role : ℕ → Kind) (pass : ℕ → ℤ → Bool) (opaque : ℕ → Bool) (adds adds' : Segment → ℤ) where
  same_on : (es : List Element) → NoSegment es → (st : State) → on_elements role pass opaque adds es st ≡ on_elements role pass opaque adds' es st
  same_on [] h st = refl
  same_on (opens ∷ es) h st = same_on es h (on_element role pass opaque adds opens st)
  same_on (bar ∷ es) h st = same_on es h (on_element role pass opaque adds bar st)
  same_on (closes ∷ es) h st = same_on es h (on_element role pass opaque adds closes st)
  same_on (bare ∷ es) h st = same_on es h (on_element role pass opaque adds bare st)
  same_on (named n z ∷ es) h st = same_on es h (on_element role pass opaque adds (named n z) st)
  same_on (segment g ∷ es) h st = absurd h

  same_read : (es : List Element) → NoSegment es → read_elements role pass opaque adds es ≡ read_elements role pass opaque adds' es
  same_read es h = ap (λ (st : State). out_of (settle role pass opaque adds st)) (same_on es h (state (reg P 0 0 0) settled))

-- the elements of a uniform stream
no_segment : (ws : List Words) → is_uniform ws ≡ true → NoSegment (elements_in ws)
unfolding elements_in
no_segment [] h = tt
no_segment (w ∷ ws) h = go (is_segment w.kind) refl (no_segment ws) h
  where
    other : (o b c n p : Bool) (es : List Element) → NoSegment es → NoSegment (element_for (by_tests o b c n false p w) es)
    other true b c n p es k = k
    other false true c n p es k = k
    other false false true n p es k = k
    other false false false true p es k = k
    other false false false false true es k = k
    other false false false false false es k = k

    go : (s : Bool)
        → is_segment w.kind ≡ s
        → (is_uniform ws ≡ true → NoSegment (elements_in ws))
        → eqb (cond s (1 + segments_in ws) (segments_in ws)) 0 ≡ true
        → NoSegment (element_for (decode w) (elements_in ws))
    go true e ih q = absurd (omega (arith, eqb-true (1 + segments_in ws) 0 q))
    go false e ih q =
        let is = decode_is w
        ∙ ap (λ s. by_tests (eqb w.kind 1) (eqb w.kind 2) (eqb w.kind 3) (eqb w.kind 4) s (eqb w.kind 7) w) e in
        subst (λ (x : Entry). NoSegment (element_for x (elements_in ws))) (sym is)
        (other (eqb w.kind 1) (eqb w.kind 2) (eqb w.kind 3) (eqb w.kind 4) (eqb w.kind 7) (elements_in ws) (ih q))

pub set_uniform : (areas xs ys : List ℕ) (x y x' y' : ℕ) (ws : List Words)
    → is_uniform ws ≡ true
    → set_at areas xs ys x y ws ≡ set_at areas xs ys x' y' ws
unfolding set_at
set_uniform areas xs ys x y x' y' ws h =
    same_read (role_at areas) (pass_at areas) (opaque_at areas) (adds_at xs ys (at x y)) (adds_at xs ys (at x' y')) (elements_in ws) (no_segment ws h)
