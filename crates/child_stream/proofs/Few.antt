-- A stream that is made of one that passes the check has at most 64 start numbers: the array holds them all.
use mathlib.Core.Path.{◌≡◌, ap}
use mathlib.Core.Bool.{true, false}
use mathlib.Core.List.{List, [], ◌∷◌}
use Prim.Native.Nat.{ℕ, ◌+◌, ◌≤◌}
use native.Mathlib.Omega.{arith}
use lib.ListN.{length, length-append}
use lib.IntN.{ℤ}
use borrow.Author.Tests.{ltb-true}
use Rattle.laws.proofs.Booleans.{clash}
use Rattle.pruning.specs.code.Effects.{out_of}
use Rattle.cells.specs.Cells.{Cell}
use Rattle.cells.specs.Drawings.{Drawing}
use Rattle.cells.specs.Elements.{Element, opens, bar, closes, bare, named, segment}
use Rattle.cells.specs.code.Making.{Waiting, nothing, held, Making, making, settle, on_element, on_elements, begun}
use Rattle.stream.specs.declared.Words.{Words}
use Rattle.stream.specs.Entry.{decode}
use Rattle.stream.specs.Grammar.{Env, Place, place, at, after, course, is_whole, accepts}
use Rattle.evaluate.specs.Reading.{element_for, elements_in}
use Rattle.evaluate.proofs.Laws.{element_segment}
use Rattle.making.specs.Made.{elements_made}
use Rattle.making.proofs.Laws.{by_kind, after_segment}
use Rattle.making.proofs.Follows.{state_of, waiting_of}
use Rattle.making.proofs.Grammar.{Passes, one_passes}
use Rattle.making.proofs.Standing.{Reads}
use Rattle.making.proofs.Whole.{all_of, elements_all}
use Rattle.child_stream.specs.code.Starts.{starts_of}
use Rattle.child_stream.proofs.Fronts.{Front, with_next, settle_front, open_front, bar_front, close_front, bare_front}

front_length : (zs ys : List ℤ) → Front zs ys → length zs ≤ length ys
front_length zs ys f = omega (arith, ap length f.is, length-append zs f.rest)

abbrev waits : Waiting → ℕ
waits nothing = 0
waits (held n z gs) = 1

-- the areas of what is made so far, and the one that waits
abbrev areas_of : Making → ℕ
areas_of m = length (starts_of (out_of (state_of m))) + waits (waiting_of m)

module _ (D : Drawing) (c : Cell) where
  settled : (m : Making) → length (starts_of (out_of (settle D c m))) ≤ areas_of m
  settled (making x nothing) = omega arith
  settled (making x (held n z gs)) =
      omega (
        arith,
        front_length (starts_of (out_of (settle D c (making x (held n z gs))))) (with_next D c (making x (held n z gs)))
            (settle_front D c (making x (held n z gs))),
        length-append (starts_of (out_of x)) (z ∷ []),
      )

  -- an element more has an area more at most, if it is one
  element_few : (r : Element) (m : Making) → areas_of (on_element D c r m) ≤ areas_of m + length (starts_of (r ∷ []))
  element_few opens m = omega (arith, settled m, front_length _ _ (open_front D c (settle D c m)))
  element_few bar m = omega (arith, settled m, front_length _ _ (bar_front D c (settle D c m)))
  element_few closes m = omega (arith, settled m, front_length _ _ (close_front D c (settle D c m)))
  element_few bare m = omega (arith, settled m, front_length _ _ (bare_front D c (settle D c m)))
  element_few (named n z) m = omega (arith, settled m)
  element_few (segment g) (making x nothing) = omega arith
  element_few (segment g) (making x (held n z gs)) = omega arith

  one_more_law : (r : Element) (rs : List Element) → length (starts_of (r ∷ rs)) ≡ length (starts_of (r ∷ [])) + length (starts_of rs)
  one_more_law opens rs = omega arith
  one_more_law bar rs = omega arith
  one_more_law closes rs = omega arith
  one_more_law bare rs = omega arith
  one_more_law (named n z) rs = omega arith
  one_more_law (segment g) rs = omega arith

  elements_few : (rs : List Element) (m : Making) → areas_of (on_elements D c rs m) ≤ areas_of m + length (starts_of rs)
  elements_few [] m = omega arith
  elements_few (r ∷ rs) m = omega (arith, elements_few rs (on_element D c r m), element_few r m, one_more_law r rs)

-- the areas of a stream that passes: "Limits: ... 64 areas"
module _ (v : Env) where
  one_few : (w : Words) (p : Place) (ws : List Words)
      → p.areas ≤ 64
      → Passes v p (decode w) ws
      → ((after p (decode w)).areas ≤ 64 → (after p (decode w)).areas + length (starts_of (elements_in ws)) ≤ 64)
      → p.areas + length (starts_of (element_for (decode w) (elements_in ws))) ≤ 64
  one_few w p ws l =
      by_kind w
      (λ e. Passes v p e ws
      → ((after p e).areas ≤ 64 → (after p e).areas + length (starts_of (elements_in ws)) ≤ 64)
      → p.areas + length (starts_of (element_for e (elements_in ws))) ≤ 64)
      (λ e h f. f l) (λ e h f. f l) (λ e h f. f l) (λ e h f. omega (arith, f (omega (arith, ltb-true p.areas 64 h.room))))
      (λ s h f. rw (element_segment w (elements_in ws) s) (rw (after_segment p w s) at (f (rw (after_segment p w s) l))))
      (λ e h f. f l) (λ h f. clash h.range)

  all_few : (ws : List Words) (p : Place) → p.areas ≤ 64 → is_whole (course v (at p) ws) ≡ true → p.areas + length (starts_of (elements_in ws)) ≤ 64
  unfolding elements_in
  all_few [] p l h = omega arith
  all_few (w ∷ ws) p l h = let q = one_passes v p w ws h in one_few w p ws l q (λ m. all_few ws (after p (decode w)) m q.rest)

  entries_few : (ws : List Words) → accepts v ws ≡ true → length (starts_of (elements_in ws)) ≤ 64
  unfolding accepts
  entries_few ws h = omega (arith, all_few ws (place [] false 0 0) (omega arith) h)

-- at most 64, so that none is lost
pub few_starts : (v : Env) (D : Drawing) (c : Cell) (R : Reads v D) (ws : List Words) → accepts v ws ≡ true → length (starts_of (elements_made D c ws)) ≤ 64
few_starts v D c R ws h =
    omega (
      arith,
      settled D c (all_of D c ws),
      elements_few D c (elements_in ws) (begun D c),
      ap (λ (x : List Element). length (starts_of x)) (elements_all v D c R ws h),
      entries_few v ws h,
    )
