-- A stream that is made has no more entries than the stream that it is made of.
use mathlib.Core.Path.{◌≡◌, ap}
use mathlib.Core.Bool.{true}
use mathlib.Core.List.{List, [], ◌∷◌, ◌++◌, append-nil}
use Prim.Native.Nat.{ℕ, suc, ◌+◌, ◌≤◌}
use native.Mathlib.Omega.{arith}
use lib.ListN.{length, length-append, length-map}
use Rattle.geometry.specs.declared.class.Class as Classes
use Rattle.geometry.specs.declared.class.Class.TheVariants.{Dropped, Start, Shortcut, Kept}
use Rattle.pruning.specs.Sides.{clip, Entry, item, push, activate, pop}
use Rattle.pruning.specs.code.Effects.{out_of}
use Rattle.pruning.proofs.Counters.{Fit, count}
use Rattle.cells.specs.Cells.{Cell}
use Rattle.cells.specs.Segments.{Segment, shortcut, sign_of, class_in, kept_by}
use Rattle.cells.specs.Drawings.{Drawing}
use Rattle.cells.specs.Streams.{Item, always, area, items}
use Rattle.cells.specs.Elements.{Element, opens, bar, closes, bare, named, segment, entry_elements, role_in}
use Rattle.cells.specs.code.Making.{nothing, held, Making, making, prune, settle, add_to, on_element, on_elements, begun}
use Rattle.cells.proofs.Making.{entry_some}
use Rattle.stream.specs.declared.Words.{Words}
use Rattle.stream.specs.Entry.{decode}
use Rattle.stream.specs.Grammar.{Env, accepts}
use Rattle.evaluate.specs.Reading.{element_for, elements_in}
use Rattle.evaluate.proofs.Laws.{element_segment}
use Rattle.making.specs.Made.{elements_made}
use Rattle.making.proofs.Laws.{by_kind}
use Rattle.making.proofs.Follows.{state_of, waiting_of, elements_for, step_fits, step_short}
use Rattle.making.proofs.Standing.{Reads}
use Rattle.making.proofs.Whole.{all_of, elements_all}

-- after k elements
record Short (D : Drawing) (k : ℕ) (m : Making) : Type 0 where
  fit : Fit (count (items D) Element entry_elements entry_some (state_of m))
  short : length (out_of (state_of m)) + elements_for (waiting_of m) ≤ k

-- an entry says one element at most
element_for_law : (w : Words) (rs : List Element) → length (element_for (decode w) rs) ≤ suc (length rs)
element_for_law w rs =
    by_kind w (λ e. length (element_for e rs) ≤ suc (length rs)) (λ e. omega arith) (λ e. omega arith) (λ e. omega arith) (λ e. omega arith)
    (λ s. rw (element_segment w rs s) (omega arith)) (λ e. omega arith) (omega arith)

elements_in_law : (ws : List Words) → length (elements_in ws) ≤ length ws
unfolding elements_in
elements_in_law [] = omega arith
elements_in_law (w ∷ ws) = omega (arith, element_for_law w (elements_in ws), elements_in_law ws)

module _ (v : Env) (D : Drawing) (c : Cell) (R : Reads v D) where
  -- the area that waits goes to the pruner
  settled : (k : ℕ) (m : Making) → Short D k m → Fit (count (items D) Element entry_elements entry_some (settle D c m)) × (length (out_of (settle D c m)) ≤ k)
  settled k (making x nothing) s = (s.fit, omega (arith, s.short))
  settled k (making x (held n z gs)) s = (
    step_fits v.areas D c R.agrees x (item (role_in D n) (area n z gs)) s.fit,
    omega (arith, s.short, step_short v.areas D c R.agrees x (item (role_in D n) (area n z gs)) s.fit, length-map {B = Element} gs segment),
  )

  -- a delimiter or "passes"
  marked : (k : ℕ) (m : Making) (e : Entry Item) → length (entry_elements e) ≡ 1 → Short D k m → Short D (suc k) (making (prune D c (settle D c m) e) nothing)
  marked k m e l s =
      let q = settled k m s in
      record {
        fit = step_fits v.areas D c R.agrees (settle D c m) e q.0;
        short = omega (arith, q.1, step_short v.areas D c R.agrees (settle D c m) e q.0, l);
      }

  -- a line, a curve or a shortcut leaves one segment at most
  kept_short : (gs : List Segment) (g : Segment) (f : Classes.Class) → length (gs ++ kept_by D.xs D.ys f g []) ≤ length gs + 1
  kept_short gs g Dropped = rw (append-nil gs) (omega arith)
  kept_short gs g Start = rw (append-nil gs) (omega arith)
  kept_short gs g (Shortcut lo hi) = omega (arith, length-append gs (shortcut (sign_of D.xs D.ys g) lo hi ∷ []))
  kept_short gs g Kept = omega (arith, length-append gs (g ∷ []))

  added : (k : ℕ) (m : Making) (g : Segment) → Short D k m → Short D (suc k) (add_to D c g m)
  added k (making x nothing) g s = record { fit = s.fit; short = omega (arith, s.short) }
  added k (making x (held n z gs)) g s = record { fit = s.fit; short = omega (arith, s.short, kept_short gs g (class_in D.xs D.ys c g)) }

  element_short : (k : ℕ) (w : Element) (m : Making) → Short D k m → Short D (suc k) (on_element D c w m)
  element_short k opens m s = marked k m push (omega arith) s
  element_short k bar m s = marked k m activate (omega arith) s
  element_short k closes m s = marked k m pop (omega arith) s
  element_short k bare m s = marked k m (item clip always) (omega arith) s
  element_short k (named n z) m s = let q = settled k m s in record { fit = q.0; short = omega (arith, q.1) }
  element_short k (segment g) m s = added k m g s

  elements_short : (k : ℕ) (rs : List Element) (m : Making) → Short D k m → Short D (length rs + k) (on_elements D c rs m)
  elements_short k [] m s = record { fit = s.fit; short = omega (arith, s.short) }
  elements_short k (r ∷ rs) m s =
      let q = elements_short (suc k) rs (on_element D c r m) (element_short k r m s) in record { fit = q.fit; short = omega (arith, q.short) }

  pub made_shorter : (ws : List Words) → accepts v ws ≡ true → length (elements_made D c ws) ≤ length ws
  made_shorter ws h =
      let s = elements_short 0 (elements_in ws) (begun D c) (record { fit = (omega arith, tt); short = omega arith }) in
      omega (arith, (settled (length (elements_in ws) + 0) (all_of D c ws) s).1, ap length (elements_all v D c R ws h), elements_in_law ws)
