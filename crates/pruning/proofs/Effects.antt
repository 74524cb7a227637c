-- A step of the pruner in a buffer: elements written at a place that the counters give.
use mathlib.Core.Path.{◌≡◌, refl, ap, sym, ◌∙◌}
use mathlib.Core.Bool.{Bool, true, false, cond}
use mathlib.Core.List.{List, [], ◌∷◌, ◌++◌, append-nil}
use Prim.Native.Nat.{ℕ, suc, zero, ◌+◌, ◌<◌, ◌≤◌}
use native.Mathlib.Omega.{arith}
use lib.Dec.{eqb}
use lib.ListN.{length, take, drop, length-append}
use lib.Seq.{length-take-le, take-length, sets, sets-eq, take_at, take-take}
use Rattle.pruning.specs.Sides.{Kind, paint, clip, Entry, item, push, activate, pop}
use Rattle.pruning.specs.Items.{Items, Class, fails, passes, other}
use Rattle.pruning.specs.code.Pruner.{
  left,
  right,
  through,
  dead,
  Frame,
  frame,
  Skip,
  going,
  shut,
  State,
  st,
  step,
  add_item,
  keep_left,
  keep_right,
  end_left,
  end_right,
}
use Rattle.pruning.specs.code.Effects.{Effect, back, place, new, out_of, item_effect, left_effect, right_effect, effect}
use Rattle.pruning.proofs.Counters.{Chain, Fit, count}

module _ (I : Items) (Element : Type 0) (enc : Entry I.Item → List Element) (enc_some : (e : Entry I.Item) → 0 < length (enc e)) where
  open I use {Item, class, bare}

  -- the output after an effect
  abbrev pub Does : List Element → Effect Element → List Element → Type 0
  Does out f out' = (place f ≤ length out) × (out' ≡ take (place f) out ++ new f)

  does_nothing : (out : List Element) → Does out (back (length out) []) out
  does_nothing out = (omega arith, sym (append-nil (take (length out) out) ∙ take-length out))

  does_add : (out w : List Element) → Does out (back (length out) w) (out ++ w)
  does_add out w = (omega arith, rw (take-length out))

  does_back : (out : List Element) (p : ℕ) → p ≤ length out → Does out (back p []) (take p out)
  does_back out p h = (h, sym (append-nil (take p out)))

  item_does : (k : Kind) (c : Class) (a : Item) (out : List Element) (b : ℕ) (fs : List Frame) → b ≤ length out
      → Does out (item_effect I Element enc k c a (length out) b) (out_of (add_item I Element enc k c a out b fs))
  item_does k fails a out b fs h = does_nothing out
  item_does paint passes a out b fs h = does_add out (enc (item paint a))
  item_does clip passes a out b fs h = (h, refl)
  item_does k other a out b fs h = does_add out (enc (item k a))

  keep_left_does : (t : Bool) (out : List Element) (s o : ℕ) (fs : List Frame) → s ≤ length out
      → Does out (cond t (back s []) (back (length out) (enc activate))) (out_of (keep_left I Element enc t s o out fs))
  keep_left_does true out s o fs h = does_back out s h
  keep_left_does false out s o fs h = does_add out (enc activate)

  keep_right_does : (t : Bool) (out : List Element) (s o : ℕ) (fs : List Frame) → s ≤ length out
      → Does out (cond t (back s []) (back (length out) (enc pop))) (out_of (keep_right I Element enc t s o out fs))
  keep_right_does true out s o fs h = does_back out s h
  keep_right_does false out s o fs h = does_add out (enc pop)

  left_does : (out : List Element) (b : ℕ) (w : Skip) (fs : List Frame)
      → b ≤ length out
      → Chain b fs
      → Does out (left_effect I Element enc (length out) b w fs) (out_of (end_left I Element enc out b w fs))
  left_does out b w [] h c = does_nothing out
  left_does out b going (frame left s o ∷ fs) h c = keep_left_does (eqb (length out) b) out s o fs (omega arith)
  left_does out b (shut m) (frame left s o ∷ fs) h c = does_back out s (omega arith)
  left_does out b w (frame right s o ∷ fs) h c = does_nothing out
  left_does out b w (frame through s o ∷ fs) h c = does_nothing out
  left_does out b w (frame dead s o ∷ fs) h c = does_nothing out

  right_does : (out : List Element) (b : ℕ) (w : Skip) (fs : List Frame)
      → b ≤ length out
      → Chain b fs
      → Does out (right_effect I Element enc (length out) b fs) (out_of (end_right I Element enc out b w fs))
  right_does out b w [] h c = does_nothing out
  right_does out b w (frame left s o ∷ fs) h c = does_nothing out
  right_does out b w (frame right s o ∷ fs) h c = keep_right_does (eqb (length out) b) out s o fs (omega arith)
  right_does out b w (frame through s o ∷ fs) h c = does_nothing out
  right_does out b w (frame dead s o ∷ fs) h c = does_nothing out

  pub step_does : (x : State Element) (e : Entry Item)
      → Fit (count I Element enc enc_some x)
      → Does (out_of x) (effect I Element enc (count I Element enc enc_some x) e) (out_of (step I Element enc x e))
  step_does (st out b going fs) (item k a) f = item_does k (class k a) a out b fs f.0
  step_does (st out b going fs) push f = does_add out (enc push)
  step_does (st out b going fs) activate f = left_does out b going fs f.0 f.1
  step_does (st out b going fs) pop f = right_does out b going fs f.0 f.1
  step_does (st out b (shut m) fs) (item k a) f = does_nothing out
  step_does (st out b (shut m) fs) push f = does_nothing out
  step_does (st out b (shut zero) fs) activate f = left_does out b (shut zero) fs f.0 f.1
  step_does (st out b (shut zero) fs) pop f = right_does out b (shut zero) fs f.0 f.1
  step_does (st out b (shut (suc m)) fs) activate f = does_nothing out
  step_does (st out b (shut (suc m)) fs) pop f = does_nothing out

  -- a buffer whose front is the output: elements written at the place
  pub buffer_does : (buf out out' : List Element) (n : ℕ) (f : Effect Element)
      → take n buf ≡ out
      → n ≤ length buf
      → Does out f out'
      → place f + length (new f) ≤ length buf
      → take (place f + length (new f)) (sets buf (place f) (new f)) ≡ out'
  buffer_does buf out out' n (back p w) e h d r =
      let pn : p ≤ n = omega (arith, d.0, ap length e, length-take-le n buf h) in
      rw (sets-eq w buf p r)
      (take_at (take p buf ++ w) (drop (p + length w) buf) (p + length w) (length-append (take p buf) w ∙ rw (length-take-le p buf (omega arith)))
      ∙ (rw (← e, take-take p n buf pn) refl ∙ sym d.1))
