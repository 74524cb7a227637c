-- The counters go in step with the pruner: the counting pass gives the length of what the writing pass writes.
use mathlib.Core.Path.{◌≡◌, refl, ap, sym, ◌∙◌}
use mathlib.Core.Bool.{Bool, true, false}
use mathlib.Core.List.{List, [], ◌∷◌}
use Prim.Native.Nat.{ℕ, suc, zero, ◌+◌, ◌<◌, ◌≤◌}
use native.Mathlib.Omega.{arith}
use lib.Dec.{eqb}
use lib.ListN.{length, take, length-append}
use lib.Seq.{length-take-le}
use Rattle.pruning.specs.Sides.{Kind, paint, clip, Entry, item, push, activate, pop, Side, flat}
use Rattle.pruning.specs.Items.{Items, Class, fails, passes, other}
use Rattle.pruning.specs.Normal.{normal}
use Rattle.pruning.specs.code.Pruner.{
  left,
  right,
  through,
  dead,
  Frame,
  frame,
  Skip,
  going,
  shut,
  State,
  st,
  step,
  run,
  add_item,
  keep_left,
  keep_right,
  end_left,
  end_right,
  elements,
}
use Rattle.pruning.specs.code.Counters.{
  Count,
  ct,
  length_of,
  skipped,
  opened,
  count_item,
  count_keep_left,
  count_left,
  count_keep_right,
  count_right,
  count_step,
  counts,
}
use Rattle.pruning.proofs.Pruner.{stream_normal}

-- the frames under a side that begins at b
abbrev pub Chain : ℕ → List Frame → Type 0
Chain b [] = Unit {0}
Chain b (frame left s o ∷ fs) = (s ≤ b) × ((o ≤ s) × Chain o fs)
Chain b (frame right s o ∷ fs) = (s ≤ b) × ((o ≤ s) × Chain o fs)
Chain b (frame through s o ∷ fs) = (b ≡ o) × (s ≡ o) × Chain o fs
Chain b (frame dead s o ∷ fs) = (b ≡ o) × (s ≡ o) × Chain o fs

abbrev pub Fit : Count → Type 0
Fit (ct n b w fs) = (b ≤ n) × Chain b fs

module _ (I : Items) (Element : Type 0) (enc : Entry I.Item → List Element) (enc_some : (e : Entry I.Item) → 0 < length (enc e)) where
  open I use {Item, class, bare, bare_passes}

  abbrev pub wid : Entry Item → ℕ
  wid e = length (enc e)

  abbrev pub count : State Element → Count
  count (st out b w fs) = ct (length out) b w fs

  abbrev step' : State Element → Entry Item → State Element
  step' = step I Element enc

  -- one step
  item_counts : (k : Kind) (c : Class) (a : Item) (out : List Element) (b : ℕ) (fs : List Frame) → b ≤ length out → Chain b fs
      → (count (add_item I Element enc k c a out b fs) ≡ count_item I wid k c a (length out) b fs) × Fit (count_item I wid k c a (length out) b fs)
  item_counts k fails a out b fs h c = (refl, (h, c))
  item_counts paint passes a out b fs h c = (rw (length-append out (enc (item paint a))), (omega arith, c))
  item_counts clip passes a out b fs h c = (rw (length-append (take b out) (enc (item clip bare)), length-take-le b out h), (omega arith, c))
  item_counts k other a out b fs h c = (rw (length-append out (enc (item k a))), (omega arith, c))

  left_keeps : (t : Bool) (out : List Element) (b s o : ℕ) (fs : List Frame) → b ≤ length out → Chain b (frame left s o ∷ fs)
      → (count (keep_left I Element enc t s o out fs) ≡ count_keep_left I wid t s o (length out) fs) × Fit (count_keep_left I wid t s o (length out) fs)
  left_keeps true out b s o fs h c = (rw (length-take-le s out (omega arith)), (c.1.0, (refl, refl, c.1.1)))
  left_keeps false out b s o fs h c = (rw (length-append out (enc activate)), (omega arith, (omega arith, (c.1.0, c.1.1))))

  left_counts : (out : List Element) (b : ℕ) (w : Skip) (fs : List Frame) → b ≤ length out → Chain b fs
      → (count (end_left I Element enc out b w fs) ≡ count_left I wid (length out) b w fs) × Fit (count_left I wid (length out) b w fs)
  left_counts out b w [] h c = (refl, (h, c))
  left_counts out b going (frame left s o ∷ fs) h c = left_keeps (eqb (length out) b) out b s o fs h c
  left_counts out b (shut m) (frame left s o ∷ fs) h c = (rw (length-take-le s out (omega arith)), (c.1.0, (refl, refl, c.1.1)))
  left_counts out b w (frame right s o ∷ fs) h c = (refl, (h, c))
  left_counts out b w (frame through s o ∷ fs) h c = (refl, (h, c))
  left_counts out b w (frame dead s o ∷ fs) h c = (refl, (h, c))

  right_keeps : (t : Bool) (out : List Element) (b s o : ℕ) (fs : List Frame) → b ≤ length out → Chain b (frame right s o ∷ fs)
      → (count (keep_right I Element enc t s o out fs) ≡ count_keep_right I wid t s o (length out) fs) × Fit (count_keep_right I wid t s o (length out) fs)
  right_keeps true out b s o fs h c = (rw (length-take-le s out (omega arith)), (c.1.0, c.1.1))
  right_keeps false out b s o fs h c = (rw (length-append out (enc pop)), (omega arith, c.1.1))

  right_counts : (out : List Element) (b : ℕ) (w : Skip) (fs : List Frame) → b ≤ length out → Chain b fs
      → (count (end_right I Element enc out b w fs) ≡ count_right I wid (length out) b w fs) × Fit (count_right I wid (length out) b w fs)
  right_counts out b w [] h c = (refl, (h, c))
  right_counts out b w (frame left s o ∷ fs) h c = (refl, (h, c))
  right_counts out b w (frame right s o ∷ fs) h c = right_keeps (eqb (length out) b) out b s o fs h c
  right_counts out b w (frame through s o ∷ fs) h c = (refl, (h, rw c.0 c.2))
  right_counts out b w (frame dead s o ∷ fs) h c = (refl, (omega arith, c.2))

  pub step_counts : (x : State Element) (e : Entry Item) → Fit (count x) → (count (step' x e) ≡ count_step I wid (count x) e)
      × Fit (count_step I wid (count x) e)
  step_counts (st out b going fs) (item k a) f = item_counts k (class k a) a out b fs f.0 f.1
  step_counts (st out b going fs) push f = (rw (length-append out (enc push)), (omega arith, (omega arith, (f.0, f.1))))
  step_counts (st out b going fs) activate f = left_counts out b going fs f.0 f.1
  step_counts (st out b going fs) pop f = right_counts out b going fs f.0 f.1
  step_counts (st out b (shut m) fs) (item k a) f = (refl, f)
  step_counts (st out b (shut m) fs) push f = (refl, f)
  step_counts (st out b (shut zero) fs) activate f = left_counts out b (shut zero) fs f.0 f.1
  step_counts (st out b (shut zero) fs) pop f = right_counts out b (shut zero) fs f.0 f.1
  step_counts (st out b (shut (suc m)) fs) activate f = (refl, f)
  step_counts (st out b (shut (suc m)) fs) pop f = (refl, f)

  pub run_counts : (es : List (Entry Item)) (x : State Element) → Fit (count x) → count (run I Element enc es x) ≡ counts I wid es (count x)
  run_counts [] x f = refl
  run_counts (e ∷ es) x f = let q = step_counts x e f in run_counts es (step' x e) (rw q.0 q.1) ∙ ap (counts I wid es) q.0

  -- the first pass gives the length of what the second writes
  pub count_normal : (x : Side Item) → counts I wid (flat paint x) (ct 0 0 going []) ≡ count (run I Element enc (flat paint x) (st [] 0 going []))
  count_normal x = sym (run_counts (flat paint x) (st [] 0 going []) (omega arith))

  pub count_length : (x : Side Item) → length_of (counts I wid (flat paint x) (ct 0 0 going [])) ≡ length (elements I Element enc paint (normal I paint x))
  count_length x = ap length_of (count_normal x ∙ ap count (stream_normal I Element enc enc_some x))

  opened_item : (k : Kind) (c : Class) (a : Item) (n b : ℕ) (fs : List Frame) → opened (count_item I wid k c a n b fs) ≡ length fs + 0
  opened_item k fails a n b fs = refl
  opened_item paint passes a n b fs = refl
  opened_item clip passes a n b fs = refl
  opened_item k other a n b fs = refl

  opened_keep : (t : Bool) (s o n : ℕ) (fs : List Frame) → opened (count_keep_left I wid t s o n fs) ≡ suc (length fs) + 0
  opened_keep true s o n fs = refl
  opened_keep false s o n fs = refl

  opened_keep_right : (t : Bool) (s o n : ℕ) (fs : List Frame) → opened (count_keep_right I wid t s o n fs) ≡ length fs + 0
  opened_keep_right true s o n fs = refl
  opened_keep_right false s o n fs = refl

  opened_left : (n b : ℕ) (w : Skip) (fs : List Frame) → skipped w ≡ 0 → opened (count_left I wid n b w fs) ≡ length fs + 0
  opened_left n b w [] h = rw h
  opened_left n b going (frame left s o ∷ fs) h = opened_keep (eqb n b) s o n fs
  opened_left n b (shut m) (frame left s o ∷ fs) h = refl
  opened_left n b w (frame right s o ∷ fs) h = rw h
  opened_left n b w (frame through s o ∷ fs) h = rw h
  opened_left n b w (frame dead s o ∷ fs) h = rw h

  opened_right : (n b : ℕ) (w : Skip) (fs : List Frame) → skipped w ≡ 0 → opened (count_right I wid n b w fs) ≤ length fs
  opened_right n b w [] h = omega arith
  opened_right n b w (frame left s o ∷ fs) h = omega arith
  opened_right n b w (frame right s o ∷ fs) h = omega (arith, opened_keep_right (eqb n b) s o n fs)
  opened_right n b w (frame through s o ∷ fs) h = omega arith
  opened_right n b w (frame dead s o ∷ fs) h = omega arith

  -- only `(` opens a group
  abbrev pub opens : Entry Item → ℕ
  opens (item k a) = 0
  opens push = 1
  opens activate = 0
  opens pop = 0

  pub opened_step : (c : Count) (e : Entry Item) → opened (count_step I wid c e) ≤ opened c + opens e
  opened_step (ct n b going fs) (item k a) = omega (arith, opened_item k (class k a) a n b fs)
  opened_step (ct n b going fs) push = omega arith
  opened_step (ct n b going fs) activate = omega (arith, opened_left n b going fs refl)
  opened_step (ct n b going fs) pop = omega (arith, opened_right n b going fs refl)
  opened_step (ct n b (shut m) fs) (item k a) = omega arith
  opened_step (ct n b (shut m) fs) push = omega arith
  opened_step (ct n b (shut zero) fs) activate = omega (arith, opened_left n b (shut zero) fs refl)
  opened_step (ct n b (shut zero) fs) pop = omega (arith, opened_right n b (shut zero) fs refl)
  opened_step (ct n b (shut (suc m)) fs) activate = omega arith
  opened_step (ct n b (shut (suc m)) fs) pop = omega arith

  -- an entry adds at most its own elements, where the bare item has no more elements than another
  module _ (bare_short : (a : Item) → wid (item clip bare) ≤ wid (item clip a)) where
    grows_item : (k : Kind) (c : Class) (a : Item) (n b : ℕ) (fs : List Frame) → b ≤ n → length_of (count_item I wid k c a n b fs) ≤ n + wid (item k a)
    grows_item k fails a n b fs h = omega arith
    grows_item paint passes a n b fs h = omega arith
    grows_item clip passes a n b fs h = omega (arith, bare_short a)
    grows_item k other a n b fs h = omega arith

    grows_left : (n b : ℕ) (w : Skip) (fs : List Frame) → b ≤ n → Chain b fs → length_of (count_left I wid n b w fs) ≤ n + wid activate
    grows_left n b w [] h c = omega arith
    grows_left n b going (frame left s o ∷ fs) h c = go (eqb n b)
      where
        go : (t : Bool) → length_of (count_keep_left I wid t s o n fs) ≤ n + wid activate
        go true = omega arith
        go false = omega arith
    grows_left n b (shut m) (frame left s o ∷ fs) h c = omega arith
    grows_left n b w (frame right s o ∷ fs) h c = omega arith
    grows_left n b w (frame through s o ∷ fs) h c = omega arith
    grows_left n b w (frame dead s o ∷ fs) h c = omega arith

    grows_right : (n b : ℕ) (w : Skip) (fs : List Frame) → b ≤ n → Chain b fs → length_of (count_right I wid n b w fs) ≤ n + wid pop
    grows_right n b w [] h c = omega arith
    grows_right n b w (frame left s o ∷ fs) h c = omega arith
    grows_right n b w (frame right s o ∷ fs) h c = go (eqb n b)
      where
        go : (t : Bool) → length_of (count_keep_right I wid t s o n fs) ≤ n + wid pop
        go true = omega arith
        go false = omega arith
    grows_right n b w (frame through s o ∷ fs) h c = omega arith
    grows_right n b w (frame dead s o ∷ fs) h c = omega arith

    pub count_grows : (c : Count) (e : Entry Item) → Fit c → length_of (count_step I wid c e) ≤ length_of c + wid e
    count_grows (ct n b going fs) (item k a) f = grows_item k (class k a) a n b fs f.0
    count_grows (ct n b going fs) push f = omega arith
    count_grows (ct n b going fs) activate f = grows_left n b going fs f.0 f.1
    count_grows (ct n b going fs) pop f = grows_right n b going fs f.0 f.1
    count_grows (ct n b (shut m) fs) (item k a) f = omega arith
    count_grows (ct n b (shut m) fs) push f = omega arith
    count_grows (ct n b (shut zero) fs) activate f = grows_left n b (shut zero) fs f.0 f.1
    count_grows (ct n b (shut zero) fs) pop f = grows_right n b (shut zero) fs f.0 f.1
    count_grows (ct n b (shut (suc m)) fs) activate f = omega arith
    count_grows (ct n b (shut (suc m)) fs) pop f = omega arith
