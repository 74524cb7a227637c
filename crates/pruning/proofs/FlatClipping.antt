-- Document 000's machine shows what the side of its stream shows, whatever u it starts with.
use mathlib.Core.Path.{◌≡◌, refl, ap, sym, ◌∙◌}
use mathlib.Core.Bool.{Bool, true, false, ◌||◌, ◌&&◌, cond}
use mathlib.Core.List.{List, [], ◌∷◌, ◌++◌}
use Prim.Native.Nat.{ℕ, suc, ◌≤◌}
use native.Mathlib.Omega.{arith}
use lib.Dec.{leb, eqb-suc-zero}
use borrow.Author.Tests.{le-leb, lt-leb}
use Rattle.pruning.specs.Sides.{Kind, paint, clip, Side, end, leaf, group, Entry, push, activate, pop, flat}
use Rattle.pruning.specs.Meaning.{clip_passes, shown}
use Rattle.pruning.specs.Machine.{Mode, processing, skipping, skipping_by}
use Rattle.pruning.specs.FlatClipping.{flat_clipping}
use Rattle.pruning.proofs.Sides.{flat_over, flat_over_law, flat_is_over}
use Rattle.pruning.proofs.Meaning.{shown_over, shown_over_law}

deeper : (s d : ℕ) → s ≤ d → leb (suc d) s ≡ false
deeper s d h = lt-leb (suc d) s (omega arith)

here : (d : ℕ) → leb d d ≡ true
here d = le-leb d d (omega arith)

either : {X : Type 0} (b c : Bool) (v w p q : X) → v ≡ p → w ≡ cond c p q → cond b v w ≡ cond (b || c) p q
either true c v w p q h g = h
either false c v w p q h g = g

both : {X : Type 0} (b c e : Bool) (v w p q : X) → v ≡ cond c p w → w ≡ cond e p q → cond b v w ≡ cond (b && c || e) p q
both true true e v w p q h g = h
both true false e v w p q h g = h ∙ g
both false c e v w p q h g = g

module _ {A : Type 0} (pass opaque : A → Bool) where
  abbrev run : List (Entry A) → Mode → (d u : ℕ) → List A
  run = flat_clipping pass opaque

  -- a side is skipped whole where the stopping depth is no deeper
  skip : (k : Kind) (x : Side A) (z : List (Entry A)) (s d u : ℕ) → s ≤ d → run (flat_over k x z) (skipping s) d u ≡ run z (skipping s) d u
  skip k end z s d u h = refl
  skip k (leaf a t) z s d u h = skip k t z s d u h
  skip k (group l r t) z s d u h =
      skip clip l (activate ∷ flat_over k r (pop ∷ flat_over k t z)) s (suc d) (suc u) (omega arith)
      ∙ rw (deeper s d h) (skip k r (pop ∷ flat_over k t z) s (suc d) u (omega arith) ∙ rw (deeper s d h) (skip k t z s d u h))

  skip_by : (k : Kind) (x : Side A) (z : List (Entry A)) (s d u : ℕ) → s ≤ d → run (flat_over k x z) (skipping_by s) d u ≡ run z (skipping_by s) d u
  skip_by k end z s d u h = refl
  skip_by k (leaf a t) z s d u h = skip_by k t z s d u h
  skip_by k (group l r t) z s d u h =
      skip_by clip l (activate ∷ flat_over k r (pop ∷ flat_over k t z)) s (suc d) (suc u) (omega arith)
      ∙ (skip_by k r (pop ∷ flat_over k t z) s (suc d) u (omega arith) ∙ rw (deeper s d h) (skip_by k t z s d u h))

  -- a clip side stands in a group that is not yet activated, so u is above 0
  clip_side : (x : Side A) (z : List (Entry A)) (d u : ℕ)
      → run (flat_over clip x z) processing d (suc u) ≡ cond (clip_passes pass x) (run z (skipping d) d (suc u)) (run z processing d (suc u))
  clip_side end z d u = refl
  clip_side (leaf a t) z d u =
      either (pass a) (clip_passes pass t) (run (flat_over clip t z) (skipping d) d (suc u)) (run (flat_over clip t z) processing d (suc u))
      (run z (skipping d) d (suc u)) (run z processing d (suc u)) (skip clip t z d d (suc u) (omega arith)) (clip_side t z d u)
  clip_side (group l r t) z d u =
      let T : List (Entry A) = flat_over clip t z in
      let R : List (Entry A) = flat_over clip r (pop ∷ T) in
      clip_side l (activate ∷ R) (suc d) (suc u)
      ∙ rw (here (suc d), skip_by clip r (pop ∷ T) (suc d) (suc d) (suc u) (omega arith)) (rw (here (suc d))
      (both (clip_passes pass l) (clip_passes pass r) (clip_passes pass t)
      (run R processing (suc d) (suc u)) (run T processing d (suc u)) (run z (skipping d) d (suc u)) (run z processing d (suc u))
      (clip_side r (pop ∷ T) (suc d) u ∙ rw (here (suc d), eqb-suc-zero u, skip clip t z d d (suc u) (omega arith)))
      (clip_side t z d u)))

  -- behind an opaque item nothing more is shown, as s is 0
  stopped : (t : Side A) (z : List (Entry A)) (d u : ℕ) → run z (skipping 0) d u ≡ [] → run (pop ∷ flat_over paint t z) (skipping 0) (suc d) u ≡ []
  stopped t z d u h = rw (deeper 0 d (omega arith)) (skip paint t z 0 d u (omega arith) ∙ h)

  paint_side : (x : Side A) (z : List (Entry A)) (d u : ℕ) → run z (skipping 0) d u ≡ []
      → run (flat_over paint x z) processing d u ≡ shown_over pass opaque x (run z processing d u)
  paint_side end z d u h = refl
  paint_side (leaf a t) z d u h = rw (paint_side t z d u h, skip paint t z 0 d u (omega arith), h)
  paint_side (group l r t) z d u h =
      let T : List (Entry A) = flat_over paint t z in
      let R : List (Entry A) = flat_over paint r (pop ∷ T) in
      clip_side l (activate ∷ R) (suc d) u
      ∙ rw (here (suc d), skip_by paint r (pop ∷ T) (suc d) (suc d) u (omega arith))
      (rw (here (suc d), paint_side r (pop ∷ T) (suc d) u (stopped t z d u h), paint_side t z d u h))

  pub flat_clipping_law : (x : Side A) (u : ℕ) → flat_clipping pass opaque (flat paint x) processing 0 u ≡ shown pass opaque x
  flat_clipping_law x u =
      ap (λ e. flat_clipping pass opaque e processing 0 u) (flat_is_over paint x) ∙ (paint_side x [] 0 u refl ∙ sym (shown_over_law pass opaque x))

  -- with document 000's "dummy push-pop pair" around the stream
  pub scene : (x : Side A) → flat_clipping pass opaque (push ∷ (flat paint x ++ (pop ∷ []))) processing 0 0 ≡ shown pass opaque x
  scene x =
      ap (λ e. flat_clipping pass opaque (push ∷ e) processing 0 0) (flat_over_law paint x (pop ∷ []))
      ∙ (paint_side x (pop ∷ []) 1 1 refl ∙ sym (shown_over_law pass opaque x))
