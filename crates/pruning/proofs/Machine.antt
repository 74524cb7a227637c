-- The machine shows what the side of its stream shows, and the same as document 000's machine with u.
use mathlib.Core.Path.{◌≡◌, refl, ap, sym, ◌∙◌}
use mathlib.Core.Bool.{Bool, true, false, cond}
use mathlib.Core.List.{List, [], ◌∷◌}
use Prim.Native.Nat.{ℕ, suc, pred, ◌<◌}
use native.Mathlib.Omega.{arith}
use lib.ListN.{length}
use borrow.Author.Tests.{ne_eqb}
use Rattle.pruning.specs.Sides.{paint, clip, Side, Entry, item, push, activate, pop, flat}
use Rattle.pruning.specs.Meaning.{up_to, shown_all, shown}
use Rattle.pruning.specs.Machine.{Mode, processing, skipping, skipping_by, scan}
use Rattle.pruning.specs.FlatClipping.{flat_clipping}
use Rattle.pruning.proofs.FlatClipping.{flat_clipping_law}

module _ {A : Type 0} (pass opaque : A → Bool) where
  up_cond : (b : Bool) (x y : List A) → up_to opaque (cond b x y) ≡ cond b (up_to opaque x) (up_to opaque y)
  up_cond true x y = refl
  up_cond false x y = refl

  up_item : (b c : Bool) (a : A) (x y : List A) → opaque a ≡ c
      → up_to opaque (cond b (a ∷ cond c x y) y) ≡ cond b (a ∷ cond c [] (up_to opaque y)) (up_to opaque y)
  up_item true true a x y e = rw e
  up_item true false a x y e = rw e
  up_item false c a x y e = refl

  up_up : (x : List A) → up_to opaque (up_to opaque x) ≡ up_to opaque x
  up_up [] = refl
  up_up (a ∷ x) = up_item true (opaque a) a [] (up_to opaque x) refl ∙ rw (up_up x)

  -- with a u that the stream cannot bring to 0, document 000's machine is this one on any stream, but that it does not stop
  large_u : (es : List (Entry A)) (m : Mode) (d u : ℕ) → length es < u → up_to opaque (flat_clipping pass opaque es m d u) ≡ scan pass opaque es m d
  large_u [] m d u h = refl
  large_u (item paint a ∷ es) processing d u h =
      up_item (pass a) (opaque a) a (flat_clipping pass opaque es (skipping 0) d u) (flat_clipping pass opaque es processing d u) refl
      ∙ rw (large_u es processing d u (omega arith))
  large_u (item clip a ∷ es) processing d u h = rw (up_cond, large_u es (skipping d) d u (omega arith), large_u es processing d u (omega arith))
  large_u (item k a ∷ es) (skipping s) d u h = large_u es (skipping s) d u (omega arith)
  large_u (item k a ∷ es) (skipping_by s) d u h = large_u es (skipping_by s) d u (omega arith)
  large_u (push ∷ es) m d u h = large_u es m (suc d) (suc u) (omega arith)
  large_u (activate ∷ es) processing d u h = large_u es (skipping_by d) d (pred u) (omega arith)
  large_u (activate ∷ es) (skipping s) d u h = rw (up_cond, large_u es processing d (pred u) (omega arith), large_u es (skipping s) d (pred u) (omega arith))
  large_u (activate ∷ es) (skipping_by s) d u h = large_u es (skipping_by s) d (pred u) (omega arith)
  large_u (pop ∷ es) processing d u h = large_u es processing (pred d) u (omega arith)
  large_u (pop ∷ es) (skipping s) d u h =
      rw (ne_eqb u 0 (omega arith)) (rw (up_cond, large_u es (skipping (pred d)) (pred d) u (omega arith), large_u es (skipping s) (pred d) u (omega arith)))
  large_u (pop ∷ es) (skipping_by s) d u h = rw (up_cond, large_u es processing (pred d) u (omega arith), large_u es (skipping_by s) (pred d) u (omega arith))

  pub machine : (x : Side A) → scan pass opaque (flat paint x) processing 0 ≡ shown pass opaque x
  machine x =
      let u : ℕ = suc (length (flat paint x)) in
      sym (large_u (flat paint x) processing 0 u (omega arith)) ∙ (ap (up_to opaque) (flat_clipping_law pass opaque x u) ∙ up_up (shown_all pass x))

  pub without_u : (x : Side A) → flat_clipping pass opaque (flat paint x) processing 0 0 ≡ scan pass opaque (flat paint x) processing 0
  without_u x = flat_clipping_law pass opaque x 0 ∙ sym (machine x)
