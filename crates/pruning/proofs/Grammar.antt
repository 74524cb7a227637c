-- A stream is in the grammar exactly when it is the stream of a tree; the tree of a stream gives it back.
use mathlib.Core.Path.{◌≡◌, refl, ap, sym, ◌∙◌}
use mathlib.Core.Bool.{Bool, true, false, ◌&&◌, false≢true}
use mathlib.Core.List.{List, [], ◌∷◌}
use Rattle.pruning.specs.Sides.{Kind, paint, clip, Side, end, leaf, group, Entry, item, push, activate, pop, flat}
use Rattle.pruning.specs.Grammar.{Open, in_left, in_right, same_kind, Pending, inside, before, built, fits, back, build, side_of, tree}
use Rattle.pruning.proofs.Sides.{flat_over, flat_is_over}

same_kind_law : (k j : Kind) → same_kind k j ≡ true → k ≡ j
same_kind_law paint paint e = refl
same_kind_law paint clip e = absurd (false≢true e)
same_kind_law clip paint e = absurd (false≢true e)
same_kind_law clip clip e = refl

same_self : (k : Kind) → same_kind k k ≡ true
same_self paint = refl
same_self clip = refl

and_left : (a b : Bool) → (a && b) ≡ true → a ≡ true
and_left true b e = refl
and_left false b e = e

and_right : (a b : Bool) → (a && b) ≡ true → b ≡ true
and_right true b e = e
and_right false b e = absurd (false≢true e)

-- what is still to come of the open groups
pub data Rest (A : Type 0) : List Open → Type 0 where
  none : Rest A []
  after_left : {o : Kind} {os : List Open} (r t : Side A) → Rest A os → Rest A (in_left o ∷ os)
  after_right : {o : Kind} {os : List Open} (t : Side A) → Rest A os → Rest A (in_right o ∷ os)

module _ {A : Type 0} where
  abbrev pub flat_rest : {os : List Open} → Rest A os → List (Entry A)
  flat_rest none = []
  flat_rest (after_left {o = o} r t p) = activate ∷ flat_over o r (pop ∷ flat_over o t (flat_rest p))
  flat_rest (after_right {o = o} t p) = pop ∷ flat_over o t (flat_rest p)

  -- what fits is the stream of a tree
  abbrev Comes : List (Entry A) → Kind → List Open → Type 0
  Comes es k os = (s : Side A) × (p : Rest A os) × (es ≡ flat_over k s (flat_rest p))

  comes_item : (j k : Kind) (a : A) (es : List (Entry A)) (os : List Open) → j ≡ k → Comes es k os → Comes (item j a ∷ es) k os
  comes_item j k a es os e c = (leaf a c.0, c.1, rw e (ap (λ z. item k a ∷ z) c.2))

  comes_push : (k : Kind) (es : List (Entry A)) (os : List Open) (l : Side A) (p : Rest A (in_left k ∷ os))
      → es ≡ flat_over clip l (flat_rest p)
      → Comes (push ∷ es) k os
  comes_push k es os l (after_left r t p) e = (group l r t, p, ap (λ z. push ∷ z) e)

  comes_activate : (k o : Kind) (es : List (Entry A)) (os : List Open) (r : Side A) (p : Rest A (in_right o ∷ os))
      → es ≡ flat_over o r (flat_rest p)
      → Comes (activate ∷ es) k (in_left o ∷ os)
  comes_activate k o es os r (after_right t p) e = (end, after_left r t p, ap (λ z. activate ∷ z) e)

  pub fits_comes : (es : List (Entry A)) (k : Kind) (os : List Open) → fits es k os ≡ true → Comes es k os
  fits_comes [] k [] e = (end, none, refl)
  fits_comes [] k (o ∷ os) e = absurd (false≢true e)
  fits_comes (item j a ∷ es) k os e =
      comes_item j k a es os (same_kind_law j k (and_left (same_kind j k) (fits es k os) e)) (fits_comes es k os (and_right (same_kind j k) (fits es k os) e))
  fits_comes (push ∷ es) k os e = let c = fits_comes es clip (in_left k ∷ os) e in comes_push k es os c.0 c.1 c.2
  fits_comes (activate ∷ es) k [] e = absurd (false≢true e)
  fits_comes (activate ∷ es) k (in_left o ∷ os) e = let c = fits_comes es o (in_right o ∷ os) e in comes_activate k o es os c.0 c.1 c.2
  fits_comes (activate ∷ es) k (in_right o ∷ os) e = absurd (false≢true e)
  fits_comes (pop ∷ es) k [] e = absurd (false≢true e)
  fits_comes (pop ∷ es) k (in_left o ∷ os) e = absurd (false≢true e)
  fits_comes (pop ∷ es) k (in_right o ∷ os) e = let c = fits_comes es o os e in (end, after_right c.0 c.1, ap (λ z. pop ∷ z) c.2)

  whole_stream : (es : List (Entry A)) (s : Side A) (p : Rest A []) → es ≡ flat_over paint s (flat_rest p) → es ≡ flat paint s
  whole_stream es s none e = e ∙ sym (flat_is_over paint s)

  pub fits_tree : (es : List (Entry A)) → fits es paint [] ≡ true → (s : Side A) × (es ≡ flat paint s)
  fits_tree es e = let c = fits_comes es paint [] e in (c.0, whole_stream es c.0 c.1 c.2)

  -- the stream of a tree fits
  pub flat_fits : (s : Side A) (z : List (Entry A)) (k : Kind) (os : List Open) → fits (flat_over k s z) k os ≡ fits z k os
  flat_fits end z k os = refl
  flat_fits (leaf a t) z k os = rw (same_self k) (flat_fits t z k os)
  flat_fits (group l r t) z k os =
      flat_fits l (activate ∷ flat_over k r (pop ∷ flat_over k t z)) clip (in_left k ∷ os)
      ∙ (flat_fits r (pop ∷ flat_over k t z) k (in_right k ∷ os) ∙ flat_fits t z k os)

  build_flat : (k : Kind) (s : Side A) (z : List (Entry A)) (ps : List (Pending A)) → build z ≡ built end ps → build (flat_over k s z) ≡ built s ps
  build_flat k end z ps e = e
  build_flat k (leaf a t) z ps e = ap (back (item k a)) (build_flat k t z ps e)
  build_flat k (group l r t) z ps e =
      ap (back push) (build_flat clip l (activate ∷ flat_over k r (pop ∷ flat_over k t z)) (before r t ∷ ps)
      (ap (back activate) (build_flat k r (pop ∷ flat_over k t z) (inside t ∷ ps) (ap (back pop) (build_flat k t z ps e)))))

  pub tree_flat : (s : Side A) → tree (flat paint s) ≡ s
  tree_flat s = ap tree (flat_is_over paint s) ∙ ap side_of (build_flat paint s [] [] refl)

  -- a stream that fits is the stream of its tree
  pub fits_flat : (es : List (Entry A)) → fits es paint [] ≡ true → es ≡ flat paint (tree es)
  fits_flat es e = let c = fits_tree es e in c.1 ∙ ap (flat paint) (sym (tree_flat c.0) ∙ ap tree (sym c.1))
