-- Laws of sides and of their streams.
use mathlib.Core.Path.{◌≡◌, refl, ap, sym, ◌∙◌}
use mathlib.Core.List.{List, [], ◌∷◌, ◌++◌, append-nil, append_assoc, map}
use Prim.Native.Nat.{◌+◌}
use native.Mathlib.Omega.{arith}
use lib.ListN.{length, length-append}
use Rattle.pruning.specs.Sides.{Kind, clip, Side, end, leaf, group, Entry, item, push, activate, pop, append, flat, size, map_side, map_entry}

module _ {A : Type 0} where
  pub append_end : (s : Side A) → append s end ≡ s
  append_end end = refl
  append_end (leaf a s) = ap (leaf a) (append_end s)
  append_end (group l r s) = ap (group l r) (append_end s)

  pub append_append : (a b c : Side A) → append (append a b) c ≡ append a (append b c)
  append_append end b c = refl
  append_append (leaf x a) b c = ap (leaf x) (append_append a b c)
  append_append (group l r a) b c = ap (group l r) (append_append a b c)

  pub flat_append : (k : Kind) (a b : Side A) → flat k (append a b) ≡ flat k a ++ flat k b
  flat_append k end b = refl
  flat_append k (leaf x a) b = ap (λ z. item k x ∷ z) (flat_append k a b)
  flat_append k (group l r a) b = simp (flat_append k a b, append_assoc)

  -- the stream with what follows the side
  abbrev pub flat_over : Kind → Side A → List (Entry A) → List (Entry A)
  flat_over k end z = z
  flat_over k (leaf a t) z = item k a ∷ flat_over k t z
  flat_over k (group l r t) z = push ∷ flat_over clip l (activate ∷ flat_over k r (pop ∷ flat_over k t z))

  pub flat_over_law : (k : Kind) (s : Side A) (z : List (Entry A)) → flat k s ++ z ≡ flat_over k s z
  flat_over_law k end z = refl
  flat_over_law k (leaf a t) z = ap (λ x. item k a ∷ x) (flat_over_law k t z)
  flat_over_law k (group l r t) z =
      simp append_assoc (rw (
        flat_over_law k t z,
        flat_over_law k r (pop ∷ flat_over k t z),
        flat_over_law clip l (activate ∷ flat_over k r (pop ∷ flat_over k t z)),
      ) refl)

  pub flat_is_over : (k : Kind) (s : Side A) → flat k s ≡ flat_over k s []
  flat_is_over k s = sym (append-nil (flat k s)) ∙ flat_over_law k s []

-- ---- sizes

pub size_append : {A : Type 0} (a b : Side A) → size (append a b) ≡ size a + size b
size_append end b = omega arith
size_append (leaf x a) b = omega (arith, size_append a b)
size_append (group l r a) b = omega (arith, size_append a b)

pub size_flat : {A : Type 0} (k : Kind) (s : Side A) → length (flat k s) ≡ size s
size_flat k end = refl
size_flat k (leaf a t) = omega (arith, size_flat k t)
size_flat k (group l r t) =
    omega (
      arith,
      size_flat clip l,
      size_flat k r,
      size_flat k t,
      length-append (flat clip l) (activate ∷ (flat k r ++ (pop ∷ flat k t))),
      length-append (flat k r) (pop ∷ flat k t),
    )

-- ---- each item changed

pub map_same : {A : Type 0} (s : Side A) → map_side (λ a. a) s ≡ s
map_same end = refl
map_same (leaf a t) = ap (leaf a) (map_same t)
map_same (group l r t) = rw (map_same l, map_same r, map_same t)

pub map_map : {A B C : Type 0} (f : A → B) (g : B → C) (s : Side A) → map_side g (map_side f s) ≡ map_side (λ a. g (f a)) s
map_map f g end = refl
map_map f g (leaf a t) = ap (leaf (g (f a))) (map_map f g t)
map_map f g (group l r t) = rw (map_map f g l, map_map f g r, map_map f g t)

pub map_append : {A B : Type 0} (f : A → B) (x y : List A) → map f (x ++ y) ≡ map f x ++ map f y
map_append f [] y = refl
map_append f (a ∷ x) y = ap (λ z. f a ∷ z) (map_append f x y)

pub flat_map : {A : Type 0} (f : A → A) (k : Kind) (s : Side A) → flat k (map_side f s) ≡ map (map_entry f) (flat k s)
flat_map f k end = refl
flat_map f k (leaf a t) = ap (λ z. item k (f a) ∷ z) (flat_map f k t)
flat_map f k (group l r t) =
    rw (
      map_append (map_entry f) (flat clip l) (activate ∷ (flat k r ++ (pop ∷ flat k t))),
      map_append (map_entry f) (flat k r) (pop ∷ flat k t),
      flat_map f clip l,
      flat_map f k r,
      flat_map f k t,
    )
