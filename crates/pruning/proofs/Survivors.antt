-- Pruning removes entries and reorders none; what is left stands as it stood, but for the bare items. Where the literal order stops, no rule
-- applies anywhere.
use mathlib.Core.Path.{◌≡◌, refl, ap, sym, ◌∙◌}
use mathlib.Core.Bool.{Bool, true, false, ◌||◌, cond, false≢true}
use mathlib.Core.List.{List, [], ◌∷◌, ◌++◌, append_assoc}
use mathlib.Core.Option.{Option, none, some}
use Prim.Native.Nat.{ℕ, suc, zero, ◌≤◌}
use native.Mathlib.Omega.{arith}
use lib.ListN.{length}
use Rattle.pruning.specs.Sides.{Kind, paint, clip, Side, end, leaf, group, Entry, item, push, activate, pop, flat, size}
use Rattle.pruning.specs.Items.{Items, Class, fails, passes, other, is_passes}
use Rattle.pruning.specs.Normal.{mixed, normal, group_of, one_group, one_leaf, status, always_side, join, cut_leaf, seal, has_one}
use Rattle.pruning.specs.Rules.{Top, Irreducible}
use Rattle.pruning.specs.Order.{bare_side, steps, again, walk_top}
use Rattle.pruning.specs.code.Survivors.{Sub, nothing, drops, keeps, bares}
use Rattle.pruning.proofs.Sides.{size_flat}
use Rattle.pruning.proofs.Normal.{status_cases}
use Rattle.pruning.proofs.Rules.{top_normal, top_size}
use Rattle.pruning.proofs.Order.{All, walk_top_sound, stuck_normal}

module _ (I : Items) where
  open I use {Item, class, bare}

  sub_refl : (xs : List (Entry Item)) → Sub I xs xs
  sub_refl [] = nothing
  sub_refl (e ∷ xs) = keeps (sub_refl xs)

  sub_none : (ys : List (Entry Item)) → Sub I [] ys
  sub_none [] = nothing
  sub_none (e ∷ ys) = drops (sub_none ys)

  pub sub_trans : {xs ys zs : List (Entry Item)} → Sub I xs ys → Sub I ys zs → Sub I xs zs
  sub_trans h nothing = h
  sub_trans {xs = xs} h (drops k) = drops (sub_trans {xs = xs} h k)
  sub_trans {xs = xs} (drops h) (keeps k) = drops (sub_trans {xs = xs} h k)
  sub_trans (keeps {xs = xs} h) (keeps k) = keeps (sub_trans {xs = xs} h k)
  sub_trans (bares {xs = xs} e h) (keeps k) = bares e (sub_trans {xs = xs} h k)
  sub_trans {xs = xs} (drops h) (bares e k) = drops (sub_trans {xs = xs} h k)
  sub_trans (keeps {xs = xs} h) (bares e k) = bares e (sub_trans {xs = xs} h k)
  sub_trans (bares {xs = xs} d h) (bares e k) = bares e (sub_trans {xs = xs} h k)

  sub_append : {xs ys us vs : List (Entry Item)} → Sub I xs ys → Sub I us vs → Sub I (xs ++ us) (ys ++ vs)
  sub_append nothing k = k
  sub_append (drops h) k = drops (sub_append h k)
  sub_append (keeps h) k = keeps (sub_append h k)
  sub_append (bares e h) k = bares e (sub_append h k)

  pub sub_length : {xs ys : List (Entry Item)} → Sub I xs ys → length xs ≤ length ys
  sub_length nothing = omega arith
  sub_length (drops h) = omega (arith, sub_length h)
  sub_length (keeps h) = omega (arith, sub_length h)
  sub_length (bares e h) = omega (arith, sub_length h)

  sub_after : {xs zs : List (Entry Item)} (ys : List (Entry Item)) → Sub I xs zs → Sub I xs (ys ++ zs)
  sub_after [] h = h
  sub_after (e ∷ ys) h = drops (sub_after ys h)

  sub_front : (xs ys : List (Entry Item)) → Sub I xs (xs ++ ys)
  sub_front [] ys = sub_none ys
  sub_front (e ∷ xs) ys = keeps (sub_front xs ys)

  sub_cut : (k : Kind) (c : Class) (a : Item) (s : Side Item) → Sub I (flat k (cut_leaf I c a s)) (item k a ∷ flat k s)
  sub_cut k fails a s = sub_refl (item k a ∷ flat k s)
  sub_cut k passes a s = keeps (sub_none (flat k s))
  sub_cut k other a s = sub_refl (item k a ∷ flat k s)

  sub_join : (k : Kind) (x y : Side Item) → Sub I (flat k (join I k x y)) (flat k x ++ flat k y)
  sub_join k end y = sub_refl (flat k y)
  sub_join k (leaf a x) y = sub_trans (sub_cut k (class k a) a (join I k x y)) (keeps (sub_join k x y))
  sub_join k (group l r x) y =
      simp append_assoc (keeps (sub_append (sub_refl (flat clip l)) (keeps (sub_append (sub_refl (flat k r)) (keeps (sub_join k x y))))))

  one_leaf_law : (c : Class) (a : Item) (t : Side Item)
      → class clip a ≡ c
      → (has_one I clip t ≡ true → Sub I (item clip bare ∷ []) (flat clip t))
      → (is_passes c || has_one I clip t) ≡ true
      → Sub I (item clip bare ∷ []) (item clip a ∷ flat clip t)
  one_leaf_law fails a t e f h = drops (f h)
  one_leaf_law passes a t e f h = bares e (sub_none (flat clip t))
  one_leaf_law other a t e f h = drops (f h)

  sub_one : (s : Side Item) → has_one I clip s ≡ true → Sub I (item clip bare ∷ []) (flat clip s)
  sub_one end h = absurd (false≢true h)
  sub_one (leaf a t) h = one_leaf_law (class clip a) a t refl (sub_one t) h
  sub_one (group l r t) h = drops (sub_after (flat clip l) (drops (sub_after (flat clip r) (drops (sub_one t h)))))

  sub_seal : (k : Kind) (s : Side Item) → Sub I (flat k (seal I k s)) (flat k s)
  sub_seal paint s = sub_refl (flat paint s)
  sub_seal clip s = go (has_one I clip s) refl
    where
      go : (b : Bool) → has_one I clip s ≡ b → Sub I (flat clip (cond b (always_side I) s)) (flat clip s)
      go true e = sub_one s e
      go false e = sub_refl (flat clip s)

  sub_leaf : (k : Kind) (c : Class) (a : Item) → class k a ≡ c → Sub I (flat k (one_leaf I k c a)) (item k a ∷ [])
  sub_leaf k fails a e = drops nothing
  sub_leaf paint passes a e = keeps nothing
  sub_leaf clip passes a e = bares e nothing
  sub_leaf k other a e = keeps nothing

  sub_mixed : (k : Kind) (l r : Side Item) → Sub I (flat k (one_group I mixed l r)) (push ∷ (flat clip l ++ (activate ∷ (flat k r ++ (pop ∷ [])))))
  sub_mixed k l end = sub_none (flat k (group l end end))
  sub_mixed k l (leaf a r) = sub_refl (flat k (group l (leaf a r) end))
  sub_mixed k l (group l₁ r₁ r) = sub_refl (flat k (group l (group l₁ r₁ r) end))

  sub_group : (k : Kind) (l r : Side Item) → Sub I (flat k (one_group I (status I l) l r)) (push ∷ (flat clip l ++ (activate ∷ (flat k r ++ (pop ∷ [])))))
  sub_group k l r = status_cases I (λ s. Sub I (flat k (one_group I s l r)) (push ∷ (flat clip l ++ (activate ∷ (flat k r ++ (pop ∷ [])))))) l
      (λ e. sub_none (flat k (group l r end)))
      (λ e. drops (sub_after (flat clip l) (drops (sub_front (flat k r) (pop ∷ [])))))
      (λ _ _. sub_mixed k l r)

  -- what is left of a stream
  pub normal_sub : (k : Kind) (s : Side Item) → Sub I (flat k (normal I k s)) (flat k s)
  normal_sub k end = nothing
  normal_sub k (leaf a t) =
      sub_trans (sub_seal k (join I k (one_leaf I k (class k a) a) (normal I k t)))
      (sub_trans (sub_join k (one_leaf I k (class k a) a) (normal I k t)) (sub_append (sub_leaf k (class k a) a refl) (normal_sub k t)))
  normal_sub k (group l r t) =
      simp append_assoc at
      (sub_trans (sub_seal k (join I k (group_of I k l r) (normal I k t)))
      (sub_trans (sub_join k (group_of I k l r) (normal I k t))
      (sub_append
      (sub_trans (sub_group k (normal I clip l) (normal I k r))
      (keeps (sub_append (normal_sub clip l) (keeps (sub_append (normal_sub k r) (sub_refl (pop ∷ [])))))))
      (normal_sub k t))))

  pub size_normal : (s : Side Item) → size (normal I paint s) ≤ size s
  size_normal s = omega (arith, sub_length (normal_sub paint s), size_flat paint s, size_flat paint (normal I paint s))

  size_bare : (k : Kind) (s : Side Item) → size (bare_side I k s) ≡ size s
  size_bare k end = refl
  size_bare k (leaf a t) = omega (arith, size_bare k t)
  size_bare k (group l r t) = omega (arith, size_bare clip l, size_bare k r, size_bare k t)

  -- where the walk finds nothing no rule applies anywhere
  pub stuck_irreducible : (s : Side Item) → walk_top I s ≡ none → Irreducible I s
  stuck_irreducible s e s' h =
      omega (arith, top_size I h, size_normal s', size_bare paint s, ap size (sym (stuck_normal I s e) ∙ top_normal I h))

  none_left : (s : Side Item) → size s ≤ 0 → walk_top I s ≡ none
  none_left end h = refl
  none_left (leaf a t) h = absurd (omega arith)
  none_left (group l r t) h = absurd (omega arith)

  stuck_next : (n : ℕ) (s : Side Item) → size s ≤ suc n → ((s' : Side Item) → size s' ≤ n → walk_top I (steps I n s') ≡ none)
      → (o : Option (Side Item)) → walk_top I s ≡ o → All (Top I s) o → walk_top I (again I (steps I n) s o) ≡ none
  stuck_next n s h ih none e a = e
  stuck_next n s h ih (some s') e a = ih s' (omega (arith, top_size I a))

  -- so many steps are enough
  pub steps_stuck : (n : ℕ) (s : Side Item) → size s ≤ n → walk_top I (steps I n s) ≡ none
  steps_stuck zero s h = none_left s h
  steps_stuck (suc n) s h = stuck_next n s h (steps_stuck n) (walk_top I s) refl (walk_top_sound I s)

  -- the strategy ends where no rule applies anywhere
  pub ends_irreducible : (s : Side Item) → Irreducible I (steps I (size s) s)
  ends_irreducible s = stuck_irreducible (steps I (size s) s) (steps_stuck (size s) s (omega arith))
