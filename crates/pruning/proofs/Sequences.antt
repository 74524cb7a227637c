-- Rules applied and single C1 made bare in any sequence: where no step of either kind is left it is the pruned side, and every sequence ends.
use mathlib.Core.Path.{◌≡◌, refl, sym, ◌∙◌}
use Prim.Native.Nat.{ℕ, ◌+◌, ◌<◌, ◌≤◌}
use native.Mathlib.Omega.{arith}
use Rattle.pruning.specs.Sides.{Kind, paint, clip, Side, end, leaf, group, append, size}
use Rattle.pruning.specs.Items.{Items, Class, fails, passes, other}
use Rattle.pruning.specs.Rules.{Rule, rule_12_13, rule_14, rule_15, rule_16, rule_17, rule_18, Bares, becomes_bare}
use Rattle.pruning.specs.Rules.{
  Anywhere,
  here,
  in_leaf,
  in_left_law,
  in_right_law,
  in_rest,
  BareStep,
  Top,
  top_14,
  below,
  Steps,
  done,
  more,
  more_bare,
  Irreducible,
  Bared,
}
use Rattle.pruning.specs.Order.{mark_by, bare_side, pruned}
use Rattle.pruning.proofs.Sides.{size_append}
use Rattle.pruning.proofs.Rules.{rule_size}
use Rattle.pruning.proofs.Order.{any_order}

-- it can be told whether an item is bare
module _ (I : Items) (bare? : (a : I.Item) → Dec (a ≡ I.bare)) where
  open I use {Item, class, bare, bare_passes}

  -- where no C1 can become bare, each is bare
  bared_leaf : (k : Kind) (c : Class) (a : Item) (t : Side Item) → Dec (a ≡ bare) → class k a ≡ c
      → ((s' : Side Item) → BareStep I k (leaf a t) s' → ⊥) → mark_by I k c a ≡ a
  bared_leaf k fails a t d e f = refl
  bared_leaf paint passes a t d e f = refl
  bared_leaf clip passes a t (yes p) e f = sym p
  bared_leaf clip passes a t (no n) e f = absurd (f (leaf bare t) (here (becomes_bare e n)))
  bared_leaf k other a t d e f = refl

  bared_side : (k : Kind) (s : Side Item) → ((s' : Side Item) → BareStep I k s s' → ⊥) → bare_side I k s ≡ s
  bared_side k end f = refl
  bared_side k (leaf a t) f = rw (bared_leaf k (class k a) a t (bare? a) refl f, bared_side k t (λ t' h. f (leaf a t') (in_leaf h)))
  bared_side k (group l r t) f =
      rw (
        bared_side clip l (λ l' h. f (group l' r t) (in_left_law h)),
        bared_side k r (λ r' h. f (group l r' t) (in_right_law h)),
        bared_side k t (λ t' h. f (group l r t') (in_rest h)),
      )

  -- no step of either kind is left
  pub any_sequence : {s u : Side Item} → Steps I s u → Irreducible I u → Bared I u → u ≡ pruned I s
  any_sequence {s} {u} q f b = sym (bared_side paint u b) ∙ any_order I q f

  -- how many C1 still have an area number
  abbrev pub numbered_leaf : Kind → Class → (a : Item) → Dec (a ≡ bare) → ℕ
  numbered_leaf paint c a d = 0
  numbered_leaf clip fails a d = 0
  numbered_leaf clip passes a (yes p) = 0
  numbered_leaf clip passes a (no n) = 1
  numbered_leaf clip other a d = 0

  abbrev pub numbered : Kind → Side Item → ℕ
  numbered k end = 0
  numbered k (leaf a t) = numbered_leaf k (class k a) a (bare? a) + numbered k t
  numbered k (group l r t) = numbered clip l + (numbered k r + numbered k t)

  numbered_one : (a : Item) (d : Dec (a ≡ bare)) → (a ≡ bare → ⊥) → numbered_leaf clip passes a d ≡ 1
  numbered_one a (yes p) n = absurd (n p)
  numbered_one a (no m) n = refl

  numbered_bare : (d : Dec (bare ≡ bare)) → numbered_leaf clip passes bare d ≡ 0
  numbered_bare (yes p) = refl
  numbered_bare (no n) = absurd (n refl)

  numbered_append : (k : Kind) (a b : Side Item) → numbered k (append a b) ≡ numbered k a + numbered k b
  numbered_append k end b = omega arith
  numbered_append k (leaf x a) b = omega (arith, numbered_append k a b)
  numbered_append k (group l r a) b = omega (arith, numbered_append k a b)

  -- how many steps may remain: each entry may go, and each C1 may become bare once
  abbrev pub remaining : Kind → Side Item → ℕ
  remaining k s = size s + numbered k s

  rule_numbered : {k : Kind} {s s' : Side Item} → Rule I k s s' → numbered k s' ≤ numbered k s
  rule_numbered (rule_12_13 e) = omega arith
  rule_numbered (rule_14 a f c e h) = omega (arith, numbered_append paint a (leaf f c), numbered_append paint a (leaf f end))
  rule_numbered rule_15 = omega arith
  rule_numbered rule_16 = omega arith
  rule_numbered {k} (rule_17 {r = r} {t = t} a c b e) = omega (arith, numbered_append k r t)
  rule_numbered (rule_18 a c b e h) = omega (arith, numbered_append clip a (leaf c b))

  rule_remaining : {k : Kind} {s s' : Side Item} → Rule I k s s' → remaining k s' < remaining k s
  rule_remaining h = omega (arith, rule_size I h, rule_numbered h)

  bare_remaining : {k : Kind} {s s' : Side Item} → Bares I k s s' → remaining k s' < remaining k s
  bare_remaining (becomes_bare {a = a} e n) = rw (e, bare_passes) (omega (arith, numbered_one a (bare? a) n, numbered_bare (bare? bare)))

  anywhere_remaining : {R : Kind → Side Item → Side Item → Type 0} {k : Kind} {s s' : Side Item}
      → ((j : Kind) (t t' : Side Item) → R j t t' → remaining j t' < remaining j t) → Anywhere I R k s s' → remaining k s' < remaining k s
  anywhere_remaining {k} {s} {s'} f (here h) = f k s s' h
  anywhere_remaining f (in_leaf h) = omega (arith, anywhere_remaining f h)
  anywhere_remaining f (in_left_law h) = omega (arith, anywhere_remaining f h)
  anywhere_remaining f (in_right_law h) = omega (arith, anywhere_remaining f h)
  anywhere_remaining f (in_rest h) = omega (arith, anywhere_remaining f h)

  top_remaining : {s s' : Side Item} → Top I s s' → remaining paint s' < remaining paint s
  top_remaining (top_14 a f c e h) =
      omega (arith, size_append a (leaf f c), size_append a (leaf f end), numbered_append paint a (leaf f c), numbered_append paint a (leaf f end))
  top_remaining (below h) = anywhere_remaining (λ j t t' r. rule_remaining r) h

  -- the number of steps, and its bound
  abbrev pub count : {s u : Side Item} → Steps I s u → ℕ
  count done = 0
  count (more h q) = 1 + count q
  count (more_bare h q) = 1 + count q

  pub every_sequence_ends : {s u : Side Item} (q : Steps I s u) → count q + remaining paint u ≤ remaining paint s
  every_sequence_ends done = omega arith
  every_sequence_ends (more h q) = omega (arith, top_remaining h, every_sequence_ends q)
  every_sequence_ends (more_bare h q) = omega (arith, anywhere_remaining (λ j t t' b. bare_remaining b) h, every_sequence_ends q)
