-- Refining each item and pruning does not care whether the side was pruned before; C1 may become bare before or after; pruning twice is
-- pruning once.
use mathlib.Core.Path.{◌≡◌, refl, ap, sym, ◌∙◌}
use mathlib.Core.Bool.{Bool, true, false, ◌||◌, cond}
use Rattle.pruning.specs.Sides.{Kind, paint, clip, Side, end, leaf, group, map_side}
use Rattle.pruning.specs.Items.{Items, Class, fails, passes, other, is_passes}
use Rattle.pruning.specs.Normal.{mixed, normal, put, group_of, one_group, one_leaf, status, always_side, join, cut_leaf, seal, has_one}
use Rattle.pruning.specs.Order.{bare_side, mark_by, pruned}
use Rattle.pruning.proofs.Sides.{map_same}
use Rattle.pruning.proofs.Normal.{status_cases, status_always, or_true, put_put, put_cut, put_end, no_right, normal_has, normal_sealed}
use Rattle.pruning.proofs.Order.{pruned_normal}

module _ (I : Items) (f : I.Item → I.Item)
    (keeps_fails : (k : Kind) (a : I.Item) → I.class k a ≡ fails → I.class k (f a) ≡ fails)
    (keeps_passes : (k : Kind) (a : I.Item) → I.class k a ≡ passes → I.class k (f a) ≡ passes)
  where
    open I use {Item, class, bare, bare_passes}

    -- restrict, and prune
    abbrev m : Kind → Side Item → Side Item
    m k s = normal I k (map_side f s)

    abbrev X : Kind → Item → Side Item
    X k a = one_leaf I k (class k a) a

    join_leaf : (k : Kind) (c : Class) (a : Item) (x y : Side Item) → class k a ≡ c → m k (join I k x y) ≡ put I k (m k x) (m k y)
        → m k (cut_leaf I c a (join I k x y)) ≡ put I k (put I k (X k (f a)) (m k x)) (m k y)
    join_leaf k fails a x y e h = ap (put I k (X k (f a))) h ∙ put_put I k (X k (f a)) (m k x) (m k y)
    join_leaf k passes a x y e h =
        rw (keeps_passes k a e)
        (put_cut I k (f a) end (put I k (m k x) (m k y)) (keeps_passes k a e) ∙ put_put I k (one_leaf I k passes (f a)) (m k x) (m k y))
    join_leaf k other a x y e h = ap (put I k (X k (f a))) h ∙ put_put I k (X k (f a)) (m k x) (m k y)

    m_join : (k : Kind) (x y : Side Item) → m k (join I k x y) ≡ put I k (m k x) (m k y)
    m_join k end y = sym (normal_sealed I k (map_side f y))
    m_join k (leaf a x) y = join_leaf k (class k a) a x y refl (m_join k x y)
    m_join k (group l r x) y =
        let g : Side Item = one_group I (status I (m clip l)) (m clip l) (m k r) in
        ap (put I k g) (m_join k x y) ∙ put_put I k g (m k x) (m k y)

    one_leaf_map : (c : Class) (a : Item) (t : Side Item)
        → class clip a ≡ c
        → (has_one I clip t ≡ true → has_one I clip (map_side f t) ≡ true)
        → (is_passes c || has_one I clip t) ≡ true
        → (is_passes (class clip (f a)) || has_one I clip (map_side f t)) ≡ true
    one_leaf_map fails a t e g h = rw (g h) (or_true (is_passes (class clip (f a))))
    one_leaf_map passes a t e g h = rw (keeps_passes clip a e)
    one_leaf_map other a t e g h = rw (g h) (or_true (is_passes (class clip (f a))))

    has_one_map : (s : Side Item) → has_one I clip s ≡ true → has_one I clip (map_side f s) ≡ true
    has_one_map end h = h
    has_one_map (leaf a t) h = one_leaf_map (class clip a) a t refl (has_one_map t) h
    has_one_map (group l r t) h = has_one_map t h

    m_one : (s : Side Item) → has_one I clip s ≡ true → m clip s ≡ always_side I
    m_one s h = normal_has I (map_side f s) (has_one_map s h)

    m_always : m clip (always_side I) ≡ always_side I
    m_always = m_one (always_side I) (rw bare_passes)

    m_seal : (k : Kind) (s : Side Item) → m k (seal I k s) ≡ m k s
    m_seal paint s = refl
    m_seal clip s = go (has_one I clip s) refl
      where
        go : (b : Bool) → has_one I clip s ≡ b → m clip (cond b (always_side I) s) ≡ m clip s
        go true e = m_always ∙ sym (m_one s e)
        go false e = refl

    m_put : (k : Kind) (x y : Side Item) → m k (put I k x y) ≡ put I k (m k x) (m k y)
    m_put k x y = m_seal k (join I k x y) ∙ m_join k x y

    m_leaf : (k : Kind) (c : Class) (a : Item) (z : Side Item) → class k a ≡ c → put I k (m k (one_leaf I k c a)) z ≡ put I k (X k (f a)) z
    m_leaf k fails a z e = rw (keeps_fails k a e)
    m_leaf paint passes a z e = put_end I paint (X paint (f a)) z
    m_leaf clip passes a z e = ap (λ x. put I clip x z) m_always ∙ rw (keeps_passes clip a e)
    m_leaf k other a z e = put_end I k (X k (f a)) z

    m_mixed : (k : Kind) (l r z : Side Item) → put I k (m k (one_group I mixed l r)) z ≡ put I k (one_group I (status I (m clip l)) (m clip l) (m k r)) z
    m_mixed k l end z = rw (no_right I (status I (m clip l)) (m clip l))
    m_mixed k l (leaf a r) z = put_end I k (one_group I (status I (m clip l)) (m clip l) (m k (leaf a r))) z
    m_mixed k l (group l₁ r₁ r) z = put_end I k (one_group I (status I (m clip l)) (m clip l) (m k (group l₁ r₁ r))) z

    m_group : (k : Kind) (l r z : Side Item) → put I k (m k (one_group I (status I l) l r)) z ≡ put I k (one_group I (status I (m clip l)) (m clip l) (m k r)) z
    m_group k l r z = status_cases I (λ s. put I k (m k (one_group I s l r)) z ≡ put I k (one_group I (status I (m clip l)) (m clip l) (m k r)) z) l
        (λ e. rw e)
        (λ e. rw (m_one l e, status_always I))
        (λ _ _. m_mixed k l r z)

    pub restrict_normal : (k : Kind) (s : Side Item) → normal I k (map_side f (normal I k s)) ≡ normal I k (map_side f s)
    restrict_normal k end = refl
    restrict_normal k (leaf a t) =
        m_put k (X k a) (normal I k t) ∙ (m_leaf k (class k a) a (m k (normal I k t)) refl ∙ ap (put I k (X k (f a))) (restrict_normal k t))
    restrict_normal k (group l r t) =
        m_put k (group_of I k l r) (normal I k t)
        ∙ (m_group k (normal I clip l) (normal I k r) (m k (normal I k t)) ∙ rw (restrict_normal clip l, restrict_normal k r, restrict_normal k t))

module _ (I : Items) where
  open I use {Item, class, bare, bare_passes}

  leaf_marked : (k : Kind) (c : Class) (a : Item) → class k a ≡ c → one_leaf I k (class k (mark_by I k c a)) (mark_by I k c a) ≡ one_leaf I k c a
  leaf_marked k fails a e = rw e
  leaf_marked paint passes a e = rw e
  leaf_marked clip passes a e = rw bare_passes
  leaf_marked k other a e = rw e

  pub normal_bare : (k : Kind) (s : Side Item) → normal I k (bare_side I k s) ≡ normal I k s
  normal_bare k end = refl
  normal_bare k (leaf a t) = rw (leaf_marked k (class k a) a refl, normal_bare k t)
  normal_bare k (group l r t) = rw (normal_bare clip l, normal_bare k r, normal_bare k t)

  -- bare before or after
  pub pruned_bare : (s : Side Item) → pruned I (bare_side I paint s) ≡ pruned I s
  pruned_bare s = pruned_normal I (bare_side I paint s) ∙ (normal_bare paint s ∙ sym (pruned_normal I s))

  pub normal_normal : (k : Kind) (s : Side Item) → normal I k (normal I k s) ≡ normal I k s
  normal_normal k s =
      ap (normal I k) (sym (map_same (normal I k s)))
      ∙ (restrict_normal I (λ a. a) (λ j a e. e) (λ j a e. e) k s ∙ ap (normal I k) (map_same s))
