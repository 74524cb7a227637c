-- Pruning keeps what a side shows, wherever the classes of its items are true.
use mathlib.Core.Path.{◌≡◌, refl, ap, sym, ◌∙◌}
use mathlib.Core.Bool.{Bool, true, false, ◌||◌, ◌&&◌, cond, false≢true}
use mathlib.Core.List.{List, [], ◌∷◌, ◌++◌, append-nil, append_assoc, map}
use Rattle.laws.proofs.Booleans.{or_false, or_or}
use Rattle.pruning.specs.Sides.{Kind, paint, clip, Side, end, leaf, group, map_side}
use Rattle.pruning.specs.Meaning.{clip_passes, shown_all, up_to, shown}
use Rattle.pruning.specs.Items.{Items, Class, fails, passes, other, is_passes}
use Rattle.pruning.specs.Normal.{mixed, normal, put, group_of, one_group, one_leaf, status, always_side, join, cut_leaf, seal, has_one}
use Rattle.pruning.proofs.Sides.{map_append}
use Rattle.pruning.proofs.Normal.{or_true, status_cases}

-- what a side shows in front of z: nothing behind an opaque item counts
module _ {A : Type 0} (pass opaque : A → Bool) where
  abbrev pub over : A → List A → List A
  over a z = a ∷ cond (opaque a) [] z

  abbrev pub shown_over : Side A → List A → List A
  shown_over end z = z
  shown_over (leaf a t) z = cond (pass a) (over a (shown_over t z)) (shown_over t z)
  shown_over (group l r t) z = cond (clip_passes pass l) (shown_over r (shown_over t z)) (shown_over t z)

  up_to_leaf : (b : Bool) (a : A) (x y z : List A) → up_to opaque (x ++ y) ≡ z → up_to opaque (cond b (a ∷ []) [] ++ x ++ y) ≡ cond b (over a z) z
  up_to_leaf true a x y z h = rw h
  up_to_leaf false a x y z h = h

  up_to_group : (b : Bool) (r t : Side A) (y : List A)
      → ((w : List A) → up_to opaque (shown_all pass r ++ w) ≡ shown_over r (up_to opaque w))
      → up_to opaque (shown_all pass t ++ y) ≡ shown_over t (up_to opaque y)
      → up_to opaque (cond b (shown_all pass r) [] ++ shown_all pass t ++ y)
      ≡ cond b (shown_over r (shown_over t (up_to opaque y))) (shown_over t (up_to opaque y))
  up_to_group true r t y f h = ap (up_to opaque) (append_assoc (shown_all pass r) (shown_all pass t) y) ∙ (f (shown_all pass t ++ y) ∙ ap (shown_over r) h)
  up_to_group false r t y f h = h

  up_to_all : (s : Side A) (y : List A) → up_to opaque (shown_all pass s ++ y) ≡ shown_over s (up_to opaque y)
  up_to_all end y = refl
  up_to_all (leaf a t) y = up_to_leaf (pass a) a (shown_all pass t) y (shown_over t (up_to opaque y)) (up_to_all t y)
  up_to_all (group l r t) y = up_to_group (clip_passes pass l) r t y (up_to_all r) (up_to_all t y)

  pub shown_over_law : (s : Side A) → shown pass opaque s ≡ shown_over s []
  shown_over_law s = ap (up_to opaque) (sym (append-nil (shown_all pass s))) ∙ up_to_all s []

-- what a side shows, each of its items changed
module _ {A B : Type 0} (f : A → B) (pass opaque : B → Bool) where
  clip_map : (s : Side A) → clip_passes pass (map_side f s) ≡ clip_passes (λ a. pass (f a)) s
  clip_map end = refl
  clip_map (leaf a t) = rw (clip_map t)
  clip_map (group l r t) = rw (clip_map l, clip_map r, clip_map t)

  map_cond : (b : Bool) (x y : List A) → cond b (map f x) [] ++ map f y ≡ map f (cond b x [] ++ y)
  map_cond true x y = sym (map_append f x y)
  map_cond false x y = refl

  all_map : (s : Side A) → shown_all pass (map_side f s) ≡ map f (shown_all (λ a. pass (f a)) s)
  all_map end = refl
  all_map (leaf a t) = rw (all_map t) (map_cond (pass (f a)) (a ∷ []) (shown_all (λ b. pass (f b)) t))
  all_map (group l r t) =
      rw (clip_map l, all_map r, all_map t)
      (map_cond (clip_passes (λ a. pass (f a)) l) (shown_all (λ a. pass (f a)) r) (shown_all (λ a. pass (f a)) t))

  map_stop : (b : Bool) (x : List A) (y : List B) → y ≡ map f x → cond b [] y ≡ map f (cond b [] x)
  map_stop true x y e = refl
  map_stop false x y e = e

  up_to_map : (l : List A) → up_to opaque (map f l) ≡ map f (up_to (λ a. opaque (f a)) l)
  up_to_map [] = refl
  up_to_map (a ∷ l) = ap (λ z. f a ∷ z) (map_stop (opaque (f a)) (up_to (λ b. opaque (f b)) l) (up_to opaque (map f l)) (up_to_map l))

  pub shown_map : (s : Side A) → shown pass opaque (map_side f s) ≡ map f (shown (λ a. pass (f a)) (λ a. opaque (f a)) s)
  shown_map s = ap (up_to opaque) (all_map s) ∙ up_to_map (shown_all (λ a. pass (f a)) s)

-- pruning keeps the meaning
module _ (I : Items) (pass opaque : I.Item → Bool)
    (agree_fails : (k : Kind) (a : I.Item) → I.class k a ≡ fails → pass a ≡ false)
    (agree_passes : (k : Kind) (a : I.Item) → I.class k a ≡ passes → pass a ≡ true)
    (agree_opaque : (a : I.Item) → I.class paint a ≡ passes → opaque a ≡ true)
  where
    open I use {Item, class, bare, bare_passes}

    abbrev cp : Side Item → Bool
    cp = clip_passes pass

    abbrev so : Side Item → List Item → List Item
    so = shown_over pass opaque

    cut_clip : (c : Class) (a : Item) (s : Side Item) → class clip a ≡ c → cp (cut_leaf I c a s) ≡ (pass a || cp s)
    cut_clip fails a s e = refl
    cut_clip passes a s e = rw (agree_passes clip a e)
    cut_clip other a s e = refl

    pub join_clip : (x y : Side Item) → cp (join I clip x y) ≡ (cp x || cp y)
    join_clip end y = refl
    join_clip (leaf a x) y = cut_clip (class clip a) a (join I clip x y) refl ∙ rw (join_clip x y) (sym (or_or (pass a) (cp x) (cp y)))
    join_clip (group l r x) y = rw (join_clip x y) (sym (or_or (cp l && cp r) (cp x) (cp y)))

    -- an item that always passes is on it
    one_passes_leaf : (c : Class) (a : Item) (s : Side Item)
        → class clip a ≡ c
        → (has_one I clip s ≡ true → cp s ≡ true)
        → (is_passes c || has_one I clip s) ≡ true
        → (pass a || cp s) ≡ true
    one_passes_leaf fails a s e f h = rw (f h) (or_true (pass a))
    one_passes_leaf passes a s e f h = rw (agree_passes clip a e)
    one_passes_leaf other a s e f h = rw (f h) (or_true (pass a))

    one_passes : (s : Side Item) → has_one I clip s ≡ true → cp s ≡ true
    one_passes end h = absurd (false≢true h)
    one_passes (leaf a s) h = one_passes_leaf (class clip a) a s refl (one_passes s) h
    one_passes (group l r s) h = rw (one_passes s h) (or_true (cp l && cp r))

    bare_passes_here : cp (always_side I) ≡ true
    bare_passes_here = rw (agree_passes clip bare bare_passes)

    seal_clip : (s : Side Item) → cp (seal I clip s) ≡ cp s
    seal_clip s = go (has_one I clip s) refl
      where
        go : (b : Bool) → has_one I clip s ≡ b → cp (cond b (always_side I) s) ≡ cp s
        go true e = bare_passes_here ∙ sym (one_passes s e)
        go false e = refl

    and_false : (a : Bool) → (a && false) ≡ false
    and_false true = refl
    and_false false = refl

    leaf_clip : (c : Class) (a : Item) → class clip a ≡ c → cp (one_leaf I clip c a) ≡ pass a
    leaf_clip fails a e = sym (agree_fails clip a e)
    leaf_clip passes a e = bare_passes_here ∙ sym (agree_passes clip a e)
    leaf_clip other a e = or_false (pass a)

    pub put_clip : (x y : Side Item) → cp (put I clip x y) ≡ (cp x || cp y)
    put_clip x y = seal_clip (join I clip x y) ∙ join_clip x y

    mixed_clip : (l r : Side Item) → cp (one_group I mixed l r) ≡ (cp l && cp r)
    mixed_clip l end = sym (and_false (cp l))
    mixed_clip l (leaf a r) = or_false (cp l && cp (leaf a r))
    mixed_clip l (group l₁ r₁ r) = or_false (cp l && cp (group l₁ r₁ r))

    group_clip : (l r : Side Item) → cp (one_group I (status I l) l r) ≡ (cp l && cp r)
    group_clip l r = status_cases I (λ s. cp (one_group I s l r) ≡ (cp l && cp r)) l (λ e. rw e) (λ e. rw (one_passes l e)) (λ _ _. mixed_clip l r)

    pub normal_clip : (s : Side Item) → cp (normal I clip s) ≡ cp s
    normal_clip end = refl
    normal_clip (leaf a t) = put_clip (one_leaf I clip (class clip a) a) (normal I clip t) ∙ rw (leaf_clip (class clip a) a refl, normal_clip t)
    normal_clip (group l r t) =
        put_clip (group_of I clip l r) (normal I clip t)
        ∙ rw (group_clip (normal I clip l) (normal I clip r), normal_clip l, normal_clip r, normal_clip t)

    -- the shown items
    cut_paint : (c : Class) (a : Item) (s : Side Item) (z : List Item)
        → class paint a ≡ c
        → so (cut_leaf I c a s) z ≡ cond (pass a) (over pass opaque a (so s z)) (so s z)
    cut_paint fails a s z e = refl
    cut_paint passes a s z e = rw (agree_passes paint a e, agree_opaque a e)
    cut_paint other a s z e = refl

    pub join_paint : (x y : Side Item) (z : List Item) → so (join I paint x y) z ≡ so x (so y z)
    join_paint end y z = refl
    join_paint (leaf a x) y z = cut_paint (class paint a) a (join I paint x y) z refl ∙ rw (join_paint x y z)
    join_paint (group l r x) y z = rw (join_paint x y z)

    leaf_paint : (c : Class) (a : Item) (z : List Item) → class paint a ≡ c → so (one_leaf I paint c a) z ≡ cond (pass a) (over pass opaque a z) z
    leaf_paint fails a z e = rw (agree_fails paint a e)
    leaf_paint passes a z e = refl
    leaf_paint other a z e = refl

    cond_same : {X : Type 0} (b : Bool) (x : X) → x ≡ cond b x x
    cond_same true x = refl
    cond_same false x = refl

    mixed_paint : (l r : Side Item) (z : List Item) → so (one_group I mixed l r) z ≡ cond (cp l) (so r z) z
    mixed_paint l end z = cond_same (cp l) z
    mixed_paint l (leaf a r) z = refl
    mixed_paint l (group l₁ r₁ r) z = refl

    group_paint : (l r : Side Item) (z : List Item) → so (one_group I (status I l) l r) z ≡ cond (cp l) (so r z) z
    group_paint l r z =
        status_cases I (λ s. so (one_group I s l r) z ≡ cond (cp l) (so r z) z) l (λ e. rw e) (λ e. rw (one_passes l e))
        (λ _ _. mixed_paint l r z)

    pub normal_paint : (s : Side Item) (z : List Item) → so (normal I paint s) z ≡ so s z
    normal_paint end z = refl
    normal_paint (leaf a t) z =
        join_paint (one_leaf I paint (class paint a) a) (normal I paint t) z
        ∙ (leaf_paint (class paint a) a (so (normal I paint t) z) refl ∙ rw (normal_paint t z))
    normal_paint (group l r t) z =
        join_paint (group_of I paint l r) (normal I paint t) z
        ∙ (group_paint (normal I clip l) (normal I paint r) (so (normal I paint t) z)
        ∙ rw (normal_clip l, normal_paint r (so (normal I paint t) z), normal_paint t z))

    pub normal_shown : (s : Side Item) → shown pass opaque (normal I paint s) ≡ shown pass opaque s
    normal_shown s = shown_over_law pass opaque (normal I paint s) ∙ (normal_paint s [] ∙ sym (shown_over_law pass opaque s))
