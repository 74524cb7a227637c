-- The algebra of the normal form: it takes one side behind another to a sealed join.
use mathlib.Core.Path.{◌≡◌, refl, ap, sym, ◌∙◌}
use mathlib.Core.Bool.{Bool, true, false, ◌||◌, cond}
use Rattle.laws.proofs.Booleans.{or_or}
use Rattle.pruning.specs.Sides.{is_end, Kind, paint, clip, Side, end, leaf, group, append}
use Rattle.pruning.specs.Items.{Items, Class, fails, passes, other, is_passes}
use Rattle.pruning.specs.Normal.{
  Status,
  empty,
  always,
  mixed,
  has_one,
  cut_leaf,
  join,
  always_side,
  seal,
  mark,
  one_leaf,
  status_of,
  status,
  one_group,
  put,
  normal,
  group_of,
}

pub or_true : (a : Bool) → (a || true) ≡ true
or_true true = refl
or_true false = refl

module _ (I : Items) where
  open I use {Item, class, bare, bare_passes}

  -- the three cases of a left side
  pub status_cases : (P : Status → Type 0) (l : Side Item)
      → (l ≡ end → P empty)
      → (has_one I clip l ≡ true → P always)
      → (is_end l ≡ false → has_one I clip l ≡ false → P mixed)
      → P (status I l)
  status_cases P l f g m = go l (has_one I clip l) refl f g m
    where
      go : (x : Side Item) (b : Bool)
          → has_one I clip x ≡ b
          → (x ≡ end → P empty)
          → (has_one I clip x ≡ true → P always)
          → (is_end x ≡ false → has_one I clip x ≡ false → P mixed)
          → P (status_of I b x)
      go end b e f g m = f refl
      go (leaf a t) true e f g m = g e
      go (leaf a t) false e f g m = m refl e
      go (group l r t) true e f g m = g e
      go (group l r t) false e f g m = m refl e

  -- laws of join I
  pub join_cut : (k : Kind) (c : Class) (x : Item) (s t : Side Item) → class k x ≡ c → join I k (cut_leaf I c x s) t ≡ cut_leaf I c x (join I k s t)
  join_cut k fails x s t e = rw e
  join_cut k passes x s t e = rw e
  join_cut k other x s t e = rw e

  pub join_join : (k : Kind) (a b c : Side Item) → join I k (join I k a b) c ≡ join I k a (join I k b c)
  join_join k end b c = refl
  join_join k (leaf x a) b c = join_cut k (class k x) x (join I k a b) c refl ∙ ap (cut_leaf I (class k x) x) (join_join k a b c)
  join_join k (group l r a) b c = ap (group l r) (join_join k a b c)

  -- has_one I of a join I
  has_one_cut : (k : Kind) (c : Class) (x : Item) (s : Side Item) → class k x ≡ c → has_one I k (cut_leaf I c x s) ≡ (is_passes c || has_one I k s)
  has_one_cut k fails x s e = rw e
  has_one_cut k passes x s e = rw e
  has_one_cut k other x s e = rw e

  pub has_one_join : (k : Kind) (a b : Side Item) → has_one I k (join I k a b) ≡ (has_one I k a || has_one I k b)
  has_one_join k end b = refl
  has_one_join k (leaf x a) b =
      rw (has_one_cut k (class k x) x (join I k a b) refl, has_one_join k a b)
      (sym (or_or (is_passes (class k x)) (has_one I k a) (has_one I k b)))
  has_one_join k (group l r a) b = has_one_join k a b

  pub has_one_always : has_one I clip (always_side I) ≡ true
  has_one_always = rw bare_passes

  -- laws of seal I
  sealing : (b : Bool) (s : Side Item) → has_one I clip s ≡ b → has_one I clip (cond b (always_side I) s) ≡ b
  sealing true s e = has_one_always
  sealing false s e = e

  pub has_one_seal : (k : Kind) (s : Side Item) → has_one I k (seal I k s) ≡ has_one I k s
  has_one_seal paint s = refl
  has_one_seal clip s = sealing (has_one I clip s) s refl

  pub seal_one : (s : Side Item) → has_one I clip s ≡ true → seal I clip s ≡ (always_side I)
  seal_one s e = rw e

  pub seal_none : (s : Side Item) → has_one I clip s ≡ false → seal I clip s ≡ s
  seal_none s e = rw e

  -- two clip sides that both hold such an item are sealed alike
  seal_both : (s t : Side Item) → has_one I clip s ≡ true → has_one I clip t ≡ true → seal I clip s ≡ seal I clip t
  seal_both s t e d = seal_one s e ∙ sym (seal_one t d)

  pub one_left : (a b : Side Item) → has_one I clip a ≡ true → has_one I clip (join I clip a b) ≡ true
  one_left a b e = has_one_join clip a b ∙ ap (λ x. x || has_one I clip b) e

  pub one_right : (a b : Side Item) → has_one I clip b ≡ true → has_one I clip (join I clip a b) ≡ true
  one_right a b e = has_one_join clip a b ∙ (ap (λ x. has_one I clip a || x) e ∙ or_true (has_one I clip a))

  pub seal_seal : (k : Kind) (s : Side Item) → seal I k (seal I k s) ≡ seal I k s
  seal_seal paint s = refl
  seal_seal clip s = go (has_one I clip s) refl
    where
      go : (b : Bool) → has_one I clip s ≡ b → seal I clip (seal I clip s) ≡ seal I clip s
      go true e = seal_both (seal I clip s) s (has_one_seal clip s ∙ e) e
      go false e = ap (seal I clip) (seal_none s e)

  pub seal_join_left : (k : Kind) (a b : Side Item) → seal I k (join I k (seal I k a) b) ≡ seal I k (join I k a b)
  seal_join_left paint a b = refl
  seal_join_left clip a b = go (has_one I clip a) refl
    where
      go : (c : Bool) → has_one I clip a ≡ c → seal I clip (join I clip (seal I clip a) b) ≡ seal I clip (join I clip a b)
      go true e = seal_both (join I clip (seal I clip a) b) (join I clip a b) (one_left (seal I clip a) b (has_one_seal clip a ∙ e)) (one_left a b e)
      go false e = ap (λ x. seal I clip (join I clip x b)) (seal_none a e)

  pub seal_join_right : (k : Kind) (a b : Side Item) → seal I k (join I k a (seal I k b)) ≡ seal I k (join I k a b)
  seal_join_right paint a b = refl
  seal_join_right clip a b = go (has_one I clip b) refl
    where
      go : (c : Bool) → has_one I clip b ≡ c → seal I clip (join I clip a (seal I clip b)) ≡ seal I clip (join I clip a b)
      go true e = seal_both (join I clip a (seal I clip b)) (join I clip a b) (one_right a (seal I clip b) (has_one_seal clip b ∙ e)) (one_right a b e)
      go false e = ap (λ x. seal I clip (join I clip a x)) (seal_none b e)

  -- normal I is a map of monoids: from append to a sealed join I
  pub normal_sealed : (k : Kind) (s : Side Item) → seal I k (normal I k s) ≡ normal I k s
  normal_sealed paint s = refl
  normal_sealed clip end = refl
  normal_sealed clip (leaf a t) = seal_seal clip (join I clip (one_leaf I clip (class clip a) a) (normal I clip t))
  normal_sealed clip (group l r t) = seal_seal clip (join I clip (group_of I clip l r) (normal I clip t))

  pub put_put : (k : Kind) (x u v : Side Item) → put I k x (put I k u v) ≡ put I k (put I k x u) v
  put_put k x u v = seal_join_right k x (join I k u v) ∙ (ap (seal I k) (sym (join_join k x u v)) ∙ sym (seal_join_left k (join I k x u) v))

  pub normal_append : (k : Kind) (a b : Side Item) → normal I k (append a b) ≡ put I k (normal I k a) (normal I k b)
  normal_append k end b = sym (normal_sealed k b)
  normal_append k (leaf x a) b =
      ap (put I k (one_leaf I k (class k x) x)) (normal_append k a b) ∙ put_put k (one_leaf I k (class k x) x) (normal I k a) (normal I k b)
  normal_append k (group l r a) b = ap (put I k (group_of I k l r)) (normal_append k a b) ∙ put_put k (group_of I k l r) (normal I k a) (normal I k b)

  -- a clip side with an item that always passes
  pub one_leaf_law : (c : Item) (b : Side Item) → class clip c ≡ passes → has_one I clip (normal I clip (leaf c b)) ≡ true
  one_leaf_law c b e =
      has_one_seal clip (join I clip (one_leaf I clip (class clip c) c) (normal I clip b))
      ∙ one_left (one_leaf I clip (class clip c) c) (normal I clip b) (rw e has_one_always)

  pub normal_one : (a : Side Item) (c : Item) (b : Side Item) → class clip c ≡ passes → normal I clip (append a (leaf c b)) ≡ (always_side I)
  normal_one a c b e =
      normal_append clip a (leaf c b)
      ∙ seal_one (join I clip (normal I clip a) (normal I clip (leaf c b))) (one_right (normal I clip a) (normal I clip (leaf c b)) (one_leaf_law c b e))

  pub status_always : status I (always_side I) ≡ always
  status_always = rw has_one_always

  has_one_put : (x y : Side Item) → has_one I clip y ≡ true → has_one I clip (put I clip x y) ≡ true
  has_one_put x y h = has_one_seal clip (join I clip x y) ∙ one_right x y h

  pub no_right : (s : Status) (l : Side Item) → one_group I s l end ≡ end
  no_right empty l = refl
  no_right always l = refl
  no_right mixed l = refl

  -- the same from has_one I
  has_one_leaf : (c : Class) (a : Item) (t : Side Item)
      → class clip a ≡ c
      → (has_one I clip t ≡ true → has_one I clip (normal I clip t) ≡ true)
      → (is_passes c || has_one I clip t) ≡ true
      → has_one I clip (normal I clip (leaf a t)) ≡ true
  has_one_leaf fails a t e f h = has_one_put (one_leaf I clip (class clip a) a) (normal I clip t) (f h)
  has_one_leaf passes a t e f h = one_leaf_law a t e
  has_one_leaf other a t e f h = has_one_put (one_leaf I clip (class clip a) a) (normal I clip t) (f h)

  pub has_one_normal : (s : Side Item) → has_one I clip s ≡ true → has_one I clip (normal I clip s) ≡ true
  has_one_normal end h = h
  has_one_normal (leaf a t) h = has_one_leaf (class clip a) a t refl (has_one_normal t) h
  has_one_normal (group l r t) h = has_one_put (group_of I clip l r) (normal I clip t) (has_one_normal t h)

  pub normal_has : (s : Side Item) → has_one I clip s ≡ true → normal I clip s ≡ (always_side I)
  normal_has s h = sym (normal_sealed clip s) ∙ seal_one (normal I clip s) (has_one_normal s h)

  -- nothing follows an item that always passes
  class_mark : (k : Kind) (a : Item) → class k a ≡ passes → class k (mark I k a) ≡ passes
  class_mark paint a e = e
  class_mark clip a e = bare_passes

  pub put_cut : (k : Kind) (a : Item) (u v : Side Item) → class k a ≡ passes → put I k (one_leaf I k passes a) u ≡ put I k (one_leaf I k passes a) v
  put_cut k a u v e = ap (seal I k) (rw (class_mark k a e))

  pub put_end : (k : Kind) (x z : Side Item) → put I k (put I k x end) z ≡ put I k x z
  put_end k x z = sym (put_put k x end z) ∙ seal_join_right k x z
