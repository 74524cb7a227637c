-- The one-pass pruner writes the pruned stream.
use mathlib.Core.Path.{◌≡◌, refl, ap, sym, ◌∙◌}
use mathlib.Core.Bool.{Bool, true, false, ◌||◌, cond, false≢true, true≢false}
use mathlib.Core.List.{List, [], ◌∷◌, ◌++◌, append-nil, append_assoc, map}
use Prim.Native.Nat.{ℕ, suc, ◌<◌}
use native.Mathlib.Omega.{arith}
use lib.Dec.{eqb}
use lib.ListN.{length, take, length-append}
use lib.Seq.{take-append_seam}
use borrow.Author.Tests.{eq-eqb, ne_eqb}
use Rattle.pruning.specs.Sides.{is_end, Kind, paint, clip, Side, end, leaf, group, append, Entry, item, push, activate, pop, flat, map_side, map_entry}
use Rattle.pruning.specs.Items.{Items, Class, fails, passes, other, is_passes}
use Rattle.pruning.specs.Normal.{normal, put, group_of, one_group, one_leaf, status, always_side, join, cut_leaf, seal, has_one, mixed}
use Rattle.pruning.specs.Order.{pruned}
use Rattle.pruning.specs.code.Pruner.{
  Place,
  left,
  right,
  through,
  dead,
  Frame,
  frame,
  going,
  shut,
  State,
  st,
  elements,
  written,
  add_passes,
  add_item,
  end_right,
  step,
  run,
  skip_of,
}
use Rattle.pruning.proofs.Sides.{append_end, flat_over, flat_is_over, flat_map}
use Rattle.pruning.proofs.Normal.{
  join_join,
  seal_seal,
  seal_none,
  seal_one,
  has_one_join,
  has_one_seal,
  status_cases,
  put_put,
  normal_sealed,
  seal_join_right,
  one_left,
  one_right,
  has_one_always,
}
use Rattle.pruning.proofs.Order.{pruned_normal}

-- a closed side takes nothing more
module _ (I : Items) where
  open I use {Item, class, bare, bare_passes}

  abbrev pub Closed : Kind → Side Item → Type 0
  Closed k s = has_one I k s ≡ true → (v : Side Item) → join I k s v ≡ s

  closed_join : (k : Kind) (x y : Side Item) → Closed k x → Closed k y → Closed k (join I k x y)
  closed_join k x y f g h v = join_join I k x y v ∙ go (has_one I k x) refl
    where
      go : (b : Bool) → has_one I k x ≡ b → join I k x (join I k y v) ≡ join I k x y
      go true e = f e (join I k y v) ∙ sym (f e y)
      go false e = ap (join I k x) (g (sym (rw e at (has_one_join I k x y)) ∙ h) v)

  closed_always : Closed clip (always_side I)
  closed_always h v = rw bare_passes

  closed_seal : (k : Kind) (s : Side Item) → Closed k s → Closed k (seal I k s)
  closed_seal paint s f = f
  closed_seal clip s f = go (has_one I clip s)
    where
      go : (b : Bool) → Closed clip (cond b (always_side I) s)
      go true = closed_always
      go false = f

  closed_end : (k : Kind) → Closed k end
  closed_end k h = absurd (false≢true h)

  closed_put : (k : Kind) (x y : Side Item) → Closed k x → Closed k y → Closed k (put I k x y)
  closed_put k x y f g = closed_seal k (join I k x y) (closed_join k x y f g)

  closed_leaf : (k : Kind) (c : Class) (a : Item) → class k a ≡ c → Closed k (one_leaf I k c a)
  closed_leaf k fails a e h v = absurd (false≢true h)
  closed_leaf paint passes a e h v = rw e
  closed_leaf clip passes a e h v = rw bare_passes
  closed_leaf k other a e h v = absurd (false≢true (rw e at h))

  closed_mixed : (k : Kind) (l r : Side Item) → Closed k (one_group I mixed l r)
  closed_mixed k l end h = closed_end k h
  closed_mixed k l (leaf a r) h = absurd (false≢true h)
  closed_mixed k l (group l₁ r₁ r) h = absurd (false≢true h)

  closed_group : (k : Kind) (l r : Side Item) → Closed k r → Closed k (one_group I (status I l) l r)
  closed_group k l r f = status_cases I (λ s. Closed k (one_group I s l r)) l (λ e. closed_end k) (λ e. f) (λ _ _. closed_mixed k l r)

  pub closed_normal : (k : Kind) (s : Side Item) → Closed k (normal I k s)
  closed_normal k end = closed_end k
  closed_normal k (leaf a t) = closed_put k (one_leaf I k (class k a) a) (normal I k t) (closed_leaf k (class k a) a refl) (closed_normal k t)
  closed_normal k (group l r t) =
      closed_put k (group_of I k l r) (normal I k t) (closed_group k (normal I clip l) (normal I k r) (closed_normal k r))
      (closed_normal k t)

  -- an open side takes the whole of the next
  open_cut : (k : Kind) (c : Class) (a : Item) (s : Side Item) → is_passes c ≡ false → cut_leaf I c a s ≡ leaf a s
  open_cut k fails a s e = refl
  open_cut k passes a s e = absurd (true≢false e)
  open_cut k other a s e = refl

  or_left : (a b : Bool) → (a || b) ≡ false → a ≡ false
  or_left true b e = e
  or_left false b e = refl

  or_right : (a b : Bool) → (a || b) ≡ false → b ≡ false
  or_right true b e = absurd (true≢false e)
  or_right false b e = e

  pub open_join : (k : Kind) (x y : Side Item) → has_one I k x ≡ false → join I k x y ≡ append x y
  open_join k end y h = refl
  open_join k (leaf a x) y h =
      open_cut k (class k a) a (join I k x y) (or_left (is_passes (class k a)) (has_one I k x) h)
      ∙ ap (leaf a) (open_join k x y (or_right (is_passes (class k a)) (has_one I k x) h))
  open_join k (group l r x) y h = ap (group l r) (open_join k x y h)

module _ (I : Items) (Element : Type 0) (enc : Entry I.Item → List Element) (enc_some : (e : Entry I.Item) → 0 < length (enc e)) where
  open I use {Item, class, bare, bare_passes}

  elements_written : (k : Kind) (s : Side Item) (z : List (Entry Item))
      → written I Element enc (flat_over k s z) ≡ elements I Element enc k s ++ written I Element enc z
  elements_written k end z = refl
  elements_written k (leaf a t) z = rw (elements_written k t z) (sym (append_assoc (enc (item k a)) (elements I Element enc k t) (written I Element enc z)))
  elements_written k (group l r t) z =
      rw (elements_written clip l (activate ∷ flat_over k r (pop ∷ flat_over k t z)), elements_written k r (pop ∷ flat_over k t z), elements_written k t z)
      (simp append_assoc)

  pub elements_flat : (k : Kind) (s : Side Item) → elements I Element enc k s ≡ written I Element enc (flat k s)
  elements_flat k s = sym (append-nil (elements I Element enc k s)) ∙ (sym (elements_written k s []) ∙ ap (written I Element enc) (sym (flat_is_over k s)))

  elements_append : (k : Kind) (a b : Side Item) → elements I Element enc k (append a b) ≡ elements I Element enc k a ++ elements I Element enc k b
  elements_append k end b = refl
  elements_append k (leaf x a) b = rw (elements_append k a b) (sym (append_assoc (enc (item k x)) (elements I Element enc k a) (elements I Element enc k b)))
  elements_append k (group l r a) b = rw (elements_append k a b) (simp append_assoc)

  skip : (k : Kind) (x : Side Item) (z : List (Entry Item)) (out : List Element) (base n : ℕ) (fs : List Frame)
      → run I Element enc (flat_over k x z) (st out base (shut n) fs) ≡ run I Element enc z (st out base (shut n) fs)
  skip k end z out base n fs = refl
  skip k (leaf a t) z out base n fs = skip k t z out base n fs
  skip k (group l r t) z out base n fs =
      skip clip l (activate ∷ flat_over k r (pop ∷ flat_over k t z)) out base (suc n) fs
      ∙ (skip k r (pop ∷ flat_over k t z) out base (suc n) fs ∙ skip k t z out base n fs)

  -- the state on a side of which y is written
  abbrev at : Kind → List Element → Side Item → List Frame → State Element
  at k pre y fs = st (pre ++ elements I Element enc k y) (length pre) (skip_of I Element enc (has_one I k y)) fs

  pub record Good (k : Kind) (y : Side Item) : Type 0 where
    pub sealed : seal I k y ≡ y
    pub closed : Closed I k y

  good_end : (k : Kind) → Good k end
  good_end paint = record { sealed = refl; closed = closed_end I paint }
  good_end clip = record { sealed = refl; closed = closed_end I clip }

  good_put : (k : Kind) (x y : Side Item) → Closed I k x → Closed I k y → Good k (put I k x y)
  good_put k x y f g = record { sealed = seal_seal I k (join I k x y); closed = closed_put I k x y f g }

  -- a closed side that is good stays as it is
  put_closed : (k : Kind) (y v : Side Item) → Good k y → has_one I k y ≡ true → put I k y v ≡ y
  put_closed k y v g h = ap (seal I k) (g.closed h v) ∙ g.sealed

  put_nothing : (k : Kind) (y : Side Item) → Good k y → put I k y end ≡ y
  put_nothing k y g = go (has_one I k y) refl
    where
      go : (b : Bool) → has_one I k y ≡ b → put I k y end ≡ y
      go true h = put_closed k y end g h
      go false h = ap (seal I k) (open_join I k y end h ∙ append_end y) ∙ g.sealed

  -- a closed side
  main_closed : (k : Kind) (x : Side Item) (z : List (Entry Item)) (pre : List Element) (y : Side Item) (fs : List Frame) → Good k y → has_one I k y ≡ true
      → run I Element enc (flat_over k x z) (at k pre y fs) ≡ run I Element enc z (at k pre (put I k y (normal I k x)) fs)
  main_closed k x z pre y fs g h = rw (put_closed k y (normal I k x) g h, h) (skip k x z (pre ++ elements I Element enc k y) (length pre) 0 fs)

  -- an open side
  at_open : (k : Kind) (pre : List Element) (y : Side Item) (fs : List Frame)
      → has_one I k y ≡ false
      → at k pre y fs ≡ st (pre ++ elements I Element enc k y) (length pre) going fs
  at_open k pre y fs h = rw h

  put_open : (k : Kind) (y v : Side Item) → has_one I k y ≡ false → has_one I k v ≡ false → put I k y v ≡ append y v
  put_open paint y v h g = open_join I paint y v h
  put_open clip y v h g = seal_none I (join I clip y v) (has_one_join I clip y v ∙ rw (h, g)) ∙ open_join I clip y v h

  one_put_open : (k : Kind) (y v : Side Item) → has_one I k y ≡ false → has_one I k v ≡ false → has_one I k (put I k y v) ≡ false
  one_put_open k y v h g = has_one_seal I k (join I k y v) ∙ (has_one_join I k y v ∙ rw (h, g))

  at_put : (k : Kind) (pre : List Element) (y v : Side Item) (fs : List Frame) → has_one I k y ≡ false → has_one I k v ≡ false
      → at k pre (put I k y v) fs ≡ st (pre ++ elements I Element enc k y ++ elements I Element enc k v) (length pre) going fs
  at_put k pre y v fs h g =
      at_open k pre (put I k y v) fs (one_put_open k y v h g)
      ∙ ap (λ o. st o (length pre) going fs)
      (ap (λ x. pre ++ elements I Element enc k x) (put_open k y v h g)
      ∙ (ap (λ o. pre ++ o) (elements_append k y v) ∙ sym (append_assoc pre (elements I Element enc k y) (elements I Element enc k v))))

  -- a side begins
  begin : (k : Kind) (q : List Element) (fs : List Frame) → st q (length q) going fs ≡ at k q end fs
  begin k q fs = rw (append-nil q)

  put_seal : (k : Kind) (y v : Side Item) → put I k y (put I k end v) ≡ put I k y v
  put_seal k y v = seal_join_right I k y v

  abbrev Goes : Kind → Side Item → List (Entry Item) → List Element → List Frame → Type 0
  Goes k t z pre fs =
      (y : Side Item) → Good k y → run I Element enc (flat_over k t z) (at k pre y fs) ≡ run I Element enc z (at k pre (put I k y (normal I k t)) fs)

  at_shut : (pre : List Element) (y : Side Item) (a : Item) (fs : List Frame) → class paint a ≡ passes → has_one I paint y ≡ false
      → at paint pre (join I paint y (leaf a end)) fs ≡ st (pre ++ elements I Element enc paint y ++ enc (item paint a)) (length pre) (shut 0) fs
  at_shut pre y a fs e h =
      rw (
        has_one_join I paint y (leaf a end),
        h,
        e,
        open_join I paint y (leaf a end) h,
        elements_append paint y (leaf a end),
        append-nil (enc (item paint a)),
        append_assoc pre (elements I Element enc paint y) (enc (item paint a)),
      )

  clip_shut : (y n : Side Item) → put I clip y (put I clip (always_side I) n) ≡ always_side I
  clip_shut y n = seal_one I (join I clip y (put I clip (always_side I) n))
      (one_right I y (put I clip (always_side I) n) (has_one_seal I clip (join I clip (always_side I) n) ∙ one_left I (always_side I) n (has_one_always I)))

  leaf_passes_law : (k : Kind) (a : Item) (t : Side Item) (z : List (Entry Item)) (pre : List Element) (y : Side Item) (fs : List Frame)
      → class k a ≡ passes
      → has_one I k y ≡ false
      → run I Element enc (flat_over k t z) (add_passes I Element enc k a (pre ++ elements I Element enc k y) (length pre) fs)
      ≡ run I Element enc z (at k pre (put I k y (put I k (one_leaf I k passes a) (normal I k t))) fs)
  leaf_passes_law paint a t z pre y fs e h =
      skip paint t z (pre ++ elements I Element enc paint y ++ enc (item paint a)) (length pre) 0 fs
      ∙ ap (run I Element enc z) (rw e (sym (at_shut pre y a fs e h)))
  leaf_passes_law clip a t z pre y fs e h =
      rw (clip_shut y (normal I clip t), take-append_seam pre (elements I Element enc clip y))
      (skip clip t z (pre ++ enc (item clip bare)) (length pre) 0 fs ∙ rw (bare_passes, append-nil (enc (item clip bare))))

  main_leaf : (k : Kind) (c : Class) (a : Item) (t : Side Item) (z : List (Entry Item)) (pre : List Element) (y : Side Item) (fs : List Frame)
      → Good k y
      → class k a ≡ c
      → has_one I k y ≡ false
      → Goes k t z pre fs
      → run I Element enc (flat_over k t z) (add_item I Element enc k c a (pre ++ elements I Element enc k y) (length pre) fs)
      ≡ run I Element enc z (at k pre (put I k y (put I k (one_leaf I k c a) (normal I k t))) fs)
  main_leaf k fails a t z pre y fs g e h ih =
      ap (run I Element enc (flat_over k t z)) (sym (at_open k pre y fs h))
      ∙ (ih y g ∙ ap (λ w. run I Element enc z (at k pre w fs)) (sym (put_seal k y (normal I k t))))
  main_leaf k passes a t z pre y fs g e h ih = leaf_passes_law k a t z pre y fs e h
  main_leaf k other a t z pre y fs g e h ih =
      ap (run I Element enc (flat_over k t z)) (rw (← append-nil (enc (item k a))) (sym (at_put k pre y (leaf a end) fs h (rw e))))
      ∙ (ih (put I k y (leaf a end)) (good_put k y (leaf a end) g.closed (closed_leaf I k other a e))
      ∙ ap (λ w. run I Element enc z (at k pre w fs)) (sym (put_put I k y (leaf a end) (normal I k t))))

  -- the delimiters
  grown : (k : Kind) (p : List Element) (x : Side Item) → is_end x ≡ false → eqb (length (p ++ elements I Element enc k x)) (length p) ≡ false
  grown k p end e = absurd (true≢false e)
  grown k p (leaf a t) e =
      ne_eqb (length (p ++ elements I Element enc k (leaf a t))) (length p)
      (λ h.
      omega (
        arith,
        length-append p (elements I Element enc k (leaf a t)),
        length-append (enc (item k a)) (elements I Element enc k t),
        enc_some (item k a),
      ))
  grown k p (group l r t) e =
      ne_eqb (length (p ++ elements I Element enc k (group l r t))) (length p)
      (λ h.
      omega (
        arith,
        length-append p (elements I Element enc k (group l r t)),
        length-append (enc push) (elements I Element enc clip l ++ (enc activate ++ (elements I Element enc k r ++ (enc pop ++ elements I Element enc k t)))),
        enc_some push,
      ))

  ungrown : (p : List Element) → eqb (length (p ++ [])) (length p) ≡ true
  ungrown p = eq-eqb (length (p ++ [])) (length p) (ap length (append-nil p))

  take_back : (q x e : List Element) → take (length q) (q ++ e ++ x) ≡ q
  take_back q x e = rw (append_assoc q e x, take-append_seam q (e ++ x))

  at_bar_always : (q : List Element) (x : Side Item) (b : ℕ) (fs : List Frame) → has_one I clip x ≡ true
      → step I Element enc (at clip (q ++ enc push) x (frame left (length q) b ∷ fs)) activate ≡ st q b going (frame through b b ∷ fs)
  at_bar_always q x b fs h = rw (h, take_back q (elements I Element enc clip x) (enc push))

  at_bar_empty : (q : List Element) (b : ℕ) (fs : List Frame)
      → step I Element enc (at clip (q ++ enc push) end (frame left (length q) b ∷ fs)) activate ≡ st q b (shut 0) (frame dead b b ∷ fs)
  at_bar_empty q b fs = rw (ungrown (q ++ enc push), take_back q [] (enc push))

  at_bar_mixed : (k : Kind) (q : List Element) (x : Side Item) (b : ℕ) (fs : List Frame)
      → is_end x ≡ false
      → has_one I clip x ≡ false
      → step I Element enc (at clip (q ++ enc push) x (frame left (length q) b ∷ fs)) activate
      ≡ at k (q ++ enc push ++ elements I Element enc clip x ++ enc activate) end (frame right (length q) b ∷ fs)
  at_bar_mixed k q x b fs n h =
      rw (h, grown clip (q ++ enc push) x n)
      (begin k (q ++ enc push ++ elements I Element enc clip x ++ enc activate) (frame right (length q) b ∷ fs))

  step_pop : (out : List Element) (base : ℕ) (b : Bool) (fs : List Frame)
      → step I Element enc (st out base (skip_of I Element enc b) fs) pop ≡ end_right I Element enc out base (skip_of I Element enc b) fs
  step_pop out base true fs = refl
  step_pop out base false fs = refl

  at_pop_through : (k : Kind) (p : List Element) (w : Side Item) (s b : ℕ) (fs : List Frame)
      → step I Element enc (at k p w (frame through s b ∷ fs)) pop ≡ at k p w fs
  at_pop_through k p w s b fs = step_pop (p ++ elements I Element enc k w) (length p) (has_one I k w) (frame through s b ∷ fs)

  at_pop_empty : (k : Kind) (p : List Element) (s b : ℕ) (fs : List Frame)
      → step I Element enc (at k p end (frame right s b ∷ fs)) pop ≡ st (take s (p ++ [])) b going fs
  at_pop_empty k p s b fs = rw (ungrown p)

  at_pop_kept : (k : Kind) (p : List Element) (x : Side Item) (s b : ℕ) (fs : List Frame) → is_end x ≡ false
      → step I Element enc (at k p x (frame right s b ∷ fs)) pop ≡ st (p ++ elements I Element enc k x ++ enc pop) b going fs
  at_pop_kept k p x s b fs n = step_pop (p ++ elements I Element enc k x) (length p) (has_one I k x) (frame right s b ∷ fs) ∙ rw (grown k p x n)

  abbrev Runs : Kind → Side Item → Type 0
  Runs k x =
      (z : List (Entry Item)) (pre : List Element) (y : Side Item) (fs : List Frame)
      → Good k y
      → run I Element enc (flat_over k x z) (at k pre y fs) ≡ run I Element enc z (at k pre (put I k y (normal I k x)) fs)

  leaf_cases : (k : Kind) (a : Item) (t : Side Item)
      → Runs k t
      → (z : List (Entry Item)) (pre : List Element) (y : Side Item) (fs : List Frame)
      → Good k y
      → (b : Bool)
      → has_one I k y ≡ b
      → run I Element enc (flat_over k (leaf a t) z) (at k pre y fs) ≡ run I Element enc z (at k pre (put I k y (normal I k (leaf a t))) fs)
  leaf_cases k a t ih z pre y fs g true h = main_closed k (leaf a t) z pre y fs g h
  leaf_cases k a t ih z pre y fs g false h = rw h (main_leaf k (class k a) a t z pre y fs g refl h (λ y' g'. ih z pre y' fs g'))

  keeps : (l r : Side Item) → is_end r ≡ false → one_group I mixed l r ≡ group l r end
  keeps l end n = absurd (true≢false n)
  keeps l (leaf a r) n = refl
  keeps l (group l₁ r₁ r) n = refl

  is_end_law : (x : Side Item) → is_end x ≡ true → x ≡ end
  is_end_law end e = refl
  is_end_law (leaf a t) e = absurd (false≢true e)
  is_end_law (group l r t) e = absurd (false≢true e)

  take_whole : (o x e f : List Element) → take (length o) (o ++ e ++ x ++ f ++ []) ≡ o
  take_whole o x e f = simp append_assoc (take-append_seam o (e ++ (x ++ (f ++ []))))

  wrapped : (o x y : List Element) → o ++ enc push ++ x ++ enc activate ++ y ++ enc pop ≡ o ++ (enc push ++ (x ++ (enc activate ++ (y ++ (enc pop ++ [])))))
  wrapped o x y = simp (append_assoc, append-nil)

  module _ (k : Kind) (l r t : Side Item) (ihl : Runs clip l) (ihr : Runs k r) (iht : Runs k t) (z : List (Entry Item)) (pre : List Element)
      (y : Side Item) (fs : List Frame) (g : Good k y) (h : has_one I k y ≡ false) where
    abbrev q : List Element
    q = pre ++ elements I Element enc k y

    abbrev L : Side Item
    L = normal I clip l

    abbrev R : Side Item
    R = normal I k r

    abbrev N : Side Item
    N = normal I k t

    abbrev T : List (Entry Item)
    T = flat_over k t z

    abbrev in_group : Place → List Frame
    in_group p = frame p (length q) (length pre) ∷ fs

    abbrev past_left : Place → List Frame
    past_left p = frame p (length pre) (length pre) ∷ fs

    case_empty : L ≡ end
        → run I Element enc (flat_over k r (pop ∷ T)) (step I Element enc (at clip (q ++ enc push) L (in_group left)) activate)
        ≡ run I Element enc z (at k pre (put I k y (put I k end N)) fs)
    case_empty e =
        rw (e, at_bar_empty q (length pre) fs) (skip k r (pop ∷ T) q (length pre) 0 (past_left dead)
        ∙ (ap (run I Element enc T) (sym (at_open k pre y fs h)) ∙ (iht z pre y fs g ∙ ap (λ w. run I Element enc z (at k pre w fs)) (sym (put_seal k y N)))))

    case_always : has_one I clip L ≡ true
        → run I Element enc (flat_over k r (pop ∷ T)) (step I Element enc (at clip (q ++ enc push) L (in_group left)) activate)
        ≡ run I Element enc z (at k pre (put I k y (put I k R N)) fs)
    case_always e =
        ap (run I Element enc (flat_over k r (pop ∷ T))) (at_bar_always q L (length pre) fs e ∙ sym (at_open k pre y (past_left through) h))
        ∙ (ihr (pop ∷ T) pre y (past_left through) g
        ∙ (ap (run I Element enc T) (at_pop_through k pre (put I k y R) (length pre) (length pre) fs)
        ∙ (iht z pre (put I k y R) fs (good_put k y R g.closed (closed_normal I k r))
        ∙ ap (λ w. run I Element enc z (at k pre w fs)) (sym (put_put I k y R N)))))

    after_right_law : (b : Bool)
        → is_end R ≡ b
        → run I Element enc T (step I Element enc (at k (q ++ enc push ++ elements I Element enc clip L ++ enc activate) R (in_group right)) pop)
        ≡ run I Element enc z (at k pre (put I k y (put I k (one_group I mixed L R) N)) fs)
    after_right_law true e =
        rw (is_end_law R e) (ap (run I Element enc T)
        (at_pop_empty k (q ++ enc push ++ elements I Element enc clip L ++ enc activate) (length q) (length pre) fs
        ∙ (ap (λ o. st o (length pre) going fs) (take_whole q (elements I Element enc clip L) (enc push) (enc activate)) ∙ sym (at_open k pre y fs h)))
        ∙ (iht z pre y fs g ∙ ap (λ w. run I Element enc z (at k pre w fs)) (sym (put_seal k y N))))
    after_right_law false e =
        rw (keeps L R e)
        (ap (run I Element enc T) (at_pop_kept k (q ++ enc push ++ elements I Element enc clip L ++ enc activate) R (length q) (length pre) fs e
        ∙ (ap (λ o. st o (length pre) going fs) (wrapped q (elements I Element enc clip L) (elements I Element enc k R))
        ∙ sym (at_put k pre y (group L R end) fs h refl)))
        ∙ (iht z pre (put I k y (group L R end)) fs (good_put k y (group L R end) g.closed (λ o. absurd (false≢true o)))
        ∙ ap (λ w. run I Element enc z (at k pre w fs)) (sym (put_put I k y (group L R end) N))))

    case_mixed : is_end L ≡ false
        → has_one I clip L ≡ false
        → run I Element enc (flat_over k r (pop ∷ T)) (step I Element enc (at clip (q ++ enc push) L (in_group left)) activate)
        ≡ run I Element enc z (at k pre (put I k y (put I k (one_group I mixed L R) N)) fs)
    case_mixed n o =
        ap (run I Element enc (flat_over k r (pop ∷ T))) (at_bar_mixed k q L (length pre) fs n o)
        ∙ (ihr (pop ∷ T) (q ++ enc push ++ elements I Element enc clip L ++ enc activate) end (in_group right) (good_end k)
        ∙ rw (normal_sealed I k r) (after_right_law (is_end R) refl))

    group_open : run I Element enc (flat_over k (group l r t) z) (at k pre y fs) ≡ run I Element enc z (at k pre (put I k y (normal I k (group l r t))) fs)
    group_open =
        rw h
        (ap (run I Element enc (flat_over clip l (activate ∷ flat_over k r (pop ∷ T)))) (begin clip (q ++ enc push) (in_group left))
        ∙ (ihl (activate ∷ flat_over k r (pop ∷ T)) (q ++ enc push) end (in_group left) (good_end clip)
        ∙ rw (normal_sealed I clip l)
        (status_cases I
        (λ s.
        run I Element enc (flat_over k r (pop ∷ T)) (step I Element enc (at clip (q ++ enc push) L (in_group left)) activate)
        ≡ run I Element enc z (at k pre (put I k y (put I k (one_group I s L R) N)) fs))
        L case_empty case_always case_mixed)))

  group_cases : (k : Kind) (l r t : Side Item)
      → Runs clip l
      → Runs k r
      → Runs k t
      → (z : List (Entry Item)) (pre : List Element) (y : Side Item) (fs : List Frame)
      → Good k y
      → (b : Bool)
      → has_one I k y ≡ b
      → run I Element enc (flat_over k (group l r t) z) (at k pre y fs) ≡ run I Element enc z (at k pre (put I k y (normal I k (group l r t))) fs)
  group_cases k l r t ihl ihr iht z pre y fs g true h = main_closed k (group l r t) z pre y fs g h
  group_cases k l r t ihl ihr iht z pre y fs g false h = group_open k l r t ihl ihr iht z pre y fs g h

  main : (k : Kind) (x : Side Item) → Runs k x
  main k end z pre y fs g = ap (λ w. run I Element enc z (at k pre w fs)) (sym (put_nothing k y g))
  main k (leaf a t) z pre y fs g = leaf_cases k a t (main k t) z pre y fs g (has_one I k y) refl
  main k (group l r t) z pre y fs g = group_cases k l r t (main clip l) (main k r) (main k t) z pre y fs g (has_one I k y) refl

  -- the pruner writes the stream of the normal form
  pub stream_normal : (x : Side Item)
      → run I Element enc (flat paint x) (st [] 0 going [])
      ≡ st (elements I Element enc paint (normal I paint x)) 0 (skip_of I Element enc (has_one I paint (normal I paint x))) []
  stream_normal x = ap (λ e. run I Element enc e (st [] 0 going [])) (flat_is_over paint x) ∙ main paint x [] [] end [] (good_end paint)

  -- a child's elements, from the parent's stream in one reading
  pub child_elements_law : (f : Item → Item) (s : Side Item)
      → run I Element enc (map (map_entry f) (flat paint s)) (st [] 0 going [])
      ≡ st (elements I Element enc paint (pruned I (map_side f s))) 0 (skip_of I Element enc (has_one I paint (pruned I (map_side f s)))) []
  child_elements_law f s = rw (← flat_map f paint s, pruned_normal I (map_side f s)) (stream_normal (map_side f s))
