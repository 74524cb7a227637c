-- The counters by weights go in step with the pruner.
use mathlib.Core.Path.{◌≡◌, refl, ap, sym, ◌∙◌}
use mathlib.Core.Bool.{Bool, true, false}
use mathlib.Core.List.{List, [], ◌∷◌, ◌++◌, map}
use Prim.Native.Nat.{ℕ, suc, zero, ◌+◌, ◌<◌, ◌≤◌}
use native.Mathlib.Omega.{arith}
use native.Mathlib.Nat.{not-suc-le-zero}
use lib.Dec.{eqb}
use lib.ListN.{length, take, drop, length-drop, take-append-drop}
use lib.Seq.{take-take, take-length, take-append-le, length-take-le}
use borrow.Author.Tests.{eq-eqb, ne_eqb, eqb-true, eqb-false}
use Rattle.pruning.specs.Sides.{Kind, paint, clip, Entry, item, push, activate, pop}
use Rattle.pruning.specs.Items.{Items, Class, fails, passes, other}
use Rattle.pruning.specs.code.Pruner.{
  left,
  right,
  through,
  dead,
  Frame,
  frame,
  Skip,
  going,
  shut,
  State,
  st,
  step,
  add_item,
  keep_left,
  keep_right,
  end_left,
  end_right,
}
use Rattle.pruning.specs.code.Counters.{Count, ct, count_item, count_keep_left, count_left, count_keep_right, count_right, count_step}
use Rattle.pruning.specs.code.Weights.{total, before, frame_at, weighed, Sized, sized, sized_items, size_of}
use Rattle.pruning.proofs.Counters.{Chain, Fit, count}

module _ {Element : Type 0} (weight : Element → ℕ) where
  pub total_append : (x y : List Element) → total weight (x ++ y) ≡ total weight x + total weight y
  total_append [] y = omega arith
  total_append (r ∷ x) y = omega (arith, total_append x y)

  -- places up to b have the same weights before them, where the first b elements are the same
  before_same : (b p : ℕ) (x y : List Element) → take b x ≡ take b y → p ≤ b → before weight x p ≡ before weight y p
  before_same b p x y e h = ap (total weight) (sym (take-take p b x h) ∙ (ap (take p) e ∙ take-take p b y h))

  frames_same : (b : ℕ) (fs : List Frame) (x y : List Element) → Chain b fs → take b x ≡ take b y → map (frame_at weight x) fs ≡ map (frame_at weight y) fs
  frames_same b [] x y c e = refl
  frames_same b (frame left s o ∷ fs) x y c e =
      let r = frames_same o fs x y c.1.1 (sym (take-take o b x (omega arith)) ∙ (ap (take o) e ∙ take-take o b y (omega arith))) in
      rw (before_same b s x y e c.0, before_same b o x y e (omega arith), r)
  frames_same b (frame right s o ∷ fs) x y c e =
      let r = frames_same o fs x y c.1.1 (sym (take-take o b x (omega arith)) ∙ (ap (take o) e ∙ take-take o b y (omega arith))) in
      rw (before_same b s x y e c.0, before_same b o x y e (omega arith), r)
  frames_same b (frame through s o ∷ fs) x y c e =
      let r = frames_same o fs x y c.2 (sym (take-take o b x (omega arith)) ∙ (ap (take o) e ∙ take-take o b y (omega arith))) in
      rw (before_same b s x y e (omega arith), before_same b o x y e (omega arith), r)
  frames_same b (frame dead s o ∷ fs) x y c e =
      let r = frames_same o fs x y c.2 (sym (take-take o b x (omega arith)) ∙ (ap (take o) e ∙ take-take o b y (omega arith))) in
      rw (before_same b s x y e (omega arith), before_same b o x y e (omega arith), r)

  -- going back to a place and writing there leaves what stands before
  pub back_keeps : (b p : ℕ) (out r : List Element) → b ≤ p → p ≤ length out → take b (take p out ++ r) ≡ take b out
  back_keeps b p out r h l = take-append-le b (take p out) r (omega (arith, length-take-le p out l)) ∙ take-take b p out h

  pub add_keeps : (b : ℕ) (out r : List Element) → b ≤ length out → take b (out ++ r) ≡ take b out
  add_keeps b out r h = take-append-le b out r h

  same_count : {n n' m m' : ℕ} {w : Skip} {fs fs' : List Frame} → n ≡ n' → m ≡ m' → fs ≡ fs' → ct n m w fs ≡ ct n' m' w fs'
  same_count p q r = cc

  -- elements were added
  added : (out r : List Element) (b : ℕ) (w : Skip) (fs : List Frame) → b ≤ length out → Chain b fs
      → weighed weight (st (out ++ r) b w fs) ≡ ct (total weight out + total weight r) (before weight out b) w (map (frame_at weight out) fs)
  added out r b w fs h c = same_count (total_append out r) (ap (total weight) (add_keeps b out r h)) (frames_same b fs (out ++ r) out c (add_keeps b out r h))

  -- the output went back to where it stood at place p, with what began at b before that
  cut : (out : List Element) (p b : ℕ) (w : Skip) (fs : List Frame) → b ≤ p → Chain b fs
      → weighed weight (st (take p out) b w fs) ≡ ct (before weight out p) (before weight out b) w (map (frame_at weight out) fs)
  cut out p b w fs h c = same_count refl (ap (total weight) (take-take b p out h)) (frames_same b fs (take p out) out c (take-take b p out h))

  module _ (some : (r : Element) → 0 < weight r) where
    some_total : (x : List Element) → 0 < length x → 0 < total weight x
    some_total [] h = absurd (not-suc-le-zero h)
    some_total (r ∷ x) h = omega (arith, some r)

    -- whether anything was written since b is seen by the weights too
    same_test : (out : List Element) (b : ℕ) → b ≤ length out → eqb (total weight out) (before weight out b) ≡ eqb (length out) b
    same_test out b h = go (eqb (length out) b) refl
      where
        go : (t : Bool) → eqb (length out) b ≡ t → eqb (total weight out) (before weight out b) ≡ t
        go true e =
            eq-eqb (total weight out) (before weight out b)
            (ap (total weight) (sym (take-length out) ∙ ap (λ n. take n out) (eqb-true (length out) b e)))
        go false e =
            ne_eqb (total weight out) (before weight out b)
            (λ q. eqb-false (length out) b e
            (let t = total_append (take b out) (drop b out) in
            let u : total weight out ≡ before weight out b + total weight (drop b out) = ap (total weight) (sym (take-append-drop b out)) ∙ t in
            none (length (drop b out)) refl (omega (arith, length-drop b out)) u q))
          where
            none : (n : ℕ)
                → length (drop b out) ≡ n
                → n + b ≡ length out
                → total weight out ≡ before weight out b + total weight (drop b out)
                → total weight out ≡ before weight out b
                → length out ≡ b
            none zero l m u q = omega arith
            none (suc n) l m u q = absurd (omega (arith, some_total (drop b out) (omega arith)))

    module _ (I : Items) (enc : Entry I.Item → List Element) (enc_some : (e : Entry I.Item) → 0 < length (enc e)) where
      open I use {Item, class, bare}

      abbrev pub weigh : Entry Item → ℕ
      weigh e = total weight (enc e)

      item_weighs : (k : Kind) (c : Class) (a : Item) (out : List Element) (b : ℕ) (fs : List Frame) → b ≤ length out → Chain b fs
          → weighed weight (add_item I Element enc k c a out b fs)
          ≡ count_item I weigh k c a (total weight out) (before weight out b) (map (frame_at weight out) fs)
      item_weighs k fails a out b fs h c = refl
      item_weighs paint passes a out b fs h c = added out (enc (item paint a)) b (shut 0) fs h c
      item_weighs clip passes a out b fs h c =
          same_count (total_append (take b out) (enc (item clip bare))) (ap (total weight) (back_keeps b b out (enc (item clip bare)) (omega arith) h))
          (frames_same b fs (take b out ++ enc (item clip bare)) out c (back_keeps b b out (enc (item clip bare)) (omega arith) h))
      item_weighs k other a out b fs h c = added out (enc (item k a)) b going fs h c

      keep_left_weighs : (t : Bool) (out : List Element) (b s o : ℕ) (fs : List Frame)
          → b ≤ length out
          → Chain b (frame left s o ∷ fs)
          → weighed weight (keep_left I Element enc t s o out fs)
          ≡ count_keep_left I weigh t (before weight out s) (before weight out o) (total weight out) (map (frame_at weight out) fs)
      keep_left_weighs true out b s o fs h c = cut out s o (shut 0) (frame dead o o ∷ fs) c.1.0 (refl, refl, c.1.1)
      keep_left_weighs false out b s o fs h c =
          same_count (total_append out (enc activate)) (ap (total weight) (take-length (out ++ enc activate)) ∙ total_append out (enc activate))
          (frames_same b (frame right s o ∷ fs) (out ++ enc activate) out c (add_keeps b out (enc activate) h))

      left_weighs : (out : List Element) (b : ℕ) (w : Skip) (fs : List Frame) → b ≤ length out → Chain b fs
          → weighed weight (end_left I Element enc out b w fs) ≡ count_left I weigh (total weight out) (before weight out b) w (map (frame_at weight out) fs)
      left_weighs out b w [] h c = refl
      left_weighs out b going (frame left s o ∷ fs) h c = rw (same_test out b h) (keep_left_weighs (eqb (length out) b) out b s o fs h c)
      left_weighs out b (shut m) (frame left s o ∷ fs) h c = cut out s o going (frame through o o ∷ fs) c.1.0 (refl, refl, c.1.1)
      left_weighs out b w (frame right s o ∷ fs) h c = refl
      left_weighs out b w (frame through s o ∷ fs) h c = refl
      left_weighs out b w (frame dead s o ∷ fs) h c = refl

      keep_right_weighs : (t : Bool) (out : List Element) (b s o : ℕ) (fs : List Frame)
          → b ≤ length out
          → Chain b (frame right s o ∷ fs)
          → weighed weight (keep_right I Element enc t s o out fs)
          ≡ count_keep_right I weigh t (before weight out s) (before weight out o) (total weight out) (map (frame_at weight out) fs)
      keep_right_weighs true out b s o fs h c = cut out s o going fs c.1.0 c.1.1
      keep_right_weighs false out b s o fs h c = added out (enc pop) o going fs (omega arith) c.1.1

      right_weighs : (out : List Element) (b : ℕ) (w : Skip) (fs : List Frame) → b ≤ length out → Chain b fs
          → weighed weight (end_right I Element enc out b w fs) ≡ count_right I weigh (total weight out) (before weight out b) w (map (frame_at weight out) fs)
      right_weighs out b w [] h c = refl
      right_weighs out b w (frame left s o ∷ fs) h c = refl
      right_weighs out b w (frame right s o ∷ fs) h c = rw (same_test out b h) (keep_right_weighs (eqb (length out) b) out b s o fs h c)
      right_weighs out b w (frame through s o ∷ fs) h c = refl
      right_weighs out b w (frame dead s o ∷ fs) h c = refl

      -- one step
      pub step_weighs : (x : State Element) (e : Entry Item)
          → Fit (count I Element enc enc_some x)
          → weighed weight (step I Element enc x e) ≡ count_step I weigh (weighed weight x) e
      step_weighs (st out b going fs) (item k a) f = item_weighs k (class k a) a out b fs f.0 f.1
      step_weighs (st out b going fs) push f =
          same_count (total_append out (enc push)) (ap (total weight) (take-length (out ++ enc push)) ∙ total_append out (enc push))
          (frames_same (length out) (frame left (length out) b ∷ fs) (out ++ enc push) out (omega arith, (f.0, f.1))
          (add_keeps (length out) out (enc push) (omega arith))
          ∙ whole out b fs)
        where
          whole : (out : List Element) (b : ℕ) (fs : List Frame)
              → map (frame_at weight out) (frame left (length out) b ∷ fs)
              ≡ frame left (total weight out) (before weight out b) ∷ map (frame_at weight out) fs
          whole out b fs = rw (take-length out)
      step_weighs (st out b going fs) activate f = left_weighs out b going fs f.0 f.1
      step_weighs (st out b going fs) pop f = right_weighs out b going fs f.0 f.1
      step_weighs (st out b (shut m) fs) (item k a) f = refl
      step_weighs (st out b (shut m) fs) push f = refl
      step_weighs (st out b (shut zero) fs) activate f = left_weighs out b (shut zero) fs f.0 f.1
      step_weighs (st out b (shut zero) fs) pop f = right_weighs out b (shut zero) fs f.0 f.1
      step_weighs (st out b (shut (suc m)) fs) activate f = refl
      step_weighs (st out b (shut (suc m)) fs) pop f = refl

      -- what is to be pruned has these classes and these weights
      abbrev pub as_sized : Entry Item → Entry Sized
      as_sized (item k a) = item k (sized (class k a) (weigh (item k a)))
      as_sized push = push
      as_sized activate = activate
      as_sized pop = pop

      right_sized : weigh pop ≡ 1 → (n b : ℕ) (w : Skip) (fs : List Frame) → count_right I weigh n b w fs ≡ count_right sized_items size_of n b w fs
      right_sized o n b w [] = refl
      right_sized o n b w (frame left s u ∷ fs) = refl
      right_sized o n b w (frame right s u ∷ fs) = go (eqb n b)
        where
          go : (t : Bool) → count_keep_right I weigh t s u n fs ≡ count_keep_right sized_items size_of t s u n fs
          go true = refl
          go false = rw o
      right_sized o n b w (frame through s u ∷ fs) = refl
      right_sized o n b w (frame dead s u ∷ fs) = refl

      -- where delimiters and the bare item weigh 1, the counters need only classes and weights
      pub sized_step : weigh push ≡ 1
          → weigh activate ≡ 1
          → weigh pop ≡ 1
          → weigh (item clip bare) ≡ 1
          → (c : Count) (e : Entry Item)
          → count_step I weigh c e ≡ count_step sized_items size_of c (as_sized e)
      sized_step p a o r (ct n b going fs) (item k v) = go k (class k v)
        where
          go : (j : Kind) (d : Class) → count_item I weigh j d v n b fs ≡ count_item sized_items size_of j d (sized d (weigh (item j v))) n b fs
          go j fails = refl
          go paint passes = refl
          go clip passes = rw r
          go j other = refl
      sized_step p a o r (ct n b going fs) push = rw p
      sized_step p a o r (ct n b going fs) activate = at_bar n b fs
        where
          at_bar : (n b : ℕ) (fs : List Frame) → count_left I weigh n b going fs ≡ count_left sized_items size_of n b going fs
          at_bar n b [] = refl
          at_bar n b (frame left s u ∷ fs) = go (eqb n b)
            where
              go : (t : Bool) → count_keep_left I weigh t s u n fs ≡ count_keep_left sized_items size_of t s u n fs
              go true = refl
              go false = rw a
          at_bar n b (frame right s u ∷ fs) = refl
          at_bar n b (frame through s u ∷ fs) = refl
          at_bar n b (frame dead s u ∷ fs) = refl
      sized_step p a o r (ct n b going fs) pop = right_sized o n b going fs
      sized_step p a o r (ct n b (shut m) fs) (item k v) = refl
      sized_step p a o r (ct n b (shut m) fs) push = refl
      sized_step p a o r (ct n b (shut zero) fs) activate = at_bar n b fs
        where
          at_bar : (n b : ℕ) (fs : List Frame) → count_left I weigh n b (shut zero) fs ≡ count_left sized_items size_of n b (shut zero) fs
          at_bar n b [] = refl
          at_bar n b (frame left s u ∷ fs) = refl
          at_bar n b (frame right s u ∷ fs) = refl
          at_bar n b (frame through s u ∷ fs) = refl
          at_bar n b (frame dead s u ∷ fs) = refl
      sized_step p a o r (ct n b (shut zero) fs) pop = right_sized o n b (shut zero) fs
      sized_step p a o r (ct n b (shut (suc m)) fs) activate = refl
      sized_step p a o r (ct n b (shut (suc m)) fs) pop = refl
