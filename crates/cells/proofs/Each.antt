-- What holds of each item of a side holds of each item of its stream; what holds of each item and of the bare one holds of what pruning leaves.
use mathlib.Core.List.{List, [], ◌∷◌, ◌++◌}
use Rattle.pruning.specs.Sides.{Kind, clip, Side, end, leaf, group, Entry, item, push, activate, pop, flat, map_side}
use Rattle.pruning.specs.Items.{Items}
use Rattle.pruning.specs.code.Survivors.{Sub, nothing, drops, keeps, bares}
use Rattle.cells.specs.Streams.{Each, On}

module _ {A : Type 0} (P : Kind → A → Type 0) where
  each_append : (x y : List (Entry A)) → Each P x → Each P y → Each P (x ++ y)
  each_append [] y h g = g
  each_append (item k a ∷ x) y h g = (h.0, each_append x y h.1 g)
  each_append (push ∷ x) y h g = each_append x y h g
  each_append (activate ∷ x) y h g = each_append x y h g
  each_append (pop ∷ x) y h g = each_append x y h g

  each_tail : (e : Entry A) (es : List (Entry A)) → Each P (e ∷ es) → Each P es
  each_tail (item k a) es h = h.1
  each_tail push es h = h
  each_tail activate es h = h
  each_tail pop es h = h

  each_keep : (e : Entry A) (xs ys : List (Entry A)) → Each P (e ∷ ys) → Each P xs → Each P (e ∷ xs)
  each_keep (item k a) xs ys h g = (h.0, g)
  each_keep push xs ys h g = g
  each_keep activate xs ys h g = g
  each_keep pop xs ys h g = g

pub each_mapped : {A B : Type 0} (Q : Kind → A → Type 0) (P : Kind → B → Type 0) (f : A → B)
    → ((k : Kind) (a : A) → Q k a → P k (f a))
    → (k : Kind) (s : Side A)
    → On Q k s
    → Each P (flat k (map_side f s))
each_mapped Q P f h k end o = tt
each_mapped Q P f h k (leaf a t) o = (h k a o.0, each_mapped Q P f h k t o.1)
each_mapped Q P f h k (group l r t) o =
    each_append P (flat clip (map_side f l)) (activate ∷ (flat k (map_side f r) ++ (pop ∷ flat k (map_side f t)))) (each_mapped Q P f h clip l o.0)
    (each_append P (flat k (map_side f r)) (pop ∷ flat k (map_side f t)) (each_mapped Q P f h k r o.1) (each_mapped Q P f h k t o.2))

pub on_any : {A : Type 0} (k : Kind) (s : Side A) → On (λ k a. Unit {0}) k s
on_any k end = tt
on_any k (leaf a t) = (tt, on_any k t)
on_any k (group l r t) = (on_any clip l, on_any k r, on_any k t)

pub each_sub : (I : Items) (P : Kind → I.Item → Type 0) → P clip I.bare → {xs ys : List (Entry I.Item)} → Sub I xs ys → Each P ys → Each P xs
each_sub I P b nothing h = tt
each_sub I P b (drops {e = e} {ys = ys} s) h = each_sub I P b s (each_tail P e ys h)
each_sub I P b (keeps {e = e} {xs = xs} {ys = ys} s) h = each_keep P e xs ys h (each_sub I P b s (each_tail P e ys h))
each_sub I P b (bares e s) h = (b, each_sub I P b s h.1)
