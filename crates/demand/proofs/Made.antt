-- A stream is made with the areas and corners of a drawing and nothing else of it: so a split, which has them from lent tables that hold the drawing,
-- makes of a cell's stream the streams of its quarters that are made from the drawing.
use mathlib.Core.Path.{◌≡◌, refl, ap, ◌∙◌, fun_ext}
use mathlib.Core.Bool.{cond}
use mathlib.Core.List.{List, [], ◌∷◌, map}
use Prim.Native.Nat.{ℕ}
use lib.ListN.{get_or}
use lib.IntN.{ℤ}
use Rattle.records.specs.declared.Fields.{Fields}
use Rattle.pruning.specs.Sides.{Kind, paint, clip, Side, flat, map_side}
use Rattle.pruning.specs.Items.{fails}
use Rattle.pruning.specs.Order.{pruned}
use Rattle.cells.specs.Cells.{Cell, Quarter, child}
use Rattle.cells.specs.Segments.{kept_in, start_in}
use Rattle.cells.specs.Drawings.{Drawing, no_fields, fields_of, passes_by, is_opaque}
use Rattle.cells.specs.Streams.{Item, always, area, passing, class_of, items, within, source, made}
use Rattle.cells.specs.Elements.{elements_of, role_in, stream_of}
use Rattle.cells.proofs.Streams.{child_made}
use Rattle.cells.proofs.Bounds.{made_small}
use Rattle.cells.proofs.Elements as Elements
use Rattle.stream.specs.declared.Bounds.{Bounds}
use Rattle.evaluate.specs.Reading.{elements_in}
use Rattle.evaluate.specs.Words.{words_of}
use Rattle.evaluate.proofs.Words.{elements_back, fits_elements}
use Rattle.ranges.specs.code.Valid.{Valid}
use Rattle.ranges.specs.Held.{Held, lent}
use Rattle.making.specs.Made.{elements_made, words_made}
use Rattle.demand.specs.Stands.{words_of_cell}

-- ---- two drawings with the same areas and corners
module _ (E D : Drawing) (f : E.fields ≡ D.fields) (x : E.xs ≡ D.xs) (y : E.ys ≡ D.ys) where
  same_fields : (n : ℕ) → fields_of E n ≡ fields_of D n
  same_fields n = ap (λ (l : List Fields). get_or l n no_fields) f

  same_passes : (n : ℕ) (z : ℤ) → passes_by E n z ≡ passes_by D n z
  same_passes n z = rw (same_fields n)

  same_opaque : (n : ℕ) → is_opaque E n ≡ is_opaque D n
  same_opaque n = rw (same_fields n)

  same_passing : (k : Kind) (n : ℕ) → passing E k n ≡ passing D k n
  same_passing paint n = rw (same_opaque n)
  same_passing clip n = refl

  abbrev same_class : (k : Kind) (a : Item) → class_of E k a ≡ class_of D k a
  same_class k always = refl
  same_class k (area n z []) = λ d. cond (same_passes n z d) (same_passing k n d) fails
  same_class k (area n z (g ∷ gs)) = refl

  abbrev same_items : items E ≡ items D
  same_items = λ d. record { Item = Item; class = λ k a. same_class k a d; bare = always; bare_passes = refl }

  same_within_at : (c : Cell) (a : Item) → within E c a ≡ within D c a
  same_within_at c always = refl
  same_within_at c (area n z gs) = λ d. area n (start_in (x d) (y d) c z gs) (kept_in (x d) (y d) c gs)

  same_within : (c : Cell) → within E c ≡ within D c
  same_within c = fun_ext (same_within_at c)

  pub same_made : (c : Cell) (s : Side Item) → made E c s ≡ made D c s
  same_made c s = λ d. pruned (same_items d) (map_side (same_within c d) s)

  pub same_role : role_in E ≡ role_in D
  same_role = fun_ext (λ n. rw (same_fields n))

-- ---- the words of a cell's stream say the stream
module _ (D : Drawing) (ok : Valid D) where
  pub words_say : (c : Cell) → elements_in (words_of_cell D c) ≡ elements_of (flat paint (made D c (source D)))
  words_say c =
      elements_back (elements_of (flat paint (made D c (source D))))
      (fits_elements D (flat paint (made D c (source D))) (made_small D 2048 ok.few_each c))

  pub words_stream : (c : Cell) → stream_of (role_in D) (elements_in (words_of_cell D c)) ≡ made D c (source D)
  words_stream c = ap (stream_of (role_in D)) (words_say c) ∙ Elements.elements_back (role_in D) (made D c (source D)) (Elements.made_on_side D ok.roles c)

  -- a split of a cell's stream
  module _ (areas xs ys : List ℕ) (b : Bounds) (H : Held areas xs ys b D) where
    stream_lent : (c : Cell) → stream_of (role_in (lent areas xs ys b)) (elements_in (words_of_cell D c)) ≡ made D c (source D)
    stream_lent c =
        ap (λ r. stream_of r (elements_in (words_of_cell D c))) (same_role (lent areas xs ys b) D H.fields_same H.xs_same H.ys_same) ∙ words_stream c

    pub split_made : (c : Cell) (q : Quarter) → words_made (lent areas xs ys b) (child c q) (words_of_cell D c) ≡ words_of_cell D (child c q)
    unfolding words_made elements_made
    split_made c q =
        ap (λ (s : Side Item). map words_of (elements_of (flat paint s)))
        (ap (made (lent areas xs ys b) (child c q)) (stream_lent c)
        ∙ (same_made (lent areas xs ys b) D H.fields_same H.xs_same H.ys_same (child c q) (made D c (source D)) ∙ child_made D c q (source D)))
