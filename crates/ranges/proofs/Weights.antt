-- Neither classing in a cell nor pruning adds to a sum over items and delimiters: a made stream has at most the elements,
-- areas, lines, curves and shortcuts of the drawing.
use mathlib.Core.Path.{◌≡◌, refl, sym, ap, ◌∙◌}
use mathlib.Core.List.{List, [], ◌∷◌, ◌++◌, append_assoc, map}
use Prim.Native.Nat.{ℕ, suc, ◌+◌, ◌≤◌}
use native.Mathlib.Omega.{arith}
use lib.ListN.{length, length-append, length-map}
use Rattle.geometry.specs.declared.class.Class.{Class}
use Rattle.geometry.specs.declared.class.Class.TheVariants.{Dropped, Start, Shortcut, Kept}
use Rattle.pruning.specs.Sides.{Kind, paint, clip, Side, end, leaf, group, Entry, item, push, activate, pop, flat, map_side}
use Rattle.pruning.specs.Items.{Items}
use Rattle.pruning.specs.Normal.{normal}
use Rattle.pruning.specs.code.Survivors.{Sub, nothing, drops, keeps, bares}
use Rattle.pruning.proofs.Survivors.{normal_sub}
use Rattle.cells.specs.Cells.{Cell}
use Rattle.cells.specs.Segments.{Segment, drawn, class_in, kept_by, kept_in}
use Rattle.cells.specs.Drawings.{Drawing}
use Rattle.cells.specs.Streams.{Item, always, area, items, within, whole, source, made}
use Rattle.cells.specs.Elements.{Element, bar, closes, segment, item_elements, entry_elements, elements_of}
use Rattle.cells.proofs.Streams.{made_normal}
use Rattle.ranges.specs.code.Valid.{Valid, weigh, elements, lines}

pub weigh_map : {A B : Type 0} (f : A → B) (v : B → ℕ) (u : A → ℕ) (d : ℕ) → ((a : A) → v (f a) ≤ u a) → (s : Side A) → weigh v d (map_side f s) ≤ weigh u d s
weigh_map f v u d h end = omega arith
weigh_map f v u d h (leaf a t) = omega (arith, h a, weigh_map f v u d h t)
weigh_map f v u d h (group l r t) = omega (arith, weigh_map f v u d h l, weigh_map f v u d h r, weigh_map f v u d h t)

-- no item has less than the bare one
module _ (I : Items) (v : I.Item → ℕ) (d : ℕ) (least : (a : I.Item) → v I.bare ≤ v a) where
  open I use {Item, class, bare}

  abbrev entry_weight : Entry Item → ℕ
  entry_weight (item k a) = v a
  entry_weight push = d
  entry_weight activate = d
  entry_weight pop = d

  abbrev total : List (Entry Item) → ℕ
  total [] = 0
  total (e ∷ es) = entry_weight e + total es

  total_append : (x y : List (Entry Item)) → total (x ++ y) ≡ total x + total y
  total_append [] y = omega arith
  total_append (e ∷ x) y = omega (arith, total_append x y)

  total_flat : (k : Kind) (s : Side Item) → total (flat k s) ≡ weigh v d s
  total_flat k end = refl
  total_flat k (leaf a t) = omega (arith, total_flat k t)
  total_flat k (group l r t) =
      omega (
        arith,
        total_append (flat clip l) (activate ∷ (flat k r ++ (pop ∷ flat k t))),
        total_append (flat k r) (pop ∷ flat k t),
        total_flat clip l,
        total_flat k r,
        total_flat k t,
      )

  total_sub : {xs ys : List (Entry Item)} → Sub I xs ys → total xs ≤ total ys
  total_sub nothing = omega arith
  total_sub (drops h) = omega (arith, total_sub h)
  total_sub (keeps h) = omega (arith, total_sub h)
  total_sub (bares {a = a} e h) = omega (arith, least a, total_sub h)

  pub weigh_normal : (k : Kind) (s : Side Item) → weigh v d (normal I k s) ≤ weigh v d s
  weigh_normal k s = omega (arith, total_sub (normal_sub I k s), total_flat k s, total_flat k (normal I k s))

-- ---- of items: areas, lines, curves and shortcuts, elements

abbrev pub one_area : Item → ℕ
one_area always = 0
one_area (area n z gs) = 1

abbrev pub segments : Item → ℕ
segments always = 0
segments (area n z gs) = length gs

module _ (D : Drawing) (c : Cell) where
  kept_by_law : (k : Class) (g : Segment) (gs : List Segment) → length (kept_by D.xs D.ys k g gs) ≤ suc (length gs)
  kept_by_law Dropped g gs = omega arith
  kept_by_law Start g gs = omega arith
  kept_by_law (Shortcut lo hi) g gs = omega arith
  kept_by_law Kept g gs = omega arith

  kept_length : (gs : List Segment) → length (kept_in D.xs D.ys c gs) ≤ length gs
  kept_length [] = omega arith
  kept_length (g ∷ gs) = omega (arith, kept_by_law (class_in D.xs D.ys c g) g (kept_in D.xs D.ys c gs), kept_length gs)

  areas_within : (a : Item) → one_area (within D c a) ≤ one_area a
  areas_within always = omega arith
  areas_within (area n z gs) = omega arith

  segments_within : (a : Item) → segments (within D c a) ≤ segments a
  segments_within always = omega arith
  segments_within (area n z gs) = kept_length gs

  elements_within : (a : Item) → elements (within D c a) ≤ elements a
  elements_within always = omega arith
  elements_within (area n z gs) = omega (arith, kept_length gs)

  some_element : (a : Item) → 1 ≤ elements a
  some_element always = omega arith
  some_element (area n z gs) = omega arith

  lines_length : (n : ℕ) → length (map {B = Segment} drawn (lines D n)) ≡ length (lines D n)
  lines_length n = length-map {B = Segment} (lines D n) drawn

  -- a number of items that is no larger in the cell has no larger sum over the made stream than over the plan
  made_weighs : (v : Item → ℕ) (u : ℕ → ℕ) (d : ℕ) → ((a : Item) → v always ≤ v a) → ((a : Item) → v (within D c a) ≤ v a) → ((n : ℕ) → v (whole D n) ≤ u n)
      → weigh v d (made D c (source D)) ≤ weigh u d D.plan
  made_weighs v u d bare inside full =
      rw (made_normal D c (source D))
      (omega (
        arith,
        weigh_normal (items D) v d bare paint (map_side (within D c) (source D)),
        weigh_map (within D c) v v d inside (source D),
        weigh_map (whole D) v u d full D.plan,
      ))

  pub made_areas : weigh one_area 0 (made D c (source D)) ≤ weigh (λ n. 1) 0 D.plan
  made_areas = made_weighs one_area (λ n. 1) 0 (λ a. omega arith) areas_within (λ n. omega arith)

  pub made_segments : weigh segments 0 (made D c (source D)) ≤ weigh (λ n. length (lines D n)) 0 D.plan
  made_segments = made_weighs segments (λ n. length (lines D n)) 0 (λ a. omega arith) segments_within (λ n. omega (arith, lines_length n))

  pub made_elements_law : weigh elements 1 (made D c (source D)) ≤ weigh (λ n. suc (length (lines D n))) 1 D.plan
  made_elements_law = made_weighs elements (λ n. suc (length (lines D n))) 1 some_element elements_within (λ n. omega (arith, lines_length n))

-- ---- a stream as elements

pub elements_append : (x y : List (Entry Item)) → elements_of (x ++ y) ≡ elements_of x ++ elements_of y
elements_append [] y = refl
elements_append (e ∷ x) y = ap (λ z. entry_elements e ++ z) (elements_append x y) ∙ sym (append_assoc (entry_elements e) (elements_of x) (elements_of y))

item_length : (a : Item) → length (item_elements a) ≡ elements a
item_length always = refl
item_length (area n z gs) = ap suc (length-map {B = Element} gs segment)

pub elements_length : (k : Kind) (s : Side Item) → length (elements_of (flat k s)) ≡ weigh elements 1 s
elements_length k end = refl
elements_length k (leaf a t) = omega (arith, length-append (item_elements a) (elements_of (flat k t)), item_length a, elements_length k t)
elements_length k (group l r t) =
    rw (elements_append (flat clip l) (activate ∷ (flat k r ++ (pop ∷ flat k t))), elements_append (flat k r) (pop ∷ flat k t))
    (omega (
      arith,
      length-append (elements_of (flat clip l)) (bar ∷ (elements_of (flat k r) ++ (closes ∷ elements_of (flat k t)))),
      length-append (elements_of (flat k r)) (closes ∷ elements_of (flat k t)),
      elements_length clip l,
      elements_length k r,
      elements_length k t,
    ))

-- "Limits: 4,096 records": the stream of a cell has no more elements
pub made_short : (D : Drawing) → Valid D → (c : Cell) → length (elements_of (flat paint (made D c (source D)))) ≤ 4096
made_short D v c = omega (arith, elements_length paint (made D c (source D)), made_elements_law D c, v.few_records)
