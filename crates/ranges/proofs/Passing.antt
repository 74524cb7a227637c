-- The words of a side whose items are in range pass the check of streams, where there is room for its groups, its areas, and its lines, curves and shortcuts.
use mathlib.Core.Path.{◌≡◌, refl, ap, ap₂, ◌∙◌}
use mathlib.Core.Bool.{Bool, true, false, cond, not}
use mathlib.Core.List.{List, [], ◌∷◌, ◌++◌, map}
use Prim.Native.Nat.{ℕ, suc, ◌+◌, ◌≤◌, ◌<◌}
use native.Mathlib.Omega.{arith}
use lib.ListN.{length}
use lib.IntN.{ℤ}
use borrow.Author.Tests.{lt-ltb}
use mir.Syntax.{w32}
use mir.Val.{of_z}
use Rattle.geometry.specs.Windings.{Line, line, curve}
use Rattle.groups.specs.Sides.{Frame, paint_left, clip_left, is_paint, on_left, on_right, opening, to_right, to_outer}
use Rattle.pruning.specs.Sides.{Kind, paint, clip, Side, end, leaf, group, activate, pop, flat}
use Rattle.pruning.proofs.Sides.{map_append}
use Rattle.stream.specs.declared.Words.{Words}
use Rattle.stream.specs.Entry.{decode, start_range}
use Rattle.records.specs.Record.{is_good}
use Rattle.stream.specs.Grammar.{Env, area_met, shortcut_range, in_range, Place, place, role_fits, fits, in_limit, after, Course, at, met, course}
use Rattle.cells.specs.Segments.{Segment, drawn, shortcut}
use Rattle.cells.specs.Streams.{Item, always, area, On}
use Rattle.cells.specs.Elements.{bar, closes, segment, item_elements, elements_of}
use Rattle.evaluate.specs.code.Numbers.{line_met}
use Rattle.evaluate.specs.Words.{words, segment_words, words_of}
use Rattle.ranges.specs.code.Valid.{depth, weigh}
use Rattle.ranges.proofs.Weights.{one_area, segments, elements_append}

-- ---- items in range

abbrev pub is_paint_side : Kind → Bool
is_paint_side paint = true
is_paint_side clip = false

module _ (v : Env) where
  abbrev pub LinePasses : Line → Type 0
  LinePasses l = line_met v.xs v.ys v.used.corners l ≡ true

  abbrev pub SegmentPasses : Segment → Type 0
  SegmentPasses (drawn l) = LinePasses l
  SegmentPasses (shortcut z lo hi) = shortcut_range v.used.low v.used.side (of_z w32 z) lo hi ≡ true

  abbrev pub EachPasses : List Segment → Type 0
  EachPasses [] = Unit {0}
  EachPasses (g ∷ gs) = SegmentPasses g × EachPasses gs

  -- the row of the area is good, its role fits the side, its start number and what follows it are in range
  abbrev pub AreaPasses : Kind → ℕ → ℤ → List Segment → Type 0
  AreaPasses k n z gs =
      (is_good (area_met v n) ≡ true) × (role_fits (area_met v n) (is_paint_side k) ≡ true) × (start_range (of_z w32 z) ≡ true) × EachPasses gs

  -- "passes" stands on a clip side
  abbrev pub ItemPasses : Kind → Item → Type 0
  ItemPasses paint always = ⊥
  ItemPasses clip always = Unit {0}
  ItemPasses k (area n z gs) = AreaPasses k n z gs

-- ---- open groups

opening_clip : (g : List Frame) → is_paint (opening g) ≡ false
opening_clip g = go (is_paint g)
  where
    go : (b : Bool) → is_paint (cond b paint_left clip_left ∷ g) ≡ false
    go true = refl
    go false = refl

opening_left : (g : List Frame) → on_left (opening g) ≡ true
opening_left g = go (is_paint g)
  where
    go : (b : Bool) → on_left (cond b paint_left clip_left ∷ g) ≡ true
    go true = refl
    go false = refl

-- the right side of a group is of the kind of the side that it stands on
record Turned (b : Bool) (g r : List Frame) : Type 0 where
  same : is_paint r ≡ b
  right : on_right r ≡ true
  outer : to_outer r ≡ g
  many : length r ≡ suc (length g)

turned : (g : List Frame) → Turned (is_paint g) g (to_right (opening g))
turned g = go (is_paint g)
  where
    go : (b : Bool) → Turned b g (to_right (cond b paint_left clip_left ∷ g))
    go true = record { same = refl; right = refl; outer = refl; many = refl }
    go false = record { same = refl; right = refl; outer = refl; many = refl }

-- ---- the fold over the words

pub course_append : (v : Env) (c : Course) (x y : List Words) → course v c (x ++ y) ≡ course v (course v c x) y
unfolding course
course_append v c [] y = refl
course_append v c (w ∷ x) y = course_append v (met v c (decode w)) x y

course_none : (v : Env) (c : Course) → course v c [] ≡ c
unfolding course
course_none v c = refl

through : (v : Env) (c d e : Course) (x y : List Words) → course v c x ≡ d → course v d y ≡ e → course v c (x ++ y) ≡ e
through v c d e x y p q = course_append v c x y ∙ (ap (λ z. course v z y) p ∙ q)

step : (v : Env) (p : Place) (w : Words) (ws : List Words) → in_range v (decode w) ≡ true → fits v p (decode w) ≡ true → in_limit p (decode w) ≡ true
    → course v (at p) (w ∷ ws) ≡ course v (at (after p (decode w))) ws
unfolding course
step v p w ws r f l = ap (λ c. course v c ws) (rw (r, f, l))

-- counts that are the same
at_counts : (g : List Frame) (h : Bool) (a b l m : ℕ) → a ≡ b → l ≡ m → at (place g h a l) ≡ at (place g h b m)
at_counts g h a b l m p q = ap₂ (λ x y. at (place g h x y)) p q

-- whether a line, curve or shortcut may follow
abbrev pub held_by : Item → Bool
held_by always = false
held_by (area n z gs) = true

abbrev pub held_after : Side Item → Bool → Bool
held_after end h = h
held_after (leaf i t) h = held_after t (held_by i)
held_after (group l r t) h = held_after t false

-- the words of the stream of a side
abbrev pub side_words : Kind → Side Item → List Words
side_words k s = map words_of (elements_of (flat k s))

leaf_words : (k : Kind) (i : Item) (t : Side Item) → side_words k (leaf i t) ≡ map words_of (item_elements i) ++ side_words k t
leaf_words k i t = map_append words_of (item_elements i) (elements_of (flat k t))

group_words : (k : Kind) (l r t : Side Item)
    → side_words k (group l r t) ≡ words 1 0 0 0 ∷ (side_words clip l ++ (words 2 0 0 0 ∷ (side_words k r ++ (words 3 0 0 0 ∷ side_words k t))))
group_words k l r t =
    rw (elements_append (flat clip l) (activate ∷ (flat k r ++ (pop ∷ flat k t))), elements_append (flat k r) (pop ∷ flat k t))
    (rw (
      map_append words_of (elements_of (flat clip l)) (bar ∷ (elements_of (flat k r) ++ (closes ∷ elements_of (flat k t)))),
      map_append words_of (elements_of (flat k r)) (closes ∷ elements_of (flat k t)),
    )
    refl)

module _ (v : Env) where
  segment_passes : (g : List Frame) (a l : ℕ) (s : Segment) (ws : List Words)
      → SegmentPasses v s
      → l < 2048
      → course v (at (place g true a l)) (segment_words s ∷ ws) ≡ course v (at (place g true a (l + 1))) ws
  segment_passes g a l (drawn (line i j)) ws h m = step v (place g true a l) (words 5 i j 0) ws h refl (lt-ltb l 2048 m)
  segment_passes g a l (drawn (curve i)) ws h m = step v (place g true a l) (words 8 i 0 0) ws h refl (lt-ltb l 2048 m)
  segment_passes g a l (shortcut z lo hi) ws h m = step v (place g true a l) (words 6 (of_z w32 z) lo hi) ws h refl (lt-ltb l 2048 m)

  segments_pass : (g : List Frame) (a l : ℕ) (gs : List Segment) → EachPasses v gs → l + length gs ≤ 2048
      → course v (at (place g true a l)) (map words_of (map segment gs)) ≡ at (place g true a (l + length gs))
  unfolding course
  segments_pass g a l [] h m = at_counts g true a a l (l + 0) refl (omega arith)
  segments_pass g a l (s ∷ gs) h m =
      segment_passes g a l s (map words_of (map segment gs)) h.0 (omega arith)
      ∙ (segments_pass g a (l + 1) gs h.1 (omega arith) ∙ at_counts g true a a (l + 1 + length gs) (l + suc (length gs)) refl (omega arith))

  item_passes : (k : Kind) (i : Item) (g : List Frame) (h : Bool) (a l : ℕ)
      → is_paint g ≡ is_paint_side k
      → ItemPasses v k i
      → a + one_area i ≤ 64
      → l + segments i ≤ 2048
      → course v (at (place g h a l)) (map words_of (item_elements i)) ≡ at (place g (held_by i) (a + one_area i) (l + segments i))
  unfolding course
  item_passes paint always g h a l e p m n = absurd p
  item_passes clip always g h a l e p m n =
      step v (place g h a l) (words 7 0 0 0) [] refl (ap not e) refl ∙ at_counts g false a (a + 0) l (l + 0) (omega arith) (omega arith)
  item_passes k (area i z gs) g h a l e p m n =
      step v (place g h a l) (words 4 i (of_z w32 z) 0) (map words_of (map segment gs)) (rw (p.0, p.2))
      (ap (role_fits (area_met v i)) e ∙ p.1) (lt-ltb a 64 (omega arith))
      ∙ segments_pass g (a + 1) l gs p.3 n

  -- with so many groups open and so many areas and lines so far, and room for those of the side
  pub side_passes : (k : Kind) (s : Side Item) (g : List Frame) (h : Bool) (a l : ℕ) → is_paint g ≡ is_paint_side k → On (ItemPasses v) k s
      → depth s + length g ≤ 8 → a + weigh one_area 0 s ≤ 64 → l + weigh segments 0 s ≤ 2048
      → course v (at (place g h a l)) (side_words k s) ≡ at (place g (held_after s h) (a + weigh one_area 0 s) (l + weigh segments 0 s))
  side_passes k end g h a l e o d m n = course_none v (at (place g h a l)) ∙ at_counts g h a (a + 0) l (l + 0) (omega arith) (omega arith)
  side_passes k (leaf i t) g h a l e o d m n =
      let a' = a + one_area i in
      let l' = l + segments i in
      ap (course v (at (place g h a l))) (leaf_words k i t)
      ∙ (through v (at (place g h a l)) (at (place g (held_by i) a' l')) _ (map words_of (item_elements i)) (side_words k t)
      (item_passes k i g h a l e o.0 (omega arith) (omega arith))
      (side_passes k t g (held_by i) a' l' e o.1 d (omega arith) (omega arith))
      ∙ at_counts g (held_after t (held_by i)) (a' + weigh one_area 0 t) (a + weigh one_area 0 (leaf i t)) (l' + weigh segments 0 t)
      (l + weigh segments 0 (leaf i t)) (omega arith) (omega arith))
  side_passes k (group x y t) g h a l e o d m n =
      let q = turned g in
      let r = to_right (opening g) in
      let a₁ = a + weigh one_area 0 x in
      let l₁ = l + weigh segments 0 x in
      let a₂ = a₁ + weigh one_area 0 y in
      let l₂ = l₁ + weigh segments 0 y in
      let behind = words 3 0 0 0 ∷ side_words k t in
      let inside = words 2 0 0 0 ∷ (side_words k y ++ behind) in
      let done = at (place g (held_after t false) (a + weigh one_area 0 (group x y t)) (l + weigh segments 0 (group x y t))) in
      ap (course v (at (place g h a l))) (group_words k x y t)
      ∙ (step v (place g h a l) (words 1 0 0 0) (side_words clip x ++ inside) refl refl (lt-ltb (length g) 8 (omega arith))
      ∙ through v (at (place (opening g) false a l)) (at (place (opening g) (held_after x false) a₁ l₁)) done (side_words clip x) inside
      (side_passes clip x (opening g) false a l (opening_clip g) o.0 (omega arith) (omega arith) (omega arith))
      (step v (place (opening g) (held_after x false) a₁ l₁) (words 2 0 0 0) (side_words k y ++ behind) refl (opening_left g) refl
      ∙ through v (at (place r false a₁ l₁)) (at (place r (held_after y false) a₂ l₂)) done (side_words k y) behind
      (side_passes k y r false a₁ l₁ (q.same ∙ e) o.1 (omega (arith, q.many)) (omega arith) (omega arith))
      (step v (place r (held_after y false) a₂ l₂) (words 3 0 0 0) (side_words k t) refl q.right refl
      ∙ (ap (λ z. course v (at (place z false a₂ l₂)) (side_words k t)) q.outer
      ∙ (side_passes k t g false a₂ l₂ e o.2 (omega arith) (omega arith) (omega arith)
      ∙ at_counts g (held_after t false) (a₂ + weigh one_area 0 t) (a + weigh one_area 0 (group x y t)) (l₂ + weigh segments 0 t)
      (l + weigh segments 0 (group x y t)) (omega arith) (omega arith))))))
