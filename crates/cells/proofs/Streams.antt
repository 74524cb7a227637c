-- The stream of a cell is the drawing's, classed in the cell and pruned, however it was reached; its windings, and what is read from it, are the
-- drawing's at every position of the cell.
use mathlib.Core.Path.{◌≡◌, refl, sym, ap, ◌∙◌, fun_ext}
use mathlib.Core.Bool.{Bool, true, false, cond}
use mathlib.Core.List.{List, [], ◌∷◌, map}
use Prim.Native.Nat.{ℕ}
use lib.ListN.{get_or}
use lib.IntN.{pos, ◌+ℤ◌, +ℤ_idl, +ℤ_idr}
use Rattle.geometry.specs.Windings.{Line, lines_of, adds, sum_of}
use Rattle.pruning.specs.Sides.{Kind, paint, clip, Side, flat, map_side}
use Rattle.pruning.specs.Items.{fails, passes, other}
use Rattle.pruning.specs.Normal.{normal}
use Rattle.pruning.specs.Meaning.{shown}
use Rattle.pruning.proofs.Sides.{map_map}
use Rattle.pruning.proofs.Meaning.{normal_shown, shown_map}
use Rattle.pruning.proofs.Order.{pruned_normal}
use Rattle.pruning.proofs.Refining.{restrict_normal}
use Rattle.pruning.proofs.Survivors.{normal_sub}
use Rattle.pruning.proofs.Machine.{machine}
use Rattle.cells.specs.Cells.{Position, col, row, Cell, Holds, root, Quarter, child}
use Rattle.cells.specs.Segments.{drawn, sum_at}
use Rattle.cells.specs.Drawings.{Drawing, winding, passes_by, passes_at, is_opaque, shown_at}
use Rattle.cells.specs.Streams.{
  Item,
  always,
  area,
  number_of,
  Each,
  passing,
  class_of,
  items,
  passes_in,
  opaque_in,
  within,
  whole,
  source,
  made,
  shown_in,
  read_in,
  Winds,
  Reached,
  here,
  down,
  Right,
}
use Rattle.cells.proofs.Segments.{winding_stays, kept_child, start_child}
use Rattle.cells.proofs.Each.{each_sub, each_mapped, on_any}

module _ (D : Drawing) where
  -- ---- an area in a cell

  -- F0, C0, F1, C1 stay so
  pub fails_stays : (c : Cell) (k : Kind) (a : Item) → class_of D k a ≡ fails → class_of D k (within D c a) ≡ fails
  fails_stays c k always e = e
  fails_stays c k (area n z []) e = e
  fails_stays c k (area n z (g ∷ gs)) e = cc

  pub passes_stays : (c : Cell) (k : Kind) (a : Item) → class_of D k a ≡ passes → class_of D k (within D c a) ≡ passes
  passes_stays c k always e = e
  passes_stays c k (area n z []) e = e
  passes_stays c k (area n z (g ∷ gs)) e = cc

  pub within_child : (c : Cell) (q : Quarter) (a : Item) → within D (child c q) (within D c a) ≡ within D (child c q) a
  within_child c q always = refl
  within_child c q (area n z gs) = rw (start_child D.xs D.ys c q gs z, kept_child D.xs D.ys c q gs)

  pub passes_within : (c : Cell) (p : Position) → Holds c p → (a : Item) → passes_in D p (within D c a) ≡ passes_in D p a
  passes_within c p i always = refl
  passes_within c p i (area n z gs) = ap (passes_by D n) (winding_stays D.xs D.ys c p i z gs)

  opaque_within : (c : Cell) (a : Item) → opaque_in D (within D c a) ≡ opaque_in D a
  opaque_within c always = refl
  opaque_within c (area n z gs) = refl

  number_within : (c : Cell) (a : Item) → number_of (within D c a) ≡ number_of a
  number_within c always = refl
  number_within c (area n z gs) = refl

  -- ---- the classes are true at every position

  opaque_start : (b o : Bool) → cond b (cond o passes other) fails ≡ passes → o ≡ true
  opaque_start true true e = refl
  opaque_start true false e = cc
  opaque_start false o e = cc

  pub opaque_true : (a : Item) → class_of D paint a ≡ passes → opaque_in D a ≡ true
  opaque_true always e = refl
  opaque_true (area n z []) e = opaque_start (passes_by D n z) (is_opaque D n) e
  opaque_true (area n z (g ∷ gs)) e = cc

  fails_start : (k : Kind) (n : ℕ) (b : Bool) → cond b (passing D k n) fails ≡ fails → b ≡ false
  fails_start clip n true e = cc
  fails_start paint n true e = go (is_opaque D n) e
    where
      go : (o : Bool) → cond o passes other ≡ fails → true ≡ false
      go true e = cc
      go false e = cc
  fails_start k n false e = refl

  passes_start : (k : Kind) (n : ℕ) (b : Bool) → cond b (passing D k n) fails ≡ passes → b ≡ true
  passes_start k n true e = refl
  passes_start k n false e = cc

  pub fails_true : (p : Position) (k : Kind) (a : Item) → class_of D k a ≡ fails → passes_in D p a ≡ false
  fails_true p k always e = cc
  fails_true p k (area n z []) e = ap (passes_by D n) (+ℤ_idr z) ∙ fails_start k n (passes_by D n z) e
  fails_true p k (area n z (g ∷ gs)) e = cc

  pub passes_true : (p : Position) (k : Kind) (a : Item) → class_of D k a ≡ passes → passes_in D p a ≡ true
  passes_true p k always e = refl
  passes_true p k (area n z []) e = ap (passes_by D n) (+ℤ_idr z) ∙ passes_start k n (passes_by D n z) e
  passes_true p k (area n z (g ∷ gs)) e = cc

  -- ---- the central fact

  pub made_normal : (c : Cell) (x : Side Item) → made D c x ≡ normal (items D) paint (map_side (within D c) x)
  made_normal c x = pruned_normal (items D) (map_side (within D c) x)

  both_within : (c : Cell) (q : Quarter) (x : Side Item) → map_side (within D (child c q)) (map_side (within D c) x) ≡ map_side (within D (child c q)) x
  both_within c q x = map_map (within D c) (within D (child c q)) x ∙ ap (λ f. map_side f x) (fun_ext (within_child c q))

  -- a child made from its parent's stream is the child made straight from what the parent was made from
  pub child_made : (c : Cell) (q : Quarter) (x : Side Item) → made D (child c q) (made D c x) ≡ made D (child c q) x
  child_made c q x =
      ap (made D (child c q)) (made_normal c x)
      ∙ (made_normal (child c q) (normal (items D) paint (map_side (within D c) x))
      ∙ (restrict_normal (items D) (within D (child c q)) (fails_stays (child c q)) (passes_stays (child c q)) paint (map_side (within D c) x)
      ∙ (ap (normal (items D) paint) (both_within c q x) ∙ sym (made_normal (child c q) x))))

  -- ---- what is read

  numbers_within : (c : Cell) (l : List Item) → map number_of (map (within D c) l) ≡ map number_of l
  numbers_within c [] = refl
  numbers_within c (a ∷ l) = rw (number_within c a, numbers_within c l)

  -- at every position of the cell, what is made of a stream shows what the stream shows
  pub made_shown : (c : Cell) (p : Position) → Holds c p → (x : Side Item) → shown_in D p (made D c x) ≡ shown_in D p x
  made_shown c p i x =
      ap (shown_in D p) (made_normal c x)
      ∙ (ap (map number_of) (normal_shown (items D) (passes_in D p) (opaque_in D) (fails_true p) (passes_true p) opaque_true (map_side (within D c) x))
      ∙ (ap (map number_of) (shown_map (within D c) (passes_in D p) (opaque_in D) x)
      ∙ (numbers_within c (shown (λ a. passes_in D p (within D c a)) (λ a. opaque_in D (within D c a)) x)
      ∙ ap (λ f. map number_of (shown f (λ a. opaque_in D (within D c a)) x)) (fun_ext (passes_within c p i))
      ∙ ap (λ f. map number_of (shown (passes_in D p) f x)) (fun_ext (opaque_within c)))))

  sum_lines : (p : Position) (ls : List Line) → sum_at D.xs D.ys p (map drawn ls) ≡ sum_of D.xs D.ys ls (col p) (row p)
  unfolding sum_of adds
  sum_lines p [] = refl
  sum_lines p (l ∷ ls) = rw (sum_lines p ls)

  sum_whole : (p : Position) (n : ℕ) → pos 0 +ℤ sum_at D.xs D.ys p (map drawn (lines_of (get_or D.contours n []))) ≡ winding D n p
  sum_whole p n = +ℤ_idl (sum_at D.xs D.ys p (map drawn (lines_of (get_or D.contours n [])))) ∙ sum_lines p (lines_of (get_or D.contours n []))

  numbers_whole : (l : List ℕ) → map number_of (map (whole D) l) ≡ l
  numbers_whole [] = refl
  numbers_whole (n ∷ l) = ap (λ x. n ∷ x) (numbers_whole l)

  passes_whole : (p : Position) (n : ℕ) → passes_in D p (whole D n) ≡ passes_at D p n
  passes_whole p n = ap (passes_by D n) (sum_whole p n)

  -- the drawing as a stream shows what the drawing shows
  pub source_shown : (p : Position) → shown_in D p (source D) ≡ shown_at D p
  source_shown p =
      ap (map number_of) (shown_map (whole D) (passes_in D p) (opaque_in D) D.plan)
      ∙ (numbers_whole (shown (λ n. passes_in D p (whole D n)) (is_opaque D) D.plan) ∙ ap (λ f. shown f (is_opaque D) D.plan) (fun_ext (passes_whole p)))

  -- ---- the streams of a tree

  -- the stream of each is the drawing's, classed in its square and pruned
  pub reached_made : (c : Cell) (x : Side Item) {d : Cell} {y : Side Item} → Reached D c (made D c x) d y → y ≡ made D d x
  reached_made c x here = refl
  reached_made c x (down {d = d} r q) = ap (made D (child d q)) (reached_made c x r) ∙ child_made d q x

  -- and the machine reads from it, at each position of the square, what the drawing shows
  pub made_read : (c : Cell) (p : Position) → Holds c p → read_in D p (made D c (source D)) ≡ shown_at D p
  made_read c p i = ap (map number_of) (machine (passes_in D p) (opaque_in D) (made D c (source D))) ∙ (made_shown c p i (source D) ∙ source_shown p)

  -- ---- the windings

  whole_winds : (c : Cell) (k : Kind) (n : ℕ) → Winds D c k (within D c (whole D n))
  whole_winds c k n = λ p i. winding_stays D.xs D.ys c p i (pos 0) (map drawn (lines_of (get_or D.contours n []))) ∙ sum_whole p n

  -- each area that the stream of a cell still names has there the winding of the whole drawing
  pub made_winds : (c : Cell) → Each (Winds D c) (flat paint (made D c (source D)))
  made_winds c =
      rw (made_normal c (source D))
      (each_sub (items D) (Winds D c) tt (normal_sub (items D) paint (map_side (within D c) (source D)))
      (rw (map_map (whole D) (within D c) D.plan)
      (each_mapped (λ k n. Unit {0}) (Winds D c) (λ n. within D c (whole D n)) (λ k n u. whole_winds c k n) paint D.plan
      (on_any paint D.plan))))

  -- ---- in one statement: every cell that splits lead to from cell 0

  made_right : (c : Cell) (y : Side Item) → y ≡ made D c (source D) → Right D c y
  made_right c y e = record { stream = e; windings = rw e (made_winds c); reading = λ p i. ap (read_in D p) e ∙ made_read c p i }

  pub reached_right : {c : Cell} {y : Side Item} → Reached D root (made D root (source D)) c y → Right D c y
  reached_right {c} {y} r = made_right c y (reached_made root (source D) r)
