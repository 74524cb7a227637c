-- The numbers of an accepted drawing, as words in tables that hold it, are in the ranges of the check of streams.
use mathlib.Core.Path.{◌≡◌, refl, sym, subst, ap, ap₂, ◌∙◌}
use mathlib.Core.Bool.{Bool, true, false, cond, ◌&&◌}
use mathlib.Core.List.{List, [], ◌∷◌}
use Prim.Native.Nat.{ℕ, suc, ◌+◌, ◌-◌, ◌≤◌, ◌<◌}
use native.Mathlib.Omega.{arith}
use lib.Dec.{eqb, leb}
use lib.ListN.{length, get_or}
use lib.Seq.{get_or-take}
use lib.IntN.{ℤ, pos, negsuc, nat_abs}
use borrow.Author.Tests.{lt-ltb, le-leb, lt-leb, eq-eqb}
use mir.Syntax.{w32}
use mir.Val.{of_z}
use Rattle.laws.proofs.Booleans.{clash, and_both}
use Rattle.geometry.specs.Windings.{Line, line, curve, edge_of}
use Rattle.geometry.specs.code.Reach.{CurveIn, LineBelow}
use Rattle.records.specs.declared.Fields.{Fields}
use Rattle.records.specs.declared.Record.TheVariants.{Area}
use Rattle.records.specs.Record.{area_range, paint_range, clip_range, corner_range}
use Rattle.pruning.specs.Sides.{Kind, paint, clip}
use Rattle.stream.specs.declared.Bounds.{Bounds}
use Rattle.stream.specs.Entry.{start_range, sign_range}
use Rattle.stream.specs.Grammar.{env, corner_met, shortcut_range, record_fits}
use Rattle.cells.specs.Cells.{Cell, low, side}
use Rattle.cells.specs.Segments.{Segment, drawn, shortcut}
use Rattle.cells.specs.Drawings.{Drawing, kind_of}
use Rattle.ranges.specs.code.Valid.{Valid}
use Rattle.ranges.specs.Held.{Held}
use Rattle.ranges.proofs.Segments.{SegmentIn, EachIn}
use Rattle.ranges.proofs.Passing.{is_paint_side, LinePasses, SegmentPasses, EachPasses}

-- "start −2,048 to 2,048"
pub start_word : (z : ℤ) → nat_abs z ≤ 2048 → start_range (of_z w32 z) ≡ true
start_word (pos n) h = rw (le-leb n 2048 h)
start_word (negsuc n) h = rw (lt-leb (4294967296 - suc n) 2048 (omega arith)) (le-leb 4294965248 (4294967296 - suc n) (omega arith))

-- "sign 1 or −1"
sign_word : (z : ℤ) → nat_abs z ≡ 1 → sign_range (of_z w32 z) ≡ true
sign_word (pos n) h = rw (eq-eqb n 1 h)
sign_word (negsuc n) h = let e : n ≡ 0 = omega arith in rw e

-- "An area's role fits its side."
pub role_fits_law : (k : Kind) (f : Fields) → area_range f ≡ true → kind_of f.role ≡ k → record_fits (Area f) (is_paint_side k) ≡ true
unfolding area_range
role_fits_law paint f h e = go (eqb f.role 0) e
  where
    go : (b : Bool) → cond b paint clip ≡ paint → b ≡ true
    go true e = refl
    go false e = cc
role_fits_law clip f h e = go (leb f.rule 1) (eqb f.role 0) (eqb f.role 1) (paint_range f) (clip_range f) h e
  where
    go : (r z o p c : Bool) → cond r (cond z p (cond o c false)) false ≡ true → cond z paint clip ≡ clip → o ≡ true
    go false z o p c h e = clash h
    go true true o p c h e = cc
    go true false true p c h e = refl
    go true false false p c h e = clash h

-- tables whose first n corners are the same
pub edges_agree : (n : ℕ) (xs ys us vs : List ℕ) → ((k : ℕ) → k < n → get_or xs k 0 ≡ get_or us k 0) → ((k : ℕ) → k < n → get_or ys k 0 ≡ get_or vs k 0)
    → (l : Line) → LineBelow n l → edge_of xs ys l ≡ edge_of us vs l
edges_agree n xs ys us vs x y (line i j) h = rw (x i h.0, x j h.1, y i h.0, y j h.1)
edges_agree n xs ys us vs x y (curve i) h =
    let first : i < n = omega arith in
    let control : i + 1 < n = omega arith in
    rw (x i first, y i first, x (i + 1) control, y (i + 1) control, x (i + 2) h, y (i + 2) h)

module _ (D : Drawing) (areas xs ys : List ℕ) (b : Bounds) (H : Held areas xs ys b D) where
  -- corners in use are the drawing's
  pub same_x : (n : ℕ) → n < length D.xs → get_or xs n 0 ≡ get_or D.xs n 0
  same_x n l = sym (get_or-take b.corners xs n 0 (omega (arith, H.corners_used))) ∙ ap (λ t. get_or t n 0) H.xs_same

  pub same_y : (n : ℕ) → n < length D.xs → get_or ys n 0 ≡ get_or D.ys n 0
  same_y n l = sym (get_or-take b.corners ys n 0 (omega (arith, H.corners_used))) ∙ ap (λ t. get_or t n 0) H.ys_same

  pub edge_same : (l : Line) → LineBelow (length D.xs) l → edge_of xs ys l ≡ edge_of D.xs D.ys l
  edge_same = edges_agree (length D.xs) xs ys D.xs D.ys same_x same_y

  corner_met_law : Valid D → (n : ℕ) → n < length D.xs → corner_met xs ys b.corners n ≡ true
  corner_met_law ok n l = rw (lt-ltb n b.corners (omega (arith, H.corners_used))) (ap₂ corner_range (same_x n l) (same_y n l) ∙ ok.coordinates n l)

  line_met_law : Valid D → (l : Line) → LineBelow (length D.xs) l → CurveIn (edge_of D.xs D.ys l) → LinePasses (env areas xs ys b) l
  line_met_law ok (line i j) h f =
      and_both (corner_met xs ys b.corners i) (corner_met xs ys b.corners j) (corner_met_law ok i h.0) (corner_met_law ok j h.1)
  line_met_law ok (curve i) h f =
      let met = corner_met xs ys b.corners in
      and_both (met i && (met (i + 1) && met (i + 2))) _
      (and_both (met i) (met (i + 1) && met (i + 2)) (corner_met_law ok i (omega arith))
      (and_both (met (i + 1)) (met (i + 2)) (corner_met_law ok (i + 1) (omega arith)) (corner_met_law ok (i + 2) h)))
      (subst CurveIn (sym (edge_same (curve i) h)) f)

  -- in a cell whose low row and side are those that the stream is read against
  module _ (c : Cell) (same_low : b.low ≡ low c) (same_side : b.side ≡ side c) where
    shortcut_in : (z : ℤ) (lo hi : ℕ) → nat_abs z ≡ 1 → low c ≤ lo → lo < hi → hi ≤ low c + side c → shortcut_range b.low b.side (of_z w32 z) lo hi ≡ true
    shortcut_in z lo hi s l m u =
        rw (sign_word z s, le-leb b.low lo (omega (arith, same_low)), lt-ltb lo hi m) (le-leb hi (b.low + b.side) (omega (arith, same_low, same_side)))

    segment_in : Valid D → (g : Segment) → SegmentIn D.xs D.ys c g → SegmentPasses (env areas xs ys b) g
    segment_in ok (drawn l) h = line_met_law ok l h.0 h.1
    segment_in ok (shortcut z lo hi) h = shortcut_in z lo hi h.0 h.1 h.2 h.3

    pub each_passes : Valid D → (gs : List Segment) → EachIn D.xs D.ys c gs → EachPasses (env areas xs ys b) gs
    each_passes ok [] h = tt
    each_passes ok (g ∷ gs) h = (segment_in ok g h.0, each_passes ok gs h.1)
