-- The kinds of entries, with lines, curves and shortcuts as one case; what the range of an entry says of its line, curve or shortcut.
use mathlib.Core.Path.{◌≡◌, refl, sym, ap, subst, ◌∙◌}
use mathlib.Core.Bool.{Bool, true, false, cond}
use mathlib.Core.List.{List}
use Prim.Native.Nat.{ℕ, ◌+◌, ◌≤◌}
use native.Mathlib.Omega.{arith}
use lib.Dec.{eqb}
use lib.IntN.{nat_abs}
use mir.Syntax.{w32}
use mir.Val.{to_z}
use borrow.Author.Tests.{eqb-true}
use Rattle.geometry.specs.Windings.{edge_of}
use Rattle.geometry.specs.code.Reach.{LineBelow}
use Rattle.cells.specs.Segments.{Segment, drawn, shortcut, sign_of}
use Rattle.cells.proofs.Bounds.{sign_abs}
use Rattle.stream.specs.declared.Words.{Words}
use Rattle.stream.specs.Entry as Entries
use Rattle.stream.specs.Entry.{decode, is_curve, is_line, is_segment, sign_range}
use Rattle.stream.specs.Grammar.{Place, place, after}
use Rattle.stream.proofs.Entries.{segment_entry, decode_is, decode_segment}
use Rattle.evaluate.specs.code.Numbers.{line_of, line_met, segment_of, segment_range}
use Rattle.evaluate.proofs.Laws.{shortcut_small, line_used}
use Rattle.making.specs.code.Numbers.{left_sign, left_range}

-- ---- the kinds of entries
pub by_kind : (w : Words) (P : Entries.Entry → Type 0)
    → (w.kind ≡ 1 → P Entries.opens)
    → (w.kind ≡ 2 → P Entries.bar)
    → (w.kind ≡ 3 → P Entries.closes)
    → (w.kind ≡ 4 → P (Entries.area w.p w.q))
    → (is_segment w.kind ≡ true → P (decode w))
    → (w.kind ≡ 7 → P Entries.passes)
    → P Entries.bad
    → P (decode w)
by_kind w P p₁ p₂ p₃ p₄ pₛ p₇ p₈ = subst P (sym (decode_is w)) (test 1 p₁ (test 2 p₂ (test 3 p₃ (test 4 p₄ (segment (test 7 p₇ p₈))))))
  where
    test : (n : ℕ) {x y : Entries.Entry} → (w.kind ≡ n → P x) → P y → P (cond (eqb w.kind n) x y)
    test n {x} {y} f g = go (eqb w.kind n) refl
      where
        go : (b : Bool) → eqb w.kind n ≡ b → P (cond b x y)
        go true e = f (eqb-true w.kind n e)
        go false e = g

    segment : {y : Entries.Entry} → P y → P (cond (is_segment w.kind) (segment_entry w) y)
    segment {y} g = go (is_segment w.kind) refl
      where
        go : (b : Bool) → is_segment w.kind ≡ b → P (cond b (segment_entry w) y)
        go true s = subst P (decode_segment w s) (pₛ s)
        go false s = g

-- the place behind a line, a curve or a shortcut
pub after_segment : (p : Place) (w : Words) → is_segment w.kind ≡ true → after p (decode w) ≡ place p.groups true p.areas (p.segments + 1)
after_segment p w s = ap (after p) (decode_segment w s) ∙ go (is_line w.kind) (is_curve w.kind)
  where
    go : (l c : Bool)
        → after p (cond l (cond c (Entries.curve w.p) (Entries.line w.p w.q)) (Entries.shortcut w.p w.q w.r))
        ≡ place p.groups true p.areas (p.segments + 1)
    go true true = refl
    go true false = refl
    go false c = refl

-- ---- ranges

-- each corner of its line is below n
abbrev pub SegmentBelow : (n : ℕ) → Segment → Type 0
SegmentBelow n (drawn l) = LineBelow n l
SegmentBelow n (shortcut z lo hi) = Unit {0}

module _ (xs ys : List ℕ) (corners : ℕ) (w : Words) where
  pub range_below : segment_range xs ys corners w ≡ true → SegmentBelow corners (segment_of w)
  range_below = go (is_line w.kind)
    where
      go : (b : Bool)
          → cond b (line_met xs ys corners (line_of w)) (sign_range w.p) ≡ true
          → SegmentBelow corners (cond b (drawn (line_of w)) (shortcut (to_z w32 w.p) w.q w.r))
      go true h = line_used xs ys corners (line_of w) h
      go false h = tt

  pub range_sign : (xs' ys' : List ℕ) → segment_range xs ys corners w ≡ true → nat_abs (sign_of xs' ys' (segment_of w)) ≤ 1
  range_sign xs' ys' = go (is_line w.kind)
    where
      go : (b : Bool)
          → cond b (line_met xs ys corners (line_of w)) (sign_range w.p) ≡ true
          → nat_abs (sign_of xs' ys' (cond b (drawn (line_of w)) (shortcut (to_z w32 w.p) w.q w.r))) ≤ 1
      go true h = sign_abs (edge_of xs' ys' (line_of w))
      go false h = shortcut_small w.p true h

  pub left_small : left_range xs ys corners w ≡ true → nat_abs (left_sign xs ys w) ≤ 1
  left_small h = go (is_segment w.kind) refl
    where
      go : (b : Bool) → is_segment w.kind ≡ b → nat_abs (left_sign xs ys w) ≤ 1
      go true e = rw e (range_sign xs ys (rw e at h))
      go false e = rw e (omega arith)
