-- Sums over the edges of contours: edge by edge, contour by contour, and how large they get.
use mathlib.Core.Path.{◌≡◌, refl, sym, ap, ◌∙◌}
use mathlib.Core.Bool.{Bool, true, false, cond}
use mathlib.Core.List.{List, [], ◌∷◌, ◌++◌}
use Prim.Native.Nat.{ℕ, zero, suc, ◌+◌, ◌-◌, ◌≤◌, ◌<◌}
use native.Mathlib.Numerals.{add-one}
use native.Mathlib.Omega.{arith}
use lib.Dec.{T, leb, ltb, leb→le}
use lib.ListN.{length, get_or, drop, drop_of_length-le}
use lib.Seq.{drop-cons}
use lib.IntN.{ℤ, nat_abs, ◌+ℤ◌, +ℤ_idl, +ℤ_assoc}
use borrow.Author.Tests.{lt-ltb, le-ltb}
use Rattle.laws.proofs.Booleans.{&&_left, &&_right}
use Rattle.laws.proofs.Differences.{abs_add}
use Rattle.laws.proofs.Signed.{Running, running_end}
use Rattle.geometry.specs.code.Reach.{CurveIn, EdgeIn, LineBelow, CornersIn}
use Rattle.geometry.specs.Edges.{counts, sign}
use Rattle.geometry.specs.Windings.{
  Line,
  line,
  curve,
  edge_of,
  Piece,
  straight,
  bent,
  Contour,
  lines_from,
  lines_of,
  next_corner,
  adds,
  sum_of,
  winding,
  straights,
  straight_lines,
  with_corners,
  contours_to,
  follow,
}
use Rattle.geometry.specs.declared.edge.Edge.{Edge}

-- ---- how large a sum gets

abs_one : (b : Bool) (u v : ℤ) → nat_abs u ≤ 1 → nat_abs v ≤ 1 → nat_abs (cond b u v) ≤ 1
abs_one true u v p q = p
abs_one false u v p q = q

pub adds_abs : (e : Edge) (x y : ℕ) → nat_abs (adds e x y) ≤ 1
unfolding adds sign
adds_abs e x y =
    abs_one (counts e x y) _ _
    (abs_one (ltb e.from.y e.to.y) _ _ (omega arith) (abs_one (ltb e.to.y e.from.y) _ _ (omega arith) (omega arith))) (omega arith)

pub sum_abs : (xs ys : List ℕ) (ls : List Line) (x y : ℕ) → nat_abs (sum_of xs ys ls x y) ≤ length ls
unfolding sum_of
sum_abs xs ys [] x y = omega arith
sum_abs xs ys (l ∷ ls) x y =
    let e = edge_of xs ys l in
    omega (arith, abs_add (adds e x y) (sum_of xs ys ls x y), adds_abs e x y, sum_abs xs ys ls x y)

pub length_lines : (first c : ℕ) (ps : List Piece) → length (lines_from first c ps) ≡ suc (length ps)
length_lines first c [] = refl
length_lines first c (straight ∷ ps) = ap suc (length_lines first (suc c) ps)
length_lines first c (bent ∷ ps) = ap suc (length_lines first (suc (suc c)) ps)

length_straights : (n : ℕ) → length (straights n) ≡ n
length_straights zero = refl
length_straights (suc n) = ap suc (length_straights n)

length_straight_lines : (first i n : ℕ) → length (straight_lines first i n) ≡ n
length_straight_lines first i zero = refl
length_straight_lines first i (suc n) = length_lines first i (straights n) ∙ ap suc (length_straights n)

-- ---- edge by edge, contour by contour

module _ (xs ys : List ℕ) (x y : ℕ) where
  pub sum_append : (a b : List Line) → sum_of xs ys (a ++ b) x y ≡ sum_of xs ys a x y +ℤ sum_of xs ys b x y
  unfolding sum_of
  sum_append [] b = sym (+ℤ_idl (sum_of xs ys b x y))
  sum_append (l ∷ a) b =
      let t : ℤ = adds (edge_of xs ys l) x y in
      ap (λ z. t +ℤ z) (sum_append a b) ∙ sym (+ℤ_assoc t (sum_of xs ys a x y) (sum_of xs ys b x y))

  -- the edge from corner i, and those behind it
  pub sum_step : (first i end : ℕ)
      → i < end
      → sum_of xs ys (straight_lines first i (end - i)) x y
      ≡ adds (edge_of xs ys (line i (next_corner first end i))) x y +ℤ sum_of xs ys (straight_lines first (i + 1) (end - (i + 1))) x y
  unfolding sum_of
  sum_step first i end h = go (end - (i + 1)) (omega arith)
    where
      go : (n : ℕ)
          → end ≡ i + 1 + n
          → sum_of xs ys (straight_lines first i (end - i)) x y
          ≡ adds (edge_of xs ys (line i (next_corner first end i))) x y +ℤ sum_of xs ys (straight_lines first (i + 1) (end - (i + 1))) x y
      go zero e =
          let p : end - i ≡ 1 = omega arith in
          let q : end - (i + 1) ≡ 0 = omega arith in
          rw (p, q, le-ltb (i + 1) end (omega arith))
      go (suc n) e =
          let p : end - i ≡ suc (suc n) = omega arith in
          let q : end - (i + 1) ≡ suc n = omega arith in
          rw (p, q, lt-ltb (i + 1) end (omega arith), add-one i)

  -- no edge is left
  pub sum_done : (first i end k : ℕ) (sum : ℤ) {whole : ℤ}
      → end ≤ i
      → Running k sum (sum_of xs ys (straight_lines first i (end - i)) x y) whole
      → sum ≡ whole
  unfolding sum_of
  sum_done first i end k sum h s = let e : end - i ≡ 0 = omega arith in running_end (rw e at s)

-- ---- contours that follow one another: contour k ends before e

follow_end : (from n : ℕ) (es : List ℕ) → T (follow from n es) → from ≤ n
follow_end from n [] t = leb→le from n t
follow_end from n (e ∷ es) t =
    omega (arith, leb→le from e (&&_left (leb from e) (follow e n es) t), follow_end e n es (&&_right (leb from e) (follow e n es) t))

module _ (ends : List ℕ) (first n k e : ℕ) (h : k < length ends) (is : e ≡ get_or ends k 0) where
  drop_step : drop k ends ≡ e ∷ drop (k + 1) ends
  drop_step = rw (is, add-one k) (drop-cons ends k 0 h)

  pub follow_step : T (follow first n (drop k ends)) → (first ≤ e) × (e ≤ n) × T (follow e n (drop (k + 1) ends))
  follow_step t =
      let u = rw drop_step at t in
      let r = &&_right (leb first e) (follow e n (drop (k + 1) ends)) u in
      (leb→le first e (&&_left (leb first e) (follow e n (drop (k + 1) ends)) u), follow_end e n (drop (k + 1) ends) r, r)

  lines_with : (n : ℕ) (cs : List Contour) → lines_of (with_corners first n cs) ≡ straight_lines first first n ++ lines_of cs
  lines_with zero cs = refl
  lines_with (suc n) cs = refl

  pub area_step : (xs ys : List ℕ) (x y : ℕ)
      → winding xs ys (contours_to first (drop k ends)) x y
      ≡ sum_of xs ys (straight_lines first first (e - first)) x y +ℤ winding xs ys (contours_to e (drop (k + 1) ends)) x y
  area_step xs ys x y =
      let rest = contours_to e (drop (k + 1) ends) in
      rw (drop_step, lines_with (e - first) rest) (sum_append xs ys x y (straight_lines first first (e - first)) (lines_of rest))

pub area_done : (xs ys : List ℕ) (x y : ℕ) (ends : List ℕ) (first k n : ℕ) (sum : ℤ) {whole : ℤ}
    → length ends ≤ k
    → Running n sum (winding xs ys (contours_to first (drop k ends)) x y) whole
    → sum ≡ whole
unfolding sum_of
area_done xs ys x y ends first k n sum h s = let e : drop k ends ≡ [] = drop_of_length-le ends h in running_end (rw e at s)

pub contour_abs : (xs ys : List ℕ) (first end x y : ℕ) → nat_abs (sum_of xs ys (straight_lines first first (end - first)) x y) ≤ end - first
contour_abs xs ys first end x y = omega (arith, sum_abs xs ys (straight_lines first first (end - first)) x y, length_straight_lines first first (end - first))

-- ---- the edge of a line with corners in the tables is in range; of a curve, if it is one that a drawing may have

pub edge_in : (xs ys : List ℕ) → CornersIn xs ys → (l : Line) → LineBelow (length xs) l → CurveIn (edge_of xs ys l) → EdgeIn (edge_of xs ys l)
edge_in xs ys h (line p q) i f =
    record {
      ends = record { first_x = h.each_x p i.0; first_y = h.each_y p i.0; second_x = h.each_x q i.1; second_y = h.each_y q i.1 };
      fits = f;
    }
edge_in xs ys h (curve p) i f =
    let l : p < length xs = omega arith in
    record {
      ends = record { first_x = h.each_x p l; first_y = h.each_y p l; second_x = h.each_x (p + 2) i; second_y = h.each_y (p + 2) i };
      fits = f;
    }
