-- How large start numbers get: in a cell's stream the magnitude of an area's start number, with its lines and
-- shortcuts, is at most the number of the area's edges.
use mathlib.Core.Bool.{Bool, true, false, cond}
use mathlib.Core.List.{List, [], ◌∷◌, map}
use Prim.Native.Nat.{ℕ, suc, ◌+◌, ◌≤◌}
use native.Mathlib.Omega.{arith}
use lib.Dec.{ltb}
use lib.ListN.{length, get_or, length-map}
use lib.IntN.{ℤ, pos, negsuc, ◌+ℤ◌, nat_abs}
use Rattle.laws.proofs.Differences.{abs_add}
use Rattle.geometry.specs.Edges.{sign}
use Rattle.geometry.specs.Windings.{Line, lines_of, edge_of}
use Rattle.geometry.specs.declared.edge.Edge.{Edge}
use Rattle.geometry.specs.declared.class.Class.{Class}
use Rattle.geometry.specs.declared.class.Class.TheVariants.{Dropped, Start, Shortcut, Kept}
use Rattle.pruning.specs.Sides.{Kind, paint, flat, map_side}
use Rattle.pruning.proofs.Sides.{map_map}
use Rattle.pruning.proofs.Survivors.{normal_sub}
use Rattle.cells.specs.Cells.{Cell}
use Rattle.cells.specs.Segments.{Segment, drawn, sign_of, class_in, kept_by, kept_in, start_by, start_in}
use Rattle.cells.specs.Drawings.{Drawing}
use Rattle.cells.specs.Streams.{Each, items, within, whole, source, made}
use Rattle.cells.specs.code.Sizes.{Small, SignsIn}
use Rattle.cells.proofs.Each.{each_sub, each_mapped, on_any}
use Rattle.cells.proofs.Streams.{made_normal}

pub sign_abs : (e : Edge) → nat_abs (sign e) ≤ 1
unfolding sign
sign_abs e = go (ltb e.from.y e.to.y) (ltb e.to.y e.from.y)
  where
    go : (a b : Bool) → nat_abs (cond a (pos 1) (cond b (negsuc 0) (pos 0))) ≤ 1
    go true b = omega arith
    go false true = omega arith
    go false false = omega arith

module _ (xs ys : List ℕ) where
  signs_lines : (ls : List Line) → SignsIn xs ys (map drawn ls)
  signs_lines [] = tt
  signs_lines (l ∷ ls) = (sign_abs (edge_of xs ys l), signs_lines ls)

  signs_by : (g : Segment) (gs : List Segment) (k : Class) → nat_abs (sign_of xs ys g) ≤ 1 → SignsIn xs ys gs → SignsIn xs ys (kept_by xs ys k g gs)
  signs_by g gs Dropped h s = s
  signs_by g gs Start h s = s
  signs_by g gs (Shortcut lo hi) h s = (h, s)
  signs_by g gs Kept h s = (h, s)

  signs_kept : (c : Cell) (gs : List Segment) → SignsIn xs ys gs → SignsIn xs ys (kept_in xs ys c gs)
  signs_kept c [] s = tt
  signs_kept c (g ∷ gs) s = signs_by g (kept_in xs ys c gs) (class_in xs ys c g) s.0 (signs_kept c gs s.1)

  start_by_law : (c : Cell) (z : ℤ) (g : Segment) (gs : List Segment) (k : Class) → nat_abs (sign_of xs ys g) ≤ 1
      → ((y : ℤ) → nat_abs (start_in xs ys c y gs) + length (kept_in xs ys c gs) ≤ nat_abs y + length gs)
      → nat_abs (start_in xs ys c (start_by xs ys k g z) gs) + length (kept_by xs ys k g (kept_in xs ys c gs)) ≤ nat_abs z + suc (length gs)
  start_by_law c z g gs Dropped h f = omega (arith, f z)
  start_by_law c z g gs Start h f = omega (arith, f (z +ℤ sign_of xs ys g), abs_add z (sign_of xs ys g), h)
  start_by_law c z g gs (Shortcut lo hi) h f = omega (arith, f z)
  start_by_law c z g gs Kept h f = omega (arith, f z)

  pub start_bound : (c : Cell) (z : ℤ) (gs : List Segment)
      → SignsIn xs ys gs
      → nat_abs (start_in xs ys c z gs) + length (kept_in xs ys c gs) ≤ nat_abs z + length gs
  start_bound c z [] s = omega arith
  start_bound c z (g ∷ gs) s = start_by_law c z g gs (class_in xs ys c g) s.0 (λ y. start_bound c y gs s.1)

-- where no area has more than m edges, no start number of a made stream is beyond m, and no sign beyond 1
pub made_small : (D : Drawing) (m : ℕ)
    → ((n : ℕ) → length (lines_of (get_or D.contours n [])) ≤ m)
    → (c : Cell)
    → Each (Small D m) (flat paint (made D c (source D)))
made_small D m h c =
    rw (made_normal D c (source D))
    (each_sub (items D) (Small D m) tt (normal_sub (items D) paint (map_side (within D c) (source D)))
    (rw (map_map (whole D) (within D c) D.plan)
    (each_mapped (λ k n. Unit {0}) (Small D m) (λ n. within D c (whole D n)) (λ k n u. small k n) paint D.plan
    (on_any paint D.plan))))
  where
    small : (k : Kind) (n : ℕ) → Small D m k (within D c (whole D n))
    small k n =
        let ls : List Line = lines_of (get_or D.contours n []) in
        let s : SignsIn D.xs D.ys (map drawn ls) = signs_lines D.xs D.ys ls in (
          omega (arith, start_bound D.xs D.ys c (pos 0) (map drawn ls) s, length-map {B = Segment} ls drawn, h n),
          signs_kept D.xs D.ys c (map drawn ls) s,
        )
