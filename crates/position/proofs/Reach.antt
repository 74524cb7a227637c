-- How far an answer reaches: yes gives each position of the leaf the same answer, and no comes exactly with a line, a curve or a shortcut.
use Rattle.std.proofs.Common.{Ok, Err}
use mathlib.Core.Path.{◌≡◌, refl, sym, ap, ◌∙◌}
use mathlib.Core.Bool.{Bool, true, false, cond, ◌&&◌}
use Prim.Native.Nat.{ℕ}
use native.Mathlib.Omega.{arith}
use lib.Dec.{eqb, ltb}
use lib.ListN.{length}
use borrow.Author.Tests.{eqb-true, lt-ltb}
use Rattle.refusals.specs.declared.Refusal.TheVariants as Refusals
use Rattle.cells.specs.Cells.{at}
use Rattle.stream.specs.Entry.{HoldsSegment, is_uniform}
use Rattle.stream.proofs.Uniform.{no_holds, holds_no}
use Rattle.celltable.specs.declared.Leaf.{Leaf}
use Rattle.std.specs.Prelude.{Option, None, Some}
use Rattle.evaluate.proofs.Uniform.{set_uniform}
use Rattle.tables.specs.Tables.{Tree}
use Rattle.find_leaf.specs.Leaf.{position_range, leaf_stream, leaf_in}
use Rattle.find_leaf.proofs.Landing.{leaf_square}
use Rattle.find_leaf.proofs.Same.{LeafHolds, leaf_same}
use Rattle.position.specs.declared.Spot.{Spot}
use Rattle.position.specs.Spots.{spot_of, set_by, spot_by, set_in, position_answer, Reaches}
use Rattle.position.proofs.Known.{leaf_set, position_accepted}

module _ (t : Tree) (x y : ℕ) where
  -- what an accepted answer says: the tests that it passed, its leaf, and that it is what shows there
  pub record Accepted (s : Spot) : Type 0 where
    pub even : length t.xs ≡ length t.ys
    pub in_range_law : position_range x y ≡ true
    pub leaf : Leaf
    pub found : leaf_in t x y ≡ Some leaf
    pub spot : s ≡ spot_of t.areas leaf (is_uniform (leaf_stream t leaf)) (set_in t x y)

  pub accepted : (s : Spot) → position_answer t x y ≡ Ok s → Accepted s
  accepted s h = go (eqb (length t.xs) (length t.ys)) (position_range x y) (leaf_in t x y) refl refl refl h
    where
      go : (a b : Bool) (f : Option Leaf)
          → eqb (length t.xs) (length t.ys) ≡ a
          → position_range x y ≡ b
          → leaf_in t x y ≡ f
          → cond a (cond b (spot_by t x y f) (Err Refusals.Argument)) (Err Refusals.Argument) ≡ Ok s
          → Accepted s
      go true true (Some l) e r k q =
          let z : spot_of t.areas l (is_uniform (leaf_stream t l)) (set_by t x y (Some l)) ≡ s = cc in
          record {
            even = eqb-true (length t.xs) (length t.ys) e;
            in_range_law = r;
            leaf = l;
            found = k;
            spot = sym z ∙ ap (spot_of t.areas l (is_uniform (leaf_stream t l))) (leaf_set t x y l k);
          }
      go true true None e r k q = absurd (let z : ◌≡◌ {A = ℕ} 0 1 = cc in omega arith)
      go true false f e r k q = absurd (let z : ◌≡◌ {A = ℕ} 0 1 = cc in omega arith)
      go false b f e r k q = absurd (let z : ◌≡◌ {A = ℕ} 0 1 = cc in omega arith)

  module _ (s : Spot) (h : position_answer t x y ≡ Ok s) where
    -- no comes with a line, a curve or a shortcut
    pub no_reach : s.uniform ≡ false → HoldsSegment (leaf_stream t (accepted s h).leaf)
    no_reach u = no_holds (leaf_stream t (accepted s h).leaf) (sym (ap (λ (r : Spot). r.uniform) (accepted s h).spot) ∙ u)

    -- and it comes wherever there is one
    pub reach_no : HoldsSegment (leaf_stream t (accepted s h).leaf) → s.uniform ≡ false
    reach_no k = ap (λ (r : Spot). r.uniform) (accepted s h).spot ∙ holds_no k

-- document 02: "A yes means that each position of the leaf has this shown set, material and colour."
pub reaches : (t : Tree) → Reaches t
reaches t x y s h u x' y' i =
    let a = accepted t x y s h in
    let l = a.leaf in
    let px = ap (λ (r : Spot). r.x) a.spot in
    let py = ap (λ (r : Spot). r.y) a.spot in
    let ps = ap (λ (r : Spot). r.side) a.spot in
    let holds : LeafHolds l (at x' y') = record {
      west = omega (arith, i.west, px);
      east = omega (arith, i.east, px, ps);
      south = omega (arith, i.south, py);
      north = omega (arith, i.north, py, ps);
    } in
    let square = leaf_square t x y l a.in_range_law a.found in
    let found = leaf_same t x y x' y' l holds a.found in
    let flag : is_uniform (leaf_stream t l) ≡ true = sym (ap (λ (r : Spot). r.uniform) a.spot) ∙ u in
    let set : set_in t x' y' ≡ set_in t x y =
    sym (leaf_set t x' y' l found)
    ∙ (set_uniform t.areas t.xs t.ys x' y' x y (leaf_stream t l) flag ∙ leaf_set t x y l a.found) in
    let grid : position_range x' y' ≡ true =
    both (ltb x' 65536) (ltb y' 65536) (lt-ltb x' 65536 (omega (arith, holds.east, square.0))) (lt-ltb y' 65536 (omega (arith, holds.north, square.1))) in
    position_accepted t x' y' l (set_in t x y) a.even grid found set ∙ ap Ok (sym a.spot)
  where
    both : (a b : Bool) → a ≡ true → b ≡ true → (a && b) ≡ true
    both a b p q = rw (p, q)
