-- The parent of a cell: a quarter of a split cell passes, what it says that a parent passes, and that it still does in a table with the same words there.
use Prim.Native.Nat.{ℕ, zero, suc, ◌+◌, ◌*◌, ◌-◌, ◌%◌, ◌≤◌, ◌<◌}
use mathlib.Core.Path.{◌≡◌, refl, sym, ap, ◌∙◌}
use mathlib.Core.Bool.{Bool, true, false, cond, ◌&&◌}
use mathlib.Core.List.{List}
use native.Mathlib.Omega.{arith}
use native.Mathlib.Nat.{two-pow-succ}
use lib.Dec.{eqb, ltb, leb}
use borrow.Author.Tests.{eqb-true, eqb-false, ltb-true, leb-true, eq-eqb, ne_eqb, lt-ltb, le-leb}
use Rattle.laws.proofs.Booleans.{and_left, and_right, and_both, cond_left, cond_right}
use Rattle.cells.specs.Cells.{Cell, cell, level, Quarter, low_low, high_low, low_high, high_high, along_x, along_y, child}
use Rattle.celltable.specs.declared.CellWords.{CellWords}
use Rattle.celltable.specs.Table.{cell_at, with_child}
use Rattle.celltable.specs.Ranges.{square_range, root_range, child_range, entry_range, is_child, half_at, on_quarter, held_by, parent_range, cell_range}
use Rattle.celltable.specs.Descent.{place_of}
use Rattle.celltable.proofs.Ranges.{entries_more, range_parts, passes_range, passes_run, passes_root, passes_parent}
use Rattle.celltable.proofs.Grid.{SaysCell}

-- ---- a quarter of a split cell passes

pub few_places : (q : Quarter) → place_of q ≤ 3
few_places low_low = omega arith
few_places high_low = omega arith
few_places low_high = omega arith
few_places high_high = omega arith

half_x : (v n : ℕ) (q : Quarter) → v + along_x q * n ≡ half_at v n (eqb (place_of q % 2) 1)
half_x v n low_low = omega arith
half_x v n high_low = omega arith
half_x v n low_high = omega arith
half_x v n high_high = omega arith

half_y : (v n : ℕ) (q : Quarter) → v + along_y q * n ≡ half_at v n (leb 2 (place_of q))
half_y v n low_low = omega arith
half_y v n high_low = omega arith
half_y v n low_high = omega arith
half_y v n high_high = omega arith

child_place : (first used : ℕ) (q : Quarter) → (first ≡ 0 → ⊥) → first + 3 < used → is_child first used (first + place_of q) ≡ true
child_place first used q z h =
    rw (
      le-leb 1 first (omega arith),
      lt-ltb (first + 3) used h,
      le-leb first (first + place_of q) (omega arith),
      le-leb (first + place_of q) (first + 3) (omega (arith, few_places q)),
    )

quarter_on : (p w : CellWords) (c : Cell) (q : Quarter) → 0 < level c → SaysCell p c → SaysCell w (child c q) → on_quarter p w (place_of q) ≡ true
quarter_on p w (cell x y zero) q l a b = absurd (omega arith)
quarter_on p w (cell x y (suc k)) q l a b =
    let side : p.side ≡ 2 * w.side = omega (arith, a.same_side, b.same_side, two-pow-succ k) in
    let at_x : w.x ≡ half_at p.x w.side (eqb (place_of q % 2) 1) =
    b.same_x ∙ ((λ d. sym a.same_x d + along_x q * sym b.same_side d) ∙ half_x p.x w.side q) in
    let at_y : w.y ≡ half_at p.y w.side (leb 2 (place_of q)) =
    b.same_y ∙ ((λ d. sym a.same_y d + along_y q * sym b.same_side d) ∙ half_y p.y w.side q) in
    and_both (eqb p.side (2 * w.side))
    (eqb w.x (half_at p.x w.side (eqb (place_of q % 2) 1)) && eqb w.y (half_at p.y w.side (leb 2 (place_of q))))
    (eq-eqb p.side (2 * w.side) side)
    (and_both (eqb w.x (half_at p.x w.side (eqb (place_of q % 2) 1))) (eqb w.y (half_at p.y w.side (leb 2 (place_of q))))
    (eq-eqb w.x (half_at p.x w.side (eqb (place_of q % 2) 1)) at_x)
    (eq-eqb w.y (half_at p.y w.side (leb 2 (place_of q))) at_y))

-- cell i is the quarter q of cell p, which is split
pub quarter_passes : (t : List ℕ) (used i p : ℕ) (c : Cell) (q : Quarter)
    → 0 < level c
    → SaysCell (cell_at t p) c
    → SaysCell (cell_at t i) (child c q)
    → (cell_at t i).parent ≡ p
    → p < used
    → ((cell_at t p).child ≡ 0 → ⊥)
    → (cell_at t p).child + 3 < used
    → i ≡ (cell_at t p).child + place_of q
    → parent_range t i used ≡ true
unfolding parent_range
quarter_passes t used i p c q l a b e h z u k =
    let away : i ≡ 0 → ⊥ = λ o. z (omega (arith, k, o)) in
    let place : i - (cell_at t p).child ≡ place_of q = omega (arith, k) in
    let held : held_by (cell_at t p) (cell_at t i) i used ≡ true =
    and_both (is_child (cell_at t p).child used i) (on_quarter (cell_at t p) (cell_at t i) (i - (cell_at t p).child))
    (ap (is_child (cell_at t p).child used) k ∙ child_place (cell_at t p).child used q z u)
    (ap (on_quarter (cell_at t p) (cell_at t i)) place ∙ quarter_on (cell_at t p) (cell_at t i) c q l a b) in
    rw (ne_eqb i 0 away, e, lt-ltb p used h) held

-- cell 0
pub root_passes : (t : List ℕ) (i used : ℕ) → i ≡ 0 → (cell_at t i).parent ≡ 0 → parent_range t i used ≡ true
unfolding parent_range
root_passes t i used z e = rw (eq-eqb i 0 z, eq-eqb (cell_at t i).parent 0 e)

-- ---- what it says that a parent passes

pub record Hangs (t : List ℕ) (i used : ℕ) : Type 0 where
  pub in_use : (cell_at t i).parent < used
  pub held : held_by (cell_at t (cell_at t i).parent) (cell_at t i) i used ≡ true
  pub parted : (cell_at t (cell_at t i).parent).child ≡ 0 → ⊥

pub hangs : (t : List ℕ) (i used : ℕ) → (i ≡ 0 → ⊥) → parent_range t i used ≡ true → Hangs t i used
unfolding parent_range
hangs t i used z h =
    let p : CellWords = cell_at t (cell_at t i).parent in
    let below : Bool = ltb (cell_at t i).parent used in
    let holds : Bool = held_by p (cell_at t i) i used in
    let g : cond below holds false ≡ true = rw (ne_eqb i 0 z) at h in
    let k : holds ≡ true = cond_right below holds g in
    let c : is_child p.child used i ≡ true = and_left (is_child p.child used i) (on_quarter p (cell_at t i) (i - p.child)) k in
    let some : 1 ≤ p.child = leb-true 1 p.child
    (and_left (leb 1 p.child) (ltb (p.child + 3) used && (leb p.child i && leb i (p.child + 3))) c) in
    record { in_use = ltb-true (cell_at t i).parent used (cond_left below holds g); held = k; parted = λ o. omega (arith, some, o) }

pub root_parent : (t : List ℕ) (i used : ℕ) → i ≡ 0 → parent_range t i used ≡ true → (cell_at t i).parent ≡ 0
unfolding parent_range
root_parent t i used z h =
    let g : eqb (cell_at t i).parent 0 ≡ true = rw (eq-eqb i 0 z) at h in
    eqb-true (cell_at t i).parent 0 g

-- ---- more in use

child_more_used : (first used used' i : ℕ) → used ≤ used' → is_child first used i ≡ true → is_child first used' i ≡ true
child_more_used first used used' i u h =
    let rest : Bool = leb first i && leb i (first + 3) in
    let k = and_right (leb 1 first) (ltb (first + 3) used && rest) h in
    let l = ltb-true (first + 3) used (and_left (ltb (first + 3) used) rest k) in
    and_both (leb 1 first) (ltb (first + 3) used' && rest) (and_left (leb 1 first) (ltb (first + 3) used && rest) h)
    (and_both (ltb (first + 3) used') rest (lt-ltb (first + 3) used' (omega arith)) (and_right (ltb (first + 3) used) rest k))

held_more : (p w : CellWords) (i used used' : ℕ) → used ≤ used' → held_by p w i used ≡ true → held_by p w i used' ≡ true
held_more p w i used used' u h =
    and_both (is_child p.child used' i) (on_quarter p w (i - p.child))
    (child_more_used p.child used used' i u (and_left (is_child p.child used i) (on_quarter p w (i - p.child)) h))
    (and_right (is_child p.child used i) (on_quarter p w (i - p.child)) h)

-- in a table with the same words there but for the first child, and the same words of a parent that is split
module _ (t t' : List ℕ) (i used used' n : ℕ) (e : cell_at t' i ≡ with_child (cell_at t i) n) (u : used ≤ used')
    (same : (p : ℕ) → p < used → ((cell_at t p).child ≡ 0 → ⊥) → cell_at t' p ≡ cell_at t p) where
  parent_is : (cell_at t' i).parent ≡ (cell_at t i).parent
  parent_is = ap (λ (w : CellWords). w.parent) e

  parent_hangs : (i ≡ 0 → ⊥) → Hangs t i used → parent_range t' i used' ≡ true
  unfolding parent_range
  parent_hangs z k =
      let p : ℕ = (cell_at t i).parent in
      let words : cell_at t' (cell_at t' i).parent ≡ cell_at t p = ap (cell_at t') parent_is ∙ same p k.in_use k.parted in
      let held : held_by (cell_at t p) (with_child (cell_at t i) n) i used' ≡ true = held_more (cell_at t p) (cell_at t i) i used used' u k.held in
      let here : held_by (cell_at t' (cell_at t' i).parent) (cell_at t' i) i used' ≡ true =
      (λ d. held_by (words d) (e d) i used') ∙ held in
      rw (ne_eqb i 0 z, lt-ltb (cell_at t' i).parent used' (omega (arith, parent_is, k.in_use))) here

  pub parent_more : parent_range t i used ≡ true → parent_range t' i used' ≡ true
  parent_more h = go (eqb i 0) refl
    where
      go : (b : Bool) → eqb i 0 ≡ b → parent_range t' i used' ≡ true
      go true q = root_passes t' i used' (eqb-true i 0 q) (parent_is ∙ root_parent t i used (eqb-true i 0 q) h)
      go false q = parent_hangs (eqb-false i 0 q) (hangs t i used (eqb-false i 0 q) h)

  -- a cell that passes still does: its children are among the cells in use, and as many entries are in use or more
  pub range_more : (entries entries' : ℕ) → entries ≤ entries' → child_range n used' ≡ true → cell_range t i used entries ≡ true
      → cell_range t' i used' entries' ≡ true
  range_more entries entries' f c h =
      range_parts t' i used' entries' (ap square_range e ∙ passes_range t i used entries h)
      (ap (λ (w : CellWords). child_range w.child used') e ∙ c)
      (ap (λ (w : CellWords). entry_range w.first w.count entries') e
      ∙ entries_more (cell_at t i).first (cell_at t i).count entries entries' f (passes_run t i used entries h))
      (ap (λ (w : CellWords). root_range w i) e ∙ passes_root t i used entries h) (parent_more (passes_parent t i used entries h))
