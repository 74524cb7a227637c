-- The steps of a path down and the loop over them, as plain laws.
use Prim.Native.Nat.{ℕ, suc, ◌+◌, ◌-◌, ◌/◌, ◌≤◌, ◌<◌}
use mathlib.Core.Path.{◌≡◌, refl, sym, ap, ◌∙◌, subst}
use mathlib.Core.Bool.{Bool, true, false, cond}
use mathlib.Core.List.{List}
use native.Mathlib.Omega.{arith}
use lib.Dec.{eqb, leb}
use borrow.Author.Tests.{eqb-false, eq-eqb, ne_eqb}
use Rattle.laws.proofs.Booleans.{and_left}
use Rattle.celltable.specs.declared.CellWords.{CellWords}
use Rattle.celltable.specs.declared.Cursor.{Cursor}
use Rattle.celltable.specs.declared.Leaf.{Leaf}
use Rattle.std.specs.declared.ops.ControlFlow.{ControlFlow}
use Rattle.std.specs.declared.ops.ControlFlow.TheVariants.{Continue, Break}
use Rattle.std.specs.Prelude.{Option, None, Some}
use Rattle.celltable.specs.Table.{cell_at}
use Rattle.celltable.specs.Ranges.{child_range, half_at}
use Rattle.celltable.specs.Descent.{leaf_of}
use Rattle.celltable.specs.code.Numbers.{half_bit, deeper_n, stands_n, numbers_n, met_n, step_n, go_on, walk_n, start_n}
use Rattle.celltable.proofs.Ranges.{child_in_use}

-- ---- what one step gives: w is the cell that was read, s and f are the outcomes of its tests
module _ (t : List ℕ) (used entries : ℕ) (c : Cursor) (px py : ℕ) (w : CellWords) (s : Bool) (p : w ≡ cell_at t c.cell) (r : s ≡ stands_n c w) where
  read_is : met_n t w used entries c px py ≡ step_n t used entries c px py
  read_is = ap (λ (v : CellWords). met_n t v used entries c px py) p

  pub step_astray : s ≡ false → None ≡ step_n t used entries c px py
  unfolding met_n
  step_astray k = met ∙ read_is
    where
      met : None ≡ met_n t w used entries c px py
      met = rw (← r, k)

  module _ (f : Bool) (k : s ≡ true) (q : f ≡ numbers_n t used entries c w) where
    pub step_unfit : f ≡ false → None ≡ step_n t used entries c px py
    unfolding met_n
    step_unfit h = met ∙ read_is
      where
        met : None ≡ met_n t w used entries c px py
        met = rw (← r, k, ← q, h)

    pub step_landed : f ≡ true → w.child ≡ 0 → Some (Break (leaf_of c.cell c.steps w)) ≡ step_n t used entries c px py
    unfolding met_n
    step_landed h l = met ∙ read_is
      where
        met : Some (Break (leaf_of c.cell c.steps w)) ≡ met_n t w used entries c px py
        met = rw (← r, k, ← q, h, eq-eqb w.child 0 l)

    pub step_deeper : (next : Cursor) → f ≡ true → (w.child ≡ 0 → ⊥) → next ≡ deeper_n c w.child px py → Some (Continue next) ≡ step_n t used entries c px py
    unfolding met_n
    step_deeper next h l e = met ∙ read_is
      where
        met : Some (Continue next) ≡ met_n t w used entries c px py
        met = rw (← r, k, ← q, h, ne_eqb w.child 0 l, e)

-- a cell whose numbers pass has children in range
pub numbers_child : (t : List ℕ) (used entries : ℕ) (c : Cursor) (w : CellWords) (f : Bool) → f ≡ numbers_n t used entries c w → f ≡ true
    → child_range w.child used ≡ true
numbers_child t used entries c w f q h = and_left (child_range w.child used) _ (sym q ∙ h)

-- ---- the loop: what is left gives what the whole gives
module _ (t : List ℕ) (used entries px py n : ℕ) (c : Cursor) (r : Option (ControlFlow Leaf Cursor)) (whole : Option Leaf) where
  walk_step : (d : Option (ControlFlow Leaf Cursor))
      → 0 < n
      → r ≡ step_n t used entries c px py
      → r ≡ d
      → walk_n t used entries px py n c ≡ whole
      → go_on d (walk_n t used entries px py (n - 1)) ≡ whole
  unfolding walk_n
  walk_step d h p q inv =
      let s : n ≡ suc (n - 1) = omega arith in
      let i : walk_n t used entries px py (suc (n - 1)) c ≡ whole = ap (λ (k : ℕ). walk_n t used entries px py k c) (sym s) ∙ inv in
      rw (← q, p) i

  pub walk_deeper : (c' : Cursor)
      → 0 < n
      → r ≡ step_n t used entries c px py
      → r ≡ Some (Continue c')
      → walk_n t used entries px py n c ≡ whole
      → walk_n t used entries px py (n - 1) c' ≡ whole
  walk_deeper c' h p q inv = walk_step (Some (Continue c')) h p q inv

  pub walk_landed : (l : Leaf) → 0 < n → r ≡ step_n t used entries c px py → r ≡ Some (Break l) → walk_n t used entries px py n c ≡ whole → Some l ≡ whole
  walk_landed l h p q inv = walk_step (Some (Break l)) h p q inv

  pub walk_bad : 0 < n → r ≡ step_n t used entries c px py → r ≡ None → walk_n t used entries px py n c ≡ whole → None ≡ whole
  walk_bad h p q inv = walk_step None h p q inv

pub walk_done : (t : List ℕ) (used entries px py n : ℕ) (c : Cursor) (whole : Option Leaf) → n ≤ 0 → walk_n t used entries px py n c ≡ whole → None ≡ whole
unfolding walk_n
walk_done t used entries px py n c whole h inv =
    let s : n ≡ 0 = omega arith in
    rw s at inv

-- ---- the cursor one level deeper: its cell is in use, its square lies in the grid, and its steps are one more
record Follows (c c' : Cursor) (used : ℕ) : Type 0 where
  in_use : c'.cell < used
  east : c.x + c.side ≤ 65536 → c'.x + c'.side ≤ 65536
  north : c.y + c.side ≤ 65536 → c'.y + c'.side ≤ 65536
  counted : c'.steps ≡ c.steps + 1

half_in : (at s : ℕ) (high : Bool) → half_at at (s / 2) high + s / 2 ≤ at + s
half_in at s true = omega arith
half_in at s false = omega arith

one_bit : (high : Bool) → half_bit high ≤ 1
one_bit true = omega arith
one_bit false = omega arith

deeper_follows : (used first px py : ℕ) (c : Cursor) → first + 3 < used → Follows c (deeper_n c first px py) used
deeper_follows used first px py c u =
    record {
      in_use = omega (arith, one_bit right, one_bit upper);
      east = λ h. omega (arith, half_in c.x c.side right);
      north = λ h. omega (arith, half_in c.y c.side upper);
      counted = refl;
    }
  where
    right : Bool
    right = leb (c.x + c.side / 2) px

    upper : Bool
    upper = leb (c.y + c.side / 2) py

step_follows : (t : List ℕ) (used entries px py : ℕ) (c c' : Cursor) (r : Option (ControlFlow Leaf Cursor))
    → r ≡ step_n t used entries c px py → r ≡ Some (Continue c') → Follows c c' used
unfolding met_n
step_follows t used entries px py c c' r p q = go (stands_n c w) numbers (eqb w.child 0) refl refl (sym p ∙ q)
  where
    w : CellWords
    w = cell_at t c.cell

    numbers : Bool
    numbers = numbers_n t used entries c w

    go : (a b d : Bool) → numbers ≡ b → eqb w.child 0 ≡ d
        → cond a (cond b (cond d (Some (Break (leaf_of c.cell c.steps w))) (Some (Continue (deeper_n c w.child px py)))) None) None ≡ Some (Continue c')
        → Follows c c' used
    go true true false e f k =
        let s : deeper_n c w.child px py ≡ c' = cc in
        subst (λ (v : Cursor). Follows c v used) s
        (deeper_follows used w.child px py c
        (child_in_use w.child used (numbers_child t used entries c w numbers refl e) (eqb-false w.child 0 f)))
    go true true true e f k = absurd (let z : ◌≡◌ {A = ℕ} 0 1 = cc in omega arith)
    go true false d e f k = absurd (let z : ◌≡◌ {A = ℕ} 0 1 = cc in omega arith)
    go false b d e f k = absurd (let z : ◌≡◌ {A = ℕ} 0 1 = cc in omega arith)

-- what the loop keeps, with n cells to go
pub record Going (c : Cursor) (used n : ℕ) : Type 0 where
  pub in_use : c.cell < used
  pub east : c.x + c.side ≤ 65536
  pub north : c.y + c.side ≤ 65536
  pub counted : c.steps + n ≡ 17

pub going_start : (used : ℕ) → 1 ≤ used → Going start_n used 17
going_start used h = record { in_use = h; east = omega arith; north = omega arith; counted = refl }

pub going_on : (t : List ℕ) (used entries px py n : ℕ) (c c' : Cursor) (r : Option (ControlFlow Leaf Cursor))
    → 0 < n → r ≡ step_n t used entries c px py → r ≡ Some (Continue c')
    → Going c used n → Going c' used (n - 1)
going_on t used entries px py n c c' r h p q g =
    let f : Follows c c' used = step_follows t used entries px py c c' r p q in
    record { in_use = f.in_use; east = f.east g.east; north = f.north g.north; counted = omega (arith, f.counted, g.counted) }
