-- The path down over the code's numbers is that of document 01's cells and quarters.
use Prim.Native.Nat.{ℕ, zero, suc, ◌+◌, ◌*◌, ◌/◌, ◌^◌, ◌≤◌, ◌<◌}
use mathlib.Core.Path.{◌≡◌, refl, ap, ◌∙◌}
use mathlib.Core.Bool.{Bool, true, false, cond, ◌&&◌, ◌||◌}
use mathlib.Core.List.{List}
use native.Mathlib.Omega.{arith}
use native.Mathlib.Nat.{two-pow-succ}
use lib.Dec.{eqb, leb}
use borrow.Author.Tests.{eqb-true, eqb-false}
use Rattle.laws.proofs.Booleans.{and_left}
use Rattle.cells.specs.Cells.{Position, at, Cell, cell, left, low, level, side, root, Quarter, along_x, along_y, child, quarter_by, quarter_of}
use Rattle.celltable.specs.declared.CellWords.{CellWords}
use Rattle.celltable.specs.declared.Cursor.{Cursor}
use Rattle.std.specs.declared.ops.ControlFlow.TheVariants.{Continue, Break}
use Rattle.std.specs.Prelude.{Option, None, Some}
use Rattle.celltable.specs.declared.Leaf.{Leaf}
use Rattle.celltable.specs.Table.{cell_at}
use Rattle.celltable.specs.Ranges.{child_range, entry_range, half_at, parent_range, cell_range}
use Rattle.celltable.specs.Descent.{place_of, on_square, leaf_of, down_from, descend_in}
use Rattle.celltable.specs.code.Numbers.{half_bit, deeper_n, numbers_n, met_n, go_on, walk_n, start_n}
use Rattle.celltable.proofs.Ranges.{child_in_use}
use Rattle.celltable.proofs.Grid.{Gridded, root_gridded, child_gridded, gridded_range, says_cell}
use Rattle.celltable.proofs.Parents.{few_places, quarter_passes, root_passes}

-- the cursor at cell i, come from cell p, which has to be the cell c
abbrev pub cursor_of : (i p steps : ℕ) → Cell → Cursor
cursor_of i p steps c = record { cell = i; parent = p; x = left c; y = low c; side = side c; steps = steps }

pub half_pow : (k : ℕ) → 2 ^ suc k / 2 ≡ 2 ^ k
half_pow k = omega (arith, two-pow-succ k)

-- ---- the numbers of a quarter
pub part_x : (x n : ℕ) (a b : Bool) → half_at x n a ≡ x + along_x (quarter_by a b) * n
part_x x n false false = omega arith
part_x x n true false = omega arith
part_x x n false true = omega arith
part_x x n true true = omega arith

pub part_y : (y n : ℕ) (a b : Bool) → half_at y n b ≡ y + along_y (quarter_by a b) * n
part_y y n false false = omega arith
part_y y n true false = omega arith
part_y y n false true = omega arith
part_y y n true true = omega arith

place_is : (first : ℕ) (a b : Bool) → first + half_bit a + 2 * half_bit b ≡ first + place_of (quarter_by a b)
place_is first false false = omega arith
place_is first true false = omega arith
place_is first false true = omega arith
place_is first true true = omega arith

-- one level deeper
deeper_is : (i from steps x y k first : ℕ) (p : Position) (px py : ℕ) → p ≡ at px py
    → deeper_n (cursor_of i from steps (cell x y (suc k))) first px py
    ≡ cursor_of (first + place_of (quarter_of (cell x y (suc k)) p)) i (steps + 1) (child (cell x y (suc k)) (quarter_of (cell x y (suc k)) p))
deeper_is i from steps x y k first p px py e = rw (e, half_pow k) (go (leb (x + 2 ^ k) px) (leb (y + 2 ^ k) py))
  where
    go : (a b : Bool)
        → ◌≡◌ {A = Cursor}
        (record {
          cell = first + half_bit a + 2 * half_bit b;
          parent = i;
          x = half_at x (2 ^ k) a;
          y = half_at y (2 ^ k) b;
          side = 2 ^ k;
          steps = steps + 1;
        })
        (cursor_of (first + place_of (quarter_by a b)) i (steps + 1) (child (cell x y (suc k)) (quarter_by a b)))
    go a b =
        λ d.
        record {
          cell = place_is first a b d;
          parent = i;
          x = part_x x (2 ^ k) a b d;
          y = part_y y (2 ^ k) a b d;
          side = 2 ^ k;
          steps = steps + 1;
        }

-- ---- the path down
module _ (t : List ℕ) (used entries px py : ℕ) where
  -- cell i was reached from cell p: where it is the cell c and names p, its parent passes
  abbrev Reached : (i p : ℕ) → Cell → Type 0
  Reached i p c = on_square (cell_at t i) c ≡ true → (cell_at t i).parent ≡ p → parent_range t i used ≡ true

  -- on its square, what the code tries is what is left of 12
  numbers_are : (i p steps : ℕ) (c : Cell) → Gridded c → (i ≡ 0 → c ≡ root) → Reached i p c → on_square (cell_at t i) c ≡ true
      → cell_range t i used entries ≡ numbers_n t used entries (cursor_of i p steps c) (cell_at t i)
  numbers_are i p steps c g o r e = gridded_range t c i used entries g o e ∙ go (eqb (cell_at t i).parent p) refl
    where
      in_child : Bool
      in_child = child_range (cell_at t i).child used

      in_run : Bool
      in_run = entry_range (cell_at t i).first (cell_at t i).count entries

      go : (b : Bool) → eqb (cell_at t i).parent p ≡ b → (in_child && (in_run && parent_range t i used))
          ≡ (in_child && (in_run && (b || parent_range t i used)))
      go true f = ap (λ (b : Bool). in_child && (in_run && b)) (r e (eqb-true (cell_at t i).parent p f))
      go false f = refl

  -- at one cell, where the rest of the way is the same
  one_cell : (n i p steps : ℕ) (c : Cell) → Gridded c → (i ≡ 0 → c ≡ root) → Reached i p c
      → (on_square (cell_at t i) c ≡ true
      → child_range (cell_at t i).child used ≡ true
      → ((cell_at t i).child ≡ 0 → ⊥)
      → walk_n t used entries px py n (deeper_n (cursor_of i p steps c) (cell_at t i).child px py)
      ≡ down_from t used entries (at px py) n ((cell_at t i).child + place_of (quarter_of c (at px py))) (steps + 1) (child c (quarter_of c (at px py))))
      → walk_n t used entries px py (suc n) (cursor_of i p steps c) ≡ down_from t used entries (at px py) (suc n) i steps c
  unfolding walk_n down_from met_n
  one_cell n i p steps c g o r next = go (on_square w c) numbers (eqb w.child 0) refl refl refl
    where
      w : CellWords
      w = cell_at t i

      numbers : Bool
      numbers = numbers_n t used entries (cursor_of i p steps c) w

      deeper : Option Leaf
      deeper = down_from t used entries (at px py) n (w.child + place_of (quarter_of c (at px py))) (steps + 1) (child c (quarter_of c (at px py)))

      astray : (a : Bool) → ◌≡◌ {A = Option Leaf} None (cond a None None)
      astray true = refl
      astray false = refl

      go : (a b d : Bool)
          → on_square w c ≡ a
          → numbers ≡ b
          → eqb w.child 0 ≡ d
          → go_on (cond a (cond b (cond d (Some (Break (leaf_of i steps w))) (Some (Continue (deeper_n (cursor_of i p steps c) w.child px py)))) None) None)
          (walk_n t used entries px py n)
          ≡ cond (cell_range t i used entries) (cond a (cond d (Some (leaf_of i steps w)) deeper) None) None
      go true true true e f k = rw (numbers_are i p steps c g o r e ∙ f)
      go true true false e f k =
          rw (numbers_are i p steps c g o r e ∙ f)
          (next e (and_left (child_range w.child used) _ f) (eqb-false w.child 0 k))
      go true false d e f k = rw (numbers_are i p steps c g o r e ∙ f)
      go false b d e f k = astray (cell_range t i used entries)

  -- a quarter of the cell was reached from it
  reached_quarter : (i x y k : ℕ) (q : Quarter)
      → i < used
      → on_square (cell_at t i) (cell x y (suc k)) ≡ true
      → child_range (cell_at t i).child used ≡ true
      → ((cell_at t i).child ≡ 0 → ⊥)
      → Reached ((cell_at t i).child + place_of q) i (child (cell x y (suc k)) q)
  reached_quarter i x y k q u e h z s p =
      let c : Cell = cell x y (suc k) in
      let j : ℕ = (cell_at t i).child + place_of q in
      quarter_passes t used j i c q (omega arith) (says_cell (cell_at t i) c e) (says_cell (cell_at t j) (child c q) s) p u z
      (child_in_use (cell_at t i).child used h z) refl

  walk_down : (n i p steps : ℕ) (c : Cell)
      → n ≤ suc (level c)
      → i < used
      → Gridded c
      → (i ≡ 0 → c ≡ root)
      → Reached i p c
      → walk_n t used entries px py n (cursor_of i p steps c) ≡ down_from t used entries (at px py) n i steps c
  unfolding walk_n down_from
  walk_down zero i p steps c h u g o r = refl
  walk_down (suc zero) i p steps c h u g o r = one_cell zero i p steps c g o r (λ e f s. refl)
  walk_down (suc (suc n)) i p steps (cell x y zero) h u g o r = absurd (omega arith)
  walk_down (suc (suc n)) i p steps (cell x y (suc k)) h u g o r =
      let c : Cell = cell x y (suc k) in
      let q : Quarter = quarter_of c (at px py) in
      one_cell (suc n) i p steps c g o r
      (λ e f s. ap (λ (v : Cursor). walk_n t used entries px py (suc n) v) (deeper_is i p steps x y k (cell_at t i).child (at px py) px py refl)
      ∙ walk_down (suc n) ((cell_at t i).child + place_of q) i (steps + 1) (child c q) (omega arith)
      (omega (arith, few_places q, child_in_use (cell_at t i).child used f s)) (child_gridded c q g) (λ z. absurd (s (omega arith)))
      (reached_quarter i x y k q u e f s))

  pub walk_is : 1 ≤ used → walk_n t used entries px py 17 start_n ≡ descend_in t used entries px py
  unfolding descend_in
  walk_is h = walk_down 17 0 0 0 root (omega arith) (omega arith) root_gridded (λ e. refl) (λ e p. root_passes t 0 used refl p)
