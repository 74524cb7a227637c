-- Every leaf that is found at a depth of at most 4 is listed.
use Rattle.std.proofs.Common.{Option, Some, None, Ok, Err}
use Rattle.refusals.specs.declared.Refusal.{Refusal}
use mathlib.Core.Path.{◌≡◌, refl, sym, subst, ap, ◌∙◌}
use mathlib.Core.Bool.{Bool, true, false, cond, ◌&&◌}
use mathlib.Core.List.{List, [], ◌∷◌}
use Prim.Native.Nat.{ℕ, zero, suc, ◌+◌, ◌*◌, ◌-◌, ◌/◌, ◌%◌, ◌^◌, ◌≤◌, ◌<◌}
use native.Mathlib.Omega.{arith}
use lib.Dec.{T, eqb, ltb, eqb→eq, ltb→lt}
use lib.ListN.{length}
use borrow.Author.Tests.{eq-eqb, lt-ltb, eqb-true, eqb-false}
use Rattle.laws.specs.Ranges.{all}
use Rattle.laws.proofs.Ranges.{all_at}
use Rattle.laws.proofs.Booleans.{&&_left, &&_right, and_both}
use Rattle.refusals.specs.declared.Refusal.TheVariants as Refusals
use Rattle.geometry.specs.Keys.{spread, key_of}
use Rattle.cells.specs.Cells.{at}
use Rattle.celltable.specs.declared.CellWords.{CellWords}
use Rattle.celltable.specs.declared.Leaf.{Leaf}
use Rattle.celltable.specs.Table.{cell_at}
use Rattle.celltable.proofs.Ranges.{SquareFits, square_fits_law, passes_range}
use Rattle.celltable.proofs.Landing.{LeafFound}
use Rattle.tables.specs.Tables.{Tree, cells_used, entries_used}
use Rattle.find_leaf.specs.declared.FoundLeaf.{FoundLeaf}
use Rattle.find_leaf.specs.Leaf.{position_range, report_of, leaf_in, found_by, find_answer}
use Rattle.find_leaf.proofs.Landing.{leaf_holds}
use Rattle.find_leaf.proofs.Same.{leaf_same}
use Rattle.listing.specs.declared.Line.{Line}
use Rattle.listing.specs.Listed.{corner_x, corner_y, line_of, of_answer, corner_at, with_corner, lines_from, listed, Among, IsLeaf, leaf_line}
use Rattle.listing.proofs.Order.{corner_is}

-- ---- the corners: (4,096 a, 4,096 b) is the corner whose number is the key of (a, b)
right_pair : ℕ → ℕ → Bool
right_pair a b = ltb (key_of a b) 256 && (eqb (corner_x (key_of a b)) (4096 * a) && eqb (corner_y (key_of a b)) (4096 * b))

right_row : ℕ → Bool
right_row a = all 0 16 (right_pair a)

checked : T (all 0 16 right_row)
unfolding right_row right_pair all spread key_of corner_x corner_y
checked = tt

pub record IsCorner (x y k : ℕ) : Type 0 where
  pub below : k < 256
  pub same_x : corner_x k ≡ x
  pub same_y : corner_y k ≡ y

pair_is : (a b : ℕ) → a < 16 → b < 16 → IsCorner (4096 * a) (4096 * b) (key_of a b)
unfolding right_row right_pair
pair_is a b h g =
    let k = key_of a b in
    let two = eqb (corner_x k) (4096 * a) && eqb (corner_y k) (4096 * b) in
    let t : T (ltb k 256 && two) = all_at 0 16 (right_pair a) (all_at 0 16 right_row checked a (omega arith) (omega arith)) b (omega arith) (omega arith) in
    let u = &&_right (ltb k 256) two t in
    record {
      below = ltb→lt k 256 (&&_left (ltb k 256) two t);
      same_x = eqb→eq (corner_x k) (4096 * a) (&&_left (eqb (corner_x k) (4096 * a)) (eqb (corner_y k) (4096 * b)) u);
      same_y = eqb→eq (corner_y k) (4096 * b) (&&_right (eqb (corner_x k) (4096 * a)) (eqb (corner_y k) (4096 * b)) u);
    }

corner_of_law : (x y : ℕ) → x < 65536 → y < 65536 → x % 4096 ≡ 0 → y % 4096 ≡ 0 → IsCorner x y (key_of (x / 4096) (y / 4096))
corner_of_law x y h g p q =
    let u : 4096 * (x / 4096) ≡ x = omega arith in
    let v : 4096 * (y / 4096) ≡ y = omega arith in
    let c = pair_is (x / 4096) (y / 4096) (omega arith) (omega arith) in
    record { below = c.below; same_x = c.same_x ∙ u; same_y = c.same_y ∙ v }

-- a multiple of the side of a cell at a depth of at most 4
steps_grid : (v s : ℕ) → s ≤ 4 → v % 2 ^ (16 - s) ≡ 0 → v % 4096 ≡ 0
steps_grid v zero h e = omega arith
steps_grid v (suc zero) h e = omega arith
steps_grid v (suc (suc zero)) h e = omega arith
steps_grid v (suc (suc (suc zero))) h e = omega arith
steps_grid v (suc (suc (suc (suc zero)))) h e = omega arith
steps_grid v (suc (suc (suc (suc (suc s))))) h e = absurd (far s h)
  where
    far : (s : ℕ) → suc (suc (suc (suc (suc s)))) ≤ 4 → ⊥
    far s h = omega arith

-- ---- the leaf behind an answer
module _ (t : Tree) (x y : ℕ) (f : FoundLeaf) where
  pub record Behind (l : Leaf) : Type 0 where
    pub paired : eqb (length t.xs) (length t.ys) ≡ true
    pub within : position_range x y ≡ true
    pub found : leaf_in t x y ≡ Some l
    pub reported : report_of t.entries l ≡ f

  not_found : {A : Type 0} (r : Refusal) → Err r ≡ Ok f → A
  not_found r e = absurd (let z : ◌≡◌ {A = ℕ} 0 1 = cc in omega arith)

  behind : find_answer t x y ≡ Ok f → (l : Leaf) × Behind l
  behind e = go (eqb (length t.xs) (length t.ys)) (position_range x y) (leaf_in t x y) refl refl refl e
    where
      go : (a b : Bool) (w : Option Leaf) → eqb (length t.xs) (length t.ys) ≡ a → position_range x y ≡ b → leaf_in t x y ≡ w
          → cond a (cond b (found_by t w) (Err Refusals.Argument)) (Err Refusals.Argument) ≡ Ok f → (l : Leaf) × Behind l
      go true true (Some l) p q r e =
          let s : report_of t.entries l ≡ f = cc in
          (l, record { paired = p; within = q; found = r; reported = s })
      go true true None p q r e = not_found Refusals.Broken e
      go true false w p q r e = not_found Refusals.Argument e
      go false b w p q r e = not_found Refusals.Argument e

  module _ (l : Leaf) (b : Behind l) where
    as_found : LeafFound t.cells (cells_used t.head) (entries_used t.head) (at x y) l
    as_found = leaf_holds t x y l b.within b.found

    abbrev words : CellWords
    words = cell_at t.cells l.cell

    fits : SquareFits words
    fits = square_fits_law words (passes_range t.cells l.cell (cells_used t.head) (entries_used t.head) as_found.passes)

    x_is : l.x ≡ words.x
    x_is = ap (λ (m : Leaf). m.x) as_found.words

    y_is : l.y ≡ words.y
    y_is = ap (λ (m : Leaf). m.y) as_found.words

    side_is_words : l.side ≡ words.side
    side_is_words = ap (λ (m : Leaf). m.side) as_found.words

    x_grid : l.steps ≤ 4 → l.x % 4096 ≡ 0
    x_grid h = steps_grid l.x l.steps h (rw (← as_found.side_is, x_is, side_is_words) fits.x_multiple)

    y_grid : l.steps ≤ 4 → l.y % 4096 ≡ 0
    y_grid h = steps_grid l.y l.steps h (rw (← as_found.side_is, y_is, side_is_words) fits.y_multiple)

    x_below : l.x < 65536
    x_below = rw x_is fits.x_below

    y_below : l.y < 65536
    y_below = rw y_is fits.y_below

    low_corner : l.steps ≤ 4 → IsCorner l.x l.y (key_of (l.x / 4096) (l.y / 4096))
    low_corner h = corner_of_law l.x l.y x_below y_below (x_grid h) (y_grid h)

    -- the same leaf is found from its low corner
    found_low : leaf_in t l.x l.y ≡ Some l
    found_low =
        let s : 0 < l.side = rw side_is_words fits.some_side in
        leaf_same t x y l.x l.y l (record { west = omega arith; east = omega arith; south = omega arith; north = omega arith }) b.found

    low_within : position_range l.x l.y ≡ true
    low_within = and_both (ltb l.x 65536) (ltb l.y 65536) (lt-ltb l.x 65536 x_below) (lt-ltb l.y 65536 y_below)

    answer_low : find_answer t l.x l.y ≡ Ok f
    answer_low = rw (b.paired, low_within, found_low) (ap Ok b.reported)

-- ---- a corner's line is listed
at_corner : (t : Tree) (x y k : ℕ) (f : FoundLeaf) → IsCorner x y k → find_answer t x y ≡ Ok f → f.x ≡ x → f.y ≡ y → corner_at t k ≡ Some (line_of f)
at_corner t x y k f c e p q =
    sym (corner_is t k x y (Ok f) (sym c.same_x) (sym c.same_y) (sym e)) ∙ low
  where
    low : of_answer x y (Ok f) ≡ Some (line_of f)
    low = rw (eq-eqb f.x x p, eq-eqb f.y y q)

with_among : (c : Option Line) (l : Line) (ls : List Line) → Among l ls → Among l (with_corner c ls)
with_among (Some m) l ls a = (m ∷ a.0, a.1, ap (λ (k : List Line). m ∷ k) a.2)
with_among None l ls a = a

lines_hold : (t : Tree) (n k j : ℕ) (l : Line) → corner_at t j ≡ Some l → k ≤ j → j < k + n → Among l (lines_from t k n)
unfolding lines_from
lines_hold t zero k j l e h g = absurd (none k j h g)
  where
    none : (k j : ℕ) → k ≤ j → j < k + 0 → ⊥
    none k j h g = omega arith
lines_hold t (suc n) k j l e h g = go (eqb k j) refl (λ i. lines_hold t n (k + 1) j l e (omega arith) (omega arith))
  where
    ls : List Line
    ls = lines_from t (k + 1) n

    further : (k ≡ j → ⊥) → k < j
    further d = omega arith

    go : (b : Bool) → eqb k j ≡ b → (k < j → Among l ls) → Among l (with_corner (corner_at t k) ls)
    go true p rest = ([], ls, ap (λ (c : Option Line). with_corner c ls) (subst (λ (i : ℕ). corner_at t i ≡ Some l) (sym (eqb-true k j p)) e))
    go false p rest = with_among (corner_at t k) l ls (rest (further (eqb-false k j p)))

-- "prints each leaf": the leaf of every position, if its depth is at most 4
pub every_leaf : (t : Tree) (x y : ℕ) (f : FoundLeaf) → find_answer t x y ≡ Ok f → f.steps ≤ 4 → Among (line_of f) (listed t)
every_leaf t x y f e h = go (behind t x y f e)
  where
    go : (l : Leaf) × Behind t x y f l → Among (line_of f) (listed t)
    go (l, b) =
        let s : l.steps ≤ 4 = rw (ap (λ (m : FoundLeaf). m.steps) b.reported) h in
        let c = low_corner t x y f l b s in
        let p : f.x ≡ l.x = sym (ap (λ (m : FoundLeaf). m.x) b.reported) in
        let q : f.y ≡ l.y = sym (ap (λ (m : FoundLeaf). m.y) b.reported) in
        lines_hold t 256 0 (key_of (l.x / 4096) (l.y / 4096)) (line_of f) (at_corner t l.x l.y _ f c (answer_low t x y f l b) p q)
        (omega arith) (omega (arith, c.below))

-- its cell, and what its depth says of the side
pub record FoundCell (t : Tree) (f : FoundLeaf) : Type 0 where
  pub leaf : IsLeaf t f.cell
  pub line : line_of f ≡ leaf_line t f.cell
  pub side_is : 2 ^ (16 - f.steps) ≡ (cell_at t.cells f.cell).side

pub found_cell : (t : Tree) (x y : ℕ) (f : FoundLeaf) → find_answer t x y ≡ Ok f → FoundCell t f
found_cell t x y f e = go (behind t x y f e)
  where
    go : (l : Leaf) × Behind t x y f l → FoundCell t f
    go (l, b) =
        let m = as_found t x y f l b in
        subst (FoundCell t) b.reported
        (record {
          leaf = record { in_use = m.in_use; undivided = m.whole };
          line = ap (λ (k : Leaf). line_of (report_of t.entries k)) m.words;
          side_is = sym m.side_is ∙ side_is_words t x y f l b;
        })
