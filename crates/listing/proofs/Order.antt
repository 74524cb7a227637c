-- The lines that the lister prints are in key order.
use Rattle.std.proofs.Common.{Option, Some, None, Result, Ok, Err}
use Rattle.refusals.specs.declared.Refusal.{Refusal}
use mathlib.Core.Path.{◌≡◌, refl, ap₂}
use mathlib.Core.Bool.{Bool, true, false, cond, ◌&&◌}
use mathlib.Core.List.{List, [], ◌∷◌}
use Prim.Native.Nat.{ℕ, zero, suc, ◌+◌, ◌*◌, ◌≤◌, ◌<◌}
use native.Mathlib.Omega.{arith}
use lib.Dec.{T, eqb, eqb→eq}
use Rattle.laws.specs.Ranges.{all}
use Rattle.laws.proofs.Ranges.{all_at}
use Rattle.laws.proofs.Booleans.{true_T, and_left, and_right}
use Rattle.geometry.specs.Keys.{spread, key_of}
use Rattle.tables.specs.Tables.{Tree}
use Rattle.find_leaf.specs.declared.FoundLeaf.{FoundLeaf}
use Rattle.listing.specs.declared.Line.{Line}
use Rattle.find_leaf.specs.Leaf.{find_answer}
use Rattle.listing.specs.Listed.{corner_x, corner_y, line_of, of_answer, corner_at, with_corner, lines_from, listed, keys_from}

-- the key of corner k is k steps of the keys of a cell of depth 4: one test at each of the 256 corners
right : ℕ → Bool
right k = eqb (key_of (corner_x k) (corner_y k)) (k * 16777216)

checked : T (all 0 256 right)
unfolding right all spread key_of corner_x corner_y
checked = tt

pub corner_key : (k : ℕ) → k < 256 → key_of (corner_x k) (corner_y k) ≡ k * 16777216
unfolding right
corner_key k h = eqb→eq (key_of (corner_x k) (corner_y k)) (k * 16777216) (all_at 0 256 right checked k (omega arith) (omega arith))

-- a line has the key of the low corner that was asked for
low_x : (x y : ℕ) (f : FoundLeaf) → eqb f.x x && eqb f.y y ≡ true → f.x ≡ x
low_x x y f t = eqb→eq f.x x (true_T (and_left (eqb f.x x) (eqb f.y y) t))

low_y : (x y : ℕ) (f : FoundLeaf) → eqb f.x x && eqb f.y y ≡ true → f.y ≡ y
low_y x y f t = eqb→eq f.y y (true_T (and_right (eqb f.x x) (eqb f.y y) t))

pub low_key : (x y : ℕ) (f : FoundLeaf) → eqb f.x x && eqb f.y y ≡ true → key_of f.x f.y ≡ key_of x y
low_key x y f t = ap₂ key_of (low_x x y f t) (low_y x y f t)

abbrev has_key : ℕ → Option Line → Type 0
has_key m (Some l) = l.key ≡ m
has_key m None = Unit {0}

has_key_law : (x y : ℕ) (a : Result FoundLeaf Refusal) → has_key (key_of x y) (of_answer x y a)
has_key_law x y (Ok f) = go (eqb f.x x && eqb f.y y) refl
  where
    go : (b : Bool) → eqb f.x x && eqb f.y y ≡ b → has_key (key_of x y) (cond b (Some (line_of f)) None)
    go true t = low_key x y f t
    go false t = tt
has_key_law x y (Err r) = tt

keys_lower : (b c : ℕ) (ls : List Line) → b ≤ c → keys_from c ls → keys_from b ls
keys_lower b c [] h k = tt
keys_lower b c (l ∷ ls) h k = (omega (arith, k.0), k.1)

keys_with : (b m : ℕ) (p : Option Line) (ls : List Line) → has_key m p → b ≤ m → keys_from (suc m) ls → keys_from b (with_corner p ls)
keys_with b m (Some l) ls e h k = rw e (h, k)
keys_with b m None ls e h k = keys_lower b (suc m) ls (omega arith) k

keys_from_law : (t : Tree) (n k b : ℕ) → b ≤ k * 16777216 → k + n ≤ 256 → keys_from b (lines_from t k n)
unfolding lines_from
keys_from_law t zero k b h r = tt
keys_from_law t (suc n) k b h r =
    keys_with b (k * 16777216) (corner_at t k) (lines_from t (k + 1) n)
    (rw (← corner_key k (omega arith)) (has_key_law (corner_x k) (corner_y k) (find_answer t (corner_x k) (corner_y k))))
    h
    (keys_from_law t n (k + 1) (suc (k * 16777216)) (omega arith) (omega arith))

-- "prints each leaf in key order"
pub in_key_order : (t : Tree) → keys_from 0 (listed t)
in_key_order t = keys_from_law t 256 0 0 (omega arith) (omega arith)

-- the answer at corner k
pub corner_is : (t : Tree) (k x y : ℕ) (a : Result FoundLeaf Refusal) → x ≡ corner_x k → y ≡ corner_y k → a ≡ find_answer t x y → of_answer x y a ≡
    corner_at t k
corner_is t k x y a p q e = rw (e, p, q)
