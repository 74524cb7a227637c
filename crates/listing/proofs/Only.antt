-- Each line that is listed is that of a leaf, and no cell has two.
use Rattle.std.proofs.Common.{Option, Some, None, Result, Ok, Err}
use Rattle.refusals.specs.declared.Refusal.{Refusal}
use mathlib.Core.Path.{◌≡◌, refl, sym, subst, ap, ◌∙◌}
use mathlib.Core.Bool.{Bool, true, false, cond, ◌&&◌}
use mathlib.Core.List.{List, [], ◌∷◌, ◌++◌, append_assoc}
use Prim.Native.Nat.{ℕ, zero, suc, ◌+◌, ◌≤◌, ◌<◌}
use native.Mathlib.Omega.{arith}
use lib.Dec.{eqb}
use Rattle.tables.specs.Tables.{Tree}
use Rattle.find_leaf.specs.declared.FoundLeaf.{FoundLeaf}
use Rattle.find_leaf.specs.Leaf.{find_answer}
use Rattle.listing.specs.declared.Line.{Line}
use Rattle.listing.specs.Listed.{corner_x, corner_y, line_of, of_answer, corner_at, with_corner, lines_from, listed, keys_from, Among, IsLeaf, leaf_line}
use Rattle.listing.proofs.Order.{in_key_order}
use Rattle.listing.proofs.Every.{found_cell}

-- ---- a line that is listed is that of a corner
module _ (t : Tree) (l : Line) where
  abbrev OfCorner : Type 0
  OfCorner = (k : ℕ) × (corner_at t k ≡ Some l)

  no_lines : Among l [] → OfCorner
  no_lines ([], after, e) = absurd (let z : ◌≡◌ {A = ℕ} 0 1 = cc in omega arith)
  no_lines (m ∷ before, after, e) = absurd (let z : ◌≡◌ {A = ℕ} 0 1 = cc in omega arith)

  with_corner_law : (k : ℕ) (c : Option Line) (ls : List Line) → corner_at t k ≡ c → (Among l ls → OfCorner) → Among l (with_corner c ls) → OfCorner
  with_corner_law k (Some m) ls p next ([], after, e) = (k, p ∙ ap Some cc)
  with_corner_law k (Some m) ls p next (b ∷ before, after, e) = next (before, after, cc)
  with_corner_law k None ls p next a = next a

  of_corner : (n k : ℕ) → Among l (lines_from t k n) → OfCorner
  unfolding lines_from
  of_corner zero k a = no_lines a
  of_corner (suc n) k a = with_corner_law k (corner_at t k) (lines_from t (k + 1) n) refl (of_corner n (k + 1)) a

-- and so of a leaf that is found
of_found : (x y : ℕ) (a : Result FoundLeaf Refusal) (l : Line) → of_answer x y a ≡ Some l → (f : FoundLeaf) × (a ≡ Ok f) × (l ≡ line_of f)
of_found x y (Ok f) l e = go (Ok f) refl (eqb f.x x && eqb f.y y) e
  where
    go : (a : Result FoundLeaf Refusal) → a ≡ Ok f → (b : Bool) → cond b (Some (line_of f)) None ≡ Some l
        → (g : FoundLeaf) × (a ≡ Ok g) × (l ≡ line_of g)
    go a q true p = (f, q, cc)
    go a q false p = absurd (let z : ◌≡◌ {A = ℕ} 0 1 = cc in omega arith)
of_found x y (Err r) l e = absurd (let z : ◌≡◌ {A = ℕ} 0 1 = cc in omega arith)

-- each line is that of a leaf, whatever the tables hold
pub only_leaves : (t : Tree) (l : Line) → Among l (listed t) → (i : ℕ) × IsLeaf t i × (l ≡ leaf_line t i)
only_leaves t l a =
    let c = of_corner t l 256 0 a in
    let x = corner_x c.0 in
    let y = corner_y c.0 in
    let f = of_found x y (find_answer t x y) l c.1 in
    let m = found_cell t x y f.0 f.1 in
    (f.0.cell, m.leaf, f.2 ∙ m.line)

-- ---- no cell has two lines: their keys would be one
keys_after : (b : ℕ) (ls : List Line) (m : Line) (after : List Line) → keys_from b (ls ++ m ∷ after) → b ≤ m.key
keys_after b [] m after k = k.0
keys_after b (l ∷ ls) m after k = omega (arith, k.0, keys_after (suc l.key) ls m after k.1)

keys_apart : (b : ℕ) (before between after : List Line) (l m : Line) → keys_from b (before ++ l ∷ (between ++ m ∷ after)) → l.key < m.key
keys_apart b [] between after l m k = keys_after (suc l.key) between m after k.1
keys_apart b (p ∷ before) between after l m k = keys_apart (suc p.key) before between after l m k.1

pub one_line : (t : Tree) (before between after : List Line) (l m : Line) → listed t ≡ before ++ l ∷ (between ++ m ∷ after)
    → l.cell ≡ m.cell → ⊥
one_line t before between after l m e c =
    let p = only_leaves t l (before, between ++ m ∷ after, e) in
    let q = only_leaves t m (before ++ l ∷ between, after, e ∙ sym (append_assoc before (l ∷ between) (m ∷ after))) in
    let same_cell : p.0 ≡ q.0 = sym (ap (λ (k : Line). k.cell) p.2) ∙ (c ∙ ap (λ (k : Line). k.cell) q.2) in
    let same_key : l.key ≡ m.key = ap (λ (k : Line). k.key) (p.2 ∙ (ap (leaf_line t) same_cell ∙ sym q.2)) in
    omega (arith, same_key, keys_apart 0 before between after l m (subst (keys_from 0) e (in_key_order t)))
