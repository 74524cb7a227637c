-- Growing to depth limit 4 leaves no cell deeper than 4, so the leaf of every position is printed.
use mathlib.Core.Path.{◌≡◌, refl, sym, subst}
use mathlib.Core.Bool.{Bool, true, false, cond}
use Prim.Native.Nat.{ℕ, zero, suc, ◌+◌, ◌-◌, ◌^◌, ◌≤◌, ◌<◌}
use native.Mathlib.Omega.{arith}
use native.Mathlib.Nat.{pow-le-pow_right}
use lib.Dec.{eqb, ltb}
use lib.ListN.{length}
use borrow.Author.Tests.{eqb-true, eqb-false, ltb-true, ltb-false}
use Rattle.std.specs.Prelude.{Result, Ok, Err}
use Rattle.refusals.specs.declared.Refusal.{Refusal}
use Rattle.laws.proofs.Booleans.{and_right}
use Rattle.refusals.specs.Refusals.{number_of}
use Rattle.cells.specs.Cells.{cell, side, Quarter, child}
use Rattle.celltable.specs.declared.CellWords.{CellWords}
use Rattle.celltable.specs.Ranges.{cell_range, level_of}
use Rattle.celltable.specs.Descent.{quarter_at}
use Rattle.tables.specs.Tables.{Tree, cells_used, entries_used, counts_in}
use Rattle.split.specs.Split.{words, split_answer}
use Rattle.split_laws.specs.After.{split_tree}
use Rattle.split_laws.proofs.Trees.{tree_used, tree_keeps_cell, tree_cell, tree_child}
use Rattle.open.specs.Open.{open_answer, open_tree}
use Rattle.open.proofs.Accepted.{open_accepts}
use Rattle.open.proofs.After.{cells_used_law, cell_is}
use Rattle.grow.specs.declared.Tried.{Tried}
use Rattle.grow.specs.declared.Tried.TheVariants.{Bad, Past, Wanted}
use Rattle.grow.specs.Grow.{
  wanted_by,
  tried,
  Lowest,
  none,
  bad,
  at,
  or_next,
  lowest_from,
  Round,
  splits,
  done,
  full,
  broken,
  round_at,
  round_by,
  round,
  go_on,
  growing,
  grown,
  grow_tree,
}
use Rattle.find_leaf.specs.declared.FoundLeaf.{FoundLeaf}
use Rattle.std.proofs.Common.{Ok}
use Rattle.find_leaf.specs.Leaf.{find_answer}
use Rattle.listing.specs.Listed.{line_of, listed, Among}
use Rattle.listing.proofs.Every.{every_leaf, found_cell}
use Rattle.demand.specs.code.Opened.{opened_by}
use Rattle.lister.specs.Printed.{grown_tree}

-- every cell in use has a depth of at most 4
abbrev pub Shallow : Tree → Type 0
Shallow t = (j : ℕ) → j < cells_used t.head → 4096 ≤ (words t j).side

-- ---- a cell that growing splits has a depth below 4
wanted_passes : (a b d : Bool) → cond a (cond b (cond d Wanted Past) Past) Bad ≡ Wanted → d ≡ true
wanted_passes true true true e = refl
wanted_passes true true false e = absurd (let z : ◌≡◌ {A = ℕ} 0 1 = cc in omega arith)
wanted_passes true false d e = absurd (let z : ◌≡◌ {A = ℕ} 0 1 = cc in omega arith)
wanted_passes false b d e = absurd (let z : ◌≡◌ {A = ℕ} 0 1 = cc in omega arith)

module _ (t : Tree) (n : ℕ) where
  wanted_level : (i : ℕ) → tried t n 4 i ≡ Wanted → 13 ≤ level_of (words t i).side
  unfolding tried
  wanted_level i e =
      let w = words t i in
      let d = wanted_passes (cell_range t.cells i (cells_used t.head) (entries_used t.head)) (eqb w.child 0)
      (wanted_by n 4 w.side w.lines) e in
      omega (arith, ltb-true (16 - level_of w.side) 4 (and_right (ltb n w.lines) (ltb (16 - level_of w.side) 4) d))

  lowest_wanted : (m i j : ℕ) → lowest_from t n 4 i m ≡ at j → tried t n 4 j ≡ Wanted
  unfolding lowest_from
  lowest_wanted zero i j e = absurd (let z : ◌≡◌ {A = ℕ} 0 1 = cc in omega arith)
  lowest_wanted (suc m) i j e = go (tried t n 4 i) refl (lowest_wanted m (i + 1) j) e
    where
      go : (x : Tried)
          → tried t n 4 i ≡ x
          → (lowest_from t n 4 (i + 1) m ≡ at j → tried t n 4 j ≡ Wanted)
          → or_next x i (lowest_from t n 4 (i + 1) m) ≡ at j
          → tried t n 4 j ≡ Wanted
      go Wanted p rest q = let k : i ≡ j = cc in subst (λ (h : ℕ). tried t n 4 h ≡ Wanted) k p
      go Past p rest q = rest q
      go Bad p rest q = absurd (let z : ◌≡◌ {A = ℕ} 0 1 = cc in omega arith)

  pub record Rounded (i : ℕ) : Type 0 where
    pub wanted : tried t n 4 i ≡ Wanted
    pub first : ℕ
    pub accepted : split_answer t i ≡ Ok first

  round_splits : (i : ℕ) → round n 4 t ≡ splits i → Rounded i
  unfolding round
  round_splits i e = counted (counts_in t) e
    where
      refused : (b : Bool) → cond b full broken ≡ splits i → Rounded i
      refused true q = absurd (let z : ◌≡◌ {A = ℕ} 0 1 = cc in omega arith)
      refused false q = absurd (let z : ◌≡◌ {A = ℕ} 0 1 = cc in omega arith)

      answered : (j : ℕ) (a : Result ℕ Refusal) → tried t n 4 j ≡ Wanted → split_answer t j ≡ a → round_at j a ≡ splits i → Rounded i
      answered j (Ok k) w a q = let h : j ≡ i = cc in subst Rounded h (record { wanted = w; first = k; accepted = a })
      answered j (Err r) w a q = refused (eqb (number_of r) 11) q

      lowest : (x : Lowest) → lowest_from t n 4 0 (cells_used t.head) ≡ x → round_by t x ≡ splits i → Rounded i
      lowest none p q = absurd (let z : ◌≡◌ {A = ℕ} 0 1 = cc in omega arith)
      lowest bad p q = absurd (let z : ◌≡◌ {A = ℕ} 0 1 = cc in omega arith)
      lowest (at j) p q = answered j (split_answer t j) (lowest_wanted (cells_used t.head) 0 j p) refl q

      counted : (b : Bool) → cond b (round_by t (lowest_from t n 4 0 (cells_used t.head))) broken ≡ splits i → Rounded i
      counted true q = lowest (lowest_from t n 4 0 (cells_used t.head)) refl q
      counted false q = absurd (let z : ◌≡◌ {A = ℕ} 0 1 = cc in omega arith)

-- ---- a split
child_wide : (x y k : ℕ) (q : Quarter) → 13 ≤ k → 4096 ≤ side (child (cell x y k) q)
child_wide x y zero q h = absurd (low h)
  where
    low : 13 ≤ 0 → ⊥
    low h = omega arith
child_wide x y (suc k) q h = pow-le-pow_right {n = 2} (omega arith) {i = 12} {j = k} (omega arith)

module _ (t : Tree) (i n : ℕ) (e : split_answer t i ≡ Ok n) (deep : 13 ≤ level_of (words t i).side) (s : Shallow t) where
  same_cell : (j : ℕ) → j < cells_used t.head → 4096 ≤ (words (split_tree t i) j).side
  same_cell j h = go (eqb j i) refl
    where
      go : (b : Bool) → eqb j i ≡ b → 4096 ≤ (words (split_tree t i) j).side
      go true p =
          let k = eqb-true j i p in
          subst (λ (m : ℕ). 4096 ≤ (words (split_tree t i) m).side) (sym k)
          (subst (λ (w : CellWords). 4096 ≤ w.side) (sym (tree_cell t i n e)) (s i (omega (arith, k, h))))
      go false p = subst (λ (w : CellWords). 4096 ≤ w.side) (sym (tree_keeps_cell t i n e j h (eqb-false j i p))) (s j h)

  new_cell : (q : ℕ) → q < 4 → 4096 ≤ (words (split_tree t i) (cells_used t.head + q)).side
  new_cell q h =
      let w = words t i in
      subst (λ (v : CellWords). 4096 ≤ v.side) (sym (tree_child t i n e q h)) (child_wide w.x w.y (level_of w.side) (quarter_at q) deep)

  shallow_split : Shallow (split_tree t i)
  shallow_split j h = go (ltb j (cells_used t.head)) refl
    where
      go : (b : Bool) → ltb j (cells_used t.head) ≡ b → 4096 ≤ (words (split_tree t i) j).side
      go true p = same_cell j (ltb-true j (cells_used t.head) p)
      go false p =
          let u = cells_used t.head in
          let g : u ≤ j = ltb-false j u p in
          let k : u + (j - u) ≡ j = omega arith in
          subst (λ (m : ℕ). 4096 ≤ (words (split_tree t i) m).side) k (new_cell (j - u) (omega (arith, tree_used t i n e, h)))

-- ---- growing
shallow_growing : (n k : ℕ) (t : Tree) → Shallow t → Shallow (growing k n 4 t).after
unfolding growing
shallow_growing n zero t s = s
shallow_growing n (suc k) t s = go (round n 4 t) refl (λ i. shallow_growing n k (split_tree t i))
  where
    go : (r : Round)
        → round n 4 t ≡ r
        → ((i : ℕ) → Shallow (split_tree t i) → Shallow (growing k n 4 (split_tree t i)).after)
        → Shallow (go_on r t (growing k n 4)).after
    go (splits i) p rest =
        let m = round_splits t n i p in
        rest i (shallow_split t i m.first m.accepted (wanted_level t n i m.wanted) s)
    go done p rest = s
    go full p rest = s
    go broken p rest = s

pub shallow_grown : (t : Tree) (n : ℕ) → Shallow t → Shallow (grow_tree t n 4)
unfolding grown
shallow_grown t n s = go (eqb (length t.xs) (length t.ys))
  where
    go : (a : Bool) → Shallow (cond a (grown n 4 t).after t)
    go true = shallow_growing n 4096 t s
    go false = s

shallow_opened : (t : Tree) (n : ℕ) → open_answer t ≡ Ok n → Shallow (open_tree t)
shallow_opened t n e = subst (λ (r : Result ℕ Refusal). Shallow (opened_by t r)) (sym e) cell_0
  where
    cell_0 : Shallow (opened_by t (Ok n))
    cell_0 j h =
        let a = open_accepts t n e in
        let z : j ≡ 0 = omega (arith, cells_used_law t n a, h) in
        subst (λ (m : ℕ). 4096 ≤ (words (opened_by t (Ok n)) m).side) (sym z) (subst (λ (w : CellWords). 4096 ≤ w.side) (sym (cell_is t n a)) (omega arith))

-- ---- so a leaf that is found is printed
steps_few : (s : ℕ) → 4096 ≤ 2 ^ (16 - s) → s ≤ 4
steps_few s h = go (ltb 4 s) refl
  where
    go : (b : Bool) → ltb 4 s ≡ b → s ≤ 4
    go true p =
        let g = ltb-true 4 s p in
        absurd (let m = pow-le-pow_right {n = 2} (omega arith) {i = 16 - s} {j = 11} (omega (arith, g)) in omega (arith, m, h))
    go false p = ltb-false 4 s p

-- "prints each leaf": of every position
pub each_leaf : (t : Tree) (n : ℕ) → open_answer t ≡ Ok n → (x y : ℕ) (f : FoundLeaf) → find_answer (grown_tree (open_tree t)) x y ≡ Ok f
    → Among (line_of f) (listed (grown_tree (open_tree t)))
each_leaf t n e x y f p =
    let u = grown_tree (open_tree t) in
    let c = found_cell u x y f p in
    let s = shallow_grown (open_tree t) 0 (shallow_opened t n e) f.cell c.leaf.in_use in
    every_leaf u x y f p (steps_few f.steps (rw c.side_is s))
