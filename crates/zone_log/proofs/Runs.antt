-- The lowest position out of range.
use Rattle.std.proofs.Common.{Option, Some, None, MatchOption, EachIndex}
use mathlib.Core.Path.{◌≡◌, refl, ap, ◌∙◌}
use mathlib.Core.Bool.{Bool, true, false, cond}
use mathlib.Core.List.{List}
use Prim.Native.Nat.{ℕ, zero, suc, ◌+◌, ◌-◌, ◌≤◌, ◌<◌}
use native.Mathlib.Omega.{arith}
use lib.Dec.{ltb}
use lib.ListN.{length, get_or}
use borrow.Author.Tests.{ltb-true, ltb-false, lt-ltb, le-ltb}
use Rattle.evaluate.proofs.Laws.{both}
use Rattle.find_leaf.specs.Leaf.{position_range}
use Rattle.zone_log.specs.Logs.{outside_from}
use Rattle.zone_log.specs.code.Numbers.{RunIn, outside_n}

-- n is one more than n - 1
pub less_one : (e i : ℕ) → i < e → e - i ≡ suc (e - (i + 1))
less_one e i h = omega arith

-- all of n from the beginning
pub less_none : (n : ℕ) → n - 0 ≡ n
less_none n = omega arith

module _ (px py : List ℕ) where
  abbrev in_range : ℕ → Bool
  in_range i = position_range (get_or px i 0) (get_or py i 0)

  pub none_outside : (i n : ℕ) → ((k : ℕ) → k < i + n → in_range k ≡ true) → outside_from px py i n ≡ i + n
  unfolding outside_from
  none_outside i zero h = omega arith
  none_outside i (suc n) h = rw (h i (omega arith)) (none_outside (i + 1) n (λ k l. h k (omega (arith, l))) ∙ omega arith)

  first_outside : (j n i : ℕ) → j ≤ i → i < j + n → in_range i ≡ false → ((k : ℕ) → k < i → in_range k ≡ true) → outside_from px py j n ≡ i
  unfolding outside_from
  first_outside j zero i a b e h = absurd (omega arith)
  first_outside j (suc n) i a b e h = go (ltb j i) refl (λ l. first_outside (j + 1) n i (omega arith) (omega arith) e h)
    where
      go : (l : Bool) → ltb j i ≡ l → (j < i → outside_from px py (j + 1) n ≡ i) → cond (in_range j) (outside_from px py (j + 1) n) j ≡ i
      go true q r = let l = ltb-true j i q in rw (h j l) (r l)
      go false q r = let z : j ≡ i = omega (arith, ltb-false j i q) in rw (z, e)

  -- the lowest index whose position is out of range, if there is one
  abbrev pub FirstOutside : Option ℕ → Type 0
  FirstOutside o =
      MatchOption o (EachIndex px (λ k. in_range k ≡ true)) (λ i. (i < length px) × (in_range i ≡ false) × ((k : ℕ) → k < i → in_range k ≡ true))

  pub outside_law : (o : Option ℕ) → FirstOutside o → o ≡ outside_n px py
  outside_law None h =
      let e : outside_from px py 0 (length px) ≡ length px = none_outside 0 (length px) (λ k l. h k (omega (arith, l))) ∙ omega arith in
      rw (le-ltb (outside_from px py 0 (length px)) (length px) (omega (arith, e)))
  outside_law (Some i) h =
      let e : outside_from px py 0 (length px) ≡ i = first_outside 0 (length px) i (omega arith) (omega (arith, h.0)) h.1 h.2 in
      rw (e, lt-ltb i (length px) h.0)

  -- where there is none, every position is in range
  all_from : (i n : ℕ) → i + n ≤ outside_from px py i n → (k : ℕ) → i ≤ k → k < i + n → in_range k ≡ true
  unfolding outside_from
  all_from i zero h k a b = absurd (omega arith)
  all_from i (suc n) h k a b = go (position_range (get_or px i 0) (get_or py i 0)) refl h (ltb i k) refl (all_from (i + 1) n)
    where
      go : (t : Bool)
          → position_range (get_or px i 0) (get_or py i 0) ≡ t
          → i + suc n ≤ cond t (outside_from px py (i + 1) n) i
          → (l : Bool)
          → ltb i k ≡ l
          → (i + 1 + n ≤ outside_from px py (i + 1) n → (k : ℕ) → i + 1 ≤ k → k < i + 1 + n → position_range (get_or px k 0) (get_or py k 0) ≡ true)
          → position_range (get_or px k 0) (get_or py k 0) ≡ true
      go true e h true l r = r (omega arith) k (omega (arith, ltb-true i k l)) (omega arith)
      go true e h false l r = let q : k ≡ i = omega (arith, ltb-false i k l) in ap (λ (j : ℕ). position_range (get_or px j 0) (get_or py j 0)) q ∙ e
      go false e h b l r = absurd (omega arith)

  outside_past : None ≡ outside_n px py → length px ≤ outside_from px py 0 (length px)
  outside_past = go (ltb (outside_from px py 0 (length px)) (length px)) refl
    where
      go : (b : Bool) → ltb (outside_from px py 0 (length px)) (length px) ≡ b → None ≡ cond b (Some (outside_from px py 0 (length px))) None
          → length px ≤ outside_from px py 0 (length px)
      go true e q = absurd (let z : ◌≡◌ {A = ℕ} 0 1 = cc in omega arith)
      go false e q = ltb-false (outside_from px py 0 (length px)) (length px) e

  pub run_in : length px ≡ length py → None ≡ outside_n px py → RunIn px py
  run_in s h =
      let m = outside_past h in
      record {
        same = s;
        inside = λ i l.
            let b = both (ltb (get_or px i 0) 65536) (ltb (get_or py i 0) 65536) (all_from 0 (length px) (omega arith) i (omega arith) (omega arith)) in
            (ltb-true (get_or px i 0) 65536 b.0, ltb-true (get_or py i 0) 65536 b.1);
      }
