-- A round, where all the cells below one are passed over.
use mathlib.Core.Path.{◌≡◌, refl, ap, ◌∙◌}
use mathlib.Core.Bool.{Bool, true, cond}
use Prim.Native.Nat.{ℕ, zero, suc, ◌+◌, ◌-◌, ◌≤◌, ◌<◌}
use native.Mathlib.Omega.{arith}
use native.Mathlib.Decide.{ℕ_discrete}
use Rattle.tables.specs.Tables.{Tree, cells_used, counts_in}
use Rattle.split.specs.Split.{split_answer}
use Rattle.grow.specs.declared.Tried.{Tried}
use Rattle.grow.specs.declared.Tried.TheVariants.{Bad, Past, Wanted}
use Rattle.grow.specs.Grow.{tried, Lowest, none, bad, at, or_next, lowest_from, done, broken, round_at, round_by, round}

module _ (n l : ℕ) (t : Tree) where
  one : (i m : ℕ) → lowest_from t n l i (suc m) ≡ or_next (tried t n l i) i (lowest_from t n l (i + 1) m)
  unfolding lowest_from
  one i m = refl

  -- the search goes on at cell i
  skip : (m j i : ℕ) → j ≤ i → i ≤ j + m → ((k : ℕ) → k < i → tried t n l k ≡ Past) → lowest_from t n l j m ≡ lowest_from t n l i (j + m - i)
  skip zero j i a b p = let e : j ≡ i = omega arith in let f : j + 0 - i ≡ 0 = omega arith in rw (f, e)
  skip (suc m) j i a b p = go (ℕ_discrete j i) (λ c. skip m (j + 1) i c (omega arith) p)
    where
      go : Dec (j ≡ i)
          → (j + 1 ≤ i → lowest_from t n l (j + 1) m ≡ lowest_from t n l i (j + 1 + m - i))
          → lowest_from t n l j (suc m) ≡ lowest_from t n l i (j + suc m - i)
      go (yes e) f = let q : j + suc m - i ≡ suc m = omega arith in rw (q, e)
      go (no e) f =
          let q : j + 1 + m - i ≡ j + suc m - i = omega arith in
          one j m ∙ (ap (λ (x : Tried). or_next x j (lowest_from t n l (j + 1) m)) (p j (omega arith)) ∙ (f (omega arith) ∙ ap (lowest_from t n l i) q))

  module _ (i : ℕ) (past : (k : ℕ) → k < i → tried t n l k ≡ Past) where
    from_zero : (u : ℕ) → i ≤ u → lowest_from t n l 0 u ≡ lowest_from t n l i (u - i)
    from_zero u h = let q : 0 + u - i ≡ u - i = omega arith in skip u 0 i (omega arith) (omega arith) past ∙ ap (lowest_from t n l i) q

    lowest_here : (u : ℕ) → i < u → (x : Tried) → tried t n l i ≡ x → lowest_from t n l 0 u ≡ or_next x i (lowest_from t n l (i + 1) (u - i - 1))
    lowest_here u h x e =
        let q : u - i ≡ suc (u - i - 1) = omega arith in
        from_zero u (omega arith) ∙ (ap (lowest_from t n l i) q
        ∙ (one i (u - i - 1) ∙ ap (λ (y : Tried). or_next y i (lowest_from t n l (i + 1) (u - i - 1))) e))

    lowest_none : (u : ℕ) → u ≤ i → i ≤ u → lowest_from t n l 0 u ≡ none
    unfolding lowest_from
    lowest_none u h k = from_zero u k ∙ let q : u - i ≡ 0 = omega arith in ap (lowest_from t n l i) q

    counted : (x : Lowest) → counts_in t ≡ true → lowest_from t n l 0 (cells_used t.head) ≡ x → round n l t ≡ round_by t x
    unfolding round
    counted x c e = ap (λ (b : Bool). cond b (round_by t (lowest_from t n l 0 (cells_used t.head))) broken) c ∙ ap (round_by t) e

    module _ (c : counts_in t ≡ true) where
      pub round_wanted : i < cells_used t.head → tried t n l i ≡ Wanted → round n l t ≡ round_at i (split_answer t i)
      round_wanted h e = counted (at i) c (lowest_here (cells_used t.head) h Wanted e)

      pub round_bad : i < cells_used t.head → tried t n l i ≡ Bad → round n l t ≡ broken
      round_bad h e = counted bad c (lowest_here (cells_used t.head) h Bad e)

      pub round_done : cells_used t.head ≤ i → i ≤ cells_used t.head → round n l t ≡ done
      round_done h k = counted none c (lowest_none (cells_used t.head) h k)
