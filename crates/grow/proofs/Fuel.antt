-- The rounds of growing never run out: each accepted split takes four cells of at most 4,096.
use mathlib.Core.Path.{◌≡◌, refl, sym, ap, subst, ◌∙◌}
use mathlib.Core.Bool.{Bool, true, false, cond}
use Prim.Native.Nat.{ℕ, zero, suc, ◌+◌, ◌*◌, ◌-◌, ◌/◌, ◌≤◌, ◌<◌}
use native.Mathlib.Omega.{arith}
use lib.Dec.{eqb}
use Rattle.std.specs.Prelude.{Result, Ok, Err}
use Rattle.laws.proofs.Booleans.{clash}
use Rattle.refusals.specs.Refusals.{number_of}
use Rattle.refusals.specs.declared.Refusal.{Refusal}
use Rattle.tables.specs.Tables.{Tree, cells_used, counts_in}
use Rattle.split.specs.Split.{split_answer}
use Rattle.split_laws.specs.After.{split_tree}
use Rattle.split.proofs.Accepted.{split_accepted, split_number_law}
use Rattle.split_laws.proofs.Trees.{tree_used}
use Rattle.grow.specs.Grow.{
  Lowest,
  none,
  bad,
  at,
  lowest_from,
  Round,
  splits,
  done,
  full,
  broken,
  round_at,
  round_by,
  round,
  also_split,
  go_on,
  growing,
  grown,
}

-- ---- a round that splits has its split accepted
abbrev is_splits : Round → Bool
is_splits (splits i) = true
is_splits done = false
is_splits full = false
is_splits broken = false

abbrev cell_in : Round → ℕ
cell_in (splits i) = i
cell_in done = 0
cell_in full = 0
cell_in broken = 0

module _ (n l : ℕ) (t : Tree) (i : ℕ) where
  refused : (r : Refusal) (b : Bool) → cond b full broken ≡ splits i → ⊥
  refused r true e = clash (ap is_splits e)
  refused r false e = clash (ap is_splits e)

  by_answer_law : (j : ℕ) (x : Result ℕ Refusal) → split_answer t j ≡ x → round_at j x ≡ splits i → split_answer t i ≡ Ok (cells_used t.head)
  by_answer_law j (Ok k) a e = subst (λ (m : ℕ). split_answer t m ≡ Ok (cells_used t.head)) (ap cell_in e) (a ∙ ap Ok (split_number_law t j k a))
  by_answer_law j (Err r) a e = absurd (refused r (eqb (number_of r) 11) e)

  by_lowest : (x : Lowest) → round_by t x ≡ splits i → split_answer t i ≡ Ok (cells_used t.head)
  by_lowest none e = clash (ap is_splits e)
  by_lowest bad e = clash (ap is_splits e)
  by_lowest (at j) e = by_answer_law j (split_answer t j) refl e

  by_counts : (b : Bool) → cond b (round_by t (lowest_from t n l 0 (cells_used t.head))) broken ≡ splits i → split_answer t i ≡ Ok (cells_used t.head)
  by_counts true e = by_lowest (lowest_from t n l 0 (cells_used t.head)) e
  by_counts false e = clash (ap is_splits e)

  pub round_split : round n l t ≡ splits i → split_answer t i ≡ Ok (cells_used t.head)
  unfolding round
  round_split e = by_counts (counts_in t) e

-- ---- one round more changes nothing
more_by : (k n l : ℕ) (t : Tree)
    → 4096 - cells_used t.head < 4 * suc k
    → ((u : Tree) → 4096 - cells_used u.head < 4 * k → growing (suc k) n l u ≡ growing k n l u)
    → (r : Round)
    → round n l t ≡ r
    → go_on r t (growing (suc k) n l) ≡ go_on r t (growing k n l)
more_by k n l t h f (splits i) e =
    let a = round_split n l t i e in
    let b = (split_accepted t i (cells_used t.head) a).few_cells in
    let d = tree_used t i (cells_used t.head) a in
    ap (also_split i) (f (split_tree t i) (omega arith))
more_by k n l t h f done e = refl
more_by k n l t h f full e = refl
more_by k n l t h f broken e = refl

pub fuel_more : (k n l : ℕ) (t : Tree) → 4096 - cells_used t.head < 4 * k → growing (suc k) n l t ≡ growing k n l t
unfolding growing
fuel_more zero n l t h = absurd (omega arith)
fuel_more (suc k) n l t h = more_by k n l t h (λ u g. fuel_more k n l u g) (round n l t) refl

pub fuel_plus : (d k n l : ℕ) (t : Tree) → 4096 - cells_used t.head < 4 * k → growing (d + k) n l t ≡ growing k n l t
fuel_plus zero k n l t h = let q : 0 + k ≡ k = omega arith in ap (λ (x : ℕ). growing x n l t) q
fuel_plus (suc d) k n l t h =
    let q : suc d + k ≡ suc (d + k) = omega arith in
    ap (λ (x : ℕ). growing x n l t) q ∙ (fuel_more (d + k) n l t (omega arith) ∙ fuel_plus d k n l t h)

-- as many rounds as there is room for, and one more, are enough
pub fuel_enough : (k n l : ℕ) (t : Tree) → (4096 - cells_used t.head) / 4 + 1 ≤ k → growing k n l t ≡ grown n l t
unfolding grown
fuel_enough k n l t h = to k h ∙ sym (to 4096 (omega arith))
  where
    m : ℕ
    m = (4096 - cells_used t.head) / 4 + 1

    to : (j : ℕ) → m ≤ j → growing j n l t ≡ growing m n l t
    to j g =
        let e : j - m + m ≡ j = omega arith in
        subst (λ (x : ℕ). growing x n l t ≡ growing m n l t) e (fuel_plus (j - m) m n l t (omega arith))

again : (k n l : ℕ) (t : Tree) → growing (suc k) n l t ≡ go_on (round n l t) t (growing k n l)
unfolding growing
again k n l t = refl

-- growing is a round, and growing on from there
pub grown_step : (n l : ℕ) (t : Tree) → grown n l t ≡ go_on (round n l t) t (grown n l)
unfolding grown
grown_step n l t = sym (fuel_more 4096 n l t (omega arith)) ∙ again 4096 n l t
