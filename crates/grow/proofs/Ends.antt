-- What growing leaves: it keeps what each accepted split keeps, and "done", "full" and 12 are true of the tables that it leaves.
use mathlib.Core.Path.{◌≡◌, refl, sym, ap, subst, ◌∙◌}
use mathlib.Core.Bool.{Bool, true, false, cond}
use Prim.Native.Nat.{ℕ, zero, suc, ◌+◌, ◌*◌, ◌-◌, ◌≤◌, ◌<◌}
use native.Mathlib.Omega.{arith}
use native.Mathlib.Decide.{ℕ_discrete}
use lib.Dec.{eqb}
use lib.ListN.{length}
use borrow.Author.Tests.{eqb-true}
use Rattle.std.specs.Prelude.{Result, Ok, Err}
use Rattle.laws.proofs.Booleans.{clash}
use Rattle.refusals.specs.Refusals.{number_of}
use Rattle.refusals.specs.declared.Refusal.{Refusal}
use Rattle.refusals.specs.declared.Refusal.TheVariants.{
  Length,
  Kind,
  Field,
  Unfit,
  Short,
  Limit,
  Argument,
  NoCell,
  AlreadySplit,
  Smallest,
  Room,
  Broken,
  Curve,
}
use Rattle.tables.specs.Tables.{Tree, cells_used, counts_in}
use Rattle.split.specs.Split.{split_answer}
use Rattle.split_laws.specs.After.{split_tree}
use Rattle.split.proofs.Accepted.{split_accepted}
use Rattle.split_laws.proofs.Trees.{tree_used}
use Rattle.grow.specs.declared.Tried.{Tried}
use Rattle.grow.specs.declared.Tried.TheVariants.{Bad, Past, Wanted}
use Rattle.grow.specs.Grow.{
  tried,
  Lowest,
  none,
  bad,
  at,
  or_next,
  lowest_from,
  Round,
  splits,
  done,
  full,
  broken,
  round_at,
  round_by,
  round,
  Ending,
  none_left,
  no_room,
  not_passed,
  Grown,
  go_on,
  growing,
  grown,
}
use Rattle.grow.proofs.Fuel.{round_split}

-- ---- what each accepted split keeps
module _ (n l : ℕ) where
  module _ (P : Tree → Type 0) (keeps : (u : Tree) (i k : ℕ) → split_answer u i ≡ Ok k → P u → P (split_tree u i)) where
    round_keeps : (f : Tree → Grown) → ((u : Tree) → P u → P (f u).after) → (t : Tree) (r : Round) → round n l t ≡ r → P t → P (go_on r t f).after
    round_keeps f g t (splits i) e p = g (split_tree t i) (keeps t i (cells_used t.head) (round_split n l t i e) p)
    round_keeps f g t done e p = p
    round_keeps f g t full e p = p
    round_keeps f g t broken e p = p

    growing_keeps : (k : ℕ) (t : Tree) → P t → P (growing k n l t).after
    unfolding growing
    growing_keeps zero t p = p
    growing_keeps (suc k) t p = round_keeps (growing k n l) (λ u q. growing_keeps k u q) t (round n l t) refl p

    pub grown_keeps : (t : Tree) → P t → P (grown n l t).after
    unfolding grown
    grown_keeps t p = growing_keeps 4096 t p

  -- ---- four cells for each split
  round_used : (f : Tree → Grown)
      → ((u : Tree) → cells_used (f u).after.head ≡ cells_used u.head + 4 * length (f u).cells)
      → (t : Tree) (r : Round)
      → round n l t ≡ r
      → cells_used (go_on r t f).after.head ≡ cells_used t.head + 4 * length (go_on r t f).cells
  round_used f g t (splits i) e = omega (arith, g (split_tree t i), tree_used t i (cells_used t.head) (round_split n l t i e))
  round_used f g t done e = omega arith
  round_used f g t full e = omega arith
  round_used f g t broken e = omega arith

  growing_used : (k : ℕ) (t : Tree) → cells_used (growing k n l t).after.head ≡ cells_used t.head + 4 * length (growing k n l t).cells
  unfolding growing
  growing_used zero t = omega arith
  growing_used (suc k) t = round_used (growing k n l) (λ u. growing_used k u) t (round n l t) refl

  pub grown_used : (t : Tree) → cells_used (grown n l t).after.head ≡ cells_used t.head + 4 * length (grown n l t).cells
  unfolding grown
  grown_used t = growing_used 4096 t

  -- ---- why it ended is what a round says of the tables that are left
  abbrev pub last_round : Ending → Round
  last_round none_left = done
  last_round no_room = full
  last_round not_passed = broken

  round_ends : (k : ℕ)
      → ((u : Tree) → 4096 - cells_used u.head < 4 * k → round n l (growing k n l u).after ≡ last_round (growing k n l u).ending)
      → (t : Tree)
      → 4096 - cells_used t.head < 4 * suc k
      → (r : Round)
      → round n l t ≡ r
      → round n l (go_on r t (growing k n l)).after ≡ last_round (go_on r t (growing k n l)).ending
  round_ends k g t h (splits i) e =
      let a = round_split n l t i e in
      let b = (split_accepted t i (cells_used t.head) a).few_cells in
      let d = tree_used t i (cells_used t.head) a in
      g (split_tree t i) (omega arith)
  round_ends k g t h done e = e
  round_ends k g t h full e = e
  round_ends k g t h broken e = e

  growing_ends : (k : ℕ) (t : Tree) → 4096 - cells_used t.head < 4 * k → round n l (growing k n l t).after ≡ last_round (growing k n l t).ending
  unfolding growing
  growing_ends zero t h = absurd (omega arith)
  growing_ends (suc k) t h = round_ends k (λ u q. growing_ends k u q) t h (round n l t) refl

  pub grown_ends : (t : Tree) → round n l (grown n l t).after ≡ last_round (grown n l t).ending
  unfolding grown
  grown_ends t = growing_ends 4096 t (omega arith)

-- ---- done: no leaf is wanted, and every cell passes
abbrev is_none : Lowest → Bool
is_none none = true
is_none bad = false
is_none (at i) = false

abbrev is_done : Round → Bool
is_done (splits i) = false
is_done done = true
is_done full = false
is_done broken = false

abbrev is_full : Round → Bool
is_full (splits i) = false
is_full done = false
is_full full = true
is_full broken = false

module _ (n l : ℕ) (t : Tree) where
  one : (i m : ℕ) → lowest_from t n l i (suc m) ≡ or_next (tried t n l i) i (lowest_from t n l (i + 1) m)
  unfolding lowest_from
  one i m = refl

  first_past : (x : Tried) (i : ℕ) (r : Lowest) → or_next x i r ≡ none → (x ≡ Past) × (r ≡ none)
  first_past Bad i r e = clash (ap is_none e)
  first_past Past i r e = (refl, e)
  first_past Wanted i r e = clash (ap is_none e)

  all_past : (m i : ℕ) → lowest_from t n l i m ≡ none → (j : ℕ) → i ≤ j → j < i + m → tried t n l j ≡ Past
  all_past zero i e j h k = absurd (omega arith)
  all_past (suc m) i e j h k = go (ℕ_discrete j i) (λ a. all_past m (i + 1) first.1 j a (omega arith))
    where
      first : (tried t n l i ≡ Past) × (lowest_from t n l (i + 1) m ≡ none)
      first = first_past (tried t n l i) i (lowest_from t n l (i + 1) m) (sym (one i m) ∙ e)

      go : Dec (j ≡ i) → (i + 1 ≤ j → tried t n l j ≡ Past) → tried t n l j ≡ Past
      go (yes q) f = rw q first.0
      go (no q) f = f (omega arith)

  not_done : (i : ℕ) (x : Result ℕ Refusal) → round_at i x ≡ done → ⊥
  not_done i (Ok k) e = clash (ap is_done e)
  not_done i (Err r) e = by (eqb (number_of r) 11) e
    where
      by : (b : Bool) → cond b full broken ≡ done → ⊥
      by true q = clash (ap is_done q)
      by false q = clash (ap is_done q)

  none_by : (x : Lowest) → round_by t x ≡ done → x ≡ none
  none_by none e = refl
  none_by bad e = clash (ap is_done e)
  none_by (at i) e = absurd (not_done i (split_answer t i) e)

  -- "it says "done" when there is none"
  pub done_means : round n l t ≡ done → (i : ℕ) → i < cells_used t.head → tried t n l i ≡ Past
  unfolding round
  done_means e i h = all_past (cells_used t.head) 0 (none_by (lowest_from t n l 0 (cells_used t.head)) (by (counts_in t) e)) i (omega arith) (omega arith)
    where
      by : (b : Bool)
          → cond b (round_by t (lowest_from t n l 0 (cells_used t.head))) broken ≡ done
          → round_by t (lowest_from t n l 0 (cells_used t.head)) ≡ done
      by true q = q
      by false q = clash (ap is_done q)

-- ---- full: the lowest wanted leaf, and 11
pub record NoRoomAt (n l : ℕ) (t : Tree) : Type 0 where
  pub cell : ℕ
  pub in_use : cell < cells_used t.head
  pub wanted : tried t n l cell ≡ Wanted
  pub lowest : (j : ℕ) → j < cell → tried t n l j ≡ Past
  pub refused : split_answer t cell ≡ Err Room

eleven : (r : Refusal) → number_of r ≡ 11 → r ≡ Room
eleven Length e = absurd (omega arith)
eleven Kind e = absurd (omega arith)
eleven Field e = absurd (omega arith)
eleven Unfit e = absurd (omega arith)
eleven Short e = absurd (omega arith)
eleven Limit e = absurd (omega arith)
eleven Argument e = absurd (omega arith)
eleven NoCell e = absurd (omega arith)
eleven AlreadySplit e = absurd (omega arith)
eleven Smallest e = absurd (omega arith)
eleven Room e = refl
eleven Broken e = absurd (omega arith)
eleven Curve e = absurd (omega arith)

abbrev is_at : Lowest → Bool
is_at none = false
is_at bad = false
is_at (at i) = true

abbrev number_in : Lowest → ℕ
number_in none = 0
number_in bad = 0
number_in (at i) = i

module _ (n l : ℕ) (t : Tree) where
  -- where the search ends at cell k
  pub record FoundAt (i m k : ℕ) : Type 0 where
    pub from : i ≤ k
    pub to : k < i + m
    pub wanted : tried t n l k ≡ Wanted
    pub lower : (j : ℕ) → i ≤ j → j < k → tried t n l j ≡ Past

  found_at : (m i k : ℕ) → lowest_from t n l i m ≡ at k → FoundAt i m k
  unfolding lowest_from
  found_at zero i k e = clash (ap is_at e)
  found_at (suc m) i k e = by (tried t n l i) refl e (λ q. found_at m (i + 1) k q)
    where
      by : (x : Tried)
          → tried t n l i ≡ x
          → or_next x i (lowest_from t n l (i + 1) m) ≡ at k
          → (lowest_from t n l (i + 1) m ≡ at k → FoundAt (i + 1) m k)
          → FoundAt i (suc m) k
      by Bad a q f = clash (ap is_at q)
      by Past a q f =
          let g = f q in
          record { from = omega (arith, g.from); to = omega (arith, g.to); wanted = g.wanted; lower = λ j h d. low j h d g (ℕ_discrete j i) }
        where
          low : (j : ℕ) → i ≤ j → j < k → FoundAt (i + 1) m k → Dec (j ≡ i) → tried t n l j ≡ Past
          low j h d g (yes z) = rw z a
          low j h d g (no z) = g.lower j (omega arith) d
      by Wanted a q f =
          let z : i ≡ k = ap number_in q in
          record { from = omega arith; to = omega arith; wanted = subst (λ (j : ℕ). tried t n l j ≡ Wanted) z a; lower = λ j h d. absurd (omega arith) }

  full_answer : (i : ℕ) (x : Result ℕ Refusal) → round_at i x ≡ full → x ≡ Err Room
  full_answer i (Ok k) e = clash (ap is_full e)
  full_answer i (Err r) e = ap Err (eleven r (eqb-true (number_of r) 11 (by (eqb (number_of r) 11) e)))
    where
      by : (b : Bool) → cond b full broken ≡ full → b ≡ true
      by true q = refl
      by false q = clash (ap is_full q)

  full_by : (x : Lowest) → lowest_from t n l 0 (cells_used t.head) ≡ x → round_by t x ≡ full → NoRoomAt n l t
  full_by none a e = clash (ap is_full e)
  full_by bad a e = clash (ap is_full e)
  full_by (at i) a e =
      let g = found_at (cells_used t.head) 0 i a in
      record {
        cell = i;
        in_use = omega (arith, g.to);
        wanted = g.wanted;
        lowest = λ j h. g.lower j (omega arith) h;
        refused = full_answer i (split_answer t i) e;
      }

  -- ""full" when that split would be refused with 11"
  pub full_means : round n l t ≡ full → NoRoomAt n l t
  unfolding round
  full_means e = full_by (lowest_from t n l 0 (cells_used t.head)) refl (by (counts_in t) e)
    where
      by : (b : Bool)
          → cond b (round_by t (lowest_from t n l 0 (cells_used t.head))) broken ≡ full
          → round_by t (lowest_from t n l 0 (cells_used t.head)) ≡ full
      by true q = q
      by false q = clash (ap is_full q)
