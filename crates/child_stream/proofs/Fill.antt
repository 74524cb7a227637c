-- The loop that writes a child's stream to the part of the table that is lent for it.
use mathlib.Core.Path.{◌≡◌, refl, sym, ap, subst, ◌∙◌}
use mathlib.Core.List.{List, [], ◌∷◌}
use Prim.Native.Nat.{ℕ, ◌+◌, ◌*◌, ◌-◌, ◌≤◌, ◌<◌}
use native.Mathlib.Omega.{arith}
use lib.ListN.{length, take}
use lib.Seq.{take-take}
use lib.IntN.{ℤ}
use Rattle.geometry.specs.declared.class.Class.{Class}
use Rattle.geometry.specs.declared.class.Square.{Square}
use Rattle.pruning.specs.code.Pruner.{going}
use Rattle.pruning.specs.code.Counters.{ct}
use Rattle.cells.specs.Cells.{Cell, square_of}
use Rattle.cells.specs.Drawings.{Drawing}
use Rattle.cells.specs.code.Making.{Making, begun}
use Rattle.stream.specs.declared.Words.{Words}
use Rattle.stream.specs.Table.{words_at, words_from, flat}
use Rattle.stream.specs.Grammar.{Env, Passed}
use Rattle.stream.proofs.Table.{words_step, words_none, at_agree}
use Rattle.pruner.specs.code.Numbers.{counted}
use Rattle.making.specs.declared.Maker.{Maker}
use Rattle.making.specs.Made.{elements_made, words_made}
use Rattle.making.specs.code.Numbers.{resting, left_sign, left_class, waiting_n, pruned_n}
use Rattle.making.proofs.Standing.{Reads}
use Rattle.making.proofs.Whole.{all_of, standing_start}
use Rattle.writing.specs.code.Numbers.{settled_put, one_put}
use Rattle.writing.proofs.Written.{Writes}
use Rattle.writing.proofs.Turn.{Writing, writing_next}
use Rattle.writing.proofs.Whole.{written_end}
use Rattle.child_stream.proofs.Loop.{Looping}

-- what is made so far stands in the table t, which is lent for it
pub record Filling (v : Env) (D : Drawing) (c : Cell) (t₀ : List ℕ) (first count limit i : ℕ) (m : Maker) (t : List ℕ) : Type 0 where
  pub from : first ≤ i
  pub to : i ≤ first + count
  pub writing : Writing v D c (i - first) m (words_from t₀ i (first + count - i)) (all_of D c (words_from t₀ first count)) limit t

-- an entry before entry `free` is the same in the table up to there
pub entry_is : (t : List ℕ) (free i : ℕ) → i < free → words_at (take (free * 4) t) i ≡ words_at t i
entry_is t free i h = at_agree (take (free * 4) t) t (free * 4) i (take-take (free * 4) (free * 4) t (omega arith)) (omega arith)

module _ (v : Env) (D : Drawing) (c : Cell) (R : Reads v D) (t₀ : List ℕ) (first count limit : ℕ) (P : Passed t₀ first count v) where
  pub fill_begin : (m : Maker) (t : List ℕ) → counted m.pruner ≡ ct 0 0 going [] → m.waiting ≡ resting → length t ≡ limit * 4
      → Filling v D c t₀ first count limit first m t
  fill_begin m t e f n =
      let a : first - first ≡ 0 = omega arith in
      let b : first + count - first ≡ count = omega arith in
      let x = standing_start v D c R (words_from t₀ first count) P.grammar m.pruner m.waiting e f in
      let none : Writes limit t (begun D c) = record { done = tt; behind = λ q. tt } in
      record {
        from = omega arith;
        to = omega arith;
        writing = rw (a, b) (record { standing = x.0; writes = subst (λ (y : Making). Writes limit t y) (sym x.1) none; size = n });
      }

  -- where the table is t
  module _ (i : ℕ) (m : Maker) (t : List ℕ) (f : Filling v D c t₀ first count limit i m t) where
    pub looping : Looping v D c t₀ first count i m
    looping = record { from = f.from; to = f.to; standing = f.writing.standing }

    few : i - first ≤ 4096
    few = omega (arith, P.few, f.from, f.to)

    pub fill_turn : i < first + count
        → (n : Maker) (w : Words) (q : Square) (g : Class) (z : ℤ) (s : List ℕ)
        → w ≡ words_at t₀ i
        → w.q < 4294967296
        → square_of c ≡ q
        → g ≡ left_class v.xs v.ys q w
        → z ≡ left_sign v.xs v.ys w
        → counted n.pruner ≡ pruned_n v.areas (counted m.pruner) m.waiting w.kind
        → n.waiting ≡ waiting_n m.waiting g z w
        → s ≡ one_put v.areas t m g z w n.pruner.weight
        → Filling v D c t₀ first count limit (i + 1) n s
    fill_turn h n w q g z s e b r x y hp ha hs =
        let k : i - first + 1 ≡ i + 1 - first = omega (arith, f.from) in
        let ws : List Words = words_from t₀ (i + 1) (first + count - (i + 1)) in
        let all : Making = all_of D c (words_from t₀ first count) in
        let now : Writing v D c (i - first) m (w ∷ ws) all limit t = subst
        (λ (u : List Words). Writing v D c (i - first) m u all limit t)
        (words_step t₀ i (first + count) h ∙ ap (λ (u : Words). u ∷ ws) (sym e)) f.writing in
        let next : Writing v D c (i - first + 1) n ws all limit s = writing_next v D c R (i - first) m all limit t few w ws now s n.pruner.weight g z
        (x ∙ ap (λ (a : Square). left_class v.xs v.ys a w) (sym r)) y hs n refl b hp ha in
        record {
          from = omega (arith, f.from);
          to = omega arith;
          writing = subst (λ (j : ℕ). Writing v D c j n ws all limit s) k next;
        }

    -- where no entry is left
    pub fill_end : first + count ≤ i → limit ≡ length (elements_made D c (words_from t₀ first count)) → (s : List ℕ) → s ≡ settled_put v.areas t m
        → s ≡ flat (words_made D c (words_from t₀ first count))
    fill_end h exact s hs =
        let last : Writing v D c (i - first) m [] (all_of D c (words_from t₀ first count)) limit t = subst
        (λ (u : List Words). Writing v D c (i - first) m u (all_of D c (words_from t₀ first count)) limit t)
        (words_none t₀ i (first + count) h) f.writing in
        hs ∙ written_end v D c R (words_from t₀ first count) P.grammar (i - first) m limit t few exact last
