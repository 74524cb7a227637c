-- The loop over a parent's stream.
use mathlib.Core.Path.{◌≡◌, sym, ap, subst, ◌∙◌}
use mathlib.Core.List.{List, [], ◌∷◌}
use Prim.Native.Nat.{ℕ, ◌+◌, ◌-◌, ◌^◌, ◌≤◌, ◌<◌}
use native.Mathlib.Omega.{arith}
use lib.ListN.{length}
use lib.IntN.{ℤ}
use Rattle.geometry.specs.declared.class.Class.{Class}
use Rattle.geometry.specs.declared.class.Square.{Square}
use Rattle.pruning.specs.code.Pruner.{going}
use Rattle.pruning.specs.code.Counters.{ct, length_of}
use Rattle.pruning.specs.code.Weights.{total}
use Rattle.cells.specs.Cells.{Cell, square_of}
use Rattle.cells.specs.Drawings.{Drawing}
use Rattle.cells.specs.code.Making.{Making, element_size}
use Rattle.stream.specs.declared.Words.{Words}
use Rattle.stream.specs.Table.{words_at, words_from}
use Rattle.stream.specs.Grammar.{Env, Passed}
use Rattle.stream.proofs.Table.{words_step, words_none}
use Rattle.pruner.specs.code.Numbers.{counted}
use Rattle.making.specs.declared.Maker.{Maker}
use Rattle.making.specs.Made.{elements_made}
use Rattle.making.specs.code.Numbers.{resting, left_sign, left_class, weight_in, waiting_n, settled_n, pruned_n, Inside, Asks}
use Rattle.making.proofs.Standing.{Reads, Standing}
use Rattle.making.proofs.Turn.{waits_small, standing_weight, standing_base, standing_inside, standing_room, standing_left, standing_sign, standing_next}
use Rattle.making.proofs.Whole.{all_of, standing_begin, weight_end}

-- entries i to first + count - 1 are to come
pub record Looping (v : Env) (D : Drawing) (c : Cell) (t : List ℕ) (first count i : ℕ) (m : Maker) : Type 0 where
  pub from : first ≤ i
  pub to : i ≤ first + count
  pub standing : Standing v D c (i - first) m.pruner m.waiting (words_from t i (first + count - i)) (all_of D c (words_from t first count))

module _ (v : Env) (D : Drawing) (c : Cell) (R : Reads v D) (t : List ℕ) (first count : ℕ) (P : Passed t first count v) where
  pub loop_begin : (m : Maker) → counted m.pruner ≡ ct 0 0 going [] → m.waiting ≡ resting → Looping v D c t first count first m
  loop_begin m e f =
      let a : first - first ≡ 0 = omega arith in
      let b : first + count - first ≡ count = omega arith in
      record {
        from = omega arith;
        to = omega arith;
        standing = rw (a, b) (standing_begin v D c R (words_from t first count) P.grammar m.pruner m.waiting e f);
      }

  -- where entry i is to come
  module _ (i : ℕ) (m : Maker) (l : Looping v D c t first count i m) (h : i < first + count) where
    here : Standing v D c (i - first) m.pruner m.waiting (words_at t i ∷ words_from t (i + 1) (first + count - (i + 1)))
        (all_of D c (words_from t first count))
    here =
        subst (λ (ws : List Words). Standing v D c (i - first) m.pruner m.waiting ws (all_of D c (words_from t first count)))
        (words_step t i (first + count) h) l.standing

    few : i - first ≤ 4096
    few = omega (arith, P.few, l.from)

    -- what the next entry asks of the code
    pub loop_asks : (w : Words) → w ≡ words_at t i → Asks v m w
    loop_asks w e =
        let ws : List Words = words_from t (i + 1) (first + count - (i + 1)) in
        let all : Making = all_of D c (words_from t first count) in
        let s : Standing v D c (i - first) m.pruner m.waiting (w ∷ ws) all = rw e here in
        let room = standing_room v D c R (i - first) m.pruner m.waiting all w ws s few in
        let inside = standing_inside v D c R (i - first) m.pruner m.waiting all (w ∷ ws) few P.ready.areas s in
        record {
          xs = P.ready.xs;
          ys = P.ready.ys;
          inside = inside;
          room = room;
          left = standing_left v D c R (i - first) m.pruner m.waiting all w ws s;
          sign = standing_sign v D c R (i - first) m.pruner m.waiting all w ws s;
          small = waits_small (length v.areas) m.waiting inside;
          light = omega (arith, room.weight);
        }

    pub loop_turn : (n : Maker) (w : Words) (q : Square) (f : Class) (z : ℤ)
        → w ≡ words_at t i
        → w.q < 4294967296
        → square_of c ≡ q
        → f ≡ left_class v.xs v.ys q w
        → z ≡ left_sign v.xs v.ys w
        → counted n.pruner ≡ pruned_n v.areas (counted m.pruner) m.waiting w.kind
        → n.waiting ≡ waiting_n m.waiting f z w
        → Looping v D c t first count (i + 1) n
    loop_turn n w q f z e b g x y hp ha =
        let k : i - first + 1 ≡ i + 1 - first = omega (arith, l.from) in
        let s : Standing v D c (i - first) m.pruner m.waiting (w ∷ words_from t (i + 1) (first + count - (i + 1)))
        (all_of D c (words_from t first count)) = rw e here in
        record {
          from = omega (arith, l.from);
          to = omega arith;
          standing = subst
              (λ (j : ℕ).
              Standing v D c j n.pruner n.waiting (words_from t (i + 1) (first + count - (i + 1)))
              (all_of D c (words_from t first count)))
              k
              (standing_next v D c R (i - first) m.pruner m.waiting (all_of D c (words_from t first count)) w
              (words_from t (i + 1) (first + count - (i + 1))) s n.pruner n.waiting hp
              (ha
              ∙ (ap (λ (d : Class). waiting_n m.waiting d z w) (x ∙ ap (λ (r : Square). left_class v.xs v.ys r w) (sym g))
              ∙ ap (λ (y : ℤ). waiting_n m.waiting (left_class v.xs v.ys (square_of c) w) y w) y))
              b);
        }

  -- where none is left
  module _ (i : ℕ) (m : Maker) (l : Looping v D c t first count i m) (h : first + count ≤ i) where
    none : Standing v D c (i - first) m.pruner m.waiting [] (all_of D c (words_from t first count))
    none =
        subst (λ (ws : List Words). Standing v D c (i - first) m.pruner m.waiting ws (all_of D c (words_from t first count)))
        (words_none t i (first + count) h) l.standing

    pub end_inside : Inside (length v.areas) m.waiting
    end_inside =
        standing_inside v D c R (i - first) m.pruner m.waiting (all_of D c (words_from t first count)) []
        (omega (arith, P.few, l.to, l.from)) P.ready.areas none

    pub end_room : (m.pruner.weight + weight_in m.waiting < 2 ^ 60) × (m.pruner.base < 2 ^ 60)
    end_room = (
      omega (arith, standing_weight v D c R (i - first) m.pruner m.waiting (all_of D c (words_from t first count)) [] none, P.few, l.to, l.from),
      omega (arith, standing_base v D c R (i - first) m.pruner m.waiting (all_of D c (words_from t first count)) [] none, P.few, l.to, l.from),
    )

    pub end_weight : length_of (settled_n v.areas (counted m.pruner) m.waiting) ≡ total element_size (elements_made D c (words_from t first count))
    end_weight = weight_end v D c R (words_from t first count) P.grammar (i - first) m.pruner m.waiting none
