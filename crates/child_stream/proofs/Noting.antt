-- The loop over a parent's stream with the start numbers.
use mathlib.Core.Path.{◌≡◌, sym, ap, ap₂, subst, ◌∙◌}
use mathlib.Core.List.{List, [], ◌∷◌}
use Prim.Native.Nat.{ℕ, ◌+◌, ◌-◌, ◌≤◌, ◌<◌}
use native.Mathlib.Omega.{arith}
use native.Mathlib.Nat.{not-suc-le-zero}
use lib.ListN.{length}
use lib.IntN.{ℤ}
use Rattle.geometry.specs.declared.class.Class.{Class}
use Rattle.geometry.specs.declared.class.Square.{Square}
use Rattle.pruning.specs.code.Pruner.{going}
use Rattle.pruning.specs.code.Counters.{ct, length_of}
use Rattle.pruning.specs.code.Effects.{out_of}
use Rattle.pruning.specs.code.Weights.{total}
use Rattle.cells.specs.Cells.{Cell, square_of}
use Rattle.cells.specs.Drawings.{Drawing}
use Rattle.cells.specs.Elements.{Element}
use Rattle.cells.specs.code.Making.{Making, begun, settle, element_size}
use Rattle.stream.specs.declared.Words.{Words}
use Rattle.stream.specs.Table.{words_at, words_from}
use Rattle.stream.specs.Grammar.{Env, Passed}
use Rattle.stream.proofs.Table.{words_step, words_none}
use Rattle.pruner.specs.code.Numbers.{counted}
use Rattle.pruner.proofs.Near.{counted_weight}
use Rattle.evaluate.specs.Reading.{elements_in}
use Rattle.making.specs.declared.Maker.{Maker}
use Rattle.making.specs.Made.{elements_made}
use Rattle.making.specs.code.Numbers.{resting, start_in, left_sign, left_class, waiting_n, pruned_n}
use Rattle.making.proofs.Follows.{state_of, waiting_of, waiting_for, settle_short}
use Rattle.making.proofs.Standing.{Reads, Standing}
use Rattle.making.proofs.Turn.{standing_elements, weight_is}
use Rattle.making.proofs.Whole.{all_of, standing_start, elements_all}
use Rattle.child_stream.specs.code.Starts.{starts_of}
use Rattle.child_stream.specs.code.Numbers.{starts, areas_in, put_start, first_of, starts_in}
use Rattle.child_stream.proofs.Loop.{Looping}
use Rattle.child_stream.proofs.Fronts.{Stands, stands_front, stands_more, put_length, areas_is, with_next, settle_front, turn_front}
use Rattle.child_stream.proofs.Clear.{first_filled}

-- the start numbers of what is made so far stand in the array
pub record Noting (v : Env) (D : Drawing) (c : Cell) (k : ℕ) (mk : Maker) (ws : List Words) (whole : Making) (zs : List ℤ) : Type 0 where
  pub standing : Standing v D c k mk.pruner mk.waiting ws whole
  pub stands : Stands zs (starts_of (out_of (state_of standing.elements)))

-- the start number of the area that waits, behind them
noted_stands : (v : Env) (D : Drawing) (c : Cell) (k : ℕ) (mk : Maker) (ws : List Words) (whole : Making) (zs : List ℤ)
    → k ≤ 4096
    → length zs ≡ 64
    → (s : Noting v D c k mk ws whole zs)
    → Stands (put_start zs (areas_in mk.pruner.weight) (start_in mk.waiting)) (with_next D c s.standing.elements)
noted_stands v D c k mk ws whole zs l e s =
    let f = s.standing.follows in
    let out : List Element = out_of (state_of s.standing.elements) in
    let short : length out ≤ 8192 = omega (arith, f.short) in
    let n : areas_in mk.pruner.weight ≡ length (starts_of out) =
    ap areas_in (sym (counted_weight mk.pruner) ∙ (ap length_of f.counts ∙ weight_is (state_of s.standing.elements))) ∙ areas_is out short in
    let z : start_in mk.waiting ≡ start_in (waiting_for (waiting_of s.standing.elements)) = ap start_in f.waits in
    rw (n, z) (stands_more zs (starts_of out) (start_in (waiting_for (waiting_of s.standing.elements))) e s.stands)

-- entries i to first + count - 1 are to come
pub record Counting (v : Env) (D : Drawing) (c : Cell) (t : List ℕ) (first count i : ℕ) (m : Maker) (zs : List ℤ) : Type 0 where
  pub from : first ≤ i
  pub to : i ≤ first + count
  pub size : length zs ≡ 64
  pub noting : Noting v D c (i - first) m (words_from t i (first + count - i)) (all_of D c (words_from t first count)) zs

module _ (v : Env) (D : Drawing) (c : Cell) (R : Reads v D) (t : List ℕ) (first count : ℕ) (P : Passed t first count v) where
  abbrev whole : Making
  whole = all_of D c (words_from t first count)

  pub counting_begin : (m : Maker) (zs : List ℤ)
      → counted m.pruner ≡ ct 0 0 going []
      → m.waiting ≡ resting
      → length zs ≡ 64
      → Counting v D c t first count first m zs
  counting_begin m zs e f n =
      let a : first - first ≡ 0 = omega arith in
      let b : first + count - first ≡ count = omega arith in
      let x = standing_start v D c R (words_from t first count) P.grammar m.pruner m.waiting e f in
      let none : Stands zs (starts_of (out_of (state_of (begun D c)))) = λ i h l. absurd (not-suc-le-zero h) in
      record {
        from = omega arith;
        to = omega arith;
        size = n;
        noting = rw (a, b) (record { standing = x.0; stands = subst (λ (y : Making). Stands zs (starts_of (out_of (state_of y)))) (sym x.1) none });
      }

  module _ (i : ℕ) (m : Maker) (zs : List ℤ) (l : Counting v D c t first count i m zs) where
    pub looping : Looping v D c t first count i m
    looping = record { from = l.from; to = l.to; standing = l.noting.standing }

    few : i - first ≤ 4096
    few = omega (arith, P.few, l.from, l.to)

    -- the array with the start number of the area that waits
    abbrev next : List ℤ
    next = put_start zs (areas_in m.pruner.weight) (start_in m.waiting)

    pub counting_turn : i < first + count
        → (n : Maker) (w : Words) (q : Square) (f : Class) (z : ℤ)
        → w ≡ words_at t i
        → w.q < 4294967296
        → square_of c ≡ q
        → f ≡ left_class v.xs v.ys q w
        → z ≡ left_sign v.xs v.ys w
        → counted n.pruner ≡ pruned_n v.areas (counted m.pruner) m.waiting w.kind
        → n.waiting ≡ waiting_n m.waiting f z w
        → (zs' : List ℤ)
        → zs' ≡ next
        → Counting v D c t first count (i + 1) n zs'
    counting_turn h n w q f z e b g x y hp ha zs' hz =
        let k : i - first + 1 ≡ i + 1 - first = omega (arith, l.from) in
        let ws : List Words = words_from t (i + 1) (first + count - (i + 1)) in
        let now : Noting v D c (i - first) m (w ∷ ws) whole zs = subst (λ (u : List Words). Noting v D c (i - first) m u whole zs)
        (words_step t i (first + count) h ∙ ap (λ (u : Words). u ∷ ws) (sym e)) l.noting in
        let s = standing_elements v D c R (i - first) m.pruner m.waiting whole w ws now.standing n.pruner n.waiting hp
        (ha ∙ ap₂ (λ (d : Class) (y : ℤ). waiting_n m.waiting d y w) (x ∙ ap (λ (r : Square). left_class v.xs v.ys r w) (sym g)) y)
        b in
        let done : Stands next (starts_of (out_of (state_of s.0.elements))) = subst
        (λ (y : Making). Stands next (starts_of (out_of (state_of y)))) (sym s.1)
        (stands_front next _ (with_next D c now.standing.elements) (turn_front D c w now.standing.elements)
        (noted_stands v D c (i - first) m (w ∷ ws) whole zs few l.size now)) in
        rw hz
        (record {
          from = omega (arith, l.from);
          to = omega arith;
          size = put_length zs (areas_in m.pruner.weight) (start_in m.waiting) ∙ l.size;
          noting = subst (λ (j : ℕ). Noting v D c j n ws whole next) k (record { standing = s.0; stands = done });
        })

    -- where none is left
    module _ (h : first + count ≤ i) where
      last : Noting v D c (i - first) m [] whole zs
      last = subst (λ (u : List Words). Noting v D c (i - first) m u whole zs) (words_none t i (first + count) h) l.noting

      elements_end : last.standing.elements ≡ whole
      unfolding elements_in
      elements_end = last.standing.ahead

      made_is : out_of (settle D c last.standing.elements) ≡ elements_made D c (words_from t first count)
      made_is = ap (λ (y : Making). out_of (settle D c y)) elements_end ∙ elements_all v D c R (words_from t first count) P.grammar

      made_short : length (elements_made D c (words_from t first count)) ≤ 8192
      made_short =
          omega (
            arith,
            settle_short v.areas D c R.agrees (i - first) m.pruner m.waiting last.standing.elements last.standing.follows,
            ap length made_is,
            few,
          )

      made_stands : Stands next (starts_of (elements_made D c (words_from t first count)))
      made_stands =
          subst (λ (y : List Element). Stands next (starts_of y)) made_is
          (stands_front next _ (with_next D c last.standing.elements) (settle_front D c last.standing.elements)
          (noted_stands v D c (i - first) m [] whole zs few l.size last))

      pub counting_end : (zs' : List ℤ) → zs' ≡ next → (n : ℕ) → n ≡ total element_size (elements_made D c (words_from t first count))
          → starts (areas_in n) (first_of (areas_in n) zs') ≡ starts_in (elements_made D c (words_from t first count))
      counting_end zs' hz n e =
          let k : areas_in n ≡ length (starts_of (elements_made D c (words_from t first count))) =
          ap areas_in e ∙ areas_is (elements_made D c (words_from t first count)) made_short in
          rw (hz, k)
          (ap (starts (length (starts_of (elements_made D c (words_from t first count)))))
          (first_filled next (starts_of (elements_made D c (words_from t first count)))
          (put_length zs (areas_in m.pruner.weight) (start_in m.waiting) ∙ l.size) made_stands))
