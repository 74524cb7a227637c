-- The loops over the lines, curves and shortcuts of an area and over a stream.
use mathlib.Core.Path.{◌≡◌, sym, ap, ap₂, subst, ◌∙◌}
use mathlib.Core.Bool.{true, false, cond}
use mathlib.Core.List.{List}
use Prim.Native.Nat.{ℕ, ◌+◌, ◌-◌, ◌≤◌, ◌<◌}
use native.Mathlib.Omega.{arith}
use lib.IntN.{ℤ, pos, ◌+ℤ◌}
use mir.Syntax.{w32}
use mir.Val.{to_z}
use Rattle.stream.specs.declared.Words.{Words}
use Rattle.paint.specs.Sets.{with_area}
use Rattle.pruning.specs.Registers.{on_item}
use Rattle.machine.specs.declared.Machine.{Machine}
use Rattle.machine.specs.code.Registers.{machine, meant}
use Rattle.cells.specs.Elements.{settled, state}
use Rattle.stream.specs.Entry.{decode, start_range, is_segment}
use Rattle.stream.specs.Table.{words_at, words_from}
use Rattle.records.specs.Record.{is_good}
use Rattle.stream.specs.Grammar.{Env, area_met, in_range, Passed}
use Rattle.stream.specs.code.Machine.{run_length}
use Rattle.stream.proofs.Table.{words_none}
use Rattle.stream.proofs.Runs.{words_first, few_segments}
use Rattle.stream.proofs.Passed.{in_range_law}
use Rattle.evaluate.specs.declared.Reading.{Reading}
use Rattle.evaluate.specs.Reading.{role_at, pass_at, opaque_at, set_at}
use Rattle.evaluate.specs.code.Numbers.{segment_adds, segments_sum, moved_by, Ranged, set_from, Onward}
use Rattle.evaluate.proofs.Steps.{in_name, area_step, idle_step, other_step}

-- ---- the lines, curves and shortcuts of an area

module _ (t xs ys : List ℕ) (x y i e : ℕ) (w : Words) (q : w ≡ words_at t i) (l : i < e) where
  pub sum_more : is_segment w.kind ≡ true
      → segments_sum xs ys x y (words_from t i (e - i)) ≡ segment_adds xs ys x y w +ℤ segments_sum xs ys x y (words_from t (i + 1) (e - (i + 1)))
  unfolding segments_sum
  sum_more s =
      ap (segments_sum xs ys x y) (words_first t i e w q l)
      ∙ ap (λ b. cond b (segment_adds xs ys x y w +ℤ segments_sum xs ys x y (words_from t (i + 1) (e - (i + 1)))) (pos 0)) s

  pub sum_stop : is_segment w.kind ≡ false → segments_sum xs ys x y (words_from t i (e - i)) ≡ pos 0
  unfolding segments_sum
  sum_stop s =
      ap (segments_sum xs ys x y) (words_first t i e w q l)
      ∙ ap (λ b. cond b (segment_adds xs ys x y w +ℤ segments_sum xs ys x y (words_from t (i + 1) (e - (i + 1)))) (pos 0)) s

pub sum_last : (t xs ys : List ℕ) (x y i e : ℕ) → e ≤ i → segments_sum xs ys x y (words_from t i (e - i)) ≡ pos 0
unfolding segments_sum
sum_last t xs ys x y i e h = ap (segments_sum xs ys x y) (words_none t i e h)

-- ---- ranges

-- the entries from i on of a stream that passes
pub passed_ranged : (t : List ℕ) (first count i : ℕ) (v : Env) → Passed t first count v → first ≤ i → i < first + count → Ranged t i (first + count) v
passed_ranged t first count i v p a l =
    record {
      some = l;
      within = p.within;
      few = omega (arith, p.few);
      few_areas = p.few_areas;
      ready = p.ready;
      range = λ k b m. entry_in k (omega arith) m;
    }
  where
    entry_in : (k : ℕ) → first ≤ k → k < first + count → in_range v (decode (words_at t k)) ≡ true
    entry_in k b m =
        let e : first + (k - first) ≡ k = omega arith in
        subst (λ (j : ℕ). in_range v (decode (words_at t j)) ≡ true) e (in_range_law v t first count (k - first) p.grammar (omega arith))

-- what an area asks
pub ranged_name : (t : List ℕ) (i e : ℕ) (v : Env) (w : Words)
    → Ranged t i e v
    → w ≡ words_at t i
    → w.kind ≡ 4
    → (is_good (area_met v w.p) ≡ true) × (start_range w.q ≡ true)
ranged_name t i e v w r q k = in_name v w k (subst (λ u. in_range v (decode u) ≡ true) (sym q) (r.range i (omega arith) r.some))

-- ---- one entry, and where it leads

module _ (areas xs ys : List ℕ) (x y : ℕ) (t : List ℕ) (i e : ℕ) (v : Env) (R : Ranged t i e v) (m : Machine) (w : Words) (q : w ≡ words_at t i) where
  pub area_onward : (r : Reading) (sum : ℤ)
      → w.kind ≡ 4
      → meant r.machine
      ≡ on_item (role_at areas w.p) (pass_at areas w.p sum) (opaque_at areas w.p) (λ s. with_area s w.p) (meant m)
      → r.machine.depth ≡ m.depth
      → sum ≡ to_z w32 w.q +ℤ segments_sum xs ys x y (words_from t (i + 1) (e - (i + 1)))
      → r.next ≡ i + 1 + run_length (words_from t (i + 1) (e - (i + 1)))
      → Onward areas xs ys x y t i e m r
  area_onward r sum k g d z n =
      record {
        later = omega (arith, n);
        inside = omega (arith, n, few_segments t (e - (i + 1)) (i + 1), R.some);
        deeper = omega (arith, d);
        same = ap₂ (λ h j. set_from areas xs ys x y (state h settled) (words_from t j (e - j)))
            (g
            ∙ ap (λ u. on_item (role_at areas w.p) (pass_at areas w.p u) (opaque_at areas w.p) (λ s. with_area s w.p) (meant m)) z)
            n
            ∙ area_step areas xs ys x y v t (meant m) i e w q k R.some R.range;
      }

  pub idle_onward : (r : Reading) → w.kind ≡ 4 → (m.state ≡ 0 → ⊥) → r.machine ≡ m → r.next ≡ i + 1 → Onward areas xs ys x y t i e m r
  idle_onward r k s h n =
      record {
        later = omega (arith, n);
        inside = omega (arith, n, R.some);
        deeper = rw h (omega arith);
        same = ap₂ (λ (u : Machine) j. set_from areas xs ys x y (state (meant u) settled) (words_from t j (e - j))) h n
            ∙ idle_step areas xs ys x y m t i e w q k R.some s;
      }

  pub other_onward : (r : Reading)
      → (w.kind ≡ 4 → ⊥)
      → meant r.machine ≡ moved_by w.kind (meant m)
      → r.machine.depth ≤ m.depth + 1
      → r.next ≡ i + 1
      → Onward areas xs ys x y t i e m r
  other_onward r k g d n =
      record {
        later = omega (arith, n);
        inside = omega (arith, n, R.some);
        deeper = d;
        same = ap₂ (λ h j. set_from areas xs ys x y (state h settled) (words_from t j (e - j))) g n
            ∙ other_step areas xs ys x y v t (meant m) i e w q k R.some
            (subst (λ u. in_range v (decode u) ≡ true) (sym q) (R.range i (omega arith) R.some));
      }

-- ---- a stream

pub begin : (areas xs ys : List ℕ) (x y : ℕ) (t : List ℕ) (first count : ℕ)
    → set_from areas xs ys x y (state (meant (machine 0 0 0 0)) settled) (words_from t first (first + count - first))
    ≡ set_at areas xs ys x y (words_from t first count)
unfolding set_at
begin areas xs ys x y t first count = let e : first + count - first ≡ count = omega arith in rw e
