-- The words of an entry, read by the code, are its element read by the machine.
use mathlib.Core.Path.{◌≡◌, refl, sym, ap, ap₂, ◌∙◌}
use mathlib.Core.Bool.{Bool, true, false, cond}
use mathlib.Core.List.{List, [], ◌∷◌}
use Prim.Native.Nat.{ℕ, zero, suc, ◌+◌, ◌-◌, ◌≤◌, ◌<◌}
use native.Mathlib.Omega.{arith}
use lib.Dec.{eqb}
use lib.IntN.{ℤ, pos, ◌+ℤ◌, +ℤ_assoc, +ℤ_idr}
use mir.Syntax.{w32}
use mir.Val.{to_z}
use borrow.Author.Tests.{ne_eqb}
use Rattle.laws.proofs.Booleans.{clash}
use Rattle.pruning.specs.Sides.{clip}
use Rattle.pruning.specs.Registers.{P, S, SA, Registers, reg, halted, out_of, on_item, on_push, on_activate, on_pop}
use Rattle.machine.specs.declared.Machine.{Machine}
use Rattle.machine.specs.code.Registers.{meant}
use Rattle.cells.specs.Cells.{at}
use Rattle.cells.specs.Segments.{adds_at}
use Rattle.cells.specs.Elements.{Element, settled, waits, State, state, settle, on_elements}
use Rattle.stream.specs.declared.Words.{Words}
use Rattle.stream.specs.Entry.{Entry, decode, start_range, is_segment}
use Rattle.stream.specs.Table.{words_at, words_from}
use Rattle.records.specs.Record.{is_good}
use Rattle.stream.specs.Grammar.{Env, area_met, in_range}
use Rattle.stream.specs.code.Machine.{run_length}
use Rattle.stream.proofs.Table.{words_step, words_none}
use Rattle.stream.proofs.Entries.{by_tests, decode_is}
use Rattle.evaluate.specs.Reading.{role_at, pass_at, opaque_at, element_for, elements_in}
use Rattle.evaluate.specs.code.Numbers.{segment_adds, segments_sum, moved_by, set_from}
use Rattle.evaluate.proofs.Laws.{both, entry_element, element_segment}
use Rattle.evaluate.proofs.Idle.{Idle, pending_idle, stopped}

-- ---- what the range of an area says

pub in_name : (v : Env) (w : Words) → w.kind ≡ 4 → in_range v (decode w) ≡ true → (is_good (area_met v w.p) ≡ true) × (start_range w.q ≡ true)
in_name v w e h = both (is_good (area_met v w.p)) (start_range w.q) (rw e at h)

-- ---- the machine's numbers

idle_by : (d s o : ℕ) (a b c : Bool) → a ≡ false → Idle (cond a (reg P d s o) (cond b (reg S d s o) (cond c (reg SA d s o) (halted o))))
idle_by d s o true b c h = clash (sym h)
idle_by d s o false true c h = tt
idle_by d s o false false true h = tt
idle_by d s o false false false h = tt

three : (m : Machine) → m.state ≡ 3 → meant m ≡ halted m.set
three m h = rw h

out_meant : (d s o : ℕ) (a b c : Bool) → out_of (cond a (reg P d s o) (cond b (reg S d s o) (cond c (reg SA d s o) (halted o)))) ≡ o
out_meant d s o true b c = refl
out_meant d s o false true c = refl
out_meant d s o false false true = refl
out_meant d s o false false false = refl

-- ---- the set in the end

module _ (areas xs ys : List ℕ) (x y : ℕ) where
  abbrev From : State → List Words → ℕ
  From = set_from areas xs ys x y

  abbrev after_area : Registers ℕ → (n : ℕ) (z : ℤ) → Registers ℕ
  after_area g n z = settle (role_at areas) (pass_at areas) (opaque_at areas) (adds_at xs ys (at x y)) (state g (waits n z))

  -- the set in the end, from elements; from an entry and the words behind it
  abbrev FromElements : List Element → State → ℕ
  FromElements rs st =
      out_of
      (settle (role_at areas) (pass_at areas) (opaque_at areas) (adds_at xs ys (at x y))
      (on_elements (role_at areas) (pass_at areas) (opaque_at areas) (adds_at xs ys (at x y)) rs st))

  abbrev FromElement : Entry → List Words → State → ℕ
  FromElement e ws st = FromElements (element_for e (elements_in ws)) st

  -- an area waits with its start number
  named_step : (w : Words) (ws : List Words) (g : Registers ℕ)
      → w.kind ≡ 4
      → From (state g settled) (w ∷ ws) ≡ From (state g (waits w.p (to_z w32 w.q))) ws
  unfolding elements_in
  named_step w ws g e = rw e

  -- a line, a curve or a shortcut is added to the sum of the area that waits
  segment_step : (w : Words) (ws : List Words) (g : Registers ℕ) (n : ℕ) (z : ℤ)
      → is_segment w.kind ≡ true
      → From (state g (waits n z)) (w ∷ ws) ≡ From (state g (waits n (z +ℤ segment_adds xs ys x y w))) ws
  unfolding elements_in
  segment_step w ws g n z s = ap (λ rs. FromElements rs (state g (waits n z))) (element_segment w (elements_in ws) s)

  -- before an entry that is neither, the area that waits has all its lines, curves and shortcuts
  settle_entry : (v : Env) (a b c d e f : Bool) (w : Words) (ws : List Words) (m : Registers ℕ) (n : ℕ) (z : ℤ)
      → in_range v (by_tests a b c d e f w) ≡ true
      → e ≡ false
      → FromElement (by_tests a b c d e f w) ws (state m (waits n z)) ≡ FromElement (by_tests a b c d e f w) ws (state (after_area m n z) settled)
  settle_entry v true b c d e f w ws m n z h k = refl
  settle_entry v false true c d e f w ws m n z h k = refl
  settle_entry v false false true d e f w ws m n z h k = refl
  settle_entry v false false false true e f w ws m n z h k = refl
  settle_entry v false false false false true f w ws m n z h k = clash (sym k)
  settle_entry v false false false false false true w ws m n z h k = refl
  settle_entry v false false false false false false w ws m n z h k = clash h

  settle_step : (v : Env) (w : Words) (ws : List Words) (g : Registers ℕ) (n : ℕ) (z : ℤ) → in_range v (decode w) ≡ true → is_segment w.kind ≡ false
      → From (state g (waits n z)) (w ∷ ws) ≡ From (state (after_area g n z) settled) (w ∷ ws)
  unfolding elements_in
  settle_step v w ws g n z h k =
      rw (decode_is w)
      (settle_entry v (eqb w.kind 1) (eqb w.kind 2) (eqb w.kind 3) (eqb w.kind 4) (is_segment w.kind) (eqb w.kind 7) w ws g n z
      (rw (decode_is w) at h) k)

  -- so an area settles behind its lines, curves and shortcuts
  pub winding_step : (v : Env) (t : List ℕ) (g : Registers ℕ) (m k i : ℕ) (z : ℤ)
      → ((j : ℕ) → i ≤ j → j < i + k → in_range v (decode (words_at t j)) ≡ true)
      → From (state (after_area g m (z +ℤ segments_sum xs ys x y (words_from t i k))) settled)
      (words_from t (i + run_length (words_from t i k)) (k - run_length (words_from t i k)))
      ≡ From (state g (waits m z)) (words_from t i k)
  unfolding words_from run_length segments_sum elements_in
  winding_step v t g m zero i z h = ap (λ u. From (state (after_area g m u) settled) []) (+ℤ_idr z)
  winding_step v t g m (suc k) i z h =
      go (is_segment (words_at t i).kind) refl
      (winding_step v t g m k (i + 1) (z +ℤ segment_adds xs ys x y (words_at t i)) (λ j a b. h j (omega arith) (omega arith)))
    where
      ws : List Words
      ws = words_from t (i + 1) k

      a : ℤ
      a = segment_adds xs ys x y (words_at t i)

      go : (b : Bool)
          → is_segment (words_at t i).kind ≡ b
          → From (state (after_area g m ((z +ℤ a) +ℤ segments_sum xs ys x y ws)) settled)
          (words_from t (i + 1 + run_length ws) (k - run_length ws))
          ≡ From (state g (waits m (z +ℤ a))) ws
          → From (state (after_area g m (z +ℤ cond b (a +ℤ segments_sum xs ys x y ws) (pos 0))) settled)
          (words_from t (i + cond b (suc (run_length ws)) 0) (suc k - cond b (suc (run_length ws)) 0))
          ≡ From (state g (waits m z)) (words_at t i ∷ ws)
      go true e ih =
          let p : i + suc (run_length ws) ≡ i + 1 + run_length ws = omega arith in
          let q : suc k - suc (run_length ws) ≡ k - run_length ws = omega arith in
          ap₂ (λ n r. From (state (after_area g m (z +ℤ (a +ℤ segments_sum xs ys x y ws))) settled) (words_from t n r)) p q
          ∙ (ap (λ u. From (state (after_area g m u) settled) (words_from t (i + 1 + run_length ws) (k - run_length ws)))
          (sym (+ℤ_assoc z a (segments_sum xs ys x y ws)))
          ∙ (ih ∙ sym (segment_step (words_at t i) ws g m z e)))
      go false e ih =
          let p : i + 0 ≡ i = omega arith in
          let q : suc k - 0 ≡ suc k = omega arith in
          ap₂ (λ n r. From (state (after_area g m (z +ℤ pos 0)) settled) (words_from t n r)) p q
          ∙ (ap (λ u. From (state (after_area g m u) settled) (words_at t i ∷ ws)) (+ℤ_idr z)
          ∙ sym (settle_step v (words_at t i) ws g m z (h i (omega arith) (omega arith)) e))

  -- entry i, and what is left behind it
  first_step : (st : State) (t : List ℕ) (i e : ℕ) (w : Words)
      → w ≡ words_at t i
      → i < e
      → From st (w ∷ words_from t (i + 1) (e - (i + 1))) ≡ From st (words_from t i (e - i))
  first_step st t i e w q l = ap (λ u. From st (u ∷ words_from t (i + 1) (e - (i + 1)))) q ∙ ap (From st) (sym (words_step t i e l))

  -- ---- an area that is looked at, and one that is not

  pub area_step : (v : Env) (t : List ℕ) (g : Registers ℕ) (i e : ℕ) (w : Words)
      → w ≡ words_at t i
      → w.kind ≡ 4
      → i < e
      → ((j : ℕ) → i ≤ j → j < e → in_range v (decode (words_at t j)) ≡ true)
      → From (state (after_area g w.p (to_z w32 w.q +ℤ segments_sum xs ys x y (words_from t (i + 1) (e - (i + 1))))) settled)
      (words_from t (i + 1 + run_length (words_from t (i + 1) (e - (i + 1)))) (e - (i + 1 + run_length (words_from t (i + 1) (e - (i + 1))))))
      ≡ From (state g settled) (words_from t i (e - i))
  area_step v t g i e w q a l h =
      let ws = words_from t (i + 1) (e - (i + 1)) in
      let r : e - (i + 1 + run_length ws) ≡ e - (i + 1) - run_length ws = omega arith in
      ap (λ k. From (state (after_area g w.p (to_z w32 w.q +ℤ segments_sum xs ys x y ws)) settled) (words_from t (i + 1 + run_length ws) k)) r
      ∙ (winding_step v t g w.p (e - (i + 1)) (i + 1) (to_z w32 w.q) (λ j c d. h j (omega arith) (omega arith))
      ∙ (sym (named_step w ws g a) ∙ first_step (state g settled) t i e w q l))

  pub idle_step : (m : Machine) (t : List ℕ) (i e : ℕ) (w : Words) → w ≡ words_at t i → w.kind ≡ 4 → i < e → (m.state ≡ 0 → ⊥)
      → From (state (meant m) settled) (words_from t (i + 1) (e - (i + 1))) ≡ From (state (meant m) settled) (words_from t i (e - i))
  idle_step m t i e w q a l n =
      let ws = words_from t (i + 1) (e - (i + 1)) in
      let d = idle_by m.depth m.stop m.set (eqb m.state 0) (eqb m.state 1) (eqb m.state 2) (ne_eqb m.state 0 n) in
      sym (ap out_of (pending_idle (role_at areas) (pass_at areas) (opaque_at areas) (adds_at xs ys (at x y)) (meant m) d (elements_in ws) w.p (to_z w32 w.q)))
      ∙ (sym (named_step w ws (meant m) a) ∙ first_step (state (meant m) settled) t i e w q l)

  -- ---- an entry that is no area

  moved_entry : (v : Env) (a b c d e f : Bool) (w : Words) (ws : List Words) (m : Registers ℕ)
      → in_range v (by_tests a b c d e f w) ≡ true
      → d ≡ false
      → From (state (cond a (on_push m) (cond b (on_activate m) (cond c (on_pop m) (cond e m (on_item clip true true (λ s. s) m))))) settled) ws
      ≡ FromElement (by_tests a b c d e f w) ws (state m settled)
  moved_entry v true b c d e f w ws m h k = refl
  moved_entry v false true c d e f w ws m h k = refl
  moved_entry v false false true d e f w ws m h k = refl
  moved_entry v false false false true e f w ws m h k = clash (sym k)
  moved_entry v false false false false true f w ws m h k = ap (λ rs. FromElements rs (state m settled)) (sym (entry_element w (elements_in ws)))
  moved_entry v false false false false false true w ws m h k = refl
  moved_entry v false false false false false false w ws m h k = clash h

  moved_step : (v : Env) (w : Words) (ws : List Words) (g : Registers ℕ)
      → in_range v (decode w) ≡ true
      → (w.kind ≡ 4 → ⊥)
      → From (state (moved_by w.kind g) settled) ws ≡ From (state g settled) (w ∷ ws)
  unfolding elements_in
  moved_step v w ws g h n =
      rw (decode_is w)
      (moved_entry v (eqb w.kind 1) (eqb w.kind 2) (eqb w.kind 3) (eqb w.kind 4) (is_segment w.kind) (eqb w.kind 7) w ws g
      (rw (decode_is w) at h) (ne_eqb w.kind 4 n))

  pub other_step : (v : Env) (t : List ℕ) (g : Registers ℕ) (i e : ℕ) (w : Words) → w ≡ words_at t i → (w.kind ≡ 4 → ⊥) → i < e → in_range v (decode w) ≡ true
      → From (state (moved_by w.kind g) settled) (words_from t (i + 1) (e - (i + 1))) ≡ From (state g settled) (words_from t i (e - i))
  other_step v t g i e w q a l h = moved_step v w (words_from t (i + 1) (e - (i + 1))) g h a ∙ first_step (state g settled) t i e w q l

  -- ---- the end

  pub stopped_set : (m : Machine) (ws : List Words) {whole : ℕ} → m.state ≡ 3 → From (state (meant m) settled) ws ≡ whole → m.set ≡ whole
  stopped_set m ws h k =
      sym
      (ap (λ g. From (state g settled) ws) (three m h)
      ∙ ap out_of (stopped (role_at areas) (pass_at areas) (opaque_at areas) (adds_at xs ys (at x y)) m.set (elements_in ws)))
      ∙ k

  pub last_set : (m : Machine) (t : List ℕ) (i e : ℕ) {whole : ℕ} → e ≤ i → From (state (meant m) settled) (words_from t i (e - i)) ≡ whole → m.set ≡ whole
  unfolding elements_in
  last_set m t i e h k =
      sym (out_meant m.depth m.stop m.set (eqb m.state 0) (eqb m.state 1) (eqb m.state 2))
      ∙ (ap (From (state (meant m) settled)) (sym (words_none t i e h)) ∙ k)
