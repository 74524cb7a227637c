-- Zone logs over sound tables are those worked out with no tree, and 12 meets none.
use Rattle.std.proofs.Common.{Result, Ok, Err}
use Rattle.refusals.specs.declared.Refused.{Refused}
use Rattle.refusals.specs.Refusals.{at_place}
use mathlib.Core.Path.{◌≡◌, refl, sym, ap, ◌∙◌}
use mathlib.Core.Bool.{Bool, true, false, cond, not, ◌&&◌, ◌||◌}
use mathlib.Core.List.{List, ◌∷◌}
use Prim.Native.Nat.{ℕ, zero, suc, ◌+◌, ◌-◌, ◌≤◌, ◌<◌}
use native.Mathlib.Omega.{arith}
use native.Mathlib.Decide.{ℕ_discrete}
use lib.Dec.{eqb, ltb, leb}
use lib.ListN.{length, get_or}
use lib.Seq.{sets}
use borrow.Author.Tests.{eq-eqb, lt-ltb}
use Rattle.laws.proofs.Booleans.{clash}
use Rattle.refusals.specs.declared.Refusal.TheVariants.{Argument, Room, Broken}
use Rattle.cells.specs.Cells.{at}
use Rattle.tables.specs.Tables.{Tree}
use Rattle.find_leaf.specs.Leaf.{position_range}
use Rattle.find_leaf.proofs.Landing.{on_grid}
use Rattle.zone_log.specs.Logs.{log_from, outside_from, each_word, material_at, known_from, zone_log, log_room, log_known, log_range, log_answer, out_after}
use Rattle.demand.specs.History.{Node}
use Rattle.demand.specs.NoTree.{material_shown}
use Rattle.demand.specs.Stands.{drawing_of}
use Rattle.demand.specs.Shown.{log_shown, log_answer_shown, log_out_shown}
use Rattle.demand.proofs.Sound.{Sound}
use Rattle.demand.proofs.Readings.{known_there, material_there}

-- ---- a run with no position out of range
module _ (px py : List ℕ) where
  abbrev ranged : ℕ → Bool
  ranged j = position_range (get_or px j 0) (get_or py j 0)

  all_ranged : (i n e : ℕ) → e ≡ i + n → ltb (outside_from px py i n) e ≡ false → (j : ℕ) → i ≤ j → j < e → ranged j ≡ true
  unfolding outside_from
  all_ranged i zero e q z j h k = absurd (omega arith)
  all_ranged i (suc n) e q z j h k = go (ranged i) refl z (λ y l. all_ranged (i + 1) n e (omega arith) y j l k) (ℕ_discrete j i)
    where
      go : (b : Bool)
          → ranged i ≡ b
          → ltb (cond b (outside_from px py (i + 1) n) i) e ≡ false
          → (ltb (outside_from px py (i + 1) n) e ≡ false → i + 1 ≤ j → ranged j ≡ true)
          → Dec (j ≡ i)
          → ranged j ≡ true
      go true r y next (yes o) = ap ranged o ∙ r
      go true r y next (no o) = next y (omega arith)
      go false r y next d = clash (sym y ∙ lt-ltb i e (omega arith))

-- ---- a log goes by the materials of the run
module _ (m w : ℕ → ℕ) (e : ℕ) (same : (j : ℕ) → j < e → m j ≡ w j) where
  log_same : (i n : ℕ) → i + n ≤ e → log_from m i n ≡ log_from w i n
  unfolding log_from
  log_same i zero h = refl
  log_same i (suc n) h =
      λ d.
      cond (eqb i 0 || not (eqb (same i (omega arith) d) (same (i - 1) (omega arith) d))) (i ∷ log_same (i + 1) n (omega arith) d)
      (log_same (i + 1) n (omega arith) d)

module _ (t : Tree) (H : List Node) (s : Sound t H) (px py : List ℕ) where
  module _ (z : ltb (outside_from px py 0 (length px)) (length px) ≡ false) where
    in_range_law : (j : ℕ) → j < length px → position_range (get_or px j 0) (get_or py j 0) ≡ true
    in_range_law j h = all_ranged px py 0 (length px) (length px) (omega arith) z j (omega arith) h

    known_all : (i n : ℕ) → i + n ≤ length px → known_from t px py i n ≡ true
    unfolding known_from
    known_all i zero h = refl
    known_all i (suc n) h =
        ap (λ (b : Bool). cond b (known_from t px py (i + 1) n) false)
        (known_there t H s (get_or px i 0) (get_or py i 0) (on_grid (get_or px i 0) (get_or py i 0) (in_range_law i (omega arith))))
        ∙ known_all (i + 1) n (omega arith)

    pub log_is : zone_log t px py ≡ log_shown (drawing_of t) px py
    unfolding zone_log
    log_is =
        log_same (material_at t px py) (λ i. material_shown (drawing_of t) (at (get_or px i 0) (get_or py i 0))) (length px)
        (λ j h. material_there t H s (get_or px j 0) (get_or py j 0) (on_grid (get_or px j 0) (get_or py j 0) (in_range_law j h))) 0 (length px) (omega arith)

  -- the checks of the call, each with what it leaves in the output
  record Logged (out : List ℕ) (a b : Result ℕ Refused) : Type 0 where
    pub answer : a ≡ b
    pub output : out_after t px py a out ≡ log_out_shown (drawing_of t) px py b out

  abbrev outside : ℕ
  outside = outside_from px py 0 (length px)

  abbrev room_of : List ℕ → ℕ → Result ℕ Refused
  room_of l n = cond (leb (length l) n && each_word l) (Ok (length l)) (Err (at_place Room 0))

  roomed : (out : List ℕ) → zone_log t px py ≡ log_shown (drawing_of t) px py → (b : Bool) (l : List ℕ)
      → Logged out (cond b (Ok (length l)) (Err (at_place Room 0))) (cond b (Ok (length l)) (Err (at_place Room 0)))
  roomed out e true l = record { answer = refl; output = ap (sets out 0) e }
  roomed out e false l = record { answer = refl; output = refl }

  ranged_by : (out : List ℕ) (b : Bool)
      → ltb outside (length px) ≡ b
      → Logged out (cond b (Err (at_place Argument outside)) (log_known t px py (length out)))
      (cond b (Err (at_place Argument outside)) (room_of (log_shown (drawing_of t) px py) (length out)))
  ranged_by out true z = record { answer = refl; output = refl }
  ranged_by out false z =
      let l = log_shown (drawing_of t) px py in
      let e : log_known t px py (length out) ≡ room_of l (length out) = ap
      (λ (b : Bool). cond b (log_room t px py (length out)) (Err (at_place Broken 0))) (known_all z 0 (length px) (omega arith))
      ∙ ap (λ (x : List ℕ). room_of x (length out)) (log_is z) in
      let r = roomed out (log_is z) (leb (length l) (length out) && each_word l) l in
      record { answer = e; output = ap (λ (a : Result ℕ Refused). out_after t px py a out) e ∙ r.output }

  paired_by : (out : List ℕ) (b : Bool)
      → Logged out (cond b (log_range t px py (length out)) (Err (at_place Argument 0)))
      (cond b (cond (ltb outside (length px)) (Err (at_place Argument outside)) (room_of (log_shown (drawing_of t) px py) (length out))) (Err
      (at_place Argument 0)))
  paired_by out true = ranged_by out (ltb outside (length px)) refl
  paired_by out false = record { answer = refl; output = refl }

  logged : (out : List ℕ) → Logged out (log_answer t px py (length out)) (log_answer_shown (drawing_of t) px py (length out))
  logged out =
      let e : log_answer t px py (length out) ≡ cond (eqb (length px) (length py)) (log_range t px py (length out)) (Err (at_place Argument 0)) = ap
      (λ (b : Bool). cond b (cond (eqb (length px) (length py)) (log_range t px py (length out)) (Err (at_place Argument 0))) (Err (at_place Argument 0)))
      (eq-eqb (length t.xs) (length t.ys) s.drawn.pair) in
      let r = paired_by out (eqb (length px) (length py)) in
      record { answer = e ∙ r.answer; output = ap (λ (a : Result ℕ Refused). out_after t px py a out) e ∙ r.output }

  pub log_right : (out : List ℕ) → log_answer t px py (length out) ≡ log_answer_shown (drawing_of t) px py (length out)
  log_right out = (logged out).answer

  pub log_out : (out : List ℕ)
      → out_after t px py (log_answer t px py (length out)) out
      ≡ log_out_shown (drawing_of t) px py (log_answer_shown (drawing_of t) px py (length out)) out
  log_out out = (logged out).output
