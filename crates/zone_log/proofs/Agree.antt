-- A log is decided by the materials at its positions: where 12 is met at none of them and the materials are those of another reading, so is the log.
use Rattle.std.proofs.Common.{Result, Ok}
use Rattle.refusals.specs.declared.Refused.{Refused}
use mathlib.Core.Path.{◌≡◌, refl, sym, ap, ap₂, ◌∙◌}
use mathlib.Core.Bool.{Bool, true, not, ◌&&◌, ◌||◌}
use mathlib.Core.List.{List, []}
use Prim.Native.Nat.{ℕ, zero, suc, ◌+◌, ◌-◌, ◌≤◌, ◌<◌}
use native.Mathlib.Omega.{arith}
use lib.Dec.{eqb, leb}
use lib.ListN.{length, get_or}
use lib.Seq.{sets}
use borrow.Author.Tests.{eq-eqb, le-leb, le-ltb, lt-ltb}
use Rattle.tables.specs.Tables.{Tree}
use Rattle.find_leaf.specs.Leaf.{position_range}
use Rattle.position.specs.Spots.{known}
use Rattle.zone_log.specs.Logs.{is_logged, log_from, outside_from, each_word, material_at, known_from, zone_log, log_answer, out_after}
use Rattle.zone_log.specs.code.Numbers.{RunIn}
use Rattle.zone_log.proofs.Runs.{none_outside}

pub logged_agrees : (m m' : ℕ → ℕ) (i : ℕ) → m i ≡ m' i → m (i - 1) ≡ m' (i - 1) → is_logged m i ≡ is_logged m' i
logged_agrees m m' i p q = ap₂ (λ (u v : ℕ). eqb i 0 || not (eqb u v)) p q

pub log_agrees : (m m' : ℕ → ℕ) (i n : ℕ) → ((k : ℕ) → k < i + n → m k ≡ m' k) → log_from m i n ≡ log_from m' i n
unfolding log_from
log_agrees m m' i zero h = refl
log_agrees m m' i (suc n) h =
    rw (logged_agrees m m' i (h i (omega arith)) (h (i - 1) (omega arith)), log_agrees m m' (i + 1) n (λ k l. h k (omega (arith, l))))

module _ (t : Tree) (px py : List ℕ) where
  pub known_all : (i n : ℕ) → ((k : ℕ) → k < i + n → known t (get_or px k 0) (get_or py k 0) ≡ true) → known_from t px py i n ≡ true
  unfolding known_from
  known_all i zero h = refl
  known_all i (suc n) h = rw (h i (omega arith), known_all (i + 1) n (λ k l. h k (omega (arith, l))))

  pub log_is : (m : ℕ → ℕ) → ((k : ℕ) → k < length px → material_at t px py k ≡ m k) → zone_log t px py ≡ log_from m 0 (length px)
  unfolding zone_log
  log_is m h = log_agrees (material_at t px py) m 0 (length px) (λ k l. h k (omega (arith, l)))

  range_true : (i : ℕ) → RunIn px py → i < length px → position_range (get_or px i 0) (get_or py i 0) ≡ true
  range_true i r l =
      ap₂ (λ (a b : Bool). a && b) (lt-ltb (get_or px i 0) 65536 (r.inside i l).0) (lt-ltb (get_or py i 0) 65536 (r.inside i l).1)

  -- a run in range, at whose positions 12 is not met, with room: the log of the materials
  pub log_accepted : (m : ℕ → ℕ) (out : List ℕ)
      → length t.xs ≡ length t.ys
      → RunIn px py
      → ((k : ℕ) → k < length px → known t (get_or px k 0) (get_or py k 0) ≡ true)
      → ((k : ℕ) → k < length px → material_at t px py k ≡ m k)
      → length (log_from m 0 (length px)) ≤ length out
      → each_word (log_from m 0 (length px)) ≡ true
      → (log_answer t px py (length out) ≡ Ok (length (log_from m 0 (length px))))
      × (out_after t px py (log_answer t px py (length out)) out ≡ sets out 0 (log_from m 0 (length px)))
  log_accepted m out e r k h l w =
      let z = log_is m h in
      let o : outside_from px py 0 (length px) ≡ length px = none_outside px py 0 (length px) (λ i g. range_true i r (omega (arith, g))) ∙ omega arith in
      let room : (leb (length (zone_log t px py)) (length out) && each_word (zone_log t px py)) ≡ true =
      rw z (ap₂ (λ (a b : Bool). a && b) (le-leb (length (log_from m 0 (length px))) (length out) l) w) in
      let whole : Ok (length (zone_log t px py)) ≡ log_answer t px py (length out) =
      rw (
        eq-eqb (length t.xs) (length t.ys) e,
        eq-eqb (length px) (length py) r.same,
        le-ltb (outside_from px py 0 (length px)) (length px) (omega (arith, o)),
        known_all 0 (length px) (λ i g. k i (omega (arith, g))),
        room,
      ) in (
        sym whole ∙ ap (λ (v : List ℕ). Ok (length v)) z,
        ap (λ (v : Result ℕ Refused). out_after t px py v out) (sym whole) ∙ ap (sets out 0) z,
      )

-- an empty run meets no number: it is accepted over any tree
pub log_empty : (t : Tree) (out : ℕ) → length t.xs ≡ length t.ys → log_answer t [] [] out ≡ Ok 0
unfolding outside_from known_from zone_log log_from each_word
log_empty t out e = rw (eq-eqb (length t.xs) (length t.ys) e, le-leb 0 out (omega arith))
