-- What holds of a stream that passes: where it lies, and that each of its entries is in range.
use Prim.Native.Nat.{ℕ, zero, suc, ◌+◌, ◌-◌, ◌<◌}
use mathlib.Core.Path.{◌≡◌, refl, sym, subst, ◌∙◌}
use mathlib.Core.Bool.{Bool, true, false, cond}
use mathlib.Core.List.{List, [], ◌∷◌}
use native.Mathlib.Omega.{arith}
use native.Mathlib.Nat.{add-zero, not-suc-le-zero, le_of_suc-le-suc}
use lib.ListN.{length}
use lib.Dec.{leb}
use borrow.Author.Tests.{leb-true}
use Rattle.laws.proofs.Booleans.{clash, cond_left, cond_right}
use Rattle.stream.specs.declared.Words.{Words}
use Rattle.stream.specs.Entry.{decode}
use Rattle.stream.specs.Table.{words_at, words_from}
use Rattle.stream.specs.Grammar.{Env, in_range, Course, at, off, met, course, begin, is_whole, accepts, used_range, run_range, Passed, check_stream}
use Rattle.stream.proofs.Laws.{used_entries, used_few, used_ready, run_fits_law}

-- ---- where it lies
pub passed : (t : List ℕ) (first count used : ℕ) (v : Env) → check_stream t first count used v ≡ true → Passed t first count v
passed t first count used v h =
    record {
      within = run_fits_law first count used (length t)
          (used_entries (length t) used (length v.areas) (length v.xs) (length v.ys) v.used in_use)
          (leb-true count used (cond_left count_ok rest run)) (leb-true first (used - count) (cond_left first_ok few_ok first_and_few));
      few_areas = used_few (length t) used (length v.areas) (length v.xs) (length v.ys) v.used in_use;
      few = leb-true count 4096 (cond_right first_ok few_ok first_and_few);
      ready = used_ready (length t) used v.areas v.xs v.ys v.used in_use;
      grammar = cond_right (run_range first count used) good run_and_good;
    }
  where
    U : Bool
    U = used_range (length t) used (length v.areas) (length v.xs) (length v.ys) v.used

    good : Bool
    good = accepts v (words_from t first count)

    count_ok : Bool
    count_ok = leb count used

    first_ok : Bool
    first_ok = leb first (used - count)

    few_ok : Bool
    few_ok = leb count 4096

    rest : Bool
    rest = cond first_ok few_ok false

    in_use : U ≡ true
    in_use = cond_left U (cond (run_range first count used) good false) h

    run_and_good : cond (run_range first count used) good false ≡ true
    run_and_good = cond_right U (cond (run_range first count used) good false) h

    run : run_range first count used ≡ true
    run = cond_left (run_range first count used) good run_and_good

    first_and_few : rest ≡ true
    first_and_few = cond_right count_ok rest run

-- ---- each entry is in range
pub off_stays : (v : Env) (ws : List Words) → is_whole (course v off ws) ≡ false
unfolding course
off_stays v [] = refl
off_stays v (w ∷ ws) = off_stays v ws

alive : (v : Env) (c : Course) (w : Words) (ws : List Words) → is_whole (course v (met v c (decode w)) ws) ≡ true → in_range v (decode w) ≡ true
alive v off w ws h = clash (sym (off_stays v ws) ∙ h)
alive v (at p) w ws h = go (in_range v (decode w)) refl
  where
    go : (b : Bool) → in_range v (decode w) ≡ b → b ≡ true
    go true e = refl
    go false e = clash (sym (off_stays v ws) ∙ (rw e at h))

range_from : (v : Env) (t : List ℕ) (c : Course) (i n k : ℕ)
    → is_whole (course v c (words_from t i n)) ≡ true
    → k < n
    → in_range v (decode (words_at t (i + k))) ≡ true
unfolding course words_from
range_from v t c i zero k h l = absurd (not-suc-le-zero l)
range_from v t c i (suc n) zero h l =
    subst (λ (j : ℕ). in_range v (decode (words_at t j)) ≡ true) (sym (add-zero i)) (alive v c (words_at t i) (words_from t (i + 1) n) h)
range_from v t c i (suc n) (suc k) h l =
    let e : i + 1 + k ≡ i + suc k = omega arith in
    subst (λ (j : ℕ). in_range v (decode (words_at t j)) ≡ true) e (range_from v t (met v c (decode (words_at t i))) (i + 1) n k h (le_of_suc-le-suc l))

-- entry k of an accepted stream
pub in_range_law : (v : Env) (t : List ℕ) (first count k : ℕ)
    → accepts v (words_from t first count) ≡ true
    → k < count
    → in_range v (decode (words_at t (first + k))) ≡ true
unfolding accepts
in_range_law v t first count k h l = range_from v t begin first count k h l
