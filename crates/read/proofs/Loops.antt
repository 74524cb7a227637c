-- The loops over a file, as plain laws: where a loop begins, a turn, where it ends.
use Rattle.std.specs.Prelude.{Ok, Err}
use Rattle.refusals.specs.declared.Refused.{Refused}
use Prim.Native.Nat.{ℕ, zero, suc, ◌+◌, ◌-◌, ◌≤◌, ◌<◌}
use mathlib.Core.Path.{◌≡◌, refl, sym, ap, ◌∙◌, subst}
use mathlib.Core.Bool.{true}
use mathlib.Core.List.{List, [], ◌∷◌}
use native.Mathlib.Omega.{arith}
use lib.ListN.{length}
use lib.Seq.{sets, length-sets}
use Rattle.laws.proofs.Booleans.{clash, and_left, and_right}
use Rattle.records.specs.Bytes.{Raw}
use Rattle.records.specs.declared.Record.{Record}
use Rattle.records.specs.Record.{Decoded}
use Rattle.records.specs.Bytes.{raw_at, named, decoded_raw}
use Rattle.records.proofs.Laws.{told}
use Rattle.grammar.specs.code.Machine.{Scan}
use Rattle.grammar.specs.code.Machine.{advance_n, scan_n}
use Rattle.grammar.proofs.Laws.{stopped_stays}
use Rattle.grammar.specs.Lists.{good_records}
use Rattle.read.specs.Words.{joined, on_good}
use Rattle.records.specs.Record.{is_good}
use Rattle.read.specs.Reading.{decoded_from, all_good}
use Rattle.read.proofs.Writes.{length_on, turn_table}

pub from_step : (b : List ℕ) (i e : ℕ) → i < e → decoded_from b i (e - i) ≡ decoded_raw (raw_at b i) ∷ decoded_from b (i + 1) (e - (i + 1))
unfolding decoded_from
from_step b i e h =
    let q : e - i ≡ suc (e - (i + 1)) = omega arith in
    rw q

pub from_none : (b : List ℕ) (i e : ℕ) → e ≤ i → decoded_from b i (e - i) ≡ []
unfolding decoded_from
from_none b i e h =
    let q : e - i ≡ 0 = omega arith in
    rw q

-- ---- the check
pub scan_turn : (b : List ℕ) (i e : ℕ) (s s' whole : Scan) (r : Raw) (d : Decoded)
    → i < e
    → r ≡ raw_at b i
    → d ≡ decoded_raw r
    → s' ≡ advance_n s d i
    → scan_n s i (decoded_from b i (e - i)) ≡ whole
    → scan_n s' (i + 1) (decoded_from b (i + 1) (e - (i + 1))) ≡ whole
unfolding scan_n
scan_turn b i e s s' whole r d h o p q inv = rw (q, p, o) (rw (from_step b i e h) at inv)

-- a scan that stopped is the whole
pub scan_stops : (b : List ℕ) (i e : ℕ) (s whole : Scan) (r : Raw) (d : Decoded) (f : Refused)
    → i < e
    → r ≡ raw_at b i
    → d ≡ decoded_raw r
    → Err f ≡ advance_n s d i
    → scan_n s i (decoded_from b i (e - i)) ≡ whole
    → Err f ≡ whole
scan_stops b i e s whole r d f h o p q inv =
    sym (stopped_stays (Err f) (i + 1) (decoded_from b (i + 1) (e - (i + 1))) refl) ∙ scan_turn b i e s (Err f) whole r d h o p q inv

pub scan_done : (b : List ℕ) (i e : ℕ) (s whole : Scan) → e ≤ i → scan_n s i (decoded_from b i (e - i)) ≡ whole → s ≡ whole
unfolding scan_n
scan_done b i e s whole h inv = rw (from_none b i e h) at inv

-- ---- where every record was good
good_at : (b : List ℕ) (i j n : ℕ) → all_good (decoded_from b i n) ≡ true → j < n → is_good (decoded_raw (raw_at b (i + j))) ≡ true
unfolding decoded_from
good_at b i j zero h l = absurd (omega arith)
good_at b i zero (suc n) h l = subst (λ (k : ℕ). is_good (decoded_raw (raw_at b k)) ≡ true) (omega arith) (and_left (is_good (decoded_raw (raw_at b i))) _ h)
good_at b i (suc j) (suc n) h l =
    subst (λ (k : ℕ). is_good (decoded_raw (raw_at b k)) ≡ true) (omega arith)
    (good_at b (i + 1) j n (and_right (is_good (decoded_raw (raw_at b i))) _ h) (omega arith))

pub fill_good : (b : List ℕ) (n i : ℕ) → i < n → all_good (decoded_from b 0 n) ≡ true → is_good (decoded_raw (raw_at b i)) ≡ true
fill_good b n i l h = subst (λ (k : ℕ). is_good (decoded_raw (raw_at b k)) ≡ true) (omega arith) (good_at b 0 i n h l)

-- a good record is what its named bytes say
pub named_good : (r : Raw) → is_good (decoded_raw r) ≡ true → decoded_raw r ≡ Ok (named r)
named_good r = go (decoded_raw r) refl
  where
    go : (d : Decoded) → decoded_raw r ≡ d → is_good d ≡ true → decoded_raw r ≡ Ok (named r)
    go (Ok t) e h = e ∙ ap Ok (sym (told r t e).is)
    go (Err x) e h = clash h

pub fill_read : (b : List ℕ) (n i : ℕ) (raw : Raw) (r : Record)
    → i < n
    → all_good (decoded_from b 0 n) ≡ true
    → raw ≡ raw_at b i
    → r ≡ named raw
    → Ok r ≡ decoded_raw (raw_at b i)
fill_read b n i raw r l h p q = let o : Record → Decoded = Ok in ap o (q ∙ ap named p) ∙ sym (named_good (raw_at b i) (fill_good b n i l h))

-- ---- a table's words: the table is t and was t₀; the records from i to n are to come, and their words go to `at`
pub record Filling (f : Record → List ℕ) (b : List ℕ) (n : ℕ) (t₀ : List ℕ) (first : ℕ) (t : List ℕ) (i at : ℕ) : Type 0 where
  pub size : length t ≡ length t₀
  pub room : at + length (joined f (good_records (decoded_from b i (n - i)))) ≤ length t
  pub rest : sets t at (joined f (good_records (decoded_from b i (n - i)))) ≡ sets t₀ first (joined f (good_records (decoded_from b 0 n)))

pub fill_begin : (f : Record → List ℕ) (b : List ℕ) (n : ℕ) (t : List ℕ) (first : ℕ)
    → first + length (joined f (good_records (decoded_from b 0 n))) ≤ length t
    → Filling f b n t first t 0 first
fill_begin f b n t first h =
    let z : n - 0 ≡ n = omega arith in
    record { size = refl; room = rw z h; rest = rw z }

pub fill_room : (f : Record → List ℕ) (b : List ℕ) (n : ℕ) (t₀ : List ℕ) (first : ℕ) (t : List ℕ) (i at : ℕ) (d : Decoded)
    → i < n
    → d ≡ decoded_raw (raw_at b i)
    → Filling f b n t₀ first t i at
    → at + length (on_good f d) ≤ length t
fill_room f b n t₀ first t i at d h p c =
    let r : at + length (joined f (good_records (d ∷ decoded_from b (i + 1) (n - (i + 1))))) ≤ length t = rw p (rw (from_step b i n h) at c.room) in
    omega (arith, length_on f d (decoded_from b (i + 1) (n - (i + 1))))

pub fill_turn : (f : Record → List ℕ) (b : List ℕ) (n : ℕ) (t₀ : List ℕ) (first : ℕ) (t t' : List ℕ) (i at at' : ℕ) (d : Decoded)
    → i < n
    → d ≡ decoded_raw (raw_at b i)
    → at' ≡ at + length (on_good f d)
    → t' ≡ sets t at (on_good f d)
    → Filling f b n t₀ first t i at
    → Filling f b n t₀ first t' (i + 1) at'
fill_turn f b n t₀ first t t' i at at' d h p q r c =
    let ds : List Decoded = decoded_from b (i + 1) (n - (i + 1)) in
    let w : at + length (joined f (good_records (d ∷ ds))) ≤ length t = rw p (rw (from_step b i n h) at c.room) in
    let l : length t' ≡ length t = ap length r ∙ length-sets t at (on_good f d) in
    record {
      size = l ∙ c.size;
      room = omega (arith, length_on f d ds);
      rest = turn_table f t t' at at' d ds r q ∙ rw p (rw (from_step b i n h) at c.rest);
    }

pub fill_done : (f : Record → List ℕ) (b : List ℕ) (n : ℕ) (t₀ : List ℕ) (first : ℕ) (t : List ℕ) (i at : ℕ)
    → n ≤ i
    → Filling f b n t₀ first t i at
    → t ≡ sets t₀ first (joined f (good_records (decoded_from b 0 n)))
unfolding joined
fill_done f b n t₀ first t i at h c = rw (from_none b i n h) at c.rest
