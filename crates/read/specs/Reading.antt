-- Document 01, "From the input": what reading a file answers and leaves.
use Rattle.std.specs.Prelude.{Ok, Err}
use Rattle.refusals.specs.Refusals.{at_place}
use Rattle.std.specs.Prelude.{ℕ, zero, suc, ◌+◌, ◌*◌, ◌-◌, ◌/◌, ◌%◌, ◌≤◌, ◌≡◌, Bool, true, false, cond, ◌&&◌, List, [], ◌∷◌, length, eqb, leb}
use Rattle.std.proofs.lemmas.List.Edits.{sets}
use denote.Triple.Both.{Both}
use Rattle.std.specs.Borrow.{Bor, MutBor}
use Rattle.refusals.specs.declared.Refusal.TheVariants.{Length, Argument, Room}
use Rattle.records.specs.declared.Record.{Record}
use Rattle.records.specs.Record.{Decoded}
use Rattle.records.specs.Record.{is_good}
use Rattle.records.specs.Bytes.{raw_at, decoded_raw}
use Rattle.grammar.specs.declared.Counts.{Counts}
use Rattle.grammar.specs.Grammar.{Verdict}
use Rattle.grammar.specs.Grammar.{checked}
use Rattle.grammar.specs.Lists.{good_records, areas_in, corners_in}

-- the n records from record i on
unfoldable pub decoded_from : List ℕ → ℕ → ℕ → List Decoded
decoded_from b i zero = []
decoded_from b i (suc n) = decoded_raw (raw_at b i) ∷ decoded_from b (i + 1) n

abbrev pub decoded_in : List ℕ → List Decoded
decoded_in b = decoded_from b 0 (length b / 16)

-- the abstract drawing of a file
abbrev pub records_in : List ℕ → List Record
records_in b = good_records (decoded_in b)

-- 1, "length no multiple of 16, or over 4,096 records", place 0; then the records in order, then the end
unfoldable pub verdict_of : List ℕ → Verdict
verdict_of b = cond (eqb (length b % 16) 0) (cond (leb (length b / 16) 4096) (checked (decoded_in b)) (Err (at_place Length 0))) (Err (at_place Length 0))

-- tables of these lengths (plan, areas, corners) hold a drawing of this size
unfoldable pub holds : ℕ → ℕ → ℕ → Counts → Bool
holds p a c k = cond (leb 3 p) (leb k.records (p - 3) && (leb k.areas (a / 8) && leb k.corners c)) false

-- after all others 11, "another output table too short for the whole result"
abbrev pub if_room : Verdict → ℕ → ℕ → ℕ → Verdict
if_room (Ok k) p a c = cond (holds p a c k) (Ok k) (Err (at_place Room 0))
if_room (Err e) p a c = Err e

-- 7, "a lent pair of x and y tables of unequal length (tried before all other checks, 1 included)"
unfoldable pub read_answer : List ℕ → List ℕ → List ℕ → List ℕ → List ℕ → Verdict
read_answer b plan areas xs ys = cond (eqb (length xs) (length ys)) (if_room (verdict_of b) (length plan) (length areas) (length xs)) (Err (at_place
    Argument 0))

-- that answer for the file and the four tables as they are lent to a call, and the file's drawing: in an `ensures` the name of a slice stands for
-- the slice at the call's entry and at its exit, and these take what each holds at entry
abbrev pub records_lent : Both (Bor (List ℕ)) (Bor (List ℕ)) → List Record
records_lent b = records_in b.entry.now

abbrev pub read_lent : (records : Both (Bor (List ℕ)) (Bor (List ℕ))) (plan areas xs ys : Both (MutBor (List ℕ)) (MutBor (List ℕ))) → Verdict
read_lent b p a x y = read_answer b.entry.now p.entry.now a.entry.now x.entry.now y.entry.now

-- a table after the call: the words in use from its beginning; "An accepted call leaves the rest of a longer output untouched."
-- On a refusal: "Nothing lent changes."
abbrev pub left_by : Verdict → List ℕ → List ℕ → List ℕ
left_by (Ok k) t ws = sets t 0 ws
left_by (Err e) t ws = t

-- each is a record, and no refusal
abbrev pub all_good : List Decoded → Bool
all_good [] = true
all_good (d ∷ ds) = is_good d && all_good ds

-- what is known of a file that was accepted
pub record Filed (b : List ℕ) (k : Counts) : Type 0 where
  pub whole : k.records * 16 ≡ length b
  pub parts : k.records ≡ length b / 16
  pub good : all_good (decoded_in b) ≡ true
  pub records : k.records ≡ length (records_in b)
  pub areas : k.areas ≡ areas_in (records_in b)
  pub corners : k.corners ≡ corners_in (records_in b)
  pub below : k.records ≤ 4096
  pub few : k.areas ≤ 64
  pub many : k.corners ≤ 2048
