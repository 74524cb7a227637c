-- A drawing in its tables (docs/TABLES.md), when lent tables hold one, and what writing them out answers and leaves.
use Rattle.refusals.specs.Refusals.{at_place}
use Rattle.std.specs.Prelude.{ℕ, zero, suc, ◌+◌, ◌*◌, ◌/◌, ◌≤◌, cond, List, [], ◌∷◌, length, get_or, Result, Ok, Err, eqb, ltb, leb}
use Rattle.std.proofs.lemmas.List.Edits.{sets}
use denote.Triple.Both.{Both}
use Rattle.std.specs.Borrow.{Bor}
use Rattle.records.specs.declared.Fields.{Fields}
use Rattle.refusals.specs.declared.Refusal.{Refusal}
use Rattle.refusals.specs.declared.Refusal.TheVariants.{Kind, Field, Argument, Room, Broken}
use Rattle.records.specs.declared.Record.{Record}
use Rattle.records.specs.declared.Record.TheVariants.{Area}
use Rattle.records.specs.Record.{Decoded}
use Rattle.records.specs.Record.{ranged, is_corner, corner_of, delimiter_of}
use Rattle.grammar.specs.declared.Counts.{Counts}
use Rattle.grammar.specs.Grammar.{Verdict}
use Rattle.grammar.specs.Grammar.{checked, counts}
use Rattle.grammar.specs.Lists.{good_records, area_one, corner_one}
use Rattle.drawing.specs.declared.Cursor.{Cursor}
use Rattle.drawing.specs.declared.Drawing.{Drawing}
use Rattle.read.specs.Words.{file_of}
use Rattle.read.specs.Reading.{holds}

pub record Tables : Type 0 where
  pub plan : List ℕ
  pub areas : List ℕ
  pub xs : List ℕ
  pub ys : List ℕ

abbrev pub tables : List ℕ → List ℕ → List ℕ → List ℕ → Tables
tables p a x y = record { plan = p; areas = a; xs = x; ys = y }

-- the four tables as they are lent to a call: in an `ensures` the name of a slice stands for the slice at the call's entry and at its exit, and
-- this takes what each holds at entry
abbrev pub drawing_lent : (plan areas xs ys : Both (Bor (List ℕ)) (Bor (List ℕ))) → Tables
drawing_lent p a x y = tables p.entry.now a.entry.now x.entry.now y.entry.now

-- what the four tables of a drawing hold, and what they hold as a call begins
abbrev pub tables_of : Drawing → Tables
tables_of d = tables d.plan.now d.areas.now d.xs.now d.ys.now

abbrev pub drawing_passed : Both Drawing Drawing → Tables
drawing_passed d = tables_of d.entry

-- the tables have the words that these counts speak of
pub record Ready (p a x y : List ℕ) (u : Counts) : Type 0 where
  pub records : u.records + 3 ≤ length p
  pub areas : u.areas * 8 ≤ length a
  pub xs : u.corners ≤ length x
  pub ys : u.corners ≤ length y
  pub few : u.records ≤ 4096

abbrev pub cursor : ℕ → ℕ → Cursor
cursor a c = record { area = a; corner = c }

abbrev pub fields_at : List ℕ → ℕ → Fields
fields_at t i =
    record {
      role = get_or t (i * 8) 0;
      rule = get_or t (i * 8 + 1) 0;
      alpha = get_or t (i * 8 + 2) 0;
      red = get_or t (i * 8 + 3) 0;
      green = get_or t (i * 8 + 4) 0;
      blue = get_or t (i * 8 + 5) 0;
      material = get_or t (i * 8 + 6) 0;
    }

unfoldable pub area_row : List ℕ → ℕ → ℕ → Decoded
area_row t used i = cond (ltb i used) (cond (eqb (get_or t (i * 8 + 7) 0) 0) (ranged (Area (fields_at t i))) (Err Field)) (Err Field)

unfoldable pub corner_row : List ℕ → List ℕ → ℕ → ℕ → ℕ → Decoded
corner_row xs ys used k i = cond (ltb i used) (ranged (corner_of k (get_or xs i 0) (get_or ys i 0))) (Err Field)

unfoldable pub kind_row : List ℕ → List ℕ → List ℕ → Counts → ℕ → Cursor → Decoded
kind_row areas xs ys u k c =
    cond (eqb k 1) (area_row areas u.areas c.area) (cond (is_corner k) (corner_row xs ys u.corners k c.corner) (Ok (delimiter_of k)))

-- record i, with the areas and the corners before it
unfoldable pub record_at : Tables → Counts → ℕ → Cursor → Decoded
record_at t u i c =
    cond (leb 1 (get_or t.plan (i + 3) 0))
    (cond (leb (get_or t.plan (i + 3) 0) 7) (kind_row t.areas t.xs t.ys u (get_or t.plan (i + 3) 0) c) (Err Kind)) (Err Kind)

abbrev pub past_record : Cursor → Record → Cursor
past_record c r = cursor (c.area + area_one r) (c.corner + corner_one r)

abbrev pub past_of : Cursor → Decoded → Cursor
past_of c (Ok r) = past_record c r
past_of c (Err x) = c

-- the n records from record i on
unfoldable pub rebuilt : Tables → Counts → ℕ → Cursor → ℕ → List Decoded
rebuilt t u i c zero = []
rebuilt t u i c (suc n) = record_at t u i c ∷ rebuilt t u (i + 1) (past_of c (record_at t u i c)) n

abbrev pub used_of : List ℕ → Counts
used_of plan = counts (get_or plan 0 0) (get_or plan 1 0) (get_or plan 2 0)

abbrev pub rebuilt_in : Tables → List Decoded
rebuilt_in t = rebuilt t (used_of t.plan) 0 (cursor 0 0) (used_of t.plan).records

-- the abstract drawing of tables
abbrev pub drawn_in : Tables → List Record
drawn_in t = good_records (rebuilt_in t)

-- 12, "a number met in the tables used ... is outside its range, or that drawing ... breaks the grammar": all that is wrong with the records of lent
-- tables is 12; so is a number of areas or of corners that is not that of the kinds
abbrev pub agreed : Verdict → Counts → Verdict
agreed (Ok k) u = cond (eqb k.areas u.areas) (cond (eqb k.corners u.corners) (Ok k) (Err (at_place Broken 0))) (Err (at_place Broken 0))
agreed (Err e) u = Err (at_place Broken 0)

unfoldable pub counts_judged : Tables → Counts → Verdict
counts_judged t u =
    cond (leb u.records 4096)
    (cond (holds (length t.plan) (length t.areas) (length t.xs) u) (agreed (checked (rebuilt t u 0 (cursor 0 0) u.records)) u)
    (Err (at_place Broken 0)))
    (Err (at_place Broken 0))

-- 7, then 12: "the drawing when opening or writing out"
unfoldable pub drawing_verdict : Tables → Verdict
drawing_verdict t =
    cond (eqb (length t.xs) (length t.ys)) (cond (leb 3 (length t.plan)) (counts_judged t (used_of t.plan)) (Err (at_place Broken 0)))
    (Err (at_place Argument 0))

-- how many bytes were written, or why none were
abbrev pub Written : Type 0
Written = Result ℕ Refusal

-- then 11, the output too short for 16 bytes a record
abbrev pub written_of : Verdict → ℕ → Written
written_of (Ok k) n = cond (leb k.records (n / 16)) (Ok (k.records * 16)) (Err Room)
written_of (Err e) n = Err e.refusal

unfoldable pub write_answer : Tables → List ℕ → Written
write_answer t out = written_of (drawing_verdict t) (length out)

abbrev pub out_after : Written → List ℕ → List ℕ → List ℕ
out_after (Ok n) out bs = sets out 0 bs
out_after (Err r) out bs = out

-- the output after the call: the file of the drawing in the tables
abbrev pub out_written : Tables → List ℕ → List ℕ
out_written t out = out_after (write_answer t out) out (file_of (drawn_in t))
