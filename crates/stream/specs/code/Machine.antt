-- The grammar of streams over the state that the code holds. `Rattle.stream.proofs.Meaning` says that it is the same.
use Rattle.std.specs.Prelude.{ℕ, suc, ◌+◌, ◌-◌, ◌≤◌, ◌<◌, ◌≡◌, Bool, true, false, cond, ◌&&◌, ◌||◌, List, [], ◌∷◌, eqb, ltb, leb, Option, None, Some}
use denote.Triple.Both.{Both}
use Rattle.groups.specs.code.Stack.{paint_n, left_n, right_n, room_n, open_n, bar_n, close_n}
use Rattle.drawing.specs.Tables.{area_row}
use Rattle.stream.specs.declared.Words.{Words}
use Rattle.stream.specs.declared.Bounds.{Bounds}
use Rattle.stream.specs.declared.Stream.{Stream}
use Rattle.stream.specs.declared.Scan.{Scan}
use Rattle.stream.specs.declared.Run.{Run}
use Rattle.stream.specs.declared.Scanned.{Scanned}
use Rattle.stream.specs.Table.{words_at, words_from}
use Rattle.stream.specs.Entry.{is_curve, is_line, is_segment, lines_in, start_range}
use Rattle.stream.specs.Grammar.{Env, line_range, curve_range, shortcut_range, role_fits}

abbrev pub mk : ℕ → Bool → ℕ → ℕ → Scan
mk n h a l = record { groups = record { number = n }; held = h; areas = a; segments = l }

abbrev pub start_n : Scan
start_n = mk 1 false 0 0

-- each step is `None` where an entry is out of range or does not fit

-- only the open groups are other
abbrev pub in_groups : Scan → ℕ → Scan
in_groups s n = mk n false s.areas s.segments

abbrev pub after_open_n : Scan → Option Scan
after_open_n s = cond (room_n s.groups.number) (Some (in_groups s (open_n s.groups.number))) None

abbrev pub after_bar_n : Scan → Option Scan
after_bar_n s = cond (left_n s.groups.number) (Some (in_groups s (bar_n s.groups.number))) None

abbrev pub after_close_n : Scan → Option Scan
after_close_n s = cond (right_n s.groups.number) (Some (in_groups s (close_n s.groups.number))) None

abbrev pub after_passes_n : Scan → Option Scan
after_passes_n s = cond (paint_n s.groups.number) None (Some (in_groups s s.groups.number))

-- an area whose numbers are in range and whose role fits
abbrev pub with_area_n : Scan → Bool → Option Scan
with_area_n s ok = cond ok (cond (ltb s.areas 64) (Some (mk s.groups.number true (s.areas + 1) s.segments)) None) None

abbrev pub area_fits_n : List ℕ → ℕ → ℕ → Words → Bool
area_fits_n areas used stack w = role_fits (area_row areas used w.p) (paint_n stack) && start_range w.q

-- the numbers of a line or a curve are in range; and of a shortcut too
abbrev pub line_fits : (xs ys : List ℕ) → (corners : ℕ) → Words → Bool
line_fits xs ys corners w = cond (is_curve w.kind) (curve_range xs ys corners w.p) (line_range xs ys corners w.p w.q)

abbrev pub segment_fits : (xs ys : List ℕ) → Bounds → Words → Bool
segment_fits xs ys b w = cond (is_line w.kind) (line_fits xs ys b.corners w) (shortcut_range b.low b.side w.p w.q w.r)

-- a line, a curve or a shortcut whose numbers are in range
abbrev pub with_line_n : Scan → Bool → Option Scan
with_line_n s ok = cond ok (cond s.held (cond (ltb s.segments 2048) (Some (mk s.groups.number true s.areas (s.segments + 1))) None) None) None

abbrev pub step_n : Env → Scan → Words → Option Scan
step_n v s w =
    cond (eqb w.kind 1) (after_open_n s)
    (cond (eqb w.kind 2) (after_bar_n s)
    (cond (eqb w.kind 3) (after_close_n s)
    (cond (eqb w.kind 4) (with_area_n s (area_fits_n v.areas v.used.areas s.groups.number w))
    (cond (is_segment w.kind) (with_line_n s (segment_fits v.xs v.ys v.used w))
    (cond (eqb w.kind 7) (after_passes_n s) None)))))

-- the same where a line, a curve or a shortcut does not fit
abbrev pub other_n : (areas : List ℕ) → (used : ℕ) → Scan → Words → Option Scan
other_n areas used s w =
    cond (eqb w.kind 1) (after_open_n s)
    (cond (eqb w.kind 2) (after_bar_n s)
    (cond (eqb w.kind 3) (after_close_n s)
    (cond (eqb w.kind 4) (with_area_n s (area_fits_n areas used s.groups.number w))
    (cond (eqb w.kind 7) (after_passes_n s) None))))

unfoldable pub scan_n : Env → Option Scan → List Words → Option Scan
scan_n v s [] = s
scan_n v None (w ∷ ws) = None
scan_n v (Some s) (w ∷ ws) = scan_n v (step_n v s w) ws

-- ---- lines, curves and shortcuts in a row

-- how many stand in front
unfoldable pub run_length : List Words → ℕ
run_length [] = 0
run_length (w ∷ ws) = cond (is_segment w.kind) (suc (run_length ws)) 0

-- they are in range, and at most 2,048 with those before
unfoldable pub run_fits : (xs ys : List ℕ) → Bounds → (lines : ℕ) → List Words → Bool
run_fits xs ys b l [] = true
run_fits xs ys b l (w ∷ ws) = cond (is_segment w.kind) ((segment_fits xs ys b w && ltb l 2048) && run_fits xs ys b (l + 1) ws) true

-- they are in range
unfoldable pub each_fits : (xs ys : List ℕ) → Bounds → List Words → Bool
each_fits xs ys b [] = true
each_fits xs ys b (w ∷ ws) = cond (is_segment w.kind) (segment_fits xs ys b w && each_fits xs ys b ws) true

-- a run from entry `from` up to entry `next`: with those before it has at most 2,048, or it has none
abbrev pub run_to : (lines before from next : ℕ) → Option Run
run_to lines before from next =
    cond (eqb next from || leb (before + (next - from)) 2048)
    (Some (record { segments = before + (next - from); lines = lines; next = next })) None

abbrev pub end_passed : Both Stream Stream → ℕ
end_passed s = s.entry.first + s.entry.count

-- what the run from entry `from` on holds, where it fits
pub record Ran (v : Env) (t : List ℕ) (from end before : ℕ) (r : Run) : Type 0 where
  pub fits : run_fits v.xs v.ys v.used before (words_from t from (end - from)) ≡ true
  pub segments : r.segments ≡ before + run_length (words_from t from (end - from))
  pub next : r.next ≡ from + run_length (words_from t from (end - from))
  pub behind : r.next < end → is_segment (words_at t r.next).kind ≡ false
  pub few : from + r.lines ≤ r.next
  pub lines : r.lines + lines_in (words_from t r.next (end - r.next)) ≡ lines_in (words_from t from (end - from))

-- no line, curve or shortcut of entry i fits: none stands straight behind what holds it
abbrev pub Apart : List ℕ → (i end : ℕ) → Scan → Type 0
Apart t i end s = i < end → s.held ≡ true → is_segment (words_at t i).kind ≡ false

-- from entry i the scan s has come to another entry, behind a whole run: what is left gives the same, and the lines that were passed and those that
-- are left are all its lines
pub record Onward (v : Env) (t : List ℕ) (i end : ℕ) (s : Scan) (r : Scanned) : Type 0 where
  pub later : i < r.next
  pub inside : r.next ≤ end
  pub apart : Apart t r.next end r.scan
  pub same : scan_n v (Some r.scan) (words_from t r.next (end - r.next)) ≡ scan_n v (Some s) (words_from t i (end - i))
  pub few : i + r.lines ≤ r.next
  pub lines : r.lines + lines_in (words_from t r.next (end - r.next)) ≡ lines_in (words_from t i (end - i))
