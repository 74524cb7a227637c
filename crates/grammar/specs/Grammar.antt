-- Document 01, "Drawing" and "From the input", and document 02, Item 2: which records may follow each other, and the first refusal of a list of records.
use Rattle.std.specs.Prelude.{ℕ, ◌+◌, Bool, true, false, not, cond, ◌&&◌, List, [], ◌∷◌, Result, Ok, Err, length, eqb, ltb}
use Rattle.curves.specs.Curves.{curve_fits}
use Rattle.groups.specs.Sides.{Frame, is_paint, on_left, on_right, opening, to_right, to_outer, is_empty}
use Rattle.refusals.specs.declared.Refusal.{Refusal}
use Rattle.refusals.specs.declared.Refusal.TheVariants.{Unfit, Short, Limit, Curve}
use Rattle.refusals.specs.declared.Refused.{Refused}
use Rattle.refusals.specs.Refusals.{at_place}
use Rattle.records.specs.declared.Record.{Record}
use Rattle.records.specs.declared.Record.TheVariants.{Area, First, Next, Open, Bar, Close, Control}
use Rattle.records.specs.Record.{Decoded}
use Rattle.grammar.specs.declared.Counts.{Counts}

-- how many records, areas and corners a list of records has, or its first refusal and the place
abbrev pub Verdict : Type 0
Verdict = Result Counts Refused

-- where a reader stands: the open groups, the innermost first; whether an area or a corner stands straight before, and whether a control corner
-- does; the corners of the contour in progress, control corners left out (3 for more); how many areas and corners so far; the contour's last corner
-- that is no control corner, and the control corner straight before
pub record Progress : Type 0 where
  pub groups : List Frame
  pub held : Bool
  pub bends : Bool
  pub run : ℕ
  pub areas : ℕ
  pub corners : ℕ
  pub x0 : ℕ
  pub y0 : ℕ
  pub x1 : ℕ
  pub y1 : ℕ

-- no contour in progress
abbrev pub progress : List Frame → Bool → ℕ → ℕ → Progress
progress g h a c = record { groups = g; held = h; bends = false; run = 0; areas = a; corners = c; x0 = 0; y0 = 0; x1 = 0; y1 = 0 }

-- one corner more of a contour
abbrev pub cornered : Progress → Bool → ℕ → (x0 y0 x1 y1 : ℕ) → Progress
cornered p b r x0 y0 x1 y1 =
    record {
      groups = p.groups;
      held = true;
      bends = b;
      run = r;
      areas = p.areas;
      corners = p.corners + 1;
      x0 = x0;
      y0 = y0;
      x1 = x1;
      y1 = y1;
    }

-- document 02: "13 for a curve that breaks the order or span, place the record of kind 3 that ends it, tried after 3 and before 4"
abbrev pub breaks : Progress → Record → Bool
breaks p (Area f) = false
breaks p (First x y) = false
breaks p (Next x y) = p.bends && not (curve_fits p.x0 p.y0 p.x1 p.y1 x y)
breaks p Open = false
breaks p Bar = false
breaks p Close = false
breaks p (Control x y) = false

-- 4, "record that does not fit". "Kind 2 stands straight after kind 1, 2 or 3, kind 3 after 2 or 3." "An area's role fits its side."
-- "`|` fits on the left side of the innermost open group, `)` on its right." Of a control corner, document 02:
-- "it follows kind 2 or 3".
abbrev pub stands : Progress → Record → Bool
stands p (Area f) = eqb f.role (cond (is_paint p.groups) 0 1)
stands p (First x y) = p.held
stands p (Next x y) = ltb 0 p.run
stands p Open = true
stands p Bar = on_left p.groups
stands p Close = on_right p.groups
stands p (Control x y) = ltb 0 p.run

-- of a control corner, document 02: "and is followed by kind 3, otherwise 4"
abbrev pub is_next : Record → Bool
is_next (Area f) = false
is_next (First x y) = false
is_next (Next x y) = true
is_next Open = false
is_next Bar = false
is_next Close = false
is_next (Control x y) = false

abbrev pub fits : Progress → Record → Bool
fits p r = cond p.bends (is_next r) (stands p r)

-- 5, "contour of under 3 corners", place: "record that ends it". Any record but a next corner or a control corner ends the contour in progress.
abbrev pub is_short : ℕ → Bool
is_short run = ltb 0 run && ltb run 3

abbrev pub ends_short : Progress → Record → Bool
ends_short p (Area f) = is_short p.run
ends_short p (First x y) = is_short p.run
ends_short p (Next x y) = false
ends_short p Open = is_short p.run
ends_short p Bar = is_short p.run
ends_short p Close = is_short p.run
ends_short p (Control x y) = false

-- 6, "65th area, 2,049th corner, 9th open group"; of a control corner, document 02: "It counts toward
-- 2,048 corners but not toward the three of a contour."
abbrev pub in_limit : Progress → Record → Bool
in_limit p (Area f) = ltb p.areas 64
in_limit p (First x y) = ltb p.corners 2048
in_limit p (Next x y) = ltb p.corners 2048
in_limit p Open = ltb (length p.groups) 8
in_limit p Bar = true
in_limit p Close = true
in_limit p (Control x y) = ltb p.corners 2048

abbrev pub one_more : ℕ → ℕ
one_more run = cond (ltb run 3) (run + 1) run

abbrev pub after : Progress → Record → Progress
after p (Area f) = progress p.groups true (p.areas + 1) p.corners
after p (First x y) = cornered p false 1 x y 0 0
after p (Next x y) = cornered p false (one_more p.run) x y 0 0
after p Open = progress (opening p.groups) false p.areas p.corners
after p Bar = progress (to_right p.groups) false p.areas p.corners
after p Close = progress (to_outer p.groups) false p.areas p.corners
after p (Control x y) = cornered p true p.run p.x0 p.y0 x y

-- ---- the fold
pub data Course : Type 0 where
  at : Progress → Course
  stopped : Refusal → ℕ → Course

-- "Records go in order, each tried 2 to 6", 13 document 02: "tried after 3 and before 4": record i is tried 13, 4, 5, 6
abbrev pub next : Progress → Record → ℕ → Course
next p r i =
    cond (breaks p r) (stopped Curve i)
    (cond (fits p r) (cond (ends_short p r) (stopped Short i) (cond (in_limit p r) (at (after p r)) (stopped Limit i))) (stopped Unfit i))

-- 2 and 3 stand in what was decoded; the first refusal stays
abbrev pub met : Course → Decoded → ℕ → Course
met (at p) (Ok r) i = next p r i
met (at p) (Err x) i = stopped x i
met (stopped x j) d i = stopped x j

unfoldable pub course : Course → ℕ → List Decoded → Course
course c i [] = c
course c i (d ∷ ds) = course (met c d i) (i + 1) ds

abbrev pub begin : Course
begin = at (progress [] false 0 0)

abbrev pub counts : ℕ → ℕ → ℕ → Counts
counts n a c = record { records = n; areas = a; corners = c }

-- "the end counts as one more, tried 4, then 5"; 4: a control corner that no kind 3 follows, or "a group open at the end"
abbrev pub final : Course → ℕ → Verdict
final (at p) n =
    cond p.bends (Err (at_place Unfit n))
    (cond (is_empty p.groups) (cond (is_short p.run) (Err (at_place Short n)) (Ok (counts n p.areas p.corners))) (Err (at_place Unfit n)))
final (stopped x i) n = Err (at_place x i)

-- the first refusal of a list of records and its place, or how many records, areas and corners there are
unfoldable pub checked : List Decoded → Verdict
checked ds = final (course begin 0 ds) (length ds)

-- document 01's place
abbrev pub Verdict·place : Verdict → ℕ
Verdict·place (Ok k) = 0
Verdict·place (Err e) = e.place
