-- The number that the code holds says what the grammar says.
use Rattle.std.specs.Prelude.{Some, None, Ok, Err}
use Rattle.refusals.specs.Refusals.{at_place}
use Prim.Native.Nat.{ℕ, ◌+◌}
use mathlib.Core.Path.{◌≡◌, refl, ap}
use mathlib.Core.Bool.{Bool, true, false, not, cond, ◌&&◌}
use Rattle.curves.specs.Curves.{curve_fits}
use mathlib.Core.List.{List, [], ◌∷◌}
use lib.ListN.{length}
use Rattle.refusals.specs.declared.Refusal.TheVariants.{Unfit, Short, Limit, Curve}
use Rattle.laws.proofs.Booleans.{clash}
use Rattle.groups.specs.Sides.{on_right}
use Rattle.groups.specs.code.Stack.{num}
use Rattle.groups.proofs.Stack.{paint_is, left_is, right_is, room_is, bar_is, close_is, open_is, empty_is}
use Rattle.records.specs.declared.Record.{Record}
use Rattle.records.specs.declared.Record.TheVariants.{Area, First, Next, Open, Bar, Close, Control}
use Rattle.records.specs.Record.{Decoded}
use Rattle.grammar.specs.declared.State.{State}
use Rattle.grammar.specs.code.Machine.{Scan}
use Rattle.grammar.specs.Grammar.{Progress, breaks, stands, fits, ends_short, in_limit, after, Course, at, stopped, next, met, course, begin, final, checked}
use Rattle.grammar.specs.code.Machine.{point, curve_breaks, bends_n, breaks_n, stands_n, fits_n, ends_short_n, in_limit_n, after_n, step_n, settled_n}
use Rattle.grammar.specs.code.Machine.{advance_n, start_n, ended_n, scan_n}

abbrev enc : Progress → State
enc p =
    record {
      groups = record { number = num p.groups };
      held = p.held;
      control = cond p.bends (Some (point p.x1 p.y1)) None;
      run = p.run;
      areas = p.areas;
      corners = p.corners;
      last = point p.x0 p.y0;
    }

abbrev enc_c : Course → Scan
enc_c (at p) = Ok (enc p)
enc_c (stopped x i) = Err (at_place x i)

-- ---- one record
bends_is : (b : Bool) (x y : ℕ) → bends_n (cond b (Some (point x y)) None) ≡ b
bends_is true x y = refl
bends_is false x y = refl

curve_is : (b : Bool) (x0 y0 x1 y1 x y : ℕ) → curve_breaks (point x0 y0) (cond b (Some (point x1 y1)) None) x y ≡ b && not (curve_fits x0 y0 x1 y1 x y)
curve_is true x0 y0 x1 y1 x y = refl
curve_is false x0 y0 x1 y1 x y = refl

breaks_is : (p : Progress) (r : Record) → breaks_n (enc p) r ≡ breaks p r
breaks_is p (Area f) = refl
breaks_is p (First x y) = refl
breaks_is p (Next x y) = curve_is p.bends p.x0 p.y0 p.x1 p.y1 x y
breaks_is p Open = refl
breaks_is p Bar = refl
breaks_is p Close = refl
breaks_is p (Control x y) = refl

stands_is : (p : Progress) (r : Record) → stands_n (enc p) r ≡ stands p r
stands_is p (Area f) = rw (paint_is p.groups)
stands_is p (First x y) = refl
stands_is p (Next x y) = refl
stands_is p Open = refl
stands_is p Bar = left_is p.groups
stands_is p Close = right_is p.groups
stands_is p (Control x y) = refl

fits_is : (p : Progress) (r : Record) → fits_n (enc p) r ≡ fits p r
fits_is p r = rw (bends_is p.bends p.x1 p.y1, stands_is p r)

ends_is : (p : Progress) (r : Record) → ends_short_n (enc p) r ≡ ends_short p r
ends_is p (Area f) = refl
ends_is p (First x y) = refl
ends_is p (Next x y) = refl
ends_is p Open = refl
ends_is p Bar = refl
ends_is p Close = refl
ends_is p (Control x y) = refl

limit_is : (p : Progress) (r : Record) → in_limit_n (enc p) r ≡ in_limit p r
limit_is p (Area f) = refl
limit_is p (First x y) = refl
limit_is p (Next x y) = refl
limit_is p Open = room_is p.groups
limit_is p Bar = refl
limit_is p Close = refl
limit_is p (Control x y) = refl

after_is : (p : Progress) (r : Record) → fits p r ≡ true → after_n (enc p) r ≡ enc (after p r)
after_is p (Area f) h = refl
after_is p (First x y) h = refl
after_is p (Next x y) h = refl
after_is p Open h = rw (open_is p.groups)
after_is p Bar h = rw (bar_is p.groups)
after_is p Close h = rw (close_is p.groups (closes p.bends (on_right p.groups) h))
  where
    closes : (b t : Bool) → cond b false t ≡ true → t ≡ true
    closes true t h = clash h
    closes false t h = h
after_is p (Control x y) h = refl

next_is : (p : Progress) (r : Record) (i : ℕ) → settled_n (step_n (enc p) r) i ≡ enc_c (next p r i)
next_is p r i = rw (breaks_is p r, fits_is p r, ends_is p r, limit_is p r) (go (breaks p r) (fits p r) (ends_short p r) (in_limit p r) refl)
  where
    go : (w a b d : Bool) → fits p r ≡ a
        → settled_n (cond w (Err Curve) (cond a (cond b (Err Short) (cond d (Ok (after_n (enc p) r)) (Err Limit))) (Err Unfit))) i
        ≡ enc_c (cond w (stopped Curve i) (cond a (cond b (stopped Short i) (cond d (at (after p r)) (stopped Limit i))) (stopped Unfit i)))
    go true a b d h = refl
    go false false b d h = refl
    go false true true d h = refl
    go false true false false h = refl
    go false true false true h = ap Ok (after_is p r h)

met_is : (c : Course) (d : Decoded) (i : ℕ) → advance_n (enc_c c) d i ≡ enc_c (met c d i)
met_is (at p) (Ok r) i = next_is p r i
met_is (at p) (Err x) i = refl
met_is (stopped x j) d i = refl

course_is : (c : Course) (i : ℕ) (ds : List Decoded) → scan_n (enc_c c) i ds ≡ enc_c (course c i ds)
unfolding scan_n course
course_is c i [] = refl
course_is c i (d ∷ ds) = rw (met_is c d i) (course_is (met c d i) (i + 1) ds)

final_is : (c : Course) (n : ℕ) → ended_n (enc_c c) n ≡ final c n
final_is (at p) n = rw (bends_is p.bends p.x1 p.y1, empty_is p.groups)
final_is (stopped x i) n = refl

-- the code's fold ends as the grammar's
pub checked_is : (ds : List Decoded) (n : ℕ) → n ≡ length ds → ended_n (scan_n start_n 0 ds) n ≡ checked ds
unfolding checked
checked_is ds n e = rw (e, course_is begin 0 ds) (final_is (course begin 0 ds) (length ds))
