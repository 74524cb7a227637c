-- The grammar over the state that the code holds. `Rattle.grammar.proofs.Meaning` says that it is the same.
use Rattle.std.specs.Prelude.{ℕ, ◌+◌, Bool, true, false, not, cond, List, [], ◌∷◌, Option, Some, None, Result, Ok, Err, eqb, ltb}
use Rattle.curves.specs.Curves.{curve_fits}
use Rattle.curves.specs.declared.Point.{Point}
use Rattle.groups.specs.code.Stack.{paint_n, left_n, right_n, room_n, open_n, bar_n, close_n}
use Rattle.refusals.specs.declared.Refusal.{Refusal}
use Rattle.refusals.specs.declared.Refusal.TheVariants.{Unfit, Short, Limit, Curve}
use Rattle.refusals.specs.declared.Refused.{Refused}
use Rattle.refusals.specs.Refusals.{at_place}
use Rattle.records.specs.declared.Record.{Record}
use Rattle.records.specs.declared.Record.TheVariants.{Area, First, Next, Open, Bar, Close, Control}
use Rattle.records.specs.Record.{Decoded}
use Rattle.grammar.specs.declared.State.{State}
use Rattle.grammar.specs.Grammar.{Verdict, is_next, is_short, one_more, counts}

-- where a record leads, or why it is refused
abbrev pub Step : Type 0
Step = Result State Refusal

-- where the records so far lead, or the first refusal and its place
abbrev pub Scan : Type 0
Scan = Result State Refused

abbrev pub point : (x y : ℕ) → Point
point x y = record { x = x; y = y }

-- no contour in progress
abbrev pub mk : ℕ → Bool → ℕ → ℕ → State
mk n h a c = record { groups = record { number = n }; held = h; control = None; run = 0; areas = a; corners = c; last = point 0 0 }

abbrev pub no_contour_n : State → State
no_contour_n s = mk s.groups.number false s.areas s.corners

-- one corner more of a contour
abbrev pub corner_n : State → Option Point → ℕ → Point → State
corner_n s b r p = record { groups = s.groups; held = true; control = b; run = r; areas = s.areas; corners = s.corners + 1; last = p }

abbrev pub role_n : ℕ → ℕ
role_n stack = cond (paint_n stack) 0 1

-- a curve from a corner by a control corner, where there is one, to (x, y) breaks the order or span
abbrev pub curve_breaks : Point → Option Point → (x y : ℕ) → Bool
curve_breaks p None x y = false
curve_breaks p (Some c) x y = not (curve_fits p.x p.y c.x c.y x y)

abbrev pub breaks_n : State → Record → Bool
breaks_n s (Area f) = false
breaks_n s (First x y) = false
breaks_n s (Next x y) = curve_breaks s.last s.control x y
breaks_n s Open = false
breaks_n s Bar = false
breaks_n s Close = false
breaks_n s (Control x y) = false

abbrev pub stands_n : State → Record → Bool
stands_n s (Area f) = eqb f.role (role_n s.groups.number)
stands_n s (First x y) = s.held
stands_n s (Next x y) = ltb 0 s.run
stands_n s Open = true
stands_n s Bar = left_n s.groups.number
stands_n s Close = right_n s.groups.number
stands_n s (Control x y) = ltb 0 s.run

-- a control corner stands straight before
abbrev pub bends_n : Option Point → Bool
bends_n None = false
bends_n (Some c) = true

abbrev pub fits_n : State → Record → Bool
fits_n s r = cond (bends_n s.control) (is_next r) (stands_n s r)

abbrev pub ends_short_n : State → Record → Bool
ends_short_n s (Area f) = is_short s.run
ends_short_n s (First x y) = is_short s.run
ends_short_n s (Next x y) = false
ends_short_n s Open = is_short s.run
ends_short_n s Bar = is_short s.run
ends_short_n s Close = is_short s.run
ends_short_n s (Control x y) = false

abbrev pub in_limit_n : State → Record → Bool
in_limit_n s (Area f) = ltb s.areas 64
in_limit_n s (First x y) = ltb s.corners 2048
in_limit_n s (Next x y) = ltb s.corners 2048
in_limit_n s Open = room_n s.groups.number
in_limit_n s Bar = true
in_limit_n s Close = true
in_limit_n s (Control x y) = ltb s.corners 2048

abbrev pub area_n : State → State
area_n s = mk s.groups.number true (s.areas + 1) s.corners

abbrev pub first_n : State → (x y : ℕ) → State
first_n s x y = corner_n s None 1 (point x y)

abbrev pub next_n : State → (x y : ℕ) → State
next_n s x y = corner_n s None (one_more s.run) (point x y)

abbrev pub control_n : State → (x y : ℕ) → State
control_n s x y = corner_n s (Some (point x y)) s.run s.last

abbrev pub after_open_n : State → State
after_open_n s = mk (open_n s.groups.number) false s.areas s.corners

abbrev pub after_bar_n : State → State
after_bar_n s = mk (bar_n s.groups.number) false s.areas s.corners

abbrev pub after_close_n : State → State
after_close_n s = mk (close_n s.groups.number) false s.areas s.corners

abbrev pub after_n : State → Record → State
after_n s (Area f) = area_n s
after_n s (First x y) = first_n s x y
after_n s (Next x y) = next_n s x y
after_n s Open = after_open_n s
after_n s Bar = after_bar_n s
after_n s Close = after_close_n s
after_n s (Control x y) = control_n s x y

abbrev pub step_n : State → Record → Step
step_n s r =
    cond (breaks_n s r) (Err Curve)
    (cond (fits_n s r) (cond (ends_short_n s r) (Err Short) (cond (in_limit_n s r) (Ok (after_n s r)) (Err Limit))) (Err Unfit))

abbrev pub settled_n : Step → ℕ → Scan
settled_n (Ok s) i = Ok s
settled_n (Err r) i = Err (at_place r i)

abbrev pub advance_at_n : State → Decoded → ℕ → Scan
advance_at_n s (Ok r) i = settled_n (step_n s r) i
advance_at_n s (Err x) i = Err (at_place x i)

abbrev pub advance_n : Scan → Decoded → ℕ → Scan
advance_n (Ok s) d i = advance_at_n s d i
advance_n (Err e) d i = Err e

abbrev pub start_n : Scan
start_n = Ok (mk 1 false 0 0)

abbrev pub end_state_n : State → ℕ → Verdict
end_state_n s n =
    cond (bends_n s.control) (Err (at_place Unfit n))
    (cond (eqb s.groups.number 1) (cond (is_short s.run) (Err (at_place Short n)) (Ok (counts n s.areas s.corners))) (Err (at_place Unfit n)))

abbrev pub ended_n : Scan → ℕ → Verdict
ended_n (Ok s) n = end_state_n s n
ended_n (Err e) n = Err e

unfoldable pub scan_n : Scan → ℕ → List Decoded → Scan
scan_n c i [] = c
scan_n c i (d ∷ ds) = scan_n (advance_n c d i) (i + 1) ds
