-- The state that the code holds says what the grammar of streams says.
use Prim.Native.Nat.{◌+◌}
use mathlib.Core.Path.{◌≡◌, refl, sym, ap, ◌∙◌}
use mathlib.Core.Bool.{Bool, true, false, cond, not, ◌&&◌}
use mathlib.Core.List.{List, [], ◌∷◌}
use Rattle.std.proofs.Common.{Option, None, Some}
use lib.ListN.{length}
use lib.Dec.{eqb, ltb}
use Rattle.groups.specs.Sides.{is_paint, on_left, on_right, to_outer}
use Rattle.groups.specs.code.Stack.{num, close_n}
use Rattle.groups.proofs.Stack.{paint_is, left_is, right_is, room_is, bar_is, close_is, open_is, empty_is}
use Rattle.records.specs.Record.{Decoded}
use Rattle.std.specs.Prelude.{Ok, Err}
use Rattle.stream.specs.declared.Words.{Words}
use Rattle.stream.specs.declared.Scan.{Scan}
use Rattle.stream.specs.Entry.{Entry, opens, bar, closes, area, line, curve, shortcut, passes, decode, is_curve, is_line, is_segment, start_range}
use Rattle.records.specs.Record.{is_good}
use Rattle.stream.specs.Grammar.{Env, area_met, role_fits, in_range, Place, place, Course, at, off, next, course, begin, is_whole, accepts}
use Rattle.stream.specs.code.Machine.{
  mk,
  start_n,
  in_groups,
  after_open_n,
  after_bar_n,
  after_close_n,
  after_passes_n,
  with_area_n,
  area_fits_n,
  segment_fits,
  with_line_n,
  step_n,
  scan_n,
}
use Rattle.stream.proofs.Entries.{segment_entry, decode_is, segment_range_law}

abbrev pub held_at : Place → Scan
held_at p = mk (num p.groups) p.held p.areas p.segments

abbrev pub enc : Course → Option Scan
enc (at p) = Some (held_at p)
enc off = None

-- no group is open at the end
abbrev pub ends : Option Scan → Bool
ends (Some s) = eqb s.groups.number 1
ends None = false

-- a choice on both sides of an equation
both : {A B : Type 0} (f : A → B) (b : Bool) (x y : A) (X Y : B) → X ≡ f x → Y ≡ f y → cond b X Y ≡ f (cond b x y)
both f true x y X Y p q = p
both f false x y X Y p q = q

-- ---- one entry, by its kind
module _ (v : Env) (p : Place) where
  after_open_is : after_open_n (held_at p) ≡ enc (next v p opens)
  after_open_is = rw (room_is p.groups, open_is p.groups) (both enc (ltb (length p.groups) 8) _ off _ None refl refl)

  after_bar_is : after_bar_n (held_at p) ≡ enc (next v p bar)
  after_bar_is = rw (left_is p.groups, bar_is p.groups) (both enc (on_left p.groups) _ off _ None refl refl)

  after_close_is : after_close_n (held_at p) ≡ enc (next v p closes)
  after_close_is = rw (right_is p.groups) (go (on_right p.groups) refl)
    where
      go : (b : Bool) → on_right p.groups ≡ b
          → cond b (Some (in_groups (held_at p) (close_n (num p.groups)))) None
          ≡ enc (cond b (at (place (to_outer p.groups) false p.areas p.segments)) off)
      go true h = rw (close_is p.groups h)
      go false h = refl

  after_passes_is : after_passes_n (held_at p) ≡ enc (next v p passes)
  after_passes_is = rw (paint_is p.groups) (go (is_paint p.groups))
    where
      go : (b : Bool) → cond b None (Some (in_groups (held_at p) (num p.groups))) ≡ enc (cond (not b) (at (place p.groups false p.areas p.segments)) off)
      go true = refl
      go false = refl

  -- an area that is not in range fits nowhere
  area_is : (w : Words) → with_area_n (held_at p) (area_fits_n v.areas v.used.areas (num p.groups) w) ≡ enc (next v p (area w.p w.q))
  area_is w = rw (paint_is p.groups) (go (area_met v w.p) (is_paint p.groups) (start_range w.q))
    where
      limited : (b : Bool)
          → cond b (Some (mk (num p.groups) true (p.areas + 1) p.segments)) None
          ≡ enc (cond b (at (place p.groups true (p.areas + 1) p.segments)) off)
      limited true = refl
      limited false = refl

      pick : (a b : Bool)
          → with_area_n (held_at p) (a && b)
          ≡ enc (cond (true && b) (cond a (cond (ltb p.areas 64) (at (place p.groups true (p.areas + 1) p.segments)) off) off) off)
      pick true true = limited (ltb p.areas 64)
      pick true false = refl
      pick false true = refl
      pick false false = refl

      go : (d : Decoded) (paint b : Bool)
          → with_area_n (held_at p) (role_fits d paint && b)
          ≡ enc
          (cond (is_good d && b) (cond (role_fits d paint) (cond (ltb p.areas 64) (at (place p.groups true (p.areas + 1) p.segments)) off) off) off)
      go (Ok r) paint b = pick (role_fits (Ok r) paint) b
      go (Err x) paint b = refl

  line_is : (b : Bool)
      → with_line_n (held_at p) b
      ≡ enc (cond b (cond p.held (cond (ltb p.segments 2048) (at (place p.groups true p.areas (p.segments + 1))) off) off) off)
  line_is b = go b p.held (ltb p.segments 2048)
    where
      go : (b h l : Bool)
          → cond b (cond h (cond l (Some (mk (num p.groups) true p.areas (p.segments + 1))) None) None) None
          ≡ enc (cond b (cond h (cond l (at (place p.groups true p.areas (p.segments + 1))) off) off) off)
      go true true true = refl
      go true true false = refl
      go true false l = refl
      go false h l = refl

  segment_is : (w : Words) → with_line_n (held_at p) (segment_fits v.xs v.ys v.used w) ≡ enc (next v p (segment_entry w))
  segment_is w = ap (with_line_n (held_at p)) (sym (segment_range_law v w)) ∙ go (is_line w.kind) (is_curve w.kind)
    where
      go : (l c : Bool)
          → with_line_n (held_at p) (in_range v (cond l (cond c (curve w.p) (line w.p w.q)) (shortcut w.p w.q w.r)))
          ≡ enc (next v p (cond l (cond c (curve w.p) (line w.p w.q)) (shortcut w.p w.q w.r)))
      go true true = line_is (in_range v (curve w.p))
      go true false = line_is (in_range v (line w.p w.q))
      go false c = line_is (in_range v (shortcut w.p w.q w.r))

  at_is : (w : Words) → step_n v (held_at p) w ≡ enc (next v p (decode w))
  at_is w =
      rw (decode_is w)
      (k (eqb w.kind 1) _ _ after_open_is
      (k (eqb w.kind 2) _ _ after_bar_is
      (k (eqb w.kind 3) _ _ after_close_is
      (k (eqb w.kind 4) _ _ (area_is w)
      (k (is_segment w.kind) _ _ (segment_is w) (k (eqb w.kind 7) _ _ after_passes_is refl))))))
    where
      k : (b : Bool) (x y : Entry) {X Y : Option Scan} → X ≡ enc (next v p x) → Y ≡ enc (next v p y) → cond b X Y ≡ enc (next v p (cond b x y))
      k b x y {X} {Y} = both (λ (e : Entry). enc (next v p e)) b x y X Y

-- ---- a whole stream
scan_off : (v : Env) (ws : List Words) → scan_n v None ws ≡ None
unfolding scan_n
scan_off v [] = refl
scan_off v (w ∷ ws) = refl

pub course_is : (v : Env) (c : Course) (ws : List Words) → scan_n v (enc c) ws ≡ enc (course v c ws)
unfolding scan_n course
course_is v c [] = refl
course_is v (at p) (w ∷ ws) = rw (at_is v p w) (course_is v (next v p (decode w)) ws)
course_is v off (w ∷ ws) = sym (scan_off v ws) ∙ course_is v off ws

whole_is : (c : Course) → ends (enc c) ≡ is_whole c
whole_is (at p) = empty_is p.groups
whole_is off = refl

-- the code ends with no open group at the end of just the streams that the grammar accepts
pub accepts_is : (v : Env) (ws : List Words) → ends (scan_n v (Some start_n) ws) ≡ accepts v ws
unfolding accepts
accepts_is v ws = rw (course_is v begin ws) (whole_is (course v begin ws))
