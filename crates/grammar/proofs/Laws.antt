-- What an accepted list of records has; and a scan that stopped stays so.
use Rattle.std.specs.Result.{is_err}
use Rattle.std.specs.Prelude.{Ok, Err}
use Rattle.refusals.specs.Refusals.{at_place}
use Prim.Native.Nat.{ℕ, ◌+◌, ◌≤◌, max}
use mathlib.Core.Path.{◌≡◌, refl, sym, ap, ◌∙◌}
use mathlib.Core.Bool.{Bool, true, false, cond}
use mathlib.Core.List.{List, [], ◌∷◌, map}
use native.Mathlib.Omega.{arith}
use lib.ListN.{length}
use borrow.Author.Tests.{ltb-true}
use Rattle.refusals.specs.declared.Refusal.{Refusal}
use Rattle.refusals.specs.declared.Refusal.TheVariants.{Unfit, Short, Limit, Curve}
use Rattle.laws.proofs.Booleans.{clash}
use Rattle.groups.specs.Sides.{is_empty}
use Rattle.records.specs.declared.Record.{Record}
use Rattle.records.specs.declared.Record.TheVariants.{Area, First, Next, Open, Bar, Close, Control}
use Rattle.records.specs.Record.{Decoded}
use Rattle.grammar.specs.declared.Counts.{Counts}
use Rattle.grammar.specs.Grammar.{
  Progress,
  progress,
  breaks,
  fits,
  is_short,
  ends_short,
  in_limit,
  after,
  Course,
  at,
  stopped,
  next,
  course,
  begin,
  counts,
  final,
  checked,
  met,
  Verdict·place,
}
use Rattle.grammar.specs.code.Machine.{Scan}
use Rattle.grammar.specs.code.Machine.{scan_n}
use Rattle.grammar.specs.Lists.{good_records, area_one, corner_one, areas_in, corners_in}

pub record Ran (p q : Progress) (ds : List Decoded) : Type 0 where
  pub good : ds ≡ map Ok (good_records ds)
  pub areas : q.areas ≡ p.areas + areas_in (good_records ds)
  pub corners : q.corners ≡ p.corners + corners_in (good_records ds)
  pub few : p.areas ≤ 64 → q.areas ≤ 64
  pub many : p.corners ≤ 2048 → q.corners ≤ 2048

pub stays : (x : Refusal) (j i : ℕ) (ds : List Decoded) → course (stopped x j) i ds ≡ stopped x j
unfolding course
stays x j i [] = refl
stays x j i (d ∷ ds) = stays x j (i + 1) ds

same_progress : (p q : Progress) → at p ≡ at q → p ≡ q
same_progress p q e = cc

record Moved (p q : Progress) (r : Record) : Type 0 where
  areas : q.areas ≡ p.areas + area_one r
  corners : q.corners ≡ p.corners + corner_one r
  few : p.areas ≤ 64 → q.areas ≤ 64
  many : p.corners ≤ 2048 → q.corners ≤ 2048

moved : (p : Progress) (r : Record) → in_limit p r ≡ true → Moved p (after p r) r
moved p (Area f) h = record { areas = refl; corners = omega arith; few = λ l. omega (arith, ltb-true p.areas 64 h); many = λ l. l }
moved p (First x y) h = record { areas = omega arith; corners = refl; few = λ l. l; many = λ l. omega (arith, ltb-true p.corners 2048 h) }
moved p (Next x y) h = record { areas = omega arith; corners = refl; few = λ l. l; many = λ l. omega (arith, ltb-true p.corners 2048 h) }
moved p Open h = record { areas = omega arith; corners = omega arith; few = λ l. l; many = λ l. l }
moved p Bar h = record { areas = omega arith; corners = omega arith; few = λ l. l; many = λ l. l }
moved p Close h = record { areas = omega arith; corners = omega arith; few = λ l. l; many = λ l. l }
moved p (Control x y) h = record { areas = omega arith; corners = refl; few = λ l. l; many = λ l. omega (arith, ltb-true p.corners 2048 h) }

-- a step that goes on
went : (p p' : Progress) (r : Record) (i : ℕ) → next p r i ≡ at p' → Moved p p' r
went p p' r i = go (breaks p r) (fits p r) (ends_short p r) (in_limit p r) refl
  where
    go : (w a b d : Bool)
        → in_limit p r ≡ d
        → cond w (stopped Curve i) (cond a (cond b (stopped Short i) (cond d (at (after p r)) (stopped Limit i))) (stopped Unfit i)) ≡ at p'
        → Moved p p' r
    go true a b d h e = absurd cc
    go false false b d h e = absurd cc
    go false true true d h e = absurd cc
    go false true false false h e = absurd cc
    go false true false true h e = rw (← same_progress (after p r) p' e) (moved p r h)

more : (p p' q : Progress) (r : Record) (ds : List Decoded) → Moved p p' r → Ran p' q ds → Ran p q (Ok r ∷ ds)
more p p' q r ds m n =
    record {
      good = ap (λ (l : List Decoded). Ok r ∷ l) n.good;
      areas = omega (arith, m.areas, n.areas);
      corners = omega (arith, m.corners, n.corners);
      few = λ l. n.few (m.few l);
      many = λ l. n.many (m.many l);
    }

by_course : (p q : Progress) (r : Record) (i : ℕ) (ds : List Decoded) (c : Course)
    → next p r i ≡ c
    → ((p' : Progress) → course (at p') (i + 1) ds ≡ at q → Ran p' q ds)
    → course c (i + 1) ds ≡ at q
    → Ran p q (Ok r ∷ ds)
by_course p q r i ds (at p') h rest e = more p p' q r ds (went p p' r i h) (rest p' e)
by_course p q r i ds (stopped x j) h rest e = absurd (cc (sym (stays x j (i + 1) ds) ∙ e))

pub ran : (p q : Progress) (i : ℕ) (ds : List Decoded) → course (at p) i ds ≡ at q → Ran p q ds
unfolding course
ran p q i [] e = rw (same_progress p q e) (record { good = refl; areas = omega arith; corners = omega arith; few = λ l. l; many = λ l. l })
ran p q i (Ok r ∷ ds) e = by_course p q r i ds (next p r i) refl (λ p'. ran p' q (i + 1) ds) e
ran p q i (Err x ∷ ds) e = absurd (cc (sym (stays x i (i + 1) ds) ∙ e))

pub record Sound (ds : List Decoded) (k : Counts) : Type 0 where
  pub good : ds ≡ map Ok (good_records ds)
  pub records : k.records ≡ length ds
  pub areas : k.areas ≡ areas_in (good_records ds)
  pub corners : k.corners ≡ corners_in (good_records ds)
  pub few : k.areas ≤ 64
  pub many : k.corners ≤ 2048

ended : (c : Course) (ds : List Decoded) (k : Counts) → course begin 0 ds ≡ c → final c (length ds) ≡ Ok k → Sound ds k
ended (stopped x i) ds k h e = absurd cc
ended (at q) ds k h f = go q.bends (is_empty q.groups) (is_short q.run) f
  where
    n : ℕ
    n = length ds

    go : (w a b : Bool)
        → cond w (Err (at_place Unfit n)) (cond a (cond b (Err (at_place Short n)) (Ok (counts n q.areas q.corners))) (Err (at_place Unfit n))) ≡ Ok k
        → Sound ds k
    go true a b e = absurd cc
    go false false b e = absurd cc
    go false true true e = absurd cc
    go false true false e =
        let m = ran (progress [] false 0 0) q 0 ds h in
        let same : counts n q.areas q.corners ≡ k = cc in
        rw (← same)
        (record {
          good = m.good;
          records = refl;
          areas = omega (arith, m.areas);
          corners = omega (arith, m.corners);
          few = m.few (omega arith);
          many = m.many (omega arith);
        })

pub sound : (ds : List Decoded) (k : Counts) → checked ds ≡ Ok k → Sound ds k
unfolding checked
sound ds k e = ended (course begin 0 ds) ds k refl e

-- ---- a scan that stopped

pub stopped_stays : (c : Scan) (i : ℕ) (ds : List Decoded) → is_err c ≡ true → scan_n c i ds ≡ c
unfolding scan_n
stopped_stays c i [] h = refl
stopped_stays (Ok s) i (d ∷ ds) h = clash h
stopped_stays (Err e) i (d ∷ ds) h = stopped_stays (Err e) (i + 1) ds refl

-- ---- the place of a refusal is a record's number, or that of the end

abbrev place_of : Course → ℕ
place_of (at p) = 0
place_of (stopped x i) = i

next_place : (p : Progress) (r : Record) (i : ℕ) → place_of (next p r i) ≤ i
next_place p r i = go (breaks p r) (fits p r) (ends_short p r) (in_limit p r)
  where
    go : (w a b d : Bool)
        → place_of (cond w (stopped Curve i) (cond a (cond b (stopped Short i) (cond d (at (after p r)) (stopped Limit i))) (stopped Unfit i))) ≤ i
    go true a b d = omega arith
    go false false b d = omega arith
    go false true true d = omega arith
    go false true false false = omega arith
    go false true false true = omega arith

met_place : (c : Course) (d : Decoded) (i : ℕ) → place_of (met c d i) ≤ max (place_of c) i
met_place (at p) (Ok r) i = omega (arith, next_place p r i)
met_place (at p) (Err x) i = omega arith
met_place (stopped x j) d i = omega arith

course_place : (c : Course) (i : ℕ) (ds : List Decoded) → place_of (course c i ds) ≤ max (place_of c) (i + length ds)
unfolding course
course_place c i [] = omega arith
course_place c i (d ∷ ds) = omega (arith, course_place (met c d i) (i + 1) ds, met_place c d i)

final_place : (c : Course) (n : ℕ) → Verdict·place (final c n) ≤ max (place_of c) n
final_place (at p) n = go p.bends (is_empty p.groups) (is_short p.run)
  where
    go : (w a b : Bool)
        → Verdict·place (cond w (Err (at_place Unfit n)) (cond a (cond b (Err (at_place Short n)) (Ok (counts n p.areas p.corners))) (Err (at_place Unfit n))))
        ≤ max 0 n
    go true a b = omega arith
    go false false b = omega arith
    go false true true = omega arith
    go false true false = omega arith
final_place (stopped x i) n = omega arith

pub place_below : (ds : List Decoded) → Verdict·place (checked ds) ≤ length ds
unfolding checked
place_below ds = omega (arith, final_place (course begin 0 ds) (length ds), course_place begin 0 ds)
