-- The plan of a list of records has no more entries, areas and lines than the list has records, areas and corners.
use Prim.Native.Nat.{ℕ, zero, suc, ◌+◌, ◌≤◌}
use mathlib.Core.Path.{◌≡◌, refl, sym, ap, ◌∙◌}
use mathlib.Core.Bool.{Bool, true, false}
use mathlib.Core.List.{List, [], ◌∷◌}
use native.Mathlib.Omega.{arith}
use lib.ListN.{length, get_or, length-append}
use Rattle.geometry.specs.Windings.{Piece, Contour, contour, lines_from, lines_of}
use Rattle.geometry.proofs.Windings.{length_lines}
use Rattle.records.specs.declared.Record.{Record}
use Rattle.records.specs.declared.Record.TheVariants.{Area, First, Next, Control, Open, Bar, Close}
use Rattle.grammar.specs.Lists.{areas_in, corners_in}
use Rattle.pruning.specs.Sides.{Kind, paint, clip, Side, end, leaf, group, Entry, item, push, activate, pop, flat}
use Rattle.pruning.proofs.Sides.{flat_over, flat_is_over}
use Rattle.ranges.specs.code.Valid.{weigh}
use Rattle.plans.specs.Plans.{pieces, contours_here, contours_from, entries_from}
use Rattle.plans.proofs.Numbers.{Follows, follows_here, follows_rest, follows_all}

-- the sum over the items of a stream, with d for each delimiter
abbrev tally : {A : Type 0} → (A → ℕ) → (d : ℕ) → List (Entry A) → ℕ
tally v d [] = 0
tally v d (item k a ∷ es) = v a + tally v d es
tally v d (push ∷ es) = d + tally v d es
tally v d (activate ∷ es) = d + tally v d es
tally v d (pop ∷ es) = d + tally v d es

tally_side : {A : Type 0} (v : A → ℕ) (d : ℕ) (k : Kind) (s : Side A) (z : List (Entry A)) → tally v d (flat_over k s z) ≡ weigh v d s + tally v d z
tally_side v d k end z = omega arith
tally_side v d k (leaf a t) z = omega (arith, tally_side v d k t z)
tally_side v d k (group l r t) z =
    omega (arith, tally_side v d clip l (activate ∷ flat_over k r (pop ∷ flat_over k t z)), tally_side v d k r (pop ∷ flat_over k t z), tally_side v d k t z)

weigh_tally : {A : Type 0} (v : A → ℕ) (d : ℕ) (es : List (Entry A)) (s : Side A) → es ≡ flat paint s → weigh v d s ≡ tally v d es
weigh_tally v d es s e =
    let t : tally v d (flat_over paint s []) ≡ tally v d es = ap (tally v d) (sym (e ∙ flat_is_over paint s)) in
    omega (arith, tally_side v d paint s [])

-- ---- lines

lines_first : (c : ℕ) (ps : List Piece) (cs : List Contour) → length (lines_of (contour c ps ∷ cs)) ≡ suc (length ps) + length (lines_of cs)
lines_first c ps cs = omega (arith, length-append (lines_from c c ps) (lines_of cs), length_lines c c ps)

here_few : (rs : List Record) (t : Bool) (c : ℕ) → length (pieces t rs) + length (lines_of (contours_here c rs)) ≤ corners_in rs
here_few [] t c = omega arith
here_few (Area f ∷ rs) t c = omega arith
here_few (First x y ∷ rs) t c = omega (arith, here_few rs false (suc c), lines_first c (pieces false rs) (contours_here (suc c) rs))
here_few (Next x y ∷ rs) t c = omega (arith, here_few rs false (suc c))
here_few (Control x y ∷ rs) t c = omega (arith, here_few rs true (suc c))
here_few (Open ∷ rs) t c = omega arith
here_few (Bar ∷ rs) t c = omega arith
here_few (Close ∷ rs) t c = omega arith

-- of one area
pub each_few : (rs : List Record) (c n : ℕ) → length (lines_of (get_or (contours_from c rs) n [])) ≤ corners_in rs
each_few [] c zero = omega arith
each_few [] c (suc n) = omega arith
each_few (Area f ∷ rs) c zero = omega (arith, here_few rs false c)
each_few (Area f ∷ rs) c (suc n) = omega (arith, each_few rs c n)
each_few (First x y ∷ rs) c n = omega (arith, each_few rs (suc c) n)
each_few (Next x y ∷ rs) c n = omega (arith, each_few rs (suc c) n)
each_few (Control x y ∷ rs) c n = omega (arith, each_few rs (suc c) n)
each_few (Open ∷ rs) c n = omega (arith, each_few rs c n)
each_few (Bar ∷ rs) c n = omega (arith, each_few rs c n)
each_few (Close ∷ rs) c n = omega (arith, each_few rs c n)

-- ---- of all

areas_from : (rs : List Record) (a : ℕ) → tally (λ n. 1) 0 (entries_from a rs) ≡ areas_in rs
areas_from [] a = refl
areas_from (Area f ∷ rs) a = omega (arith, areas_from rs (suc a))
areas_from (First x y ∷ rs) a = omega (arith, areas_from rs a)
areas_from (Next x y ∷ rs) a = omega (arith, areas_from rs a)
areas_from (Control x y ∷ rs) a = omega (arith, areas_from rs a)
areas_from (Open ∷ rs) a = omega (arith, areas_from rs a)
areas_from (Bar ∷ rs) a = omega (arith, areas_from rs a)
areas_from (Close ∷ rs) a = omega (arith, areas_from rs a)

module _ (all : List (List Contour)) where
  abbrev lines_at : ℕ → ℕ
  lines_at n = length (lines_of (get_or all n []))

  here_is : (a : ℕ) (cs : List Contour) (l : List (List Contour)) → Follows all [] a (cs ∷ l) → lines_at a ≡ length (lines_of cs)
  here_is a cs l h = ap (λ (x : List Contour). length (lines_of x)) (follows_here all [] a cs l h)

  lines_from_law : (rs : List Record) (t : Bool) (a c : ℕ) → Follows all [] a (contours_from c rs)
      → length (pieces t rs) + (length (lines_of (contours_here c rs)) + tally lines_at 0 (entries_from a rs)) ≤ corners_in rs
  lines_from_law [] t a c h = omega arith
  lines_from_law (Area f ∷ rs) t a c h =
      omega (
        arith,
        here_is a (contours_here c rs) (contours_from c rs) h,
        lines_from_law rs false (suc a) c (follows_rest all [] a (contours_here c rs) (contours_from c rs) h),
      )
  lines_from_law (First x y ∷ rs) t a c h = omega (arith, lines_from_law rs false a (suc c) h, lines_first c (pieces false rs) (contours_here (suc c) rs))
  lines_from_law (Next x y ∷ rs) t a c h = omega (arith, lines_from_law rs false a (suc c) h)
  lines_from_law (Control x y ∷ rs) t a c h = omega (arith, lines_from_law rs true a (suc c) h)
  lines_from_law (Open ∷ rs) t a c h = omega (arith, lines_from_law rs false a c h)
  lines_from_law (Bar ∷ rs) t a c h = omega (arith, lines_from_law rs false a c h)
  lines_from_law (Close ∷ rs) t a c h = omega (arith, lines_from_law rs false a c h)

  records_from : (rs : List Record) (t : Bool) (a c : ℕ) → Follows all [] a (contours_from c rs)
      → length (pieces t rs) + (length (lines_of (contours_here c rs)) + tally (λ n. suc (lines_at n)) 1 (entries_from a rs)) ≤ length rs
  records_from [] t a c h = omega arith
  records_from (Area f ∷ rs) t a c h =
      omega (
        arith,
        here_is a (contours_here c rs) (contours_from c rs) h,
        records_from rs false (suc a) c (follows_rest all [] a (contours_here c rs) (contours_from c rs) h),
      )
  records_from (First x y ∷ rs) t a c h = omega (arith, records_from rs false a (suc c) h, lines_first c (pieces false rs) (contours_here (suc c) rs))
  records_from (Next x y ∷ rs) t a c h = omega (arith, records_from rs false a (suc c) h)
  records_from (Control x y ∷ rs) t a c h = omega (arith, records_from rs true a (suc c) h)
  records_from (Open ∷ rs) t a c h = omega (arith, records_from rs false a c h)
  records_from (Bar ∷ rs) t a c h = omega (arith, records_from rs false a c h)
  records_from (Close ∷ rs) t a c h = omega (arith, records_from rs false a c h)

module _ (rs : List Record) (s : Side ℕ) (e : entries_from 0 rs ≡ flat paint s) where
  abbrev pub count : ℕ → ℕ
  count n = lines_at (contours_from 0 rs) n

  pub plan_records : weigh (λ n. suc (count n)) 1 s ≤ length rs
  plan_records =
      omega (
        arith,
        weigh_tally (λ n. suc (count n)) 1 (entries_from 0 rs) s e,
        records_from (contours_from 0 rs) rs false 0 0 (follows_all (contours_from 0 rs) []),
      )

  pub plan_areas : weigh (λ n. 1) 0 s ≤ areas_in rs
  plan_areas = omega (arith, weigh_tally (λ n. 1) 0 (entries_from 0 rs) s e, areas_from rs 0)

  pub plan_lines : weigh (λ n. count n) 0 s ≤ corners_in rs
  plan_lines =
      omega (
        arith,
        weigh_tally (λ n. count n) 0 (entries_from 0 rs) s e,
        lines_from_law (contours_from 0 rs) rs false 0 0 (follows_all (contours_from 0 rs) []),
      )
