-- An accepted list of records: each record fits where it stands, ends no curve out of order or span and no short contour, and is
-- within the limits.
use Rattle.std.specs.Prelude.{Ok, Err}
use Rattle.refusals.specs.Refusals.{at_place}
use Prim.Native.Nat.{ℕ, ◌+◌, ◌≤◌}
use mathlib.Core.Path.{◌≡◌, refl, sym, ap, ◌∙◌}
use mathlib.Core.Bool.{Bool, true, false, cond}
use mathlib.Core.List.{List, [], ◌∷◌, map}
use native.Mathlib.Omega.{arith}
use lib.ListN.{length}
use Rattle.laws.proofs.Booleans.{clash}
use Rattle.refusals.specs.declared.Refusal.{Refusal}
use Rattle.refusals.specs.declared.Refusal.TheVariants.{Unfit, Short, Limit, Curve}
use Rattle.groups.specs.Sides.{is_empty}
use Rattle.records.specs.declared.Record.{Record}
use Rattle.records.specs.Record.{Decoded}
use Rattle.grammar.specs.declared.Counts.{Counts}
use Rattle.grammar.specs.Grammar.{Progress, progress, breaks, stands, is_next, fits, is_short, ends_short, in_limit, after}
use Rattle.grammar.specs.Grammar.{Course, at, stopped, course, counts, final, checked}
use Rattle.grammar.specs.Lists.{areas_in, corners_in}
use Rattle.grammar.proofs.Laws.{sound, stays}
use Rattle.drawing.specs.code.Held.{Acceptable}
use Rattle.drawing.proofs.Lists.{goods_map}

-- a record is accepted here
pub record Accepts (p : Progress) (r : Record) : Type 0 where
  pub curve : breaks p r ≡ false
  pub fit : fits p r ≡ true
  pub whole : ends_short p r ≡ false
  pub room : in_limit p r ≡ true

-- records are accepted from here to the end
abbrev pub Runs : Progress → List Record → Type 0
Runs p [] = (p.bends ≡ false) × (is_empty p.groups ≡ true)
Runs p (r ∷ rs) = Accepts p r × Runs (after p r) rs

stopped_not : {A : Type 0} (x : Refusal) (j i n : ℕ) (ds : List Decoded) (k : Counts) → final (course (stopped x j) i ds) n ≡ Ok k → A
stopped_not x j i n ds k e = absurd (cc (sym (ap (λ (c : Course). final c n) (stays x j i ds)) ∙ e))

ended : (p : Progress) (n : ℕ) (k : Counts) → final (at p) n ≡ Ok k → Runs p []
ended p n k = go p.bends (is_empty p.groups) (is_short p.run)
  where
    go : (t a b : Bool)
        → cond t (Err (at_place Unfit n)) (cond a (cond b (Err (at_place Short n)) (Ok (counts n p.areas p.corners))) (Err (at_place Unfit n))) ≡ Ok k
        → (t ≡ false) × (a ≡ true)
    go true a b e = absurd cc
    go false false b e = absurd cc
    go false true b e = (refl, refl)

runs_on : (rs : List Record) (p : Progress) (i n : ℕ) (k : Counts) → final (course (at p) i (map Ok rs)) n ≡ Ok k → Runs p rs
unfolding course
runs_on [] p i n k h = ended p n k h
runs_on (r ∷ rs) p i n k h = go (breaks p r) (fits p r) (ends_short p r) (in_limit p r) refl refl refl refl (runs_on rs (after p r) (i + 1) n k) h
  where
    go : (t a b d : Bool)
        → breaks p r ≡ t
        → fits p r ≡ a
        → ends_short p r ≡ b
        → in_limit p r ≡ d
        → (final (course (at (after p r)) (i + 1) (map Ok rs)) n ≡ Ok k → Runs (after p r) rs)
        → final
        (course (cond t (stopped Curve i) (cond a (cond b (stopped Short i) (cond d (at (after p r)) (stopped Limit i))) (stopped Unfit i))) (i + 1)
        (map Ok rs))
        n
        ≡ Ok k
        → Runs p (r ∷ rs)
    go true a b d et ea eb ed rest e = stopped_not Curve i (i + 1) n (map Ok rs) k e
    go false false b d et ea eb ed rest e = stopped_not Unfit i (i + 1) n (map Ok rs) k e
    go false true true d et ea eb ed rest e = stopped_not Short i (i + 1) n (map Ok rs) k e
    go false true false false et ea eb ed rest e = stopped_not Limit i (i + 1) n (map Ok rs) k e
    go false true false true et ea eb ed rest e = (record { curve = et; fit = ea; whole = eb; room = ed }, rest e)

abbrev pub start : Progress
start = progress [] false 0 0

pub runs : (rs : List Record) (k : Counts) → checked (map Ok rs) ≡ Ok k → Runs start rs
unfolding checked
runs rs k e = runs_on rs start 0 (length (map Ok rs)) k e

-- a record that is no next corner, where it is accepted, stands where it may
pub stood : (p : Progress) (r : Record) → is_next r ≡ false → fits p r ≡ true → stands p r ≡ true
stood p r e h = go p.bends h
  where
    go : (b : Bool) → cond b (is_next r) (stands p r) ≡ true → stands p r ≡ true
    go true h = clash (sym e ∙ h)
    go false h = h

-- how many areas and corners there are
pub record Counted (rs : List Record) (k : Counts) : Type 0 where
  pub areas : k.areas ≡ areas_in rs
  pub corners : k.corners ≡ corners_in rs
  pub few_areas : areas_in rs ≤ 64
  pub few_corners : corners_in rs ≤ 2048

pub counted : (rs : List Record) (k : Counts) → Acceptable rs k → Counted rs k
counted rs k a =
    let s = sound (map Ok rs) k a.fold in
    let e : k.areas ≡ areas_in rs = s.areas ∙ ap areas_in (goods_map rs) in
    let f : k.corners ≡ corners_in rs = s.corners ∙ ap corners_in (goods_map rs) in
    record { areas = e; corners = f; few_areas = omega (arith, s.few); few_corners = omega (arith, s.many) }
