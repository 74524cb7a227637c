-- The numbers of a drawing made from records: its areas, their roles and fields, and its corners.
use Prim.Native.Nat.{ℕ, zero, suc, ◌+◌, ◌≤◌, ◌<◌}
use mathlib.Core.Path.{◌≡◌, refl, sym, ap, ◌∙◌, subst}
use mathlib.Core.Bool.{Bool, true, false}
use mathlib.Core.List.{List, [], ◌∷◌, ◌++◌}
use native.Mathlib.Omega.{arith}
use native.Mathlib.Nat.{add-suc, suc-add, add-zero, zero-add}
use lib.ListN.{length, get_or}
use Rattle.laws.proofs.Booleans.{and_left, and_right}
use Rattle.geometry.specs.Windings.{Line, Piece, straight, bent, lines_from, lines_of}
use Rattle.records.specs.declared.Fields.{Fields}
use Rattle.records.specs.declared.Record.{Record}
use Rattle.records.specs.declared.Record.TheVariants.{Area, First, Next, Control, Open, Bar, Close}
use Rattle.records.specs.Record.{area_range, corner_range, in_range}
use Rattle.grammar.specs.Lists.{areas_in, corners_in}
use Rattle.read.specs.Words.{joined, x_words, y_words, all_range}
use Rattle.pruning.specs.Sides.{Kind, paint, clip, Side, end, leaf, group, Entry, item, push, activate, pop, flat}
use Rattle.cells.specs.Drawings.{no_fields, kind_of}
use Rattle.cells.specs.Streams.{Each, On}
use Rattle.ranges.specs.code.Valid.{CornersBelow}
use Rattle.plans.specs.Plans.{fields_in, pieces, contours_here, contours_from, entries_from}

-- ---- the areas' fields

pub fields_length : (rs : List Record) → length (fields_in rs) ≡ areas_in rs
fields_length [] = refl
fields_length (Area f ∷ rs) = omega (arith, fields_length rs)
fields_length (First x y ∷ rs) = omega (arith, fields_length rs)
fields_length (Next x y ∷ rs) = omega (arith, fields_length rs)
fields_length (Control x y ∷ rs) = omega (arith, fields_length rs)
fields_length (Open ∷ rs) = omega (arith, fields_length rs)
fields_length (Bar ∷ rs) = omega (arith, fields_length rs)
fields_length (Close ∷ rs) = omega (arith, fields_length rs)

range_here : (r : Record) (rs : List Record) → all_range (r ∷ rs) ≡ true → in_range r ≡ true
range_here r rs h = and_left (in_range r) (all_range rs) h

range_rest : (r : Record) (rs : List Record) → all_range (r ∷ rs) ≡ true → all_range rs ≡ true
range_rest r rs h = and_right (in_range r) (all_range rs) h

pub fields_range : (rs : List Record) → all_range rs ≡ true → (n : ℕ) → n < length (fields_in rs) → area_range (get_or (fields_in rs) n no_fields) ≡ true
fields_range [] h n l = absurd (omega arith)
fields_range (Area f ∷ rs) h zero l = range_here (Area f) rs h
fields_range (Area f ∷ rs) h (suc n) l = fields_range rs (range_rest (Area f) rs h) n (omega arith)
fields_range (First x y ∷ rs) h n l = fields_range rs (range_rest (First x y) rs h) n l
fields_range (Next x y ∷ rs) h n l = fields_range rs (range_rest (Next x y) rs h) n l
fields_range (Control x y ∷ rs) h n l = fields_range rs (range_rest (Control x y) rs h) n l
fields_range (Open ∷ rs) h n l = fields_range rs (range_rest Open rs h) n l
fields_range (Bar ∷ rs) h n l = fields_range rs (range_rest Bar rs h) n l
fields_range (Close ∷ rs) h n l = fields_range rs (range_rest Close rs h) n l

-- ---- the corners' coordinates

pub corners_range : (rs : List Record)
    → all_range rs ≡ true
    → (n : ℕ)
    → n < length (x_words rs)
    → corner_range (get_or (x_words rs) n 0) (get_or (y_words rs) n 0) ≡ true
unfolding joined
corners_range [] h n l = absurd (omega arith)
corners_range (Area f ∷ rs) h n l = corners_range rs (range_rest (Area f) rs h) n l
corners_range (First x y ∷ rs) h zero l = range_here (First x y) rs h
corners_range (First x y ∷ rs) h (suc n) l = corners_range rs (range_rest (First x y) rs h) n (omega arith)
corners_range (Next x y ∷ rs) h zero l = range_here (Next x y) rs h
corners_range (Next x y ∷ rs) h (suc n) l = corners_range rs (range_rest (Next x y) rs h) n (omega arith)
corners_range (Control x y ∷ rs) h zero l = range_here (Control x y) rs h
corners_range (Control x y ∷ rs) h (suc n) l = corners_range rs (range_rest (Control x y) rs h) n (omega arith)
corners_range (Open ∷ rs) h n l = corners_range rs (range_rest Open rs h) n l
corners_range (Bar ∷ rs) h n l = corners_range rs (range_rest Bar rs h) n l
corners_range (Close ∷ rs) h n l = corners_range rs (range_rest Close rs h) n l

-- ---- the areas of the plan: their numbers and roles

-- the areas of a list, of which those from a on are those of records
abbrev pub Follows : {A : Type 0} → List A → A → ℕ → List A → Type 0
Follows all d a l = (j : ℕ) → get_or all (a + j) d ≡ get_or l j d

pub follows_here : {A : Type 0} (all : List A) (d : A) (a : ℕ) (x : A) (l : List A) → Follows all d a (x ∷ l) → get_or all a d ≡ x
follows_here all d a x l h = ap (λ n. get_or all n d) (sym (add-zero a)) ∙ h 0

pub follows_rest : {A : Type 0} (all : List A) (d : A) (a : ℕ) (x : A) (l : List A) → Follows all d a (x ∷ l) → Follows all d (suc a) l
follows_rest all d a x l h j = ap (λ n. get_or all n d) (suc-add a j ∙ sym (add-suc a j)) ∙ h (suc j)

pub follows_all : {A : Type 0} (all : List A) (d : A) → Follows all d 0 all
follows_all all d j = ap (λ n. get_or all n d) (zero-add j)

module _ (all : List Fields) where
  abbrev pub Role : Kind → ℕ → Type 0
  Role k n = kind_of (get_or all n no_fields).role ≡ k

  roles_from : (rs : List Record) (a : ℕ) → Follows all no_fields a (fields_in rs) → Each Role (entries_from a rs)
  roles_from [] a h = tt
  roles_from (Area f ∷ rs) a h = (
    ap (λ (g : Fields). kind_of g.role) (follows_here all no_fields a f (fields_in rs) h),
    roles_from rs (suc a) (follows_rest all no_fields a f (fields_in rs) h),
  )
  roles_from (First x y ∷ rs) a h = roles_from rs a h
  roles_from (Next x y ∷ rs) a h = roles_from rs a h
  roles_from (Control x y ∷ rs) a h = roles_from rs a h
  roles_from (Open ∷ rs) a h = roles_from rs a h
  roles_from (Bar ∷ rs) a h = roles_from rs a h
  roles_from (Close ∷ rs) a h = roles_from rs a h

abbrev pub Numbered : ℕ → Kind → ℕ → Type 0
Numbered m k n = n < m

numbers_from : (m : ℕ) (rs : List Record) (a : ℕ) → a + areas_in rs ≤ m → Each (Numbered m) (entries_from a rs)
numbers_from m [] a h = tt
numbers_from m (Area f ∷ rs) a h = (omega arith, numbers_from m rs (suc a) (omega arith))
numbers_from m (First x y ∷ rs) a h = numbers_from m rs a (omega arith)
numbers_from m (Next x y ∷ rs) a h = numbers_from m rs a (omega arith)
numbers_from m (Control x y ∷ rs) a h = numbers_from m rs a (omega arith)
numbers_from m (Open ∷ rs) a h = numbers_from m rs a (omega arith)
numbers_from m (Bar ∷ rs) a h = numbers_from m rs a (omega arith)
numbers_from m (Close ∷ rs) a h = numbers_from m rs a (omega arith)

-- what holds of each item of a stream holds of each item of its side
each_parts : {A : Type 0} (P : Kind → A → Type 0) (x y : List (Entry A)) → Each P (x ++ y) → Each P x × Each P y
each_parts P [] y h = (tt, h)
each_parts P (item k a ∷ x) y h = let r = each_parts P x y h.1 in ((h.0, r.0), r.1)
each_parts P (push ∷ x) y h = each_parts P x y h
each_parts P (activate ∷ x) y h = each_parts P x y h
each_parts P (pop ∷ x) y h = each_parts P x y h

each_on : {A : Type 0} (P : Kind → A → Type 0) (k : Kind) (s : Side A) → Each P (flat k s) → On P k s
each_on P k end h = tt
each_on P k (leaf a t) h = (h.0, each_on P k t h.1)
each_on P k (group l r t) h =
    let u = each_parts P (flat clip l) (activate ∷ (flat k r ++ (pop ∷ flat k t))) h in
    let w = each_parts P (flat k r) (pop ∷ flat k t) u.1 in
    (each_on P clip l u.0, each_on P k r w.0, each_on P k t w.1)

module _ (rs : List Record) (s : Side ℕ) (e : entries_from 0 rs ≡ flat paint s) where
  pub plan_roles : On (Role (fields_in rs)) paint s
  plan_roles =
      each_on (Role (fields_in rs)) paint s (subst (Each (Role (fields_in rs))) e (roles_from (fields_in rs) rs 0 (follows_all (fields_in rs) no_fields)))

  pub plan_numbers : On (Numbered (length (fields_in rs))) paint s
  plan_numbers =
      each_on (Numbered (length (fields_in rs))) paint s
      (subst (Each (Numbered (length (fields_in rs)))) e (numbers_from (length (fields_in rs)) rs 0 (omega (arith, fields_length rs))))

-- ---- the corners of the lines

-- the corners of a contour that has these pieces, control corners among them
abbrev span : List Piece → ℕ
span [] = 1
span (straight ∷ ps) = 1 + span ps
span (bent ∷ ps) = 2 + span ps

span_some : (ps : List Piece) → 1 ≤ span ps
span_some [] = omega arith
span_some (straight ∷ ps) = omega arith
span_some (bent ∷ ps) = omega (arith, span_some ps)

-- one corner more where a control corner stands before these records
abbrev extra : Bool → ℕ
extra true = 1
extra false = 0

span_few : (rs : List Record) (b : Bool) → span (pieces b rs) ≤ 1 + extra b + corners_in rs
span_few [] b = omega arith
span_few (Area f ∷ rs) b = omega arith
span_few (First x y ∷ rs) b = omega arith
span_few (Next x y ∷ rs) true = omega (arith, span_few rs false)
span_few (Next x y ∷ rs) false = omega (arith, span_few rs false)
span_few (Control x y ∷ rs) b = omega (arith, span_few rs true)
span_few (Open ∷ rs) b = omega arith
span_few (Bar ∷ rs) b = omega arith
span_few (Close ∷ rs) b = omega arith

below_from : (m first c : ℕ) (ps : List Piece) → first < m → c + span ps ≤ m → CornersBelow m (lines_from first c ps)
below_from m first c [] h g = ((omega arith, h), tt)
below_from m first c (straight ∷ ps) h g = ((omega arith, omega (arith, span_some ps)), below_from m first (suc c) ps h (omega arith))
below_from m first c (bent ∷ ps) h g = (omega (arith, span_some ps), below_from m first (suc (suc c)) ps h (omega arith))

below_append : (m : ℕ) (x y : List Line) → CornersBelow m x → CornersBelow m y → CornersBelow m (x ++ y)
below_append m [] y h g = g
below_append m (l ∷ x) y h g = (h.0, below_append m x y h.1 g)

below_here : (m : ℕ) (rs : List Record) (c : ℕ) → c + corners_in rs ≤ m → CornersBelow m (lines_of (contours_here c rs))
below_here m [] c h = tt
below_here m (Area f ∷ rs) c h = tt
below_here m (First x y ∷ rs) c h =
    below_append m (lines_from c c (pieces false rs)) (lines_of (contours_here (suc c) rs))
    (below_from m c c (pieces false rs) (omega arith) (omega (arith, span_few rs false))) (below_here m rs (suc c) (omega arith))
below_here m (Next x y ∷ rs) c h = below_here m rs (suc c) (omega arith)
below_here m (Control x y ∷ rs) c h = below_here m rs (suc c) (omega arith)
below_here m (Open ∷ rs) c h = tt
below_here m (Bar ∷ rs) c h = tt
below_here m (Close ∷ rs) c h = tt

pub below_each : (m : ℕ) (rs : List Record) (c : ℕ) → c + corners_in rs ≤ m → (n : ℕ) → CornersBelow m (lines_of (get_or (contours_from c rs) n []))
below_each m [] c h zero = tt
below_each m [] c h (suc n) = tt
below_each m (Area f ∷ rs) c h zero = below_here m rs c (omega arith)
below_each m (Area f ∷ rs) c h (suc n) = below_each m rs c (omega arith) n
below_each m (First x y ∷ rs) c h n = below_each m rs (suc c) (omega arith) n
below_each m (Next x y ∷ rs) c h n = below_each m rs (suc c) (omega arith) n
below_each m (Control x y ∷ rs) c h n = below_each m rs (suc c) (omega arith) n
below_each m (Open ∷ rs) c h n = below_each m rs c (omega arith) n
below_each m (Bar ∷ rs) c h n = below_each m rs c (omega arith) n
below_each m (Close ∷ rs) c h n = below_each m rs c (omega arith) n
