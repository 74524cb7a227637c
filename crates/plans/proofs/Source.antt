-- Each record but a control corner gives one element of what cell 0's stream is made from.
use Prim.Native.Nat.{ℕ, suc}
use mathlib.Core.Path.{◌≡◌, refl, sym, ap, ap₂, ◌∙◌}
use mathlib.Core.Bool.{Bool, true, false}
use mathlib.Core.List.{List, [], ◌∷◌, ◌++◌, map, append_assoc}
use lib.ListN.{get_or}
use lib.Dec.{ltb}
use lib.IntN.{pos}
use Rattle.laws.proofs.Booleans.{clash}
use Rattle.geometry.specs.Windings.{Line, Contour, contour, lines_from, lines_of}
use Rattle.records.specs.declared.Record.{Record}
use Rattle.records.specs.declared.Record.TheVariants.{Area, First, Next, Control, Open, Bar, Close}
use Rattle.grammar.specs.declared.Counts.{Counts}
use Rattle.grammar.specs.Grammar.{Progress, after}
use Rattle.drawing.specs.code.Held.{Acceptable}
use Rattle.pruning.specs.Sides.{Kind, paint, clip, Side, end, leaf, group, Entry, item, push, activate, pop, flat, map_side}
use Rattle.pruning.proofs.Sides.{flat_over, flat_is_over}
use Rattle.cells.specs.Segments.{drawn}
use Rattle.cells.specs.Drawings.{Drawing}
use Rattle.cells.specs.Streams.{Item, whole, source}
use Rattle.cells.specs.Elements.{Element, opens, bar, closes, named, segment, elements_of}
use Rattle.plans.specs.Plans.{pieces, contours_here, contours_from, entries_from, drawing_from}
use Rattle.plans.specs.code.Source.{edge_from, source_from, source_of}
use Rattle.plans.proofs.Runs.{Runs, start, runs}
use Rattle.plans.proofs.Bent.{Before, neither, corner, control, Bent, by_bends, no_run, bent_start}
use Rattle.plans.proofs.Lines.{rest_lines, edge_more}
use Rattle.plans.proofs.Fits.{entries_flat}
use Rattle.plans.proofs.Numbers.{Follows, follows_here, follows_rest, follows_all}

-- ---- the elements of lines

abbrev line_elements : List Line → List Element
line_elements [] = []
line_elements (l ∷ ls) = segment (drawn l) ∷ line_elements ls

lines_elements : (ls : List Line) → map segment (map drawn ls) ≡ line_elements ls
lines_elements [] = refl
lines_elements (l ∷ ls) = ap (λ z. segment (drawn l) ∷ z) (lines_elements ls)

elements_append : (x y : List Line) → line_elements (x ++ y) ≡ line_elements x ++ line_elements y
elements_append [] y = refl
elements_append (l ∷ x) y = ap (λ z. segment (drawn l) ∷ z) (elements_append x y)

-- ---- "Kind 2 stands straight after kind 1, 2 or 3, kind 3 after 2 or 3."

no_held : {A : Type 0} (b : Bool) → b ≡ false → b ≡ true → A
no_held b e h = clash (sym e ∙ h)

-- no contour is in progress
abbrev Between : Progress → Type 0
Between p = (p.run ≡ 0) × (p.bends ≡ false)

-- there, no next corner
no_next : (rs : List Record) (p : Progress) (c first : ℕ) → Between p → Runs p rs → rest_lines rs c first ≡ []
no_next [] p c first e h = refl
no_next (Area f ∷ rs) p c first e h = refl
no_next (First x y ∷ rs) p c first e h = refl
no_next (Next x y ∷ rs) p c first e h = no_run p.run e.0 (by_bends p.bends true (ltb 0 p.run) e.1 h.0.fit)
no_next (Control x y ∷ rs) p c first e h = no_run p.run e.0 (by_bends p.bends false (ltb 0 p.run) e.1 h.0.fit)
no_next (Open ∷ rs) p c first e h = refl
no_next (Bar ∷ rs) p c first e h = refl
no_next (Close ∷ rs) p c first e h = refl

-- no corner straight after a delimiter
no_corner : (rs : List Record) (p : Progress) (c : ℕ) → Between p → p.held ≡ false → Runs p rs → contours_here c rs ≡ []
no_corner [] p c e g h = refl
no_corner (Area f ∷ rs) p c e g h = refl
no_corner (First x y ∷ rs) p c e g h = no_held p.held g (by_bends p.bends false p.held e.1 h.0.fit)
no_corner (Next x y ∷ rs) p c e g h = no_run p.run e.0 (by_bends p.bends true (ltb 0 p.run) e.1 h.0.fit)
no_corner (Control x y ∷ rs) p c e g h = no_run p.run e.0 (by_bends p.bends false (ltb 0 p.run) e.1 h.0.fit)
no_corner (Open ∷ rs) p c e g h = refl
no_corner (Bar ∷ rs) p c e g h = refl
no_corner (Close ∷ rs) p c e g h = refl

-- ---- the elements of entries, with the contours of all areas

module _ (all : List (List Contour)) where
  abbrev lines_at : ℕ → List Line
  lines_at n = lines_of (get_or all n [])

  abbrev written : List (Entry ℕ) → List Element
  written [] = []
  written (item k n ∷ es) = named n (pos 0) ∷ (line_elements (lines_at n) ++ written es)
  written (push ∷ es) = opens ∷ written es
  written (activate ∷ es) = bar ∷ written es
  written (pop ∷ es) = closes ∷ written es

  -- the lines of a contour begun before; the contours up to the next area or delimiter; the entries
  abbrev elements_by : List Line → List Contour → List (Entry ℕ) → List Element
  elements_by ls cs es = line_elements ls ++ (line_elements (lines_of cs) ++ written es)

  -- behind a delimiter there is neither
  after_mark : (rs : List Record) (p : Progress) (a c first : ℕ) → Between p → p.held ≡ false → Runs p rs
      → elements_by (rest_lines rs c first) (contours_here c rs) (entries_from a rs) ≡ written (entries_from a rs)
  after_mark rs p a c first e g h = ap₂ (λ ls cs. elements_by ls cs (entries_from a rs)) (no_next rs p c first e h) (no_corner rs p c e g h)

  first_elements : (rs : List Record) (c : ℕ) (es : List (Entry ℕ)) → Bent corner rs
      → segment (drawn (edge_from rs c c)) ∷ elements_by (rest_lines rs (suc c) c) (contours_here (suc c) rs) es
      ≡ line_elements (lines_of (contour c (pieces false rs) ∷ contours_here (suc c) rs)) ++ written es
  first_elements rs c es q =
      ap (λ z. line_elements z ++ (line_elements (lines_of (contours_here (suc c) rs)) ++ written es)) (edge_more rs c c q)
      ∙ (sym (append_assoc (line_elements (lines_from c c (pieces false rs))) (line_elements (lines_of (contours_here (suc c) rs))) (written es))
      ∙ ap (λ z. z ++ written es) (sym (elements_append (lines_from c c (pieces false rs)) (lines_of (contours_here (suc c) rs)))))

  source_by : (rs : List Record) (p : Progress) (b : Before) (a c first : ℕ) → Runs p rs → Bent b rs → Follows all [] a (contours_from c rs)
      → source_from a c first rs ≡ elements_by (rest_lines rs c first) (contours_here c rs) (entries_from a rs)
  source_by [] p b a c first h q l = refl
  source_by (Area f ∷ rs) p b a c first h q l =
      ap (λ z. named a (pos 0) ∷ z)
      (source_by rs (after p (Area f)) neither (suc a) c first h.1 q.1 (follows_rest all [] a (contours_here c rs) (contours_from c rs) l)
      ∙ ap₂ (λ ls cs. elements_by ls cs (entries_from (suc a) rs)) (no_next rs (after p (Area f)) c first (refl, refl) h.1)
      (sym (follows_here all [] a (contours_here c rs) (contours_from c rs) l)))
  source_by (First x y ∷ rs) p b a c first h q l =
      ap (λ z. segment (drawn (edge_from rs c c)) ∷ z) (source_by rs (after p (First x y)) corner a (suc c) c h.1 q.1 l)
      ∙ first_elements rs c (entries_from a rs) q.1
  source_by (Next x y ∷ rs) p b a c first h q l =
      ap (λ z. segment (drawn (edge_from rs c first)) ∷ z) (source_by rs (after p (Next x y)) corner a (suc c) first h.1 q.1 l)
  source_by (Control x y ∷ rs) p b a c first h q l = source_by rs (after p (Control x y)) control a (suc c) first h.1 q.1 l
  source_by (Open ∷ rs) p b a c first h q l =
      ap (λ z. opens ∷ z) (source_by rs (after p Open) neither a c first h.1 q.1 l ∙ after_mark rs (after p Open) a c first (refl, refl) refl h.1)
  source_by (Bar ∷ rs) p b a c first h q l =
      ap (λ z. bar ∷ z) (source_by rs (after p Bar) neither a c first h.1 q.1 l ∙ after_mark rs (after p Bar) a c first (refl, refl) refl h.1)
  source_by (Close ∷ rs) p b a c first h q l =
      ap (λ z. closes ∷ z)
      (source_by rs (after p Close) neither a c first h.1 q.1 l ∙ after_mark rs (after p Close) a c first (refl, refl) refl h.1)

-- ---- the elements of the drawing

module _ (D : Drawing) where
  side_elements : (k : Kind) (s : Side ℕ) (z : List (Entry ℕ)) (w : List (Entry Item)) → elements_of w ≡ written D.contours z
      → elements_of (flat_over k (map_side (whole D) s) w) ≡ written D.contours (flat_over k s z)
  side_elements k end z w e = e
  side_elements k (leaf n t) z w e = ap₂ (λ x y. named n (pos 0) ∷ (x ++ y)) (lines_elements (lines_at D.contours n)) (side_elements k t z w e)
  side_elements k (group l r t) z w e =
      ap (λ x. opens ∷ x)
      (side_elements clip l (activate ∷ flat_over k r (pop ∷ flat_over k t z))
      (activate ∷ flat_over k (map_side (whole D) r) (pop ∷ flat_over k (map_side (whole D) t) w))
      (ap (λ x. bar ∷ x)
      (side_elements k r (pop ∷ flat_over k t z) (pop ∷ flat_over k (map_side (whole D) t) w) (ap (λ x. closes ∷ x) (side_elements k t z w e)))))

  drawing_elements : elements_of (flat paint (source D)) ≡ written D.contours (flat paint D.plan)
  drawing_elements =
      ap elements_of (flat_is_over paint (source D))
      ∙ (side_elements paint D.plan [] [] refl ∙ ap (written D.contours) (sym (flat_is_over paint D.plan)))

pub source_elements : (rs : List Record) (k : Counts) → Acceptable rs k → elements_of (flat paint (source (drawing_from rs))) ≡ source_of rs
source_elements rs k a =
    let h : Runs start rs = runs rs k a.fold in
    drawing_elements (drawing_from rs)
    ∙ (ap (written (contours_from 0 rs)) (sym (entries_flat rs h))
    ∙ sym
    (source_by (contours_from 0 rs) rs start neither 0 0 0 h (bent_start rs h) (follows_all (contours_from 0 rs) [])
    ∙ after_mark (contours_from 0 rs) rs start 0 0 0 (refl, refl) refl h))
