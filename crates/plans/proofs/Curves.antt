-- The curves of an accepted list of records are such as a drawing may have: where a curve ends, the grammar has remembered its first corner and its
-- control corner.
use mathlib.Core.Path.{◌≡◌, refl, sym, subst}
use mathlib.Core.Bool.{Bool, true, false, not}
use mathlib.Core.List.{List, [], ◌∷◌, ◌++◌}
use Prim.Native.Nat.{ℕ, zero, suc}
use lib.Dec.{T}
use lib.ListN.{get_or}
use Rattle.laws.proofs.Booleans.{clash}
use Rattle.curves.specs.Curves.{curve_fits}
use Rattle.std.specs.Prelude.{Some}
use Rattle.curves.specs.declared.Point.{Point}
use Rattle.geometry.specs.Edges.{counts}
use Rattle.geometry.specs.Windings.{Line, edge_of, lines_from, lines_of}
use Rattle.geometry.specs.code.Reach.{CurveIn}
use Rattle.geometry.proofs.Sentences.{BentBy, bent_sentence}
use Rattle.records.specs.declared.Record.{Record}
use Rattle.records.specs.declared.Record.TheVariants.{Area, First, Next, Control, Open, Bar, Close}
use Rattle.grammar.specs.declared.Counts.{Counts}
use Rattle.grammar.specs.Grammar.{Progress, after}
use Rattle.read.specs.Words.{joined, x_words, y_words}
use Rattle.drawing.specs.code.Held.{Acceptable}
use Rattle.ranges.specs.code.Valid.{CurvesIn, lines}
use Rattle.plans.specs.Plans.{pieces, contours_here, contours_from, drawing_from}
use Rattle.plans.specs.code.Source.{edge_from}
use Rattle.plans.proofs.Runs.{Runs, start, runs}
use Rattle.plans.proofs.Bent.{Before, neither, Bent, behind, bent_start}
use Rattle.plans.proofs.Lines.{rest_lines, edge_more}
use Rattle.plans.proofs.Numbers.{Follows, follows_here, follows_rest, follows_all}

not_false : (b : Bool) → not b ≡ false → b ≡ true
not_false true e = refl
not_false false e = clash (sym e)

module _ (xs ys : List ℕ) where
  -- from corner c on the tables have these coordinates
  abbrev pub From : ℕ → (us vs : List ℕ) → Type 0
  From c us vs = Follows xs 0 c us × Follows ys 0 c vs

  later : (c x y : ℕ) (us vs : List ℕ) → From c (x ∷ us) (y ∷ vs) → From (suc c) us vs
  later c x y us vs f = (follows_rest xs 0 c x us f.0, follows_rest ys 0 c y vs f.1)

  -- the line or curve from corner c, which the grammar remembers
  curve_here : (rs : List Record) (p : Progress) (c first : ℕ) → Runs p rs → From c (p.x0 ∷ x_words rs) (p.y0 ∷ y_words rs)
      → CurveIn (edge_of xs ys (edge_from rs c first))
  unfolding joined
  curve_here [] p c first h f = tt
  curve_here (Area g ∷ rs) p c first h f = tt
  curve_here (First x y ∷ rs) p c first h f = tt
  curve_here (Next x y ∷ rs) p c first h f = tt
  curve_here (Control u v ∷ []) p c first h f = clash (sym h.1.0)
  curve_here (Control u v ∷ Area g ∷ rs) p c first h f = clash h.1.0.fit
  curve_here (Control u v ∷ First x y ∷ rs) p c first h f = clash h.1.0.fit
  curve_here (Control u v ∷ Next x y ∷ rs) p c first h f =
      rw (
        follows_here xs 0 c p.x0 (x_words (Control u v ∷ Next x y ∷ rs)) f.0,
        follows_here ys 0 c p.y0 (y_words (Control u v ∷ Next x y ∷ rs)) f.1,
        f.0 1,
        f.1 1,
        f.0 2,
        f.1 2,
      )
      (not_false (curve_fits p.x0 p.y0 u v x y) h.1.0.curve)
  curve_here (Control u v ∷ Control x y ∷ rs) p c first h f = clash h.1.0.fit
  curve_here (Control u v ∷ Open ∷ rs) p c first h f = clash h.1.0.fit
  curve_here (Control u v ∷ Bar ∷ rs) p c first h f = clash h.1.0.fit
  curve_here (Control u v ∷ Close ∷ rs) p c first h f = clash h.1.0.fit
  curve_here (Open ∷ rs) p c first h f = tt
  curve_here (Bar ∷ rs) p c first h f = tt
  curve_here (Close ∷ rs) p c first h f = tt

  rest_curves : (rs : List Record) (p : Progress) (c first : ℕ) → Runs p rs → From c (x_words rs) (y_words rs) → CurvesIn xs ys (rest_lines rs c first)
  unfolding joined
  rest_curves [] p c first h f = tt
  rest_curves (Area g ∷ rs) p c first h f = tt
  rest_curves (First x y ∷ rs) p c first h f = tt
  rest_curves (Next x y ∷ rs) p c first h f = (
    curve_here rs (after p (Next x y)) c first h.1 f,
    rest_curves rs (after p (Next x y)) (suc c) first h.1 (later c x y (x_words rs) (y_words rs) f),
  )
  rest_curves (Control x y ∷ rs) p c first h f = rest_curves rs (after p (Control x y)) (suc c) first h.1 (later c x y (x_words rs) (y_words rs) f)
  rest_curves (Open ∷ rs) p c first h f = tt
  rest_curves (Bar ∷ rs) p c first h f = tt
  rest_curves (Close ∷ rs) p c first h f = tt

  curves_append : (x y : List Line) → CurvesIn xs ys x → CurvesIn xs ys y → CurvesIn xs ys (x ++ y)
  curves_append [] y h g = g
  curves_append (l ∷ x) y h g = (h.0, curves_append x y h.1 g)

  here_curves : (rs : List Record) (p : Progress) (b : Before) (c : ℕ) → Runs p rs → Bent b rs → From c (x_words rs) (y_words rs)
      → CurvesIn xs ys (lines_of (contours_here c rs))
  unfolding joined
  here_curves [] p b c h q f = tt
  here_curves (Area g ∷ rs) p b c h q f = tt
  here_curves (First x y ∷ rs) p b c h q f =
      let n = later c x y (x_words rs) (y_words rs) f in
      curves_append (lines_from c c (pieces false rs)) (lines_of (contours_here (suc c) rs))
      (subst (CurvesIn xs ys) (edge_more rs c c q.1)
      (curve_here rs (after p (First x y)) c c h.1 f, rest_curves rs (after p (First x y)) (suc c) c h.1 n))
      (here_curves rs (after p (First x y)) (behind (First x y)) (suc c) h.1 q.1 n)
  here_curves (Next x y ∷ rs) p b c h q f =
      here_curves rs (after p (Next x y)) (behind (Next x y)) (suc c) h.1 q.1 (later c x y (x_words rs) (y_words rs) f)
  here_curves (Control x y ∷ rs) p b c h q f =
      here_curves rs (after p (Control x y)) (behind (Control x y)) (suc c) h.1 q.1 (later c x y (x_words rs) (y_words rs) f)
  here_curves (Open ∷ rs) p b c h q f = tt
  here_curves (Bar ∷ rs) p b c h q f = tt
  here_curves (Close ∷ rs) p b c h q f = tt

  pub each_curves : (rs : List Record) (p : Progress) (b : Before) (c : ℕ) → Runs p rs → Bent b rs → From c (x_words rs) (y_words rs)
      → (n : ℕ)
      → CurvesIn xs ys (lines_of (get_or (contours_from c rs) n []))
  unfolding joined
  each_curves [] p b c h q f zero = tt
  each_curves [] p b c h q f (suc n) = tt
  each_curves (Area g ∷ rs) p b c h q f zero = here_curves rs (after p (Area g)) (behind (Area g)) c h.1 q.1 f
  each_curves (Area g ∷ rs) p b c h q f (suc n) = each_curves rs (after p (Area g)) (behind (Area g)) c h.1 q.1 f n
  each_curves (First x y ∷ rs) p b c h q f n =
      each_curves rs (after p (First x y)) (behind (First x y)) (suc c) h.1 q.1 (later c x y (x_words rs) (y_words rs) f) n
  each_curves (Next x y ∷ rs) p b c h q f n =
      each_curves rs (after p (Next x y)) (behind (Next x y)) (suc c) h.1 q.1 (later c x y (x_words rs) (y_words rs) f) n
  each_curves (Control x y ∷ rs) p b c h q f n =
      each_curves rs (after p (Control x y)) (behind (Control x y)) (suc c) h.1 q.1 (later c x y (x_words rs) (y_words rs) f) n
  each_curves (Open ∷ rs) p b c h q f n = each_curves rs (after p Open) (behind Open) c h.1 q.1 f n
  each_curves (Bar ∷ rs) p b c h q f n = each_curves rs (after p Bar) (behind Bar) c h.1 q.1 f n
  each_curves (Close ∷ rs) p b c h q f n = each_curves rs (after p Close) (behind Close) c h.1 q.1 f n

  -- each of these lines that is a curve counts where document 02's sentence says
  abbrev pub EachBy : List Line → Type 0
  EachBy [] = Unit {0}
  EachBy (l ∷ ls) =
      ((c : Point)
      → (edge_of xs ys l).control ≡ Some c
      → (x y : ℕ)
      → (T (counts (edge_of xs ys l) x y) → BentBy (edge_of xs ys l) c x y) × (BentBy (edge_of xs ys l) c x y → T (counts (edge_of xs ys l) x y)))
      × EachBy ls

  each_by : (ls : List Line) → CurvesIn xs ys ls → EachBy ls
  each_by [] h = tt
  each_by (l ∷ ls) h = ((λ c b x y. bent_sentence (edge_of xs ys l) c b h.0 x y), each_by ls h.1)

-- of an accepted drawing
pub curves_by_sentence : (rs : List Record) (k : Counts) → Acceptable rs k → (n : ℕ) → EachBy (x_words rs) (y_words rs) (lines (drawing_from rs) n)
curves_by_sentence rs k a n =
    let h : Runs start rs = runs rs k a.fold in
    each_by (x_words rs) (y_words rs) (lines (drawing_from rs) n)
    (each_curves (x_words rs) (y_words rs) rs start neither 0 h (bent_start rs h) (follows_all (x_words rs) 0, follows_all (y_words rs) 0) n)
