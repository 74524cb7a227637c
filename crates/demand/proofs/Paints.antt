-- The areas that a drawing shows are among its own, so tables that hold it give their material and their colour.
use mathlib.Core.Path.{◌≡◌, refl, sym, ap, ◌∙◌, subst}
use mathlib.Core.Bool.{Bool, true, false, cond, ◌||◌}
use mathlib.Core.List.{List, [], ◌∷◌, ◌++◌}
use Prim.Native.Nat.{ℕ, zero, suc, ◌<◌}
use lib.Dec.{eqb}
use lib.ListN.{length}
use borrow.Author.Tests.{eqb-true}
use Rattle.laws.proofs.Booleans.{clash}
use Rattle.records.specs.declared.Fields.{Fields}
use Rattle.paint.specs.Sets.{has, among, each_from, each}
use Rattle.paint.specs.Areas.{paint_at, material_from, material_of}
use Rattle.paint.specs.Colours.{add, start, mix_of, over, sums_of, rounded, colour_of}
use Rattle.paint.specs.declared.area.Paint.{Paint}
use Rattle.paint.specs.declared.colour.Mix.{Mix}
use Rattle.paint.proofs.Sets.{has_set}
use Rattle.pruning.specs.Sides.{Kind, paint, Side, end, leaf, group}
use Rattle.pruning.specs.Meaning.{clip_passes, shown_all, up_to}
use Rattle.cells.specs.Cells.{Position}
use Rattle.cells.specs.Drawings.{Drawing, passes_at, is_opaque, shown_at}
use Rattle.cells.specs.Streams.{On}
use Rattle.stream.specs.declared.Bounds.{Bounds}
use Rattle.ranges.specs.code.Valid.{Valid}
use Rattle.ranges.specs.Held.{Held}
use Rattle.ranges.proofs.Reading.{fields_are}
use Rattle.demand.specs.NoTree.{paint_of, set_shown, material_shown, colour_shown, sums_shown}

-- ---- what is shown is on the plan
module _ (P : ℕ → Type 0) where
  abbrev All : List ℕ → Type 0
  All [] = Unit {0}
  All (n ∷ ns) = P n × All ns

  all_append : (x y : List ℕ) → All x → All y → All (x ++ y)
  all_append [] y h g = g
  all_append (n ∷ x) y h g = (h.0, all_append x y h.1 g)

  all_cond : (b : Bool) (x : List ℕ) → All x → All (cond b x [])
  all_cond true x h = h
  all_cond false x h = tt

  all_past : (b : Bool) (x : List ℕ) → All x → All (cond b [] x)
  all_past true x h = tt
  all_past false x h = h

  all_shown : (pass : ℕ → Bool) (k : Kind) (s : Side ℕ) → On (λ k n. P n) k s → All (shown_all pass s)
  all_shown pass k end o = tt
  all_shown pass k (leaf n t) o = all_append (cond (pass n) (n ∷ []) []) (shown_all pass t) (all_cond (pass n) (n ∷ []) (o.0, tt)) (all_shown pass k t o.1)
  all_shown pass k (group l r t) o =
      all_append (cond (clip_passes pass l) (shown_all pass r) []) (shown_all pass t)
      (all_cond (clip_passes pass l) (shown_all pass r) (all_shown pass k r o.1)) (all_shown pass k t o.2)

  all_up : (opaque : ℕ → Bool) (x : List ℕ) → All x → All (up_to opaque x)
  all_up opaque [] h = tt
  all_up opaque (n ∷ x) h = (h.0, all_past (opaque n) (up_to opaque x) (all_up opaque x h.1))

  all_among : (x : List ℕ) → All x → (n : ℕ) → among x n ≡ true → P n
  all_among [] h n e = clash e
  all_among (m ∷ x) h n e = go (eqb m n) refl e (all_among x h.1 n)
    where
      go : (b : Bool) → eqb m n ≡ b → (b || among x n) ≡ true → (among x n ≡ true → P n) → P n
      go true q r f = subst P (eqb-true m n q) h.0
      go false q r f = f r

pub shown_below : (D : Drawing) → Valid D → (p : Position) (n : ℕ) → has (set_shown D p) n ≡ true → n < length D.fields
shown_below D ok p n e =
    all_among (λ m. m < length D.fields) (shown_at D p)
    (all_up (λ m. m < length D.fields) (is_opaque D) (shown_all (passes_at D p) D.plan)
    (all_shown (λ m. m < length D.fields) (passes_at D p) paint D.plan ok.numbers))
    n (sym (has_set (shown_at D p) n) ∙ e)

-- ---- material and colour go by the areas of the set
module _ (f g : ℕ → Paint) (set : ℕ) (same : (n : ℕ) → has set n ≡ true → f n ≡ g n) where
  material_from_law : (i n : ℕ) → material_from f set i n ≡ material_from g set i n
  material_from_law i zero = refl
  material_from_law i (suc n) = go (has set i) refl (material_from_law (suc i) n)
    where
      go : (b : Bool) → has set i ≡ b → material_from f set (suc i) n ≡ material_from g set (suc i) n
          → cond b (f i).material (material_from f set (suc i) n) ≡ cond b (g i).material (material_from g set (suc i) n)
      go true e r = ap (λ (p : Paint). p.material) (same i e)
      go false e r = r

  pub material_same : material_of f set ≡ material_of g set
  unfolding material_of
  material_same = material_from_law 0 64

  each_from_law : (i n : ℕ) (m : Mix) → each_from set i n (λ k m. add (f k) m) m ≡ each_from set i n (λ k m. add (g k) m) m
  each_from_law i zero m = refl
  each_from_law i (suc n) m =
      each_from_law (suc i) n (cond (has set i) (add (f i) m) m) ∙ ap (each_from set (suc i) n (λ k m. add (g k) m)) (go (has set i) refl)
    where
      go : (b : Bool) → has set i ≡ b → cond b (add (f i) m) m ≡ cond b (add (g i) m) m
      go true e = ap (λ (p : Paint). add p m) (same i e)
      go false e = refl

  mix_same : mix_of f set ≡ mix_of g set
  unfolding mix_of each
  mix_same = each_from_law 0 64 start

  pub sums_same : sums_of f set ≡ sums_of g set
  sums_same = ap over mix_same

  pub colour_same : colour_of f set ≡ colour_of g set
  colour_same = ap rounded sums_same

-- ---- in tables that hold the drawing
module _ (D : Drawing) (ok : Valid D) (areas xs ys : List ℕ) (b : Bounds) (H : Held areas xs ys b D) (p : Position) where
  paint_same : (n : ℕ) → has (set_shown D p) n ≡ true → paint_at areas n ≡ paint_of D n
  paint_same n e =
      ap (λ (f : Fields). record { alpha = f.alpha; red = f.red; green = f.green; blue = f.blue; material = f.material })
      (fields_are D areas xs ys b H n (shown_below D ok p n e))

  pub material_held : material_of (paint_at areas) (set_shown D p) ≡ material_shown D p
  material_held = material_same (paint_at areas) (paint_of D) (set_shown D p) paint_same

  pub sums_held : sums_of (paint_at areas) (set_shown D p) ≡ sums_shown D p
  sums_held = sums_same (paint_at areas) (paint_of D) (set_shown D p) paint_same

  pub colour_held : colour_of (paint_at areas) (set_shown D p) ≡ colour_shown D p
  colour_held = colour_same (paint_at areas) (paint_of D) (set_shown D p) paint_same
