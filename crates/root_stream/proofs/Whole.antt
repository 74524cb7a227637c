-- What cell 0's stream is made from, of a drawing in tables that hold it: its words pass the check of streams and say the drawing's own stream.
use mathlib.Core.Path.{◌≡◌, refl, sym, ap, subst, ◌∙◌}
use mathlib.Core.Bool.{true, false}
use mathlib.Core.List.{List, [], ◌∷◌, map}
use Prim.Native.Nat.{ℕ, suc, ◌≤◌, ◌<◌}
use native.Mathlib.Omega.{arith}
use lib.Dec.{eqb}
use lib.ListN.{length, length-map}
use lib.IntN.{pos}
use Rattle.geometry.specs.FillRules as FillRules
use Rattle.geometry.specs.Windings.{Line, edge_of}
use Rattle.geometry.specs.code.Reach.{LineBelow}
use Rattle.records.specs.declared.Fields.{Fields}
use Rattle.records.specs.declared.Record.{Record}
use Rattle.records.specs.declared.Record.TheVariants.{Area, First, Next, Control, Open, Bar, Close}
use Rattle.std.specs.Prelude.{Ok}
use Rattle.grammar.specs.declared.Counts.{Counts}
use Rattle.drawing.specs.Tables.{area_row}
use Rattle.drawing.specs.code.Held.{Acceptable}
use Rattle.pruning.specs.Sides.{Kind, paint, clip, Side, end, leaf, group, flat, map_side}
use Rattle.cells.specs.Cells.{Cell, root}
use Rattle.cells.specs.Segments.{Segment, drawn}
use Rattle.cells.specs.Drawings.{Drawing, fields_of, kind_of, rule_of}
use Rattle.cells.specs.Streams.{Item, On, whole, source, made}
use Rattle.cells.specs.Elements.{elements_of, role_in, OnSide, stream_of}
use Rattle.cells.proofs.Each.{each_mapped}
use Rattle.cells.proofs.Elements as Elements
use Rattle.stream.specs.declared.Bounds.{Bounds}
use Rattle.records.specs.Record.{is_good}
use Rattle.stream.specs.Grammar.{env, role_fits, is_whole, accepts}
use Rattle.evaluate.specs.Words.{words_of, EachFits, Agrees}
use Rattle.evaluate.proofs.Words.{elements_back}
use Rattle.ranges.specs.code.Valid.{Valid, lines, weigh}
use Rattle.ranges.specs.Held.{Held}
use Rattle.ranges.proofs.Segments.{lines_in_law}
use Rattle.ranges.proofs.Passing.{is_paint_side, ItemPasses, AreaPasses, side_passes}
use Rattle.ranges.proofs.Numbers.{start_word, role_fits_law, edge_same, each_passes}
use Rattle.ranges.proofs.Items.{on_both}
use Rattle.ranges.proofs.Depth.{depth_map}
use Rattle.ranges.proofs.Weights.{one_area, segments, weigh_map}
use Rattle.ranges.proofs.Reading.{fields_are}
use Rattle.making.specs.Made.{elements_made}
use Rattle.making.proofs.Standing.{Reads}
use Rattle.plans.specs.Plans.{drawing_from}
use Rattle.plans.specs.code.Source.{source_from, source_of}
use Rattle.plans.proofs.Source.{source_elements}

-- what holds of each item holds of what it is mapped to
on_mapped : {A B : Type 0} (Q : Kind → A → Type 0) (P : Kind → B → Type 0) (f : A → B)
    → ((k : Kind) (a : A) → Q k a → P k (f a))
    → (k : Kind) (s : Side A)
    → On Q k s
    → On P k (map_side f s)
on_mapped Q P f h k end o = tt
on_mapped Q P f h k (leaf a t) o = (h k a o.0, on_mapped Q P f h k t o.1)
on_mapped Q P f h k (group l r t) o = (on_mapped Q P f h clip l o.0, on_mapped Q P f h k r o.1, on_mapped Q P f h k t o.2)

module _ (D : Drawing) (areas xs ys : List ℕ) (b : Bounds) (H : Held areas xs ys b D) where
  held_agrees : (n : ℕ) → n < length D.fields → Agrees areas D n
  held_agrees n l =
      let e = fields_are D areas xs ys b H n l in
      record {
        role = ap (λ (f : Fields). kind_of f.role) e;
        pass = λ z. ap (λ (f : Fields). FillRules.passes (rule_of f.rule) z) e;
        opaque = ap (λ (f : Fields). eqb f.alpha 255) e;
      }

  held_edges : (l : Line) → LineBelow b.corners l → edge_of D.xs D.ys l ≡ edge_of xs ys l
  held_edges l h = sym (edge_same D areas xs ys b H l (subst (λ (n : ℕ). LineBelow n l) H.corners_used h))

  -- tables that hold the drawing say of its areas and corners what it says
  pub held_reads : Reads (env areas xs ys b) D
  held_reads = record { fields = sym H.areas_used; agrees = held_agrees; edges = held_edges }

  module _ (ok : Valid D) (same_low : b.low ≡ 0) (same_side : b.side ≡ 65536) where
    abbrev Placed : Kind → ℕ → Type 0
    Placed k n = (n < length D.fields) × (role_in D n ≡ k)

    row : (n : ℕ) → n < length D.fields → area_row areas b.areas n ≡ Ok (Area (fields_of D n))
    row n l = H.rows n (omega (arith, H.areas_used))

    area_in : (k : Kind) (n : ℕ) → Placed k n → AreaPasses (env areas xs ys b) k n (pos 0) (map drawn (lines D n))
    area_in k n p = (
      ap is_good (row n p.0),
      ap (λ r. role_fits r (is_paint_side k)) (row n p.0) ∙ role_fits_law k (fields_of D n) (ok.fields n p.0) p.1,
      start_word (pos 0) (omega arith),
      each_passes D areas xs ys b H root same_low same_side ok (map drawn (lines D n))
          (lines_in_law D.xs D.ys root (lines D n) (ok.corners n) (ok.curves n)),
    )

    item_in : (k : Kind) (n : ℕ) → Placed k n → ItemPasses (env areas xs ys b) k (whole D n)
    item_in paint n p = area_in paint n p
    item_in clip n p = area_in clip n p

    source_in : On (ItemPasses (env areas xs ys b)) paint (source D)
    source_in =
        on_mapped Placed (ItemPasses (env areas xs ys b)) (whole D) item_in paint D.plan
        (on_both (λ k n. n < length D.fields) (λ k n. role_in D n ≡ k) Placed (λ k n l e. (l, e)) paint D.plan ok.numbers ok.roles)

    few_areas : weigh one_area 0 (source D) ≤ 64
    few_areas = omega (arith, weigh_map (whole D) one_area (λ n. 1) 0 (λ n. omega arith) D.plan, ok.few_areas)

    few_lines : weigh segments 0 (source D) ≤ 2048
    few_lines =
        omega (
          arith,
          weigh_map (whole D) segments (λ n. length (lines D n)) 0 (λ n. omega (arith, length-map {B = Segment} (lines D n) drawn))
              D.plan,
          ok.few_lines,
        )

    -- the words of what cell 0's stream is made from pass the check of streams
    pub source_passes : accepts (env areas xs ys b) (map words_of (elements_of (flat paint (source D)))) ≡ true
    unfolding accepts
    source_passes =
        ap is_whole
        (side_passes (env areas xs ys b) paint (source D) [] false 0 0 refl source_in
        (omega (arith, depth_map (whole D) D.plan, ok.few_groups)) (omega (arith, few_areas)) (omega (arith, few_lines)))

-- ---- what the words say

source_fits : (a c f : ℕ) (rs : List Record) → EachFits (source_from a c f rs)
source_fits a c f [] = tt
source_fits a c f (Area g ∷ rs) = (record { sfits = omega arith }, source_fits (suc a) c f rs)
source_fits a c f (First x y ∷ rs) = (tt, source_fits a (suc c) c rs)
source_fits a c f (Next x y ∷ rs) = (tt, source_fits a (suc c) f rs)
source_fits a c f (Control x y ∷ rs) = source_fits a (suc c) f rs
source_fits a c f (Open ∷ rs) = (tt, source_fits a c f rs)
source_fits a c f (Bar ∷ rs) = (tt, source_fits a c f rs)
source_fits a c f (Close ∷ rs) = (tt, source_fits a c f rs)

source_back : (D : Drawing) → Valid D → stream_of (role_in D) (elements_of (flat paint (source D))) ≡ source D
source_back D ok =
    Elements.elements_back (role_in D) (source D)
    (each_mapped (λ k n. role_in D n ≡ k) (OnSide (role_in D)) (whole D) stands paint D.plan ok.roles)
  where
    stands : (k : Kind) (n : ℕ) → role_in D n ≡ k → OnSide (role_in D) k (whole D n)
    stands paint n e = e
    stands clip n e = e

-- what is made of the words of the source is made of the drawing
pub source_made : (rs : List Record) (k : Counts) → Acceptable rs k → Valid (drawing_from rs) → (c : Cell)
    → elements_made (drawing_from rs) c (map words_of (source_of rs)) ≡ elements_of (flat paint (made (drawing_from rs) c (source (drawing_from rs))))
unfolding elements_made
source_made rs k a ok c =
    let D : Drawing = drawing_from rs in
    ap (λ (x : Side Item). elements_of (flat paint (made D c x)))
    (ap (stream_of (role_in D)) (elements_back (source_of rs) (source_fits 0 0 0 rs) ∙ sym (source_elements rs k a)) ∙ source_back D ok)
