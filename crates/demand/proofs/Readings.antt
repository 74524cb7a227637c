-- What is read from sound tables at a position is what the drawing shows there: the set, the material, the colour.
use Rattle.std.proofs.Common.{Ok, Err}
use mathlib.Core.Path.{◌≡◌, sym, ap, ◌∙◌}
use mathlib.Core.Bool.{Bool, true, false, cond}
use mathlib.Core.List.{List}
use Prim.Native.Nat.{ℕ, ◌-◌, ◌≤◌, ◌<◌}
use native.Mathlib.Omega.{arith}
use lib.ListN.{length}
use borrow.Author.Tests.{eq-eqb}
use Rattle.refusals.specs.declared.Refusal.TheVariants as Refusals
use Rattle.paint.specs.Areas.{paint_at, material_of}
use Rattle.paint.specs.Colours.{sums_of, rounded, colour_of}
use Rattle.paint.specs.declared.colour.Channels.{Channels}
use Rattle.paint.specs.Pixels.{sample_x, sample_y, pixel_of}
use Rattle.paint.proofs.Pixels.{pixel_agrees}
use Rattle.cells.specs.Cells.{at, level, OnGrid, Holds}
use Rattle.stream.specs.Entry.{is_uniform}
use Rattle.celltable.specs.Descent.{leaf_of}
use Rattle.evaluate.specs.Reading.{set_at}
use Rattle.evaluate.proofs.Uniform.{set_uniform}
use Rattle.tables.specs.Tables.{Tree}
use Rattle.split.specs.Split.{words}
use Rattle.find_leaf.specs.Leaf.{position_range, leaf_stream}
use Rattle.find_leaf.proofs.Landing.{on_grid}
use Rattle.position.specs.Spots.{is_found, set_by, spot_of, spot_by, known, set_in, material_in, sums_in, spot_in, position_answer}
use Rattle.position.proofs.Known.{leaf_set}
use Rattle.pixel_row.proofs.Sampling.{offset_small}
use Rattle.demand.specs.History.{Node, cell_in, LeafAt}
use Rattle.demand.specs.NoTree.{set_shown, material_shown, colour_shown, sums_shown}
use Rattle.demand.specs.Stands.{drawing_of, words_of_cell}
use Rattle.demand.specs.Demand.{spot_there}
use Rattle.demand.proofs.Paints.{material_held, sums_held}
use Rattle.demand.proofs.Sound.{Sound, cell_set}
use Rattle.demand.proofs.Finding.{lands}

module _ (t : Tree) (H : List Node) (s : Sound t H) where
  -- ---- one position
  module _ (x y : ℕ) (g : OnGrid (at x y)) where
    pub known_there : known t x y ≡ true
    unfolding known
    known_there = ap is_found (lands t H s x y g).found

    pub set_there : set_in t x y ≡ set_shown (drawing_of t) (at x y)
    unfolding set_in
    set_there =
        let r = lands t H s x y g in
        ap (set_by t x y) r.found
        ∙ (ap (set_at t.areas t.xs t.ys x y) (s.streams r.leaf r.holds.leaf) ∙ cell_set t s.drawn (cell_in H r.leaf) x y r.holds.holds)

    pub material_there : material_in t x y ≡ material_shown (drawing_of t) (at x y)
    material_there =
        ap (material_of (paint_at t.areas)) set_there
        ∙ material_held (drawing_of t) s.drawn.valid t.areas t.xs t.ys _ (s.drawn.held 0 0) (at x y)

    pub sums_there : sums_in t x y ≡ sums_shown (drawing_of t) (at x y)
    sums_there =
        ap (sums_of (paint_at t.areas)) set_there
        ∙ sums_held (drawing_of t) s.drawn.valid t.areas t.xs t.ys _ (s.drawn.held 0 0) (at x y)

    colour_there : colour_of (paint_at t.areas) (set_in t x y) ≡ colour_shown (drawing_of t) (at x y)
    colour_there = ap rounded sums_there

    -- the leaf of the history that holds the position, with no output
    pub record SpotLands : Type 0 where
      pub leaf : ℕ
      pub holds : LeafAt H (at x y) leaf
      pub answer : spot_in t x y ≡ Ok (spot_there (drawing_of t) H leaf (at x y))

    pub spot_lands : SpotLands
    spot_lands =
        let r = lands t H s x y g in
        let i = r.leaf in
        let l = leaf_of i (16 - level (cell_in H i)) (words t i) in
        let q = s.squares i r.holds.leaf.in_use in
        let ws = s.streams i r.holds.leaf in
        let same : spot_of t.areas l (is_uniform (leaf_stream t l)) (set_in t x y) ≡ spot_there (drawing_of t) H i (at x y) =
        λ d.
        record {
          set = set_there d;
          material = material_there d;
          red = (colour_there d).red;
          green = (colour_there d).green;
          blue = (colour_there d).blue;
          uniform = is_uniform (ws d);
          x = q.same_x d;
          y = q.same_y d;
          side = q.same_side d;
        } in
        record {
          leaf = i;
          holds = r.holds;
          answer = ap (spot_by t x y) r.found
              ∙ ap Ok (ap (spot_of t.areas l (is_uniform (leaf_stream t l))) (leaf_set t x y l r.found) ∙ same);
        }

  -- what shows at one position of a uniform leaf shows at all of them
  pub shown_alike : (i : ℕ)
      → is_uniform (words_of_cell (drawing_of t) (cell_in H i)) ≡ true
      → (x y x' y' : ℕ)
      → Holds (cell_in H i) (at x y)
      → Holds (cell_in H i) (at x' y')
      → set_shown (drawing_of t) (at x y) ≡ set_shown (drawing_of t) (at x' y')
  shown_alike i u x y x' y' h h' =
      sym (cell_set t s.drawn (cell_in H i) x y h)
      ∙ (set_uniform t.areas t.xs t.ys x y x' y' (words_of_cell (drawing_of t) (cell_in H i)) u ∙ cell_set t s.drawn (cell_in H i) x' y' h')

  -- the call: refused with 7 where the position is out of range
  module _ (x y : ℕ) where
    chosen : (b : Bool) → position_range x y ≡ b → position_answer t x y ≡ cond b (spot_in t x y) (Err Refusals.Argument)
    chosen b e =
        ap (λ (p : Bool). cond p (cond (position_range x y) (spot_in t x y) (Err Refusals.Argument)) (Err Refusals.Argument))
        (eq-eqb (length t.xs) (length t.ys) s.drawn.pair)
        ∙ ap (λ (p : Bool). cond p (spot_in t x y) (Err Refusals.Argument)) e

    pub position_inside : position_range x y ≡ true
        → (i : ℕ) × LeafAt H (at x y) i × (position_answer t x y ≡ Ok (spot_there (drawing_of t) H i (at x y)))
    position_inside e = let r = spot_lands x y (on_grid x y e) in (r.leaf, r.holds, chosen true e ∙ r.answer)

    pub position_outside : position_range x y ≡ false → position_answer t x y ≡ Err Refusals.Argument
    position_outside e = chosen false e

-- ---- a pixel
pub sample_on_grid : (row pixel i : ℕ) → row ≤ 4095 → pixel ≤ 4095 → i < 16 → OnGrid (at (sample_x pixel i) (sample_y row i))
sample_on_grid row pixel i h k l = record { x_below = omega arith; y_below = omega (arith, offset_small i) }

-- channel sums that are the same at each position of the grid
pub pixel_same : (f g : ℕ → ℕ → Channels)
    → ((x y : ℕ) → OnGrid (at x y) → f x y ≡ g x y)
    → (row pixel : ℕ)
    → row ≤ 4095
    → pixel ≤ 4095
    → pixel_of f row pixel ≡ pixel_of g row pixel
pixel_same f g same row pixel h k = pixel_agrees f g row pixel (λ i l. same (sample_x pixel i) (sample_y row i) (sample_on_grid row pixel i h k l))
