-- Rows of pixels over sound tables are those worked out with no tree, and 12 meets no pixel.
use Rattle.std.proofs.Common.{Ok, Err}
use Rattle.refusals.specs.Refusals.{at_place}
use mathlib.Core.Path.{◌≡◌, refl, ap, ◌∙◌}
use mathlib.Core.Bool.{Bool, true, false, cond}
use mathlib.Core.List.{List}
use Prim.Native.Nat.{ℕ, zero, suc, ◌+◌, ◌/◌, ◌%◌, ◌≤◌}
use native.Mathlib.Omega.{arith}
use lib.Dec.{eqb, leb}
use lib.ListN.{length}
use borrow.Author.Tests.{eq-eqb, leb-true}
use Rattle.refusals.specs.declared.Refusal.TheVariants.{Argument, Broken}
use Rattle.paint.specs.declared.colour.Colour.{Colour}
use Rattle.paint.specs.Pixels.{sample_x, sample_y}
use Rattle.cells.specs.Cells.{at}
use Rattle.tables.specs.Tables.{Tree}
use Rattle.position.specs.Spots.{sums_in}
use Rattle.pixel_row.specs.Rows.{Filled, filled, put_pixel, samples_known, pixel_known, pixel_in, fill_from, row_span, row_filled}
use Rattle.demand.specs.History.{Node}
use Rattle.demand.specs.NoTree.{sums_shown, pixel_shown}
use Rattle.demand.specs.Stands.{drawing_of}
use Rattle.demand.specs.Shown.{fill_shown, row_shown}
use Rattle.demand.proofs.Sound.{Sound}
use Rattle.demand.proofs.Readings.{known_there, sums_there, sample_on_grid, pixel_same}

module _ (t : Tree) (H : List Node) (s : Sound t H) (row first : ℕ) where
  module _ (h : row ≤ 4095) where
    samples_known_law : (pixel i n : ℕ) → pixel ≤ 4095 → i + n ≤ 16 → samples_known t row pixel i n ≡ true
    unfolding samples_known
    samples_known_law pixel i zero k l = refl
    samples_known_law pixel i (suc n) k l =
        ap (λ (b : Bool). cond b (samples_known t row pixel (suc i) n) false)
        (known_there t H s (sample_x pixel i) (sample_y row i) (sample_on_grid row pixel i h k (omega arith)))
        ∙ samples_known_law pixel (suc i) n k (omega arith)

    pixel_known_law : (pixel : ℕ) → pixel ≤ 4095 → pixel_known t row pixel ≡ true
    unfolding pixel_known
    pixel_known_law pixel k = samples_known_law pixel 0 16 k (omega arith)

    pixel_is : (pixel : ℕ) → pixel ≤ 4095 → pixel_in t row pixel ≡ pixel_shown (drawing_of t) row pixel
    pixel_is pixel k = pixel_same (sums_in t) (λ x y. sums_shown (drawing_of t) (at x y)) (sums_there t H s) row pixel h k

    fill_is : (i n : ℕ) (out : List ℕ) → first + (i + n) ≤ 4096 → fill_from t row first i n out ≡ filled (Ok tt) (fill_shown (drawing_of t) row first i n out)
    unfolding fill_from
    fill_is i zero out k = refl
    fill_is i (suc n) out k =
        ap (λ (b : Bool). cond b (fill_from t row first (i + 1) n (put_pixel out i (pixel_in t row (first + i)))) (filled (Err (at_place Broken i)) out))
        (pixel_known_law (first + i) (omega arith))
        ∙ (ap (λ (c : Colour). fill_from t row first (i + 1) n (put_pixel out i c)) (pixel_is (first + i) (omega arith))
        ∙ fill_is (i + 1) n (put_pixel out i (pixel_shown (drawing_of t) row (first + i))) (omega arith))

  module _ (out : List ℕ) where
    abbrev refused : Filled
    refused = filled (Err (at_place Argument 0)) out

    spanned : row ≤ 4095 → (b : Bool) → leb (first + length out / 3) 4096 ≡ b
        → cond b (fill_from t row first 0 (length out / 3) out) refused ≡ cond b (filled (Ok tt) (fill_shown (drawing_of t) row first 0 (length out / 3) out))
        refused
    spanned h true e = fill_is h 0 (length out / 3) out (omega (arith, leb-true (first + length out / 3) 4096 e))
    spanned h false e = refl

    abbrev span : Filled
    span = cond (leb (first + length out / 3) 4096) (filled (Ok tt) (fill_shown (drawing_of t) row first 0 (length out / 3) out)) refused

    rowed : (b : Bool)
        → leb row 4095 ≡ b
        → cond b (cond (eqb (length out % 3) 0) (row_span t row first out) refused) refused
        ≡ cond b (cond (eqb (length out % 3) 0) span refused) refused
    rowed true e = ap (λ (f : Filled). cond (eqb (length out % 3) 0) f refused) (spanned (leb-true row 4095 e) (leb (first + length out / 3) 4096) refl)
    rowed false e = refl

    pub row_right : row_filled t row first out ≡ row_shown (drawing_of t) row first out
    row_right =
        ap (λ (b : Bool). cond b (cond (leb row 4095) (cond (eqb (length out % 3) 0) (row_span t row first out) refused) refused) refused)
        (eq-eqb (length t.xs) (length t.ys) s.drawn.pair)
        ∙ rowed (leb row 4095) refl
