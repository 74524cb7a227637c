-- Document 01, "Winding and meaning", "From the input" and "From the state", and document 02, Item 1: a row of pixels.
use Rattle.std.specs.Prelude.{Bool, true, false, cond, Result, Ok, Err, List, [], ◌∷◌, ℕ, zero, suc, ◌+◌, ◌*◌, ◌/◌, ◌%◌, eqb, leb, length, set}
use Rattle.refusals.specs.declared.Refused.{Refused}
use Rattle.refusals.specs.Refusals.{at_place}
use Rattle.refusals.specs.declared.Refusal.TheVariants.{Argument, Broken}
use Rattle.paint.specs.declared.colour.Channels.{Channels}
use Rattle.paint.specs.declared.colour.Colour.{Colour}
use Rattle.paint.specs.Pixels.{sample_x, sample_y, pixel_of}
use Rattle.tables.specs.Tables.{Tree}
use Rattle.position.specs.Spots.{known, sums_in}

-- what a row call answers, and its buffer afterwards
pub record Filled : Type 0 where
  pub answer : Result (Unit {0}) Refused
  pub bytes : List ℕ

abbrev pub filled : Result (Unit {0}) Refused → List ℕ → Filled
filled r out = record { answer = r; bytes = out }

-- "A row call fills red, green, blue per pixel."
abbrev pub put_pixel : List ℕ → ℕ → Colour → List ℕ
put_pixel out i c = set (set (set out (i * 3) c.red) (i * 3 + 1) c.green) (i * 3 + 2) c.blue

-- the bytes of n pixels of a row, where `at` gives the unrounded channel sums at each position
unfoldable pub row_bytes : (at : ℕ → ℕ → Channels) → (row pixel n : ℕ) → List ℕ
row_bytes at row pixel zero = []
row_bytes at row pixel (suc n) =
    (pixel_of at row pixel).red ∷ (pixel_of at row pixel).green ∷ (pixel_of at row pixel).blue ∷ row_bytes at row (pixel + 1) n

module _ (t : Tree) (row : ℕ) where
  -- 12 is met at none of the n samples of a pixel from column offset i on
  unfoldable pub samples_known : (pixel i n : ℕ) → Bool
  samples_known pixel i zero = true
  samples_known pixel i (suc n) = cond (known t (sample_x pixel i) (sample_y row i)) (samples_known pixel (suc i) n) false

  -- none of the sixteen samples of a pixel is met by 12
  unfoldable pub pixel_known : ℕ → Bool
  pixel_known pixel = samples_known pixel 0 16

  -- document 02: "a pixel's channel is the sum over its sixteen samples of the unrounded channel sums (before + 127 and the division), plus
  -- 2,040, divided by 4,080 and rounded down": the sums are those of the sets that are read at the samples
  abbrev pub pixel_in : ℕ → Colour
  pixel_in pixel = pixel_of (sums_in t) row pixel

  -- the n pixels of the call from index i on. "... a pixel row met by 12: place is the pixel's index in the call, earlier pixels stand, the
  -- rest are untouched."
  unfoldable pub fill_from : (first i n : ℕ) → List ℕ → Filled
  fill_from first i zero out = filled (Ok tt) out
  fill_from first i (suc n) out =
      cond (pixel_known (first + i)) (fill_from first (i + 1) n (put_pixel out i (pixel_in (first + i)))) (filled (Err (at_place Broken i)) out)

  -- 7: "first pixel plus pixels over 4,096", then the pixels
  abbrev pub row_span : (first : ℕ) → List ℕ → Filled
  row_span first out = cond (leb (first + length out / 3) 4096) (fill_from first 0 (length out / 3) out) (filled (Err (at_place Argument 0)) out)

  -- 7: "a lent pair of x and y tables of unequal length (tried before all other checks ...); ... pixel row over 4,095; ... pixel buffer no
  -- multiple of 3"
  abbrev pub row_filled : (first : ℕ) → List ℕ → Filled
  row_filled first out =
      cond (eqb (length t.xs) (length t.ys))
      (cond (leb row 4095) (cond (eqb (length out % 3) 0) (row_span first out) (filled (Err (at_place Argument 0)) out)) (filled (Err (at_place
      Argument 0)) out))
      (filled (Err (at_place Argument 0)) out)
