-- A pixel as the code reads it: in one sample where a uniform leaf holds it, else sample by sample.
use Rattle.std.specs.Prelude.{◌≡◌, Bool, cond, ◌&&◌, ℕ, ◌+◌, ◌*◌, ◌-◌, ◌≤◌, Option, Some, None, Result, Ok, Err}
use Rattle.refusals.specs.declared.Refusal.{Refusal}
use Rattle.refusals.specs.declared.Refusal.TheVariants.{Broken}
use Rattle.celltable.specs.declared.Leaf.{Leaf}
use Rattle.paint.specs.declared.colour.Channels.{Channels}
use Rattle.paint.specs.declared.colour.Colour.{Colour}
use Rattle.paint.specs.Pixels.{sample_x, sample_y, samples, SamplesIn}
use Rattle.tables.specs.Tables.{Tree}
use Rattle.position.specs.declared.Shown.{Shown}
use Rattle.position.specs.Spots.{sums_in}
use Rattle.position.specs.code.Numbers.{in_square, shown_there, LastIn}
use Rattle.pixel_row.specs.declared.Pixel.{Pixel}
use Rattle.pixel_row.specs.Rows.{samples_known, pixel_known, pixel_in}

-- the leaf's square holds the whole pixel: "A pixel is 16 by 16 units."
abbrev pub holds_pixel : Leaf → (row pixel : ℕ) → Bool
holds_pixel l row pixel = in_square l (16 * pixel) (16 * row) && in_square l (16 * pixel + 15) (16 * row + 15)

abbrev pub pixel_n : Colour → Shown → Pixel
pixel_n c s = record { colour = c; last = s }

-- a pixel of this colour, with what was read at its last sample
abbrev pub pixel_by : Colour → Result Shown Refusal → Result Pixel Refusal
pixel_by c (Ok s) = Ok (pixel_n c s)
pixel_by c (Err e) = Err e

-- a pixel, with what is read at its last sample; or 12
abbrev pub pixel_told : Tree → (row pixel : ℕ) → Result Pixel Refusal
pixel_told t row pixel = cond (pixel_known t row pixel) (pixel_by (pixel_in t row pixel) (shown_there t (sample_x pixel 15) (sample_y row 15))) (Err Broken)

abbrev pub no_channels : Channels
no_channels = record { red = 0; green = 0; blue = 0 }

-- the sum of the n samples from column offset i on, added to s
unfoldable pub sampled : Tree → (row pixel i n : ℕ) → Channels → Channels
sampled t row pixel i n s = samples (sums_in t) row pixel i n s

-- what was read last, where there is such a thing
abbrev pub read_last : Option Shown → Result Shown Refusal
read_last (Some s) = Ok s
read_last None = Err Broken

-- sample i of e is the next: what was read last, and the sum so far; what is left gives what the whole gives
pub record Sampling (t : Tree) (row pixel e i : ℕ) (last : Option Shown) (sum : Channels) : Type 0 where
  pub to : i ≤ e
  pub read : LastIn t last
  pub prior : (i ≡ 0 → ⊥) → read_last last ≡ shown_there t (sample_x pixel (i - 1)) (sample_y row (i - 1))
  pub small : SamplesIn i sum
  pub knows : samples_known t row pixel i (e - i) ≡ samples_known t row pixel 0 e
  pub rest : sampled t row pixel i (e - i) sum ≡ sampled t row pixel 0 e no_channels
