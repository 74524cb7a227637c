-- Document 01, "Winding and meaning", and document 02, Item 1: pixels.
use Rattle.std.specs.Prelude.{List, [], ◌∷◌, ℕ, zero, suc, ◌+◌, ◌*◌, ◌/◌, ◌≤◌, get_or}
use Rattle.paint.specs.declared.colour.Channels.{Channels}
use Rattle.paint.specs.declared.colour.Colour.{Colour}

-- "The sixteen row offsets, for column offsets 0 to 15, are 3 8 13 2 7 12 1 6 11 0 5 10 15 4 9 14."
abbrev pub row_offsets : List ℕ
row_offsets = 3 ∷ 8 ∷ 13 ∷ 2 ∷ 7 ∷ 12 ∷ 1 ∷ 6 ∷ 11 ∷ 0 ∷ 5 ∷ 10 ∷ 15 ∷ 4 ∷ 9 ∷ 14 ∷ []

abbrev pub row_offset : ℕ → ℕ
row_offset i = get_or row_offsets i 0

-- "A pixel is 16 by 16 units."
abbrev pub sample_x : (pixel i : ℕ) → ℕ
sample_x pixel i = 16 * pixel + i

abbrev pub sample_y : (row i : ℕ) → ℕ
sample_y row i = 16 * row + row_offset i

abbrev pub plus : Channels → Channels → Channels
plus s c = record { red = s.red + c.red; green = s.green + c.green; blue = s.blue + c.blue }

-- document 02: "the sum over its sixteen samples of the unrounded channel sums (before + 127 and the division)". Of the n samples from column
-- offset i on, added to s; `at` gives the channel sums at each position
abbrev pub samples : (at : ℕ → ℕ → Channels) → (row pixel i n : ℕ) → Channels → Channels
samples at row pixel i zero s = s
samples at row pixel i (suc n) s = samples at row pixel (suc i) n (plus s (at (sample_x pixel i) (sample_y row i)))

-- document 02: "plus 2,040, divided by 4,080 and rounded down"
abbrev pub mean : Channels → Colour
mean s = record { red = (s.red + 2040) / 4080; green = (s.green + 2040) / 4080; blue = (s.blue + 2040) / 4080 }

unfoldable pub pixel_of : (at : ℕ → ℕ → Channels) → (row pixel : ℕ) → Colour
pixel_of at row pixel = mean (samples at row pixel 0 16 (record { red = 0; green = 0; blue = 0 }))

-- the sum of at most n samples
pub record SamplesIn (n : ℕ) (s : Channels) : Type 0 where
  pub red_in : s.red ≤ 65025 * n
  pub green_in : s.green ≤ 65025 * n
  pub blue_in : s.blue ≤ 65025 * n
