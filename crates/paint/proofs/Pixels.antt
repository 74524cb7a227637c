-- A pixel is decided by the channel sums of its sixteen samples; where all of them have one colour, it has that colour.
use mathlib.Core.Path.{◌≡◌, refl, ap, ◌∙◌}
use mathlib.Core.Bool.{cond}
use Prim.Native.Nat.{ℕ, zero, suc, ◌+◌, ◌*◌, ◌/◌, ◌≤◌, ◌<◌}
use native.Mathlib.Omega.{arith}
use lib.Dec.{ltb}
use Rattle.paint.specs.Colours.{rounded}
use Rattle.paint.specs.Pixels.{sample_x, sample_y, plus, samples, mean, pixel_of}
use Rattle.paint.specs.declared.colour.Channels.{Channels}
use Rattle.paint.specs.declared.colour.Colour.{Colour}

samples_agree : (at at' : ℕ → ℕ → Channels) (row pixel i n : ℕ) (s : Channels)
    → ((k : ℕ) → k < i + n → at (sample_x pixel k) (sample_y row k) ≡ at' (sample_x pixel k) (sample_y row k))
    → samples at row pixel i n s ≡ samples at' row pixel i n s
samples_agree at at' row pixel i zero s h = refl
samples_agree at at' row pixel i (suc n) s h =
    ap (λ (c : Channels). samples at row pixel (suc i) n (plus s c)) (h i (omega arith))
    ∙ samples_agree at at' row pixel (suc i) n (plus s (at' (sample_x pixel i) (sample_y row i))) (λ k l. h k (omega (arith, l)))

pub pixel_agrees : (at at' : ℕ → ℕ → Channels) (row pixel : ℕ)
    → ((k : ℕ) → k < 16 → at (sample_x pixel k) (sample_y row k) ≡ at' (sample_x pixel k) (sample_y row k))
    → pixel_of at row pixel ≡ pixel_of at' row pixel
unfolding pixel_of
pixel_agrees at at' row pixel h = ap mean (samples_agree at at' row pixel 0 16 _ (λ k l. h k (omega (arith, l))))

-- sixteen equal sums give the rounding of a single position
pub sixteen_equal : (s : ℕ) → (16 * s + 2040) / 4080 ≡ (s + 127) / 255
sixteen_equal s = omega arith

-- ---- samples that all have one colour

-- a sum that rounds to c
near : (s c : ℕ) → (s + 127) / 255 ≡ c → (255 * c ≤ s + 127) × (s ≤ 255 * c + 127)
near s c h = (omega (arith, h), omega (arith, h))

module _ (f : ℕ → ℕ) (c : ℕ) (h : (k : ℕ) → k < 16 → (f k + 127) / 255 ≡ c) where
  abbrev total : ℕ
  total = 0 + f 0 + f 1 + f 2 + f 3 + f 4 + f 5 + f 6 + f 7 + f 8 + f 9 + f 10 + f 11 + f 12 + f 13 + f 14 + f 15

  mean_one : (total + 2040) / 4080 ≡ c
  mean_one =
      let b0 = near (f 0) c (h 0 (omega arith)) in
      let b1 = near (f 1) c (h 1 (omega arith)) in
      let b2 = near (f 2) c (h 2 (omega arith)) in
      let b3 = near (f 3) c (h 3 (omega arith)) in
      let b4 = near (f 4) c (h 4 (omega arith)) in
      let b5 = near (f 5) c (h 5 (omega arith)) in
      let b6 = near (f 6) c (h 6 (omega arith)) in
      let b7 = near (f 7) c (h 7 (omega arith)) in
      let b8 = near (f 8) c (h 8 (omega arith)) in
      let b9 = near (f 9) c (h 9 (omega arith)) in
      let b10 = near (f 10) c (h 10 (omega arith)) in
      let b11 = near (f 11) c (h 11 (omega arith)) in
      let b12 = near (f 12) c (h 12 (omega arith)) in
      let b13 = near (f 13) c (h 13 (omega arith)) in
      let b14 = near (f 14) c (h 14 (omega arith)) in
      let b15 = near (f 15) c (h 15 (omega arith)) in
      omega (arith, b0, b1, b2, b3, b4, b5, b6, b7, b8, b9, b10, b11, b12, b13, b14, b15)

-- the pixel has that colour
pub one_colour : (at : ℕ → ℕ → Channels) (row pixel : ℕ) (c : Colour)
    → ((k : ℕ) → k < 16 → rounded (at (sample_x pixel k) (sample_y row k)) ≡ c)
    → pixel_of at row pixel ≡ c
unfolding pixel_of
one_colour at row pixel c h =
    λ d.
    record {
      red = mean_one (λ k. (at (sample_x pixel k) (sample_y row k)).red) c.red (λ k l. ap (λ (o : Colour). o.red) (h k l)) d;
      green = mean_one (λ k. (at (sample_x pixel k) (sample_y row k)).green) c.green (λ k l. ap (λ (o : Colour). o.green) (h k l)) d;
      blue = mean_one (λ k. (at (sample_x pixel k) (sample_y row k)).blue) c.blue (λ k l. ap (λ (o : Colour). o.blue) (h k l)) d;
    }

-- ---- an example: sums of 127 in nine columns, which alone round to 0, and of 200 in seven, which alone round to 1. Their mean rounds to 1, where
-- the mean of the rounded ones, 7 of 16, would round to 0.

abbrev grey : ℕ → Channels
grey n = record { red = n; green = n; blue = n }

faint : ((pixel_of (λ x y. cond (ltb x 9) (grey 127) (grey 200)) 0 0).red ≡ 1) × (((rounded (grey 127)).red ≡ 0) × ((rounded (grey 200)).red ≡ 1))
unfolding pixel_of
faint = (refl, (refl, refl))
