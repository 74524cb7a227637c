-- The pixels of a row, one after the other.
use Rattle.std.proofs.Common.{Option, Some, Result, Ok, Err}
use Rattle.laws.proofs.Booleans.{clash, cond_left, cond_right}
use Rattle.refusals.specs.declared.Refusal.{Refusal}
use Rattle.refusals.specs.Refusals.{at_place}
use mathlib.Core.Path.{◌≡◌, refl, sym, ap, ◌∙◌}
use mathlib.Core.Bool.{Bool, true, false, cond}
use mathlib.Core.List.{List}
use Prim.Native.Nat.{ℕ, zero, suc, ◌+◌, ◌-◌, ◌*◌, ◌≤◌, ◌<◌}
use native.Mathlib.Omega.{arith}
use lib.ListN.{length, set, length-set}
use Rattle.refusals.specs.declared.Refusal.TheVariants as Refusals
use Rattle.paint.specs.declared.colour.Colour.{Colour}
use Rattle.paint.specs.Pixels.{sample_x, sample_y}
use Rattle.tables.specs.Tables.{Tree}
use Rattle.position.specs.declared.Shown.{Shown}
use Rattle.position.specs.Spots.{known}
use Rattle.position.specs.code.Numbers.{shown_there, LastIn}
use Rattle.position.proofs.Known.{last_in, unknown_set}
use Rattle.pixel_row.specs.declared.Pixel.{Pixel}
use Rattle.pixel_row.specs.Rows.{filled, put_pixel, samples_known, pixel_known, pixel_in, fill_from}
use Rattle.pixel_row.specs.code.Numbers.{pixel_n, pixel_by, pixel_told}

less_one : (e i : ℕ) → i < e → e - i ≡ suc (e - (i + 1))
less_one e i h = omega arith

pub put_length : (out : List ℕ) (i : ℕ) (c : Colour) → length (put_pixel out i c) ≡ length out
put_length out i c =
    length-set (set (set out (i * 3) c.red) (i * 3 + 1) c.green) (i * 3 + 2) c.blue
    ∙ (length-set (set out (i * 3) c.red) (i * 3 + 1) c.green ∙ length-set out (i * 3) c.red)

module _ (t : Tree) (row : ℕ) where
  -- ---- what a pixel, or 12, says
  pub record Told (pixel : ℕ) (p : Pixel) : Type 0 where
    pub is_known : pixel_known t row pixel ≡ true
    pub is_pixel : p.colour ≡ pixel_in t row pixel
    pub is_read : LastIn t (Some p.last)

  pub pixel_told_law : (pixel : ℕ) (p : Pixel) → Ok p ≡ pixel_told t row pixel → Told pixel p
  pixel_told_law pixel p e = go (pixel_known t row pixel) (shown_there t (sample_x pixel 15) (sample_y row 15)) refl refl e
    where
      go : (k : Bool) (r : Result Shown Refusal)
          → pixel_known t row pixel ≡ k
          → shown_there t (sample_x pixel 15) (sample_y row 15) ≡ r
          → Ok p ≡ cond k (pixel_by (pixel_in t row pixel) r) (Err Refusals.Broken)
          → Told pixel p
      go true (Ok s) h d q =
          let z : p ≡ pixel_n (pixel_in t row pixel) s = cc in
          rw z (record { is_known = h; is_pixel = refl; is_read = last_in t (sample_x pixel 15) (sample_y row 15) s (sym d) })
      go true (Err x) h d q = absurd (let z : ◌≡◌ {A = ℕ} 0 1 = cc in omega arith)
      go false r h d q = absurd (let z : ◌≡◌ {A = ℕ} 0 1 = cc in omega arith)

  -- a pixel that is known has each of its samples known
  sample_of : (pixel i n k : ℕ) → samples_known t row pixel i n ≡ true → k < n → known t (sample_x pixel (i + k)) (sample_y row (i + k)) ≡ true
  unfolding samples_known
  sample_of pixel i zero k h l = absurd (omega arith)
  sample_of pixel i (suc n) zero h l =
      let z : i + 0 ≡ i = omega arith in
      rw z (cond_left (known t (sample_x pixel i) (sample_y row i)) (samples_known t row pixel (suc i) n) h)
  sample_of pixel i (suc n) (suc k) h l =
      let z : i + suc k ≡ suc i + k = omega arith in
      rw z (sample_of pixel (suc i) n k (cond_right (known t (sample_x pixel i) (sample_y row i)) (samples_known t row pixel (suc i) n) h) (omega (arith, l)))

  pub pixel_broken : (pixel : ℕ) (e : Refusal) → Err e ≡ pixel_told t row pixel → (pixel_known t row pixel ≡ false) × (e ≡ Refusals.Broken)
  unfolding pixel_known
  pixel_broken pixel e h = go (samples_known t row pixel 0 16) (shown_there t (sample_x pixel 15) (sample_y row 15)) refl refl h
    where
      go : (k : Bool) (r : Result Shown Refusal)
          → samples_known t row pixel 0 16 ≡ k
          → shown_there t (sample_x pixel 15) (sample_y row 15) ≡ r
          → Err e ≡ cond k (pixel_by (pixel_in t row pixel) r) (Err Refusals.Broken)
          → (samples_known t row pixel 0 16 ≡ false) × (e ≡ Refusals.Broken)
      go true (Ok s) g d q = absurd (let z : ◌≡◌ {A = ℕ} 0 1 = cc in omega arith)
      go true (Err x) g d q =
          clash (sym (unknown_set t (sample_x pixel 15) (sample_y row 15) x (sym d)).0 ∙ sample_of pixel 0 16 15 g (omega arith))
      go false r g d q = (g, cc)

  module _ (first : ℕ) where
    fill_step : (n i : ℕ) (out : List ℕ)
        → i < n
        → pixel_known t row (first + i) ≡ true
        → fill_from t row first i (n - i) out ≡ fill_from t row first (i + 1) (n - (i + 1)) (put_pixel out i (pixel_in t row (first + i)))
    unfolding fill_from
    fill_step n i out h k = rw (less_one n i h, k)

    fill_off : (n i : ℕ) (out : List ℕ) → i < n → pixel_known t row (first + i) ≡ false → fill_from t row first i (n - i) out
        ≡ filled (Err (at_place Refusals.Broken i)) out
    unfolding fill_from
    fill_off n i out h k = rw (less_one n i h, k)

    fill_end : (n i : ℕ) (out : List ℕ) → n ≤ i → fill_from t row first i (n - i) out ≡ filled (Ok tt) out
    unfolding fill_from
    fill_end n i out h = let z : n - i ≡ 0 = omega arith in rw z

    -- pixel i of the call is the next: what is left gives what the whole gives
    pub record Filling (out₀ : List ℕ) (n i : ℕ) (last : Option Shown) (out : List ℕ) : Type 0 where
      pub to : i ≤ n
      pub read : LastIn t last
      pub size : length out ≡ length out₀
      pub rest : fill_from t row first i (n - i) out ≡ fill_from t row first 0 n out₀

    pub filling_turn : (out₀ : List ℕ) (n i : ℕ) (last : Option Shown) (p : Pixel) (out out' : List ℕ)
        → i < n
        → Filling out₀ n i last out
        → Told (first + i) p
        → out' ≡ put_pixel out i p.colour
        → Filling out₀ n (i + 1) (Some p.last) out'
    filling_turn out₀ n i last p out out' h f k e =
        record {
          to = omega (arith, h);
          read = k.is_read;
          size = ap length e ∙ (put_length out i p.colour ∙ f.size);
          rest = ap (fill_from t row first (i + 1) (n - (i + 1))) (e ∙ ap (put_pixel out i) k.is_pixel) ∙ (sym (fill_step n i out h k.is_known) ∙ f.rest);
        }

    pub filling_done : (out₀ : List ℕ) (n i : ℕ) (last : Option Shown) (out : List ℕ)
        → n ≤ i
        → Filling out₀ n i last out
        → filled (Ok tt) out ≡ fill_from t row first 0 n out₀
    filling_done out₀ n i last out h p = sym (fill_end n i out h) ∙ p.rest

    pub filling_broken : (out₀ : List ℕ) (n i : ℕ) (last : Option Shown) (out : List ℕ)
        → i < n
        → Filling out₀ n i last out
        → pixel_known t row (first + i) ≡ false
        → filled (Err (at_place Refusals.Broken i)) out ≡ fill_from t row first 0 n out₀
    filling_broken out₀ n i last out h p g = sym (fill_off n i out h g) ∙ p.rest
