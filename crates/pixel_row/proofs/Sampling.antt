-- The samples of a pixel, one after the other; and the pixel that a uniform leaf holds.
use Rattle.std.specs.Option.{is_some}
use Rattle.std.proofs.Common.{Option, Some, None, Ok, Err}
use Rattle.refusals.specs.declared.Refusal.{Refusal}
use Rattle.refusals.specs.declared.Refusal.TheVariants.{Broken}
use mathlib.Core.Path.{◌≡◌, refl, sym, ap, ap₂, subst, ◌∙◌}
use mathlib.Core.Bool.{Bool, true, false, ◌&&◌}
use mathlib.Core.List.{List, [], ◌∷◌}
use Prim.Native.Nat.{ℕ, zero, suc, ◌+◌, ◌*◌, ◌-◌, ◌≤◌, ◌<◌}
use native.Mathlib.Omega.{arith}
use native.Mathlib.Numerals.{add-one}
use lib.Dec.{ltb}
use lib.ListN.{get_or}
use borrow.Author.Tests.{ltb-true}
use Rattle.laws.proofs.Booleans.{and_left, and_right, clash}
use Rattle.paint.specs.declared.colour.Channels.{Channels}
use Rattle.paint.specs.declared.colour.Colour.{Colour}
use Rattle.paint.specs.Areas.{paint_at}
use Rattle.paint.specs.Colours.{sums_of, colour_of, ChannelsIn}
use Rattle.paint.specs.Pixels.{row_offsets, row_offset, sample_x, sample_y, plus, mean, pixel_of, SamplesIn}
use Rattle.paint.proofs.Pixels.{one_colour}
use Rattle.cells.specs.Cells.{at}
use Rattle.celltable.specs.declared.Leaf.{Leaf}
use Rattle.tables.specs.Tables.{Tree}
use Rattle.find_leaf.proofs.Same.{LeafHolds}
use Rattle.position.specs.declared.Shown.{Shown}
use Rattle.position.specs.Spots.{known, sums_in}
use Rattle.position.specs.code.Numbers.{in_square, shown_there, LastIn}
use Rattle.position.proofs.Known.{Known, known_set, leaf_set, shown_in_law, inside_holds, shown_again}
use Rattle.pixel_row.specs.Rows.{samples_known, pixel_known, pixel_in}
use Rattle.pixel_row.proofs.Agree.{pixel_known_law}
use Rattle.pixel_row.specs.code.Numbers.{holds_pixel, pixel_n, pixel_told, no_channels, sampled, Sampling}

less_one : (e i : ℕ) → i < e → e - i ≡ suc (e - (i + 1))
less_one e i h = omega arith

-- one sample more
pub plus_in : (i : ℕ) (s c : Channels) → SamplesIn i s → ChannelsIn c → SamplesIn (i + 1) (plus s c)
plus_in i s c h k =
    record { red_in = omega (arith, h.red_in, k.red_in); green_in = omega (arith, h.green_in, k.green_in); blue_in = omega (arith, h.blue_in, k.blue_in) }

pub plus_none : (c : Channels) → c ≡ plus no_channels c
plus_none c = rw (none c.red, none c.green, none c.blue)
  where
    none : (n : ℕ) → 0 + n ≡ n
    none n = omega arith

-- each row offset is below 16
abbrev all_small : List ℕ → Bool
all_small [] = true
all_small (n ∷ ns) = ltb n 16 && all_small ns

below_small : (ns : List ℕ) (i : ℕ) → all_small ns ≡ true → get_or ns i 0 < 16
below_small [] i e = omega arith
below_small (n ∷ ns) zero e = ltb-true n 16 (and_left (ltb n 16) (all_small ns) e)
below_small (n ∷ ns) (suc i) e = below_small ns i (and_right (ltb n 16) (all_small ns) e)

pub offset_small : (i : ℕ) → row_offset i < 16
offset_small i = below_small row_offsets i refl

-- the sample's coordinates by another name
pub known_at : (t : Tree) (x y x' y' s : ℕ) (f : Shown) → x ≡ x' → y ≡ y' → Known t x y s f → Known t x' y' s f
known_at t x y x' y' s f p q k = subst (λ (v : ℕ). Known t v y' s f) p (subst (λ (w : ℕ). Known t x w s f) q k)

pub unknown_at : (t : Tree) (x y x' y' : ℕ) (e : Refusal) → x ≡ x' → y ≡ y' → (known t x y ≡ false) × (e ≡ Broken)
    → (known t x' y' ≡ false) × (e ≡ Broken)
unknown_at t x y x' y' e p q k = (sym (ap₂ (known t) p q) ∙ k.0, k.1)

module _ (t : Tree) (row pixel : ℕ) where
  sampled_step : (e i : ℕ) (s : Channels)
      → i < e
      → sampled t row pixel i (e - i) s ≡ sampled t row pixel (i + 1) (e - (i + 1)) (plus s (sums_in t (sample_x pixel i) (sample_y row i)))
  unfolding sampled
  sampled_step e i s h = rw (less_one e i h, add-one i)

  sampled_none : (e i : ℕ) (s : Channels) → e ≤ i → sampled t row pixel i (e - i) s ≡ s
  unfolding sampled
  sampled_none e i s h = let z : e - i ≡ 0 = omega arith in rw z

  known_step : (e i : ℕ)
      → i < e
      → known t (sample_x pixel i) (sample_y row i) ≡ true
      → samples_known t row pixel i (e - i) ≡ samples_known t row pixel (i + 1) (e - (i + 1))
  unfolding samples_known
  known_step e i h k = rw (less_one e i h, k, add-one i)

  known_off : (e i : ℕ) → i < e → known t (sample_x pixel i) (sample_y row i) ≡ false → samples_known t row pixel i (e - i) ≡ false
  unfolding samples_known
  known_off e i h k = rw (less_one e i h, k)

  known_end : (e i : ℕ) → e ≤ i → samples_known t row pixel i (e - i) ≡ true
  unfolding samples_known
  known_end e i h = let z : e - i ≡ 0 = omega arith in rw z

  pub sampling_begin : (e : ℕ) (last : Option Shown) → LastIn t last → Sampling t row pixel e 0 last no_channels
  sampling_begin e last h =
      let z : e - 0 ≡ e = omega arith in
      record {
        to = omega arith;
        read = h;
        prior = λ q. absurd (q refl);
        small = record { red_in = omega arith; green_in = omega arith; blue_in = omega arith };
        knows = ap (samples_known t row pixel 0) z;
        rest = ap (λ (k : ℕ). sampled t row pixel 0 k no_channels) z;
      }

  pub sampling_turn : (e i set : ℕ) (last : Option Shown) (f : Shown) (sum sum' c : Channels)
      → i < e
      → Sampling t row pixel e i last sum
      → Known t (sample_x pixel i) (sample_y row i) set f
      → c ≡ sums_of (paint_at t.areas) set
      → ChannelsIn c
      → sum' ≡ plus sum c
      → Sampling t row pixel e (i + 1) (Some f) sum'
  sampling_turn e i set last f sum sum' c h p k g b r =
      let z : i + 1 - 1 ≡ i = omega arith in
      let v : c ≡ sums_in t (sample_x pixel i) (sample_y row i) = g ∙ ap (sums_of (paint_at t.areas)) k.is_set in
      record {
        to = omega (arith, h);
        read = k.is_last;
        prior = λ q. k.is_shown ∙ ap (λ (j : ℕ). shown_there t (sample_x pixel j) (sample_y row j)) (sym z);
        small = subst (λ (s : Channels). SamplesIn (i + 1) s) (sym r) (plus_in i sum c p.small b);
        knows = sym (known_step e i h k.is_known) ∙ p.knows;
        rest = ap (sampled t row pixel (i + 1) (e - (i + 1))) (r ∙ ap (plus sum) v) ∙ (sym (sampled_step e i sum h) ∙ p.rest);
      }

  pixel_is : mean (sampled t row pixel 0 16 no_channels) ≡ pixel_in t row pixel
  unfolding sampled pixel_of
  pixel_is = refl

  pub sampling_done : (last : Shown) (sum : Channels) (c : Colour)
      → Sampling t row pixel 16 16 (Some last) sum
      → c ≡ mean sum
      → Ok (pixel_n c last) ≡ pixel_told t row pixel
  unfolding pixel_known
  sampling_done last sum c p r =
      let k : samples_known t row pixel 0 16 ≡ true = sym p.knows ∙ known_end 16 16 (omega arith) in
      let s : c ≡ pixel_in t row pixel = r ∙ (ap mean (sym (sampled_none 16 16 sum (omega arith)) ∙ p.rest) ∙ pixel_is) in
      let f : Ok last ≡ shown_there t (sample_x pixel 15) (sample_y row 15) = p.prior (λ q. omega (arith, q)) in
      rw (k, ← s, ← f)

  pub sampling_broken : (i : ℕ) (last : Option Shown) (sum : Channels) (e : Refusal)
      → i < 16
      → Sampling t row pixel 16 i last sum
      → (known t (sample_x pixel i) (sample_y row i) ≡ false) × (e ≡ Broken)
      → Err e ≡ pixel_told t row pixel
  unfolding pixel_known
  sampling_broken i last sum e h p g =
      let k : samples_known t row pixel 0 16 ≡ false = sym p.knows ∙ known_off 16 i h g.0 in
      rw (k, g.1)

  -- ---- a pixel that a uniform leaf holds
  module _ (s : Shown) (set : ℕ) (e : Ok s ≡ shown_there t (sample_x pixel 0) (sample_y row 0)) (q : s.set ≡ Some set)
      (h : holds_pixel s.leaf row pixel ≡ true) where
    abbrev l : Leaf
    l = s.leaf

    -- the leaf holds each of its samples
    sample_held : (k : ℕ) → k < 16 → LeafHolds l (at (sample_x pixel k) (sample_y row k))
    sample_held k g =
        let first = in_square l (16 * pixel) (16 * row) in
        let last = in_square l (16 * pixel + 15) (16 * row + 15) in
        let low = inside_holds l (16 * pixel) (16 * row) (and_left first last h) in
        let high = inside_holds l (16 * pixel + 15) (16 * row + 15) (and_right first last h) in
        record {
          west = omega (arith, low.west);
          east = omega (arith, high.east, g);
          south = omega (arith, low.south);
          north = omega (arith, high.north, offset_small k);
        }

    -- so the same set shows at each
    sample_shown : (k : ℕ) → k < 16 → Ok s ≡ shown_there t (sample_x pixel k) (sample_y row k)
    sample_shown k g = shown_again t (sample_x pixel 0) (sample_y row 0) s e (sample_x pixel k) (sample_y row k) (sample_held k g)

    sample_known : (k : ℕ) → k < 16 → Known t (sample_x pixel k) (sample_y row k) set s
    sample_known k g =
        let r = sample_shown k g in
        known_set t (sample_x pixel k) (sample_y row k) s set r ((shown_in_law t (sample_x pixel k) (sample_y row k) s r).is_read set q)

    pub uniform_told : (c : Colour) → c ≡ colour_of (paint_at t.areas) set → Ok (pixel_n c s) ≡ pixel_told t row pixel
    uniform_told c g =
        let k = pixel_known_law t row pixel (λ k f. (sample_known k f).is_known) in
        let p = one_colour (sums_in t) row pixel (colour_of (paint_at t.areas) set)
        (λ k f. ap (λ (s : ℕ). colour_of (paint_at t.areas) s) (sym (sample_known k f).is_set)) in
        let d : c ≡ pixel_in t row pixel = g ∙ sym p in
        rw (k, ← d, ← sample_shown 15 (omega arith))

  -- the same where the set was read again
  pub uniform_read : (s : Shown) (set : ℕ) (c : Colour)
      → Known t (sample_x pixel 0) (sample_y row 0) set s
      → is_some s.set ≡ true
      → holds_pixel s.leaf row pixel ≡ true
      → c ≡ colour_of (paint_at t.areas) set
      → Ok (pixel_n c s) ≡ pixel_told t row pixel
  uniform_read s set c k u h g = go s.set refl u
    where
      go : (o : Option ℕ) → s.set ≡ o → is_some o ≡ true → Ok (pixel_n c s) ≡ pixel_told t row pixel
      go (Some v) q d =
          let f = shown_in_law t (sample_x pixel 0) (sample_y row 0) s k.is_shown in
          let w : v ≡ set = f.is_read v q ∙ (leaf_set t (sample_x pixel 0) (sample_y row 0) s.leaf f.is_leaf_law ∙ sym k.is_set) in
          uniform_told s v k.is_shown q h c (g ∙ ap (colour_of (paint_at t.areas)) (sym w))
      go None q d = clash d
