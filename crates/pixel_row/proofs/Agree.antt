-- What the definition of a row says: which pixels stand, and that a row is decided by the channel sums at its samples.
use Rattle.std.proofs.Common.{Ok, Err}
use Rattle.refusals.specs.Refusals.{at_place}
use mathlib.Core.Path.{◌≡◌, refl, sym, ap, subst, ◌∙◌}
use mathlib.Core.Bool.{Bool, true, false, cond}
use mathlib.Core.List.{List, []}
use Prim.Native.Nat.{ℕ, zero, suc, ◌+◌, ◌*◌, ◌-◌, ◌/◌, ◌%◌, ◌≤◌, ◌<◌}
use native.Mathlib.Omega.{arith}
use lib.Dec.{eqb, leb}
use lib.ListN.{length}
use lib.Seq.{sets}
use borrow.Author.Tests.{eq-eqb, le-leb}
use Rattle.refusals.specs.declared.Refusal.TheVariants as Refusals
use Rattle.paint.specs.declared.colour.Channels.{Channels}
use Rattle.paint.specs.Pixels.{sample_x, sample_y, pixel_of}
use Rattle.paint.proofs.Pixels.{pixel_agrees}
use Rattle.tables.specs.Tables.{Tree}
use Rattle.laws.proofs.Choices.{pick_true}
use Rattle.position.specs.Spots.{known, sums_in}
use Rattle.pixel_row.specs.Rows.{Filled, filled, put_pixel, row_bytes, samples_known, pixel_known, pixel_in, fill_from, row_span, row_filled}

-- ---- the bytes of a row

pub bytes_agree : (at at' : ℕ → ℕ → Channels) (row pixel n : ℕ)
    → ((p : ℕ) → pixel ≤ p → p < pixel + n → pixel_of at row p ≡ pixel_of at' row p)
    → row_bytes at row pixel n ≡ row_bytes at' row pixel n
unfolding row_bytes
bytes_agree at at' row pixel zero h = refl
bytes_agree at at' row pixel (suc n) h =
    rw (h pixel (omega arith) (omega arith), bytes_agree at at' row (pixel + 1) n (λ p g l. h p (omega (arith, g)) (omega (arith, l))))

bytes_none : (at : ℕ → ℕ → Channels) (row pixel i : ℕ) (out : List ℕ) → out ≡ sets out i (row_bytes at row pixel 0)
unfolding row_bytes
bytes_none at row pixel i out = refl

-- three stores are one pixel's bytes
put_bytes : (at : ℕ → ℕ → Channels) (row first i n : ℕ) (out : List ℕ)
    → sets (put_pixel out i (pixel_of at row (first + i))) ((i + 1) * 3) (row_bytes at row (first + (i + 1)) n)
    ≡ sets out (i * 3) (row_bytes at row (first + i) (suc n))
unfolding row_bytes
put_bytes at row first i n out =
    let a : i * 3 + 1 ≡ suc (i * 3) = omega arith in
    let b : i * 3 + 2 ≡ suc (suc (i * 3)) = omega arith in
    let d : (i + 1) * 3 ≡ suc (suc (suc (i * 3))) = omega arith in
    let e : first + (i + 1) ≡ first + i + 1 = omega arith in
    rw (a, b, d, e)

module _ (t : Tree) (row : ℕ) where
  samples_known_law : (pixel i n : ℕ) → ((k : ℕ) → k < i + n → known t (sample_x pixel k) (sample_y row k) ≡ true) → samples_known t row pixel i n ≡ true
  unfolding samples_known
  samples_known_law pixel i zero h = refl
  samples_known_law pixel i (suc n) h = rw (h i (omega arith)) (samples_known_law pixel (suc i) n (λ k l. h k (omega (arith, l))))

  pub pixel_known_law : (pixel : ℕ) → ((k : ℕ) → k < 16 → known t (sample_x pixel k) (sample_y row k) ≡ true) → pixel_known t row pixel ≡ true
  unfolding pixel_known
  pixel_known_law pixel h = samples_known_law pixel 0 16 (λ k l. h k (omega (arith, l)))

  module _ (first : ℕ) where
    -- ---- "earlier pixels stand, the rest are untouched"

    -- what a filling from pixel i on says: all n pixels are written, or those before pixel k, which 12 meets
    pub data Stands (i n : ℕ) (out : List ℕ) : Filled → Type 0 where
      all : (bytes : List ℕ) → bytes ≡ sets out (i * 3) (row_bytes (sums_in t) row (first + i) n) → Stands i n out (filled (Ok tt) bytes)
      up_to : (k : ℕ) (bytes : List ℕ)
          → k < n
          → pixel_known t row (first + i + k) ≡ false
          → bytes ≡ sets out (i * 3) (row_bytes (sums_in t) row (first + i) k)
          → Stands i n out (filled (Err (at_place Refusals.Broken (i + k))) bytes)

    stands_more : (i n : ℕ) (out : List ℕ) {F : Filled} → Stands (i + 1) n (put_pixel out i (pixel_in t row (first + i))) F → Stands i (suc n) out F
    stands_more i n out (all bytes e) = all bytes (e ∙ put_bytes (sums_in t) row first i n out)
    stands_more i n out (up_to k bytes l g e) =
        let a : i + suc k ≡ i + 1 + k = omega arith in
        let b : first + i + suc k ≡ first + (i + 1) + k = omega arith in
        subst (λ (j : ℕ). Stands i (suc n) out (filled (Err (at_place Refusals.Broken j)) bytes)) a
        (up_to (suc k) bytes (omega (arith, l)) (ap (pixel_known t row) b ∙ g) (e ∙ put_bytes (sums_in t) row first i k out))

    stands_none : (i n : ℕ) (out : List ℕ) → pixel_known t row (first + i) ≡ false → Stands i (suc n) out (filled (Err (at_place Refusals.Broken i)) out)
    unfolding row_bytes
    stands_none i n out g =
        let a : i + 0 ≡ i = omega arith in
        let b : first + i + 0 ≡ first + i = omega arith in
        subst (λ (j : ℕ). Stands i (suc n) out (filled (Err (at_place Refusals.Broken j)) out)) a (up_to 0 out (omega arith) (ap (pixel_known t row)
        b ∙ g) refl)

    pub fill_stands : (i n : ℕ) (out : List ℕ) → Stands i n out (fill_from t row first i n out)
    unfolding fill_from row_bytes
    fill_stands i zero out = all out refl
    fill_stands i (suc n) out = go (pixel_known t row (first + i)) refl (fill_stands (i + 1) n (put_pixel out i (pixel_in t row (first + i))))
      where
        go : (b : Bool)
            → pixel_known t row (first + i) ≡ b
            → Stands (i + 1) n (put_pixel out i (pixel_in t row (first + i)))
            (fill_from t row first (i + 1) n (put_pixel out i (pixel_in t row (first + i))))
            → Stands i (suc n) out
            (cond b (fill_from t row first (i + 1) n (put_pixel out i (pixel_in t row (first + i)))) (filled (Err (at_place Refusals.Broken i)) out))
        go true e h = stands_more i n out h
        go false e h = stands_none i n out e

    -- ---- a row at whose pixels 12 is not met
    fill_all : (i n : ℕ) (out : List ℕ)
        → ((k : ℕ) → k < i + n → pixel_known t row (first + k) ≡ true)
        → fill_from t row first i n out ≡ filled (Ok tt) (sets out (i * 3) (row_bytes (sums_in t) row (first + i) n))
    unfolding fill_from
    fill_all i zero out h = ap (filled (Ok tt)) (bytes_none (sums_in t) row (first + i) (i * 3) out)
    fill_all i (suc n) out h =
        rw (h i (omega arith))
        (fill_all (i + 1) n (put_pixel out i (pixel_in t row (first + i))) (λ k l. h k (omega (arith, l)))
        ∙ ap (filled (Ok tt)) (put_bytes (sums_in t) row first i n out))

    -- pixel p of the row is one of the call
    pixel_from : (at : ℕ → ℕ → Channels) (n p : ℕ)
        → first ≤ p
        → p < first + n
        → ((p i : ℕ) → p < n → i < 16 → sums_in t (sample_x (first + p) i) (sample_y row i) ≡ at (sample_x (first + p) i) (sample_y row i))
        → pixel_of (sums_in t) row p ≡ pixel_of at row p
    pixel_from at n p g l h =
        let z : first + (p - first) ≡ p = omega (arith, g) in
        subst (λ (j : ℕ). pixel_of (sums_in t) row j ≡ pixel_of at row j) z
        (pixel_agrees (sums_in t) at row (first + (p - first)) (λ i k. h (p - first) i (omega (arith, g, l)) k))

    -- in range, with room and 12 met at none of its samples: the row is filled with the pixels of the channel sums that are read there
    pub row_accepted : (at : ℕ → ℕ → Channels) (out : List ℕ)
        → length t.xs ≡ length t.ys
        → row ≤ 4095
        → length out % 3 ≡ 0
        → first + length out / 3 ≤ 4096
        → ((p i : ℕ) → p < length out / 3 → i < 16 → known t (sample_x (first + p) i) (sample_y row i) ≡ true)
        → ((p i : ℕ) → p < length out / 3 → i < 16 → sums_in t (sample_x (first + p) i) (sample_y row i) ≡ at (sample_x (first + p) i) (sample_y row i))
        → row_filled t row first out ≡ filled (Ok tt) (sets out 0 (row_bytes at row first (length out / 3)))
    row_accepted at out e r m s k h =
        let n = length out / 3 in
        let no = filled (Err (at_place Refusals.Argument 0)) out in
        let z : first + 0 ≡ first = omega arith in
        let f = fill_all 0 n out (λ p l. pixel_known_law (first + p) (λ i g. k p i (omega (arith, l)) g)) in
        let b = bytes_agree (sums_in t) at row first n (λ p g l. pixel_from at n p g l h) in
        let a₁ = pick_true (leb (first + n) 4096) (fill_from t row first 0 n out) no (le-leb (first + n) 4096 s) in
        let a₂ = pick_true (eqb (length out % 3) 0) (row_span t row first out) no (eq-eqb (length out % 3) 0 m) in
        let a₃ = pick_true (leb row 4095) (cond (eqb (length out % 3) 0) (row_span t row first out) no) no (le-leb row 4095 r) in
        let a₄ = pick_true (eqb (length t.xs) (length t.ys))
        (cond (leb row 4095) (cond (eqb (length out % 3) 0) (row_span t row first out) no) no) no
        (eq-eqb (length t.xs) (length t.ys) e) in
        sym (a₁ ∙ (a₂ ∙ (a₃ ∙ a₄)))
        ∙ (f ∙ ap (λ (v : List ℕ). filled (Ok tt) (sets out 0 v)) (ap (λ (j : ℕ). row_bytes (sums_in t) row j n) z ∙ b))

-- no pixel meets no number: the call is accepted over any tree
pub row_empty : (t : Tree) (row first : ℕ) → length t.xs ≡ length t.ys → row ≤ 4095 → first ≤ 4096 → row_filled t row first [] ≡ filled (Ok tt) []
unfolding row_bytes
row_empty t row first e r s = row_accepted t row first (sums_in t) [] e r refl (omega (arith, s)) (λ p i l g. absurd (omega (arith, l))) (λ p i l g. refl)
