-- The place of a refused row of pixels fits the low half of an answer.
use mathlib.Core.Path.{◌≡◌, refl}
use mathlib.Core.Bool.{Bool, true, false, cond}
use mathlib.Core.List.{List}
use Prim.Native.Nat.{ℕ, zero, suc, ◌+◌, ◌/◌, ◌%◌, ◌≤◌}
use native.Mathlib.Omega.{arith}
use lib.ListN.{length}
use lib.Dec.{eqb, leb}
use borrow.Author.Tests.{leb-true}
use Rattle.refusals.specs.declared.Refusal.TheVariants.{Argument, Broken}
use Rattle.tables.specs.Tables.{Tree}
use Rattle.refusals.specs.Refusals.{at_place}
use Rattle.std.proofs.Common.{Ok, Err}
use Rattle.pixel_row.specs.Rows.{filled, Filled, put_pixel, pixel_known, pixel_in, fill_from, row_filled}
use Rattle.answers.specs.Readings.{row_place}

module _ (t : Tree) (row first : ℕ) where
  fill_place : (i n : ℕ) (out : List ℕ) → row_place (fill_from t row first i n out).answer ≤ i + n
  unfolding fill_from
  fill_place i zero out = omega arith
  fill_place i (suc n) out =
      go (pixel_known t row (first + i)) (fill_from t row first (i + 1) n (put_pixel out i (pixel_in t row (first + i))))
      (fill_place (i + 1) n (put_pixel out i (pixel_in t row (first + i))))
    where
      go : (b : Bool) (f : Filled) → row_place f.answer ≤ i + 1 + n → row_place (cond b f (filled (Err (at_place Broken i)) out)).answer ≤ i + suc n
      go true f h = omega (arith, h)
      go false f h = omega arith

  pub row_place_law : (out : List ℕ) → row_place (row_filled t row first out).answer ≤ 4096
  row_place_law out = go (eqb (length t.xs) (length t.ys)) (leb row 4095) (eqb (length out % 3) 0) (leb (first + length out / 3) 4096) refl
    where
      go : (a b c d : Bool)
          → leb (first + length out / 3) 4096 ≡ d
          → row_place
          (cond a
          (cond b
          (cond c (cond d (fill_from t row first 0 (length out / 3) out) (filled (Err (at_place Argument 0)) out)) (filled (Err (at_place Argument 0)) out))
          (filled (Err (at_place Argument 0)) out))
          (filled (Err (at_place Argument 0)) out)).answer
          ≤ 4096
      go true true true true e = omega (arith, fill_place 0 (length out / 3) out, leb-true (first + length out / 3) 4096 e)
      go true true true false e = omega arith
      go true true false d e = omega arith
      go true false c d e = omega arith
      go false b c d e = omega arith
