-- `curves::line::Ends::product` meets its contract. Each value is carried as a difference of two naturals, which fits.
use mathlib.Core.Path.{◌≡◌, sym, ap₂, ◌∙◌}
use Prim.Native.Nat.{◌+◌, ◌*◌}
use lib.IntN.{sub_ℕ, ◌+ℤ◌, ◌*ℤ◌}
use mir.Syntax.{w64}
use mir.Val.{to_z, of_z}
use Rattle.laws.proofs.Differences.{add_sub}
use Rattle.laws.proofs.Signed.{read_back, reads, fits_as}
use Rattle.curves.proofs.Products.{left, right, plus, minus, left_is, right_is, product_is, left_fits, right_fits, product_fits}
use Rattle.curves.proofs.line.Ends.product.Goals.{After-difference-2, After-difference-4}
use Rattle.curves.proofs.line.Ends.product.Goals as goal

first : (c : After-difference-2)
    → let s = c.args in
    to_z w64 (of_z w64 c.difference.result) *ℤ to_z w64 (of_z w64 c.difference-2.result) ≡ left s.self.low.x s.self.low.y s.self.high.y s.at.x
first c = ap₂ ◌*ℤ◌ (read_back _ c.difference.type_inv ∙ c.difference.ensures.answer)
    (read_back _ c.difference-2.type_inv ∙ c.difference-2.ensures.answer)
    ∙ (let s = c.args in left_is s.self.low.x s.self.low.y s.self.high.y s.at.x)

pub overflow_mul-result : goal.overflow_mul-result
overflow_mul-result c = fits_as (first c) (left_fits c.args.self.ends_in c.args.at.inside)

second : (c : After-difference-4)
    → let s = c.args in
    to_z w64 (of_z w64 c.difference-3.result) *ℤ to_z w64 (of_z w64 c.difference-4.result) ≡ right s.self.low.x s.self.low.y s.self.high.x s.at.y
second c = ap₂ ◌*ℤ◌ (read_back _ c.difference-3.type_inv ∙ c.difference-3.ensures.answer)
    (read_back _ c.difference-4.type_inv ∙ c.difference-4.ensures.answer)
    ∙ (let s = c.args in right_is s.self.low.x s.self.low.y s.self.high.x s.at.y)

pub overflow_mul-result-2 : goal.overflow_mul-result-2
overflow_mul-result-2 c = fits_as (second c) (right_fits c.args.self.ends_in c.args.at.inside)

-- the whole product, as the machine adds it
whole : (c : After-difference-4) → let s = c.args in
    to_z w64 (of_z w64 (to_z w64 (of_z w64 c.difference.result) *ℤ to_z w64 (of_z w64 c.difference-2.result)))
    +ℤ to_z w64 (of_z w64 (to_z w64 (of_z w64 c.difference-3.result) *ℤ to_z w64 (of_z w64 c.difference-4.result)))
    ≡ sub_ℕ (plus s.self.low.x s.self.low.y s.self.high.x s.self.high.y s.at.x s.at.y)
    (minus s.self.low.x s.self.low.y s.self.high.x s.self.high.y s.at.x s.at.y)
whole c = let s = c.args in
    ap₂ ◌+ℤ◌ (reads (first c.before.before) (left_fits c.args.self.ends_in c.args.at.inside))
    (reads (second c) (right_fits c.args.self.ends_in c.args.at.inside))
    ∙ add_sub (s.self.low.x * s.self.high.y + s.at.x * s.self.low.y) (s.self.low.x * s.self.low.y + s.at.x * s.self.high.y)
    (s.at.y * s.self.high.x + s.self.low.y * s.self.low.x) (s.at.y * s.self.low.x + s.self.low.y * s.self.high.x)

pub overflow_add-result : goal.overflow_add-result
overflow_add-result c = fits_as (whole c) (product_fits c.args.self.ends_in c.args.at.inside)

pub returns : goal.returns
returns c =
    let s = c.args in record {
      answer = reads (whole c) (product_fits c.args.self.ends_in c.args.at.inside) ∙ sym (product_is s.self.low.x s.self.low.y
          s.self.high.x s.self.high.y s.at.x s.at.y);
    }
