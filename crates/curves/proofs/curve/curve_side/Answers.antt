-- `curves::curve::curve_side` meets its contract: the four products, each read back, are small in the box.
use mathlib.Core.Path.{◌∙◌}
use Rattle.laws.proofs.Signed.{read_back}
use Rattle.curves.specs.Curves.{side}
use Rattle.curves.proofs.Bounds.{product_near}
use Rattle.curves.proofs.curve.curve_side.Goals as goal

pub side_by-requires-clause-c_bound : goal.side_by-requires-clause-c_bound
side_by-requires-clause-c_bound c =
    let h = c.requires in
    rw (read_back _ c.product-c.type_inv ∙ c.product-c.ensures.answer)
    (search (product_near, h.first, h.second, h.position))

pub side_by-requires-clause-f_bound : goal.side_by-requires-clause-f_bound
side_by-requires-clause-f_bound c =
    let h = c.requires in
    rw (read_back _ c.product-f.type_inv ∙ c.product-f.ensures.answer)
    (search (product_near, h.first, h.control, h.position))

pub side_by-requires-clause-s_bound : goal.side_by-requires-clause-s_bound
side_by-requires-clause-s_bound c =
    let h = c.requires in
    rw (read_back _ c.product-s.type_inv ∙ c.product-s.ensures.answer)
    (search (product_near, h.control, h.second, h.position))

pub returns : goal.returns
unfolding side
returns c =
    record {
      answer = rw (
        read_back _ c.product-e.type_inv ∙ c.product-e.ensures.answer,
        read_back _ c.product-c.type_inv ∙ c.product-c.ensures.answer,
        read_back _ c.product-f.type_inv ∙ c.product-f.ensures.answer,
        read_back _ c.product-s.type_inv ∙ c.product-s.ensures.answer,
      ) at c.side_by.ensures.answer;
    }
