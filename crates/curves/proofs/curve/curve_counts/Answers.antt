-- `curves::curve::curve_counts` meets its contract: no row, right of the box, left of it, and within it by the form.
use mathlib.Core.Path.{◌∙◌}
use native.Mathlib.Omega.{arith}
use Rattle.curves.proofs.Boxes.{fits_says, off_row, right_of_box, left_of_box, on_row, in_box, control_in}
use Rattle.curves.proofs.curve.curve_counts.Goals as goal

pub returns-then-at-low : goal.returns-then-at-low
returns-then-at-low c = let a = c.args in record {
  answer = off_row a.ends.low.x a.ends.low.y a.control.x a.control.y a.ends.high.x a.ends.high.y a.at.x a.at.y (λ w.
      omega (arith, w, c.if-at-low.true));
}

pub returns-then-high-at : goal.returns-then-high-at
returns-then-high-at c = let a = c.args in record {
  answer = off_row a.ends.low.x a.ends.low.y a.control.x a.control.y a.ends.high.x a.ends.high.y a.at.x a.at.y (λ w.
      omega (arith, w, c.if-high-at.true));
}

pub returns-then-max-at : goal.returns-then-max-at
returns-then-max-at c = let a = c.args in
    record {
      answer = right_of_box a.ends.low.x a.ends.low.y a.control.x a.control.y a.ends.high.x a.ends.high.y (fits_says _ _ _ _ _ _ c.requires.y2_value)
          c.requires.y0_le_y2 a.at.x a.at.y (omega arith);
    }

pub returns-then-at-min : goal.returns-then-at-min
returns-then-at-min c =
    let a = c.args in record {
      answer =
          left_of_box a.ends.low.x a.ends.low.y a.control.x a.control.y a.ends.high.x a.ends.high.y (fits_says _ _ _ _ _ _ c.requires.y2_value)
          c.requires.y0_le_y2
          a.at.x a.at.y (omega arith) (omega arith)
          (omega arith);
    }

pub invariant_of-corner : goal.invariant_of-corner
invariant_of-corner c =
    let a = c.args in record {
      inside = control_in a.ends.low.x a.ends.low.y a.control.x a.control.y a.ends.high.x a.ends.high.y
          (fits_says _ _ _ _ _ _ c.requires.y2_value) c.requires.y0_le_y2 a.ends.ends_in;
    }

pub curve_side-requires : goal.curve_side-requires
curve_side-requires c =
    let a = c.args in
    in_box a.ends.low.x a.ends.low.y a.control.x a.control.y a.ends.high.x a.ends.high.y (fits_says _ _ _ _ _ _ c.requires.y2_value)
    c.requires.y0_le_y2 a.at.x a.at.y (omega arith) (omega arith) (omega arith) (omega arith)

pub returns : goal.returns
returns c =
    let a = c.args in record {
      answer = c.curve_side.ensures.answer
          ∙ on_row a.ends.low.x a.ends.low.y a.control.x a.control.y a.ends.high.x a.ends.high.y (fits_says _ _ _ _ _ _ c.requires.y2_value)
          c.requires.y0_le_y2 a.at.x
          a.at.y (omega arith)
          (omega arith);
    }
