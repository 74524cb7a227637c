use mathlib.Core.Path.{sym, ◌∙◌}
use Rattle.laws.proofs.Signed.{read_back}
use Rattle.geometry.specs.Windings.{edge_of, adds}
use Rattle.geometry.proofs.Windings.{adds_abs}
use Rattle.evaluate.specs.code.Numbers.{line_of}
use Rattle.evaluate.proofs.segment_adds.Goals as goal

pub returns-then-is_line : goal.returns-then-is_line
unfolding adds
returns-then-is_line c =
    let a = c.args in
    let e = read_back _ c.line_adds.type_inv ∙ c.line_adds.ensures.answer in record {
      answer = (
        rw (sym c.is_line.ensures.answer ∙ c.if-is_line.true) e,
        rw e (adds_abs (edge_of a.context.xs.now a.context.ys.now (line_of a.w)) a.at.x a.at.y),
      );
    }
