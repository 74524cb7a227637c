-- `geometry::class::classify` meets its contract: the laws of `Classes` by four positions, for an edge.
use mathlib.Core.Path.{sym, ◌∙◌}
use native.Mathlib.Omega.{arith}
use Rattle.geometry.specs.Edges.{counts, first_row, end_row}
use Rattle.geometry.specs.Classes.{edge_class}
use Rattle.geometry.proofs.Edges.{edge_segment}
use Rattle.geometry.proofs.Classes.{no_rows, quick_dropped, quick_every, quick_kept}
use Rattle.geometry.proofs.class.Square.classify.Goals as goal

pub returns-then-hi-lo : goal.returns-then-hi-lo
unfolding edge_class
returns-then-hi-lo c = let g = c.args in record {
  answer = sym (no_rows (counts g.e) (first_row g.e) (end_row g.e) g.self.x g.self.y g.self.side
      (omega arith));
}

pub returns-then-counts_in_neither : goal.returns-then-counts_in_neither
unfolding edge_class
returns-then-counts_in_neither c =
    let g = c.args in record {
      answer = sym
          (quick_dropped (edge_segment g.e) g.self.x g.self.y g.self.side _ _ _ (omega arith) (omega arith) c.if-hi-lo.false
          (omega arith) (omega arith) (sym c.counts_in_neither.ensures.answer ∙ c.if-counts_in_neither.true));
    }

pub returns-then-counts_in_both : goal.returns-then-counts_in_both
unfolding edge_class
returns-then-counts_in_both c =
    let g = c.args in record {
      answer = c.cut_rows.ensures.answer
          ∙ sym
          (quick_every (edge_segment g.e) g.self.x g.self.y g.self.side _ _ _ (omega arith) (omega arith) c.if-hi-lo.false (omega arith)
          (omega arith) _ (omega arith) (sym c.counts_in_both.ensures.answer ∙ c.if-counts_in_both.true));
    }

pub returns-else-counts_in_both : goal.returns-else-counts_in_both
unfolding edge_class
returns-else-counts_in_both c =
    let g = c.args in record {
      answer = sym
          (quick_kept (edge_segment g.e) g.self.x g.self.y g.self.side _ _ _ (omega arith) (omega arith) c.if-hi-lo.false (omega arith)
          (omega arith) _ (omega arith) (sym c.counts_in_neither.ensures.answer ∙ c.if-counts_in_neither.false)
          (sym c.counts_in_both.ensures.answer ∙ c.if-counts_in_both.false));
    }
