use mathlib.Core.Path.{ap, ◌∙◌}
use Rattle.pruning.specs.code.Weights.{total}
use Rattle.cells.specs.Cells.{Cell}
use Rattle.cells.specs.code.Making.{element_size}
use Rattle.stream.specs.Table.{words_in}
use Rattle.ranges.specs.Held.{lent_of}
use Rattle.making.specs.Made.{elements_made}
use Rattle.child_stream.specs.code.Numbers.{starts_in}
use Rattle.four_children.specs.Children.{elements_of_child}
use Rattle.celltable.specs.Ranges.{cell_of}
use Rattle.four_children.proofs.Squares.{kid_square, kid_in, kid_back}
use Rattle.four_children.proofs.Tallies.{tally_is}
use Rattle.four_children.proofs.Made.{few_elements}
use Rattle.four_children.proofs.count_one.Goals as goal

pub count_child-n-requires : goal.count_child-n-requires
count_child-n-requires c = let a = c.args in
    record {
      square_in = kid_square a.w.words a.w.on_grid a.q c.quarter-s.result c.quarter-s.ensures.answer;
      s_value = kid_back a.w.words a.w.on_grid a.q c.quarter-s.result c.quarter-s.ensures.answer;
    }

pub returns : goal.returns
returns c =
    let a = c.args in
    let D = lent_of a.passed.context in
    let ws = words_in a.passed.stream in record {
      answer = c.from.ensures
          ∙ tally_is (elements_of_child D (cell_of a.w.words) ws a.q) c.count_child-n.result
          (few_elements a.passed.stream.entries.now a.passed.context.areas.now a.passed.context.xs.now a.passed.context.ys.now
          a.passed.context.bounds a.passed.stream.first a.passed.stream.count _
          a.passed.passed)
          (c.count_child-n.ensures.weight
          ∙ ap (λ (k : Cell). total element_size (elements_made D k ws))
          (kid_in a.w.words a.w.on_grid a.q c.quarter-s.result c.quarter-s.ensures.answer))
          (c.count_child-n.ensures.starts
          ∙ ap (λ (k : Cell). starts_in (elements_made D k ws))
          (kid_in a.w.words a.w.on_grid a.q c.quarter-s.result c.quarter-s.ensures.answer));
    }
