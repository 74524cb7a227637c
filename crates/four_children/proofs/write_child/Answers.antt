use mathlib.Core.Path.{ap, ◌∙◌}
use lib.ListN.{length}
use Rattle.cells.specs.Cells.{Cell}
use Rattle.stream.specs.Table.{words_from, written}
use Rattle.ranges.specs.Held.{lent_of}
use Rattle.making.specs.Made.{elements_made, words_made}
use Rattle.four_children.proofs.Squares.{kid_square, kid_in, kid_back}
use mathlib.Core.Path.{sym}
use Rattle.four_children.proofs.write_child.Goals as goal

pub write_child-requires : goal.write_child-requires
write_child-requires c =
    let a = c.args in
    let D = lent_of a.context in
    let ws = words_from a.entries.now a.first a.count in
    let s = c.quarter-s.result in record {
      passed = c.requires.passed;
      square_in = kid_square a.w.words a.w.on_grid a.q s c.quarter-s.ensures.answer;
      s_value = kid_back a.w.words a.w.on_grid a.q s c.quarter-s.ensures.answer;
      count_bound = c.requires.count_bound;
      made_in_bounds = c.requires.made_in_bounds;
      made_value = c.requires.made_value
          ∙ ap (λ (k : Cell). length (elements_made D k ws)) (sym (kid_in a.w.words a.w.on_grid a.q s c.quarter-s.ensures.answer));
    }

pub returns : goal.returns
returns c =
    let a = c.args in
    let D = lent_of a.context in
    let ws = words_from a.entries.now a.first a.count in
    let s = c.quarter-s.result in record {
      entries = c.write_child.ensures.entries
          ∙ ap (λ (k : Cell). written a.entries.now a.free (words_made D k ws)) (kid_in a.w.words a.w.on_grid a.q s c.quarter-s.ensures.answer);
    }
