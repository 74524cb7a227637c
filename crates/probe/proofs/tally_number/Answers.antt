use mathlib.Core.Path.{ap, ◌∙◌}
use mathlib.Core.List.{List}
use lib.ListN.{get_or}
use Rattle.laws.proofs.Signed.{read_back}
use Rattle.stream.specs.Table.{words_in}
use Rattle.celltable.specs.declared.CellWords.{CellWords}
use Rattle.celltable.specs.Ranges.{cell_of}
use Rattle.ranges.specs.Held.{lent}
use Rattle.four_children.specs.declared.Tally.{Tally}
use Rattle.four_children.specs.code.Numbers.{no_tally, worked_to}
use Rattle.probe.specs.Answers.{square_fits, number_in}
use Rattle.probe.proofs.tally_number.Goals as goal

pub invariant_of-count_to : goal.invariant_of-count_to
unfolding square_fits
invariant_of-count_to c =
    rw c.leaf_on-words.ensures.answer (record { on_grid = c.requires.s_value; halves = c.requires.lt_side.0 })

pub returns : goal.returns
returns c =
    let a = c.args in
    let v = a.passed.context in
    record {
      answer = read_back _ c.number_in.type_inv
          ∙ (c.number_in.ensures.answer
          ∙ (ap (λ (ts : List Tally). number_in (get_or ts a.k no_tally) a.number) c.count_to-tallies.ensures.answer
          ∙ ap (λ (w : CellWords). number_in (get_or (worked_to (lent v.areas.now v.xs.now v.ys.now v.bounds) (cell_of w)
          (words_in a.passed.stream) a.q) a.k no_tally) a.number) c.leaf_on-words.ensures.answer));
    }
