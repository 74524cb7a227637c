use mathlib.Core.Path.{◌∙◌}
use Rattle.probe.proofs.Laws.{square_in_law, square_cell, made_count}
use Rattle.probe.proofs.entries_made.Goals as goal

pub count_child-requires-clause-square_in : goal.count_child-requires-clause-square_in
count_child-requires-clause-square_in c = square_in_law _ c.requires.s_value

pub count_child-requires-clause-s_value : goal.count_child-requires-clause-s_value
count_child-requires-clause-s_value c = square_cell _ c.requires.s_value

pub returns-clause-answer : goal.returns-clause-answer
returns-clause-answer c =
    let v = c.args.passed.context in
    let s = c.args.passed.stream in
    c.entries_in.ensures.answer
    ∙ made_count s.entries.now s.first s.count v.areas.now v.xs.now v.ys.now v.bounds c.args.s
    c.count_child.result.weight c.args.passed.passed c.count_child.ensures.weight
