use mathlib.Core.Path.{ap, ◌∙◌}
use native.Mathlib.Omega.{arith}
use lib.ListN.{length}
use Rattle.std.proofs.lemmas.Result.{err_from_is_err_and}
use Rattle.stream.specs.Table.{words_in}
use Rattle.ranges.specs.Held.{lent_of}
use Rattle.celltable.specs.Ranges.{cell_of}
use Rattle.split.specs.Split.{room_answer}
use Rattle.split.proofs.Rooms.{few_each, sum_few, sum_is}
use Rattle.split.proofs.Plans.{plan_is, plan_refused}
use Rattle.split.proofs.judge_children.Goals as goal

pub entries_of-made-requires : goal.entries_of-made-requires
entries_of-made-requires c =
    let s = c.args.passed.stream in
    let x = c.args.passed.context in
    few_each s.entries.now x.areas.now x.xs.now x.ys.now x.bounds s.first s.count (cell_of c.args.w.words)
    c.count_to-children.result c.args.passed.passed c.count_to-children.ensures.answer

pub judge_room-requires : goal.judge_room-requires
judge_room-requires c =
    let s = c.args.passed.stream in
    let x = c.args.passed.context in
    let f = few_each s.entries.now x.areas.now x.xs.now x.ys.now x.bounds s.first s.count (cell_of c.args.w.words)
    c.count_to-children.result c.args.passed.passed c.count_to-children.ensures.answer in
    omega (arith, c.entries_of-made.ensures.answer, sum_few c.count_to-children.result f)

pub returns-in_err-child : goal.returns-in_err-child
returns-in_err-child c =
    let a = c.args in
    let n = sum_is (lent_of a.passed.context) (cell_of a.w.words) (words_in a.passed.stream) c.count_to-children.result c.entries_of-made.result
    c.count_to-children.ensures.answer c.entries_of-made.ensures.answer in
    let p = err_from_is_err_and c.from_residual.result c.from_residual.ensures.1 in
    record {
      answer = rw (p.1, p.2) (plan_refused _ _ _ (c.in_err-child.ensures.answer
          ∙ ap (room_answer a.cells (length a.passed.stream.entries.now) a.in_use.cells a.in_use.entries) n));
    }

pub returns : goal.returns
returns c =
    let a = c.args in
    let n = sum_is (lent_of a.passed.context) (cell_of a.w.words) (words_in a.passed.stream) c.count_to-children.result c.entries_of-made.result
    c.count_to-children.ensures.answer c.entries_of-made.ensures.answer in record {
      answer = plan_is _ _ _ _ (c.in_ok-child.ensures.answer
          ∙ ap (room_answer a.cells (length a.passed.stream.entries.now) a.in_use.cells a.in_use.entries) n)
          c.count_to-children.ensures.answer;
    }
