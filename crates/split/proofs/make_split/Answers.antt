use mathlib.Core.Path.{refl}
use native.Mathlib.Omega.{arith}
use Rattle.tables.specs.Tables.{tree}
use Rattle.tables.proofs.Counts.{counts_fit}
use Rattle.split.proofs.Made.{made_stream, made_square, made_halves, made_few, made_head, made_rows}
use Rattle.split.proofs.Rooms.{sum_few}
use Rattle.split.proofs.make_split.Goals as goal

pub context_of-context-requires : goal.context_of-context-requires
context_of-context-requires c =
    let a = c.args in
    let T = tree a.drawing.plan.now a.drawing.areas.now a.drawing.xs.now a.drawing.ys.now a.head.now a.cells.now a.entries.now in
    (counts_fit T c.requires.accepted.able.counts).plan_long

pub invariant_of-w : goal.invariant_of-w
invariant_of-w c =
    let a = c.args in
    let T = tree a.drawing.plan.now a.drawing.areas.now a.drawing.xs.now a.drawing.ys.now a.head.now a.cells.now a.entries.now in
    record {
      on_grid = made_square T a.i c.requires.accepted a.ts c.requires.ts_value _ _ _ refl refl c.cell-words.ensures.answer;
      halves = made_halves T a.i c.requires.accepted a.ts c.requires.ts_value _ _ _ refl refl c.cell-words.ensures.answer;
    }

pub write_four-requires-clause-passed : goal.write_four-requires-clause-passed
write_four-requires-clause-passed c =
    let a = c.args in
    let T = tree a.drawing.plan.now a.drawing.areas.now a.drawing.xs.now a.drawing.ys.now a.head.now a.cells.now a.entries.now in
    rw c.context_of-context.ensures.answer (made_stream T a.i c.requires.accepted a.ts c.requires.ts_value _ _ _ refl refl c.cell-words.ensures.answer)

pub put_cells-requires-clause-few_each : goal.put_cells-requires-clause-few_each
put_cells-requires-clause-few_each c =
    let a = c.args in
    let T = tree a.drawing.plan.now a.drawing.areas.now a.drawing.xs.now a.drawing.ys.now a.head.now a.cells.now a.entries.now in
    made_few T a.i c.requires.accepted a.ts c.requires.ts_value _ _ _ refl refl c.cell-words.ensures.answer

pub entries_of-made-requires : goal.entries_of-made-requires
entries_of-made-requires c =
    let a = c.args in
    let T = tree a.drawing.plan.now a.drawing.areas.now a.drawing.xs.now a.drawing.ys.now a.head.now a.cells.now a.entries.now in
    made_few T a.i c.requires.accepted a.ts c.requires.ts_value _ _ _ refl refl c.cell-words.ensures.answer

pub overflow_cast-made : goal.overflow_cast-made
overflow_cast-made c =
    let a = c.args in
    let T = tree a.drawing.plan.now a.drawing.areas.now a.drawing.xs.now a.drawing.ys.now a.head.now a.cells.now a.entries.now in
    let f = made_few T a.i c.requires.accepted a.ts c.requires.ts_value _ _ _ refl refl c.cell-words.ensures.answer in
    record { fits = omega (arith, c.entries_of-made.ensures.answer, sum_few a.ts f) }

pub overflow_add-in_use-2 : goal.overflow_add-in_use-2
overflow_add-in_use-2 c =
    let a = c.args in
    let T = tree a.drawing.plan.now a.drawing.areas.now a.drawing.xs.now a.drawing.ys.now a.head.now a.cells.now a.entries.now in
    let f = made_few T a.i c.requires.accepted a.ts c.requires.ts_value _ _ _ refl refl c.cell-words.ensures.answer in
    record {
      fits = omega (
        arith,
        (counts_fit T c.requires.accepted.able.counts).entries_few,
        c.entries_of-made.ensures.answer,
        sum_few a.ts f,
      );
    }

pub returns-clause-head : goal.returns-clause-head
returns-clause-head c =
    let a = c.args in
    let T = tree a.drawing.plan.now a.drawing.areas.now a.drawing.xs.now a.drawing.ys.now a.head.now a.cells.now a.entries.now in
    made_head T a.i c.requires.accepted a.ts c.requires.ts_value _ _ _ refl refl c.cell-words.ensures.answer _
    (rw (← c.entries_of-made.ensures.answer) c.put_head.ensures.head)

pub returns-clause-cells : goal.returns-clause-cells
returns-clause-cells c =
    let a = c.args in
    let T = tree a.drawing.plan.now a.drawing.areas.now a.drawing.xs.now a.drawing.ys.now a.head.now a.cells.now a.entries.now in
    made_rows T a.i c.requires.accepted a.ts c.requires.ts_value _ _ _ refl refl c.cell-words.ensures.answer _
    c.put_cells.ensures.cells
