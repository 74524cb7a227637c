use Rattle.tables.specs.Tables.{tree}
use Rattle.grow.proofs.Turned.{head_is, cells_is, entries_is, turn_split}
use Rattle.grow.proofs.split_wanted.Goals as goal

pub returns-in-Ok : goal.returns-in-Ok
returns-in-Ok c =
    let a = c.args in
    let d = a.drawing in
    let T = tree d.plan.now d.areas.now d.xs.now d.ys.now a.head.now a.cells.now a.entries.now in
    let x = c.split-a.result in record {
      answer = turn_split T a.s x c.split-a.ensures.answer _ c.split_past-after.result _ c.in-Ok.is c.split_past-after.ensures.answer
          c.split-a.ensures.head;
      head = head_is T a.s x c.split-a.ensures.answer _ c.split-a.ensures.head;
      cells = cells_is T a.s x c.split-a.ensures.answer _ c.split-a.ensures.cells;
      entries = entries_is T a.s x c.split-a.ensures.answer _ c.split-a.ensures.entries;
    }

pub returns-in-Err-clause-head : goal.returns-in-Err-clause-head
returns-in-Err-clause-head c =
    let a = c.args in
    let d = a.drawing in
    let T = tree d.plan.now d.areas.now d.xs.now d.ys.now a.head.now a.cells.now a.entries.now in
    head_is T a.s c.split-a.result c.split-a.ensures.answer _ c.split-a.ensures.head

pub returns-in-Err-clause-cells : goal.returns-in-Err-clause-cells
returns-in-Err-clause-cells c =
    let a = c.args in
    let d = a.drawing in
    let T = tree d.plan.now d.areas.now d.xs.now d.ys.now a.head.now a.cells.now a.entries.now in
    cells_is T a.s c.split-a.result c.split-a.ensures.answer _ c.split-a.ensures.cells

pub returns-in-Err-clause-entries : goal.returns-in-Err-clause-entries
returns-in-Err-clause-entries c =
    let a = c.args in
    let d = a.drawing in
    let T = tree d.plan.now d.areas.now d.xs.now d.ys.now a.head.now a.cells.now a.entries.now in
    entries_is T a.s c.split-a.result c.split-a.ensures.answer _ c.split-a.ensures.entries
