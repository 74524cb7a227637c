use mathlib.Core.Path.{sym, ap, ◌∙◌}
use native.Mathlib.Omega.{arith}
use Rattle.std.specs.Prelude.{Ok, Some}
use Rattle.tables.specs.Tables.{tree}
use Rattle.tables.proofs.Counts.{used_most, used_within}
use Rattle.grow.specs.declared.Tried.{Tried}
use Rattle.grow.specs.declared.Sweep.{Sweep}
use Rattle.grow.specs.code.Numbers.{turn_by, tree_by}
use Rattle.grow.proofs.Turned.{tried_here}
use Rattle.grow.proofs.take_turn.Goals as goal

pub try_cell-t-requires : goal.try_cell-t-requires
try_cell-t-requires c =
    let a = c.args in
    let d = a.drawing in
    let T = tree d.plan.now d.areas.now d.xs.now d.ys.now a.head.now a.cells.now a.entries.now in
    (c.requires.cell_lt_used.0, omega (arith, used_within T c.requires.entries_value, c.requires.used_value.0))

pub past-next-requires : goal.past-next-requires
past-next-requires c =
    let a = c.args in
    let d = a.drawing in
    let T = tree d.plan.now d.areas.now d.xs.now d.ys.now a.head.now a.cells.now a.entries.now in
    omega (arith, used_most T c.requires.entries_value, c.requires.used_value.0, c.requires.cell_lt_used.0)

pub split_wanted-requires-clause-cell_bound : goal.split_wanted-requires-clause-cell_bound
split_wanted-requires-clause-cell_bound c =
    let a = c.args in
    let d = a.drawing in
    let T = tree d.plan.now d.areas.now d.xs.now d.ys.now a.head.now a.cells.now a.entries.now in
    let u = used_most T c.requires.entries_value in
    let e = c.requires.used_value.0 in
    let q = c.requires.cell_lt_used in
    (omega (arith, u, e, q.0), omega (arith, u, e), omega (arith, u, e, q.0, q.1))

pub returns-in-Bad : goal.returns-in-Bad
returns-in-Bad c =
    let a = c.args in
    let d = a.drawing in
    let T = tree d.plan.now d.areas.now d.xs.now d.ys.now a.head.now a.cells.now a.entries.now in
    let E = tried_here a.limits.threshold a.limits.depth T a.s c.try_cell-t.result c.requires.used_value.0 c.requires.used_value.1 c.try_cell-t.ensures.answer
    ∙ c.in-Bad.is in record {
      answer = sym (ap (λ (x : Tried). turn_by x T a.s) E);
      head = sym (ap (λ (x : Tried). (tree_by x T a.s.cell).head) E);
      cells = sym (ap (λ (x : Tried). (tree_by x T a.s.cell).cells) E);
      entries = sym (ap (λ (x : Tried). (tree_by x T a.s.cell).entries) E);
    }

pub returns-in-Past : goal.returns-in-Past
returns-in-Past c =
    let a = c.args in
    let d = a.drawing in
    let T = tree d.plan.now d.areas.now d.xs.now d.ys.now a.head.now a.cells.now a.entries.now in
    let E = tried_here a.limits.threshold a.limits.depth T a.s c.try_cell-t.result c.requires.used_value.0 c.requires.used_value.1 c.try_cell-t.ensures.answer
    ∙ c.in-Past.is in record {
      answer = ap (λ (q : Sweep). Ok (Some q)) c.past-next.ensures.answer ∙ sym (ap (λ (x : Tried). turn_by x T a.s) E);
      head = sym (ap (λ (x : Tried). (tree_by x T a.s.cell).head) E);
      cells = sym (ap (λ (x : Tried). (tree_by x T a.s.cell).cells) E);
      entries = sym (ap (λ (x : Tried). (tree_by x T a.s.cell).entries) E);
    }

pub returns-in-Wanted : goal.returns-in-Wanted
returns-in-Wanted c =
    let a = c.args in
    let d = a.drawing in
    let T = tree d.plan.now d.areas.now d.xs.now d.ys.now a.head.now a.cells.now a.entries.now in
    let E = tried_here a.limits.threshold a.limits.depth T a.s c.try_cell-t.result c.requires.used_value.0 c.requires.used_value.1 c.try_cell-t.ensures.answer
    ∙ c.in-Wanted.is in record {
      answer = c.split_wanted.ensures.answer ∙ sym (ap (λ (x : Tried). turn_by x T a.s) E);
      head = c.split_wanted.ensures.head ∙ sym (ap (λ (x : Tried). (tree_by x T a.s.cell).head) E);
      cells = c.split_wanted.ensures.cells ∙ sym (ap (λ (x : Tried). (tree_by x T a.s.cell).cells) E);
      entries = c.split_wanted.ensures.entries ∙ sym (ap (λ (x : Tried). (tree_by x T a.s.cell).entries) E);
    }
