use mathlib.Core.Path.{ap, ◌∙◌}
use native.Mathlib.Omega.{arith}
use Rattle.std.specs.Prelude.{Option, Ok}
use Rattle.std.proofs.lemmas.Result.{err_from_is_err_and}
use Rattle.tables.specs.Tables.{Tree, tree}
use Rattle.tables.proofs.Counts.{counts_long}
use Rattle.grow.specs.declared.Sweep.{Sweep}
use Rattle.grow.proofs.Swept.{sweeping_begin, sweep_done}
use Rattle.grow.proofs.Looped.{loop_on, loop_nearer, loop_full, full_tree, loop_stopped, stopped_tree}
use Rattle.grow.proofs.sweep_up.Goals as goal

pub bounds-head-0 : goal.bounds-head-0
bounds-head-0 c =
    let a = c.args in
    let d = a.drawing in
    let T = tree d.plan.now d.areas.now d.xs.now d.ys.now a.head.now a.cells.now a.entries.now in
    omega (arith, counts_long T c.requires)

pub bounds-head-1 : goal.bounds-head-1
bounds-head-1 c =
    let a = c.args in
    let d = a.drawing in
    let T = tree d.plan.now d.areas.now d.xs.now d.ys.now a.head.now a.cells.now a.entries.now in
    omega (arith, counts_long T c.requires)

pub loop-s-init : goal.loop-s-init
loop-s-init c =
    let a = c.args in
    let d = a.drawing in
    let T = tree d.plan.now d.areas.now d.xs.now d.ys.now a.head.now a.cells.now a.entries.now in
    sweeping_begin a.limits.threshold a.limits.depth T c.requires

pub loop-s-smaller : goal.loop-s-smaller
loop-s-smaller c =
    let a = c.args in
    let d = a.drawing in
    let T = tree d.plan.now d.areas.now d.xs.now d.ys.now a.head.now a.cells.now a.entries.now in
    loop_nearer a.limits.threshold a.limits.depth T d.plan.now d.areas.now d.xs.now d.ys.now c.loop-s.head c.loop-s.cells c.loop-s.entries c.loop-s.s
    c.loop-s.invariant c.loop-s-test.true _ _ _ c.take_turn.result c.take_turn.ensures.answer c.take_turn.ensures.head c.take_turn.ensures.cells
    c.take_turn.ensures.entries _ (c.in_ok-turn.was ∙ ap (λ (q : Option Sweep). Ok q) c.in-Some.is)

pub loop-s-preserved : goal.loop-s-preserved
loop-s-preserved c =
    let a = c.args in
    let d = a.drawing in
    let T = tree d.plan.now d.areas.now d.xs.now d.ys.now a.head.now a.cells.now a.entries.now in
    loop_on a.limits.threshold a.limits.depth T d.plan.now d.areas.now d.xs.now d.ys.now c.loop-s.head c.loop-s.cells c.loop-s.entries c.loop-s.s
    c.loop-s.invariant c.loop-s-test.true _ _ _ c.take_turn.result c.take_turn.ensures.answer c.take_turn.ensures.head c.take_turn.ensures.cells
    c.take_turn.ensures.entries _ (c.in_ok-turn.was ∙ ap (λ (q : Option Sweep). Ok q) c.in-Some.is)

pub returns-in_err-turn : goal.returns-in_err-turn
returns-in_err-turn c =
    let a = c.args in
    let d = a.drawing in
    let T = tree d.plan.now d.areas.now d.xs.now d.ys.now a.head.now a.cells.now a.entries.now in
    let Q = stopped_tree a.limits.threshold a.limits.depth T d.plan.now d.areas.now d.xs.now d.ys.now c.loop-s.head c.loop-s.cells c.loop-s.entries c.loop-s.s
    c.loop-s.invariant c.loop-s-test.true _ _ _ c.take_turn.result c.take_turn.ensures.answer c.take_turn.ensures.head c.take_turn.ensures.cells
    c.take_turn.ensures.entries _ c.in_err-turn.was in
    let p = err_from_is_err_and c.from_residual.result c.from_residual.ensures.1 in
    record {
      answer = rw (p.1, p.2) (loop_stopped a.limits.threshold a.limits.depth T d.plan.now d.areas.now d.xs.now d.ys.now c.loop-s.head c.loop-s.cells
          c.loop-s.entries c.loop-s.s
          c.loop-s.invariant c.loop-s-test.true _ _ _ c.take_turn.result c.take_turn.ensures.answer c.take_turn.ensures.head c.take_turn.ensures.cells
          c.take_turn.ensures.entries _ c.in_err-turn.was);
      head = ap (λ (u : Tree). u.head) Q;
      cells = ap (λ (u : Tree). u.cells) Q;
      entries = ap (λ (u : Tree). u.entries) Q;
    }

pub returns-in-None : goal.returns-in-None
returns-in-None c =
    let a = c.args in
    let d = a.drawing in
    let T = tree d.plan.now d.areas.now d.xs.now d.ys.now a.head.now a.cells.now a.entries.now in
    let f = c.in_ok-turn.was ∙ ap (λ (q : Option Sweep). Ok q) c.in-None.is in
    let Q = full_tree a.limits.threshold a.limits.depth T d.plan.now d.areas.now d.xs.now d.ys.now c.loop-s.head c.loop-s.cells c.loop-s.entries c.loop-s.s
    c.loop-s.invariant c.loop-s-test.true _ _ _ c.take_turn.result c.take_turn.ensures.answer c.take_turn.ensures.head c.take_turn.ensures.cells
    c.take_turn.ensures.entries f in
    record {
      answer = loop_full a.limits.threshold a.limits.depth T d.plan.now d.areas.now d.xs.now d.ys.now c.loop-s.head c.loop-s.cells c.loop-s.entries c.loop-s.s
          c.loop-s.invariant c.loop-s-test.true _ _ _ c.take_turn.result c.take_turn.ensures.answer c.take_turn.ensures.head c.take_turn.ensures.cells
          c.take_turn.ensures.entries f;
      head = ap (λ (u : Tree). u.head) Q;
      cells = ap (λ (u : Tree). u.cells) Q;
      entries = ap (λ (u : Tree). u.entries) Q;
    }

pub returns : goal.returns
returns c =
    let a = c.args in
    let d = a.drawing in
    let T = tree d.plan.now d.areas.now d.xs.now d.ys.now a.head.now a.cells.now a.entries.now in
    let D = sweep_done a.limits.threshold a.limits.depth T (tree d.plan.now d.areas.now d.xs.now d.ys.now c.loop-s.head c.loop-s.cells c.loop-s.entries)
    c.loop-s.s c.loop-s.invariant c.loop-s-test.false in
    record { answer = D.0; head = ap (λ (u : Tree). u.head) D.1; cells = ap (λ (u : Tree). u.cells) D.1; entries = ap (λ (u : Tree). u.entries) D.1 }
