use mathlib.Core.Path.{refl, sym, ◌∙◌}
use mathlib.Core.Bool.{true, false}
use native.Mathlib.Omega.{arith}
use Rattle.tables.specs.Tables.{tree_of}
use Rattle.zone_log.proofs.Passes.{writing_begin, writing_known, writing_room, writing_turn, writing_done}
use Rattle.zone_log.proofs.write_log.Goals as goal
use Rattle.zone_log.proofs.write_log.Goals.{then-is_logged, else-is_logged}

pub loop-i-init : goal.loop-i-init
loop-i-init c = writing_begin (tree_of c.args.tree) c.args.px.now c.args.py.now c.args.out.now c.requires.accepted

pub returns-in_err-met : goal.returns-in_err-met
returns-in_err-met c =
    absurd (writing_known (tree_of c.args.tree) c.args.px.now c.args.py.now c.args.out.now c.loop-i.i c.loop-i.last c.loop-i.count c.loop-i.out
    c.loop-i.invariant _ c.loop-i-test.true c.requires.accepted c.in_err-met.ensures.answer)

pub overflow_cast-out : goal.overflow_cast-out
overflow_cast-out c =
    let r = writing_room (tree_of c.args.tree) c.args.px.now c.args.py.now c.args.out.now c.loop-i.i c.loop-i.last c.loop-i.count c.loop-i.out
    c.loop-i.invariant c.in_ok-met.met c.loop-i-test.true c.in_ok-met.ensures.answer (sym c.if-is_logged.true ∙ c.is_logged.ensures.answer) in
    record { fits = omega (arith, r.1) }

pub bounds-out-count : goal.bounds-out-count
bounds-out-count c =
    (writing_room (tree_of c.args.tree) c.args.px.now c.args.py.now c.args.out.now c.loop-i.i c.loop-i.last c.loop-i.count c.loop-i.out
    c.loop-i.invariant c.in_ok-met.met c.loop-i-test.true c.in_ok-met.ensures.answer (sym c.if-is_logged.true ∙ c.is_logged.ensures.answer)).0

pub loop-i-preserved : goal.loop-i-preserved
loop-i-preserved c =
    let turn = writing_turn (tree_of c.args.tree) c.args.px.now c.args.py.now c.args.out.now c.loop-i.i c.loop-i.last c.loop-i.count c.loop-i.out
    c.loop-i.invariant c.in_ok-met.met c.loop-i-test.true c.in_ok-met.ensures.answer c.if-is_logged.count c.if-is_logged.out in
    elim c.if-is_logged.branch [
      | then-is_logged w ↦ turn true (sym w.if-is_logged.true ∙ c.is_logged.ensures.answer) w.count-is w.out-is
      | else-is_logged w ↦ turn false (sym w.if-is_logged.false ∙ c.is_logged.ensures.answer) w.count-is w.out-is
    ]

pub returns : goal.returns
returns c =
    record {
      answer = refl;
      out = writing_done (tree_of c.args.tree) c.args.px.now c.args.py.now c.args.out.now c.loop-i.i c.loop-i.last c.loop-i.count c.loop-i.out
          c.loop-i.invariant c.loop-i-test.false;
    }
