use mathlib.Core.Path.{sym, ◌∙◌}
use mathlib.Core.Bool.{true, false}
use Rattle.std.proofs.lemmas.Result.{err_from_is_err_and}
use Rattle.tables.specs.Tables.{tree_of}
use Rattle.zone_log.proofs.Passes.{counting_begin, counting_turn, counting_done, counting_broken}
use Rattle.zone_log.proofs.count_log.Goals as goal
use Rattle.zone_log.proofs.count_log.Goals.{then-is_logged, else-is_logged}

pub loop-i-init : goal.loop-i-init
loop-i-init c = counting_begin (tree_of c.args.tree) c.args.px.now c.args.py.now

pub returns-in_err-met : goal.returns-in_err-met
returns-in_err-met c =
    let p = err_from_is_err_and c.from_residual.result c.from_residual.ensures.1 in
    record {
      answer = rw (p.1, p.2)
          (counting_broken (tree_of c.args.tree) c.args.px.now c.args.py.now c.loop-i.i c.loop-i.last c.loop-i.count _
          c.loop-i-test.true c.loop-i.invariant c.in_err-met.ensures.answer);
    }

pub loop-i-preserved : goal.loop-i-preserved
loop-i-preserved c =
    let turn = counting_turn (tree_of c.args.tree) c.args.px.now c.args.py.now c.loop-i.i c.loop-i.last c.loop-i.count c.if-is_logged.count c.in_ok-met.met in
    elim c.if-is_logged.branch [
      | then-is_logged w ↦
          turn true c.loop-i.invariant c.loop-i-test.true c.in_ok-met.ensures.answer
          (sym w.if-is_logged.true ∙ c.is_logged.ensures.answer) (w.count-is ∙ w.counted-count.ensures.answer)
      | else-is_logged w ↦
          turn false c.loop-i.invariant c.loop-i-test.true c.in_ok-met.ensures.answer (sym w.if-is_logged.false ∙ c.is_logged.ensures.answer) w.count-is
    ]

pub returns : goal.returns
returns c =
    record {
      answer = counting_done (tree_of c.args.tree) c.args.px.now c.args.py.now c.loop-i.i c.loop-i.last c.loop-i.count
          c.loop-i-test.false c.loop-i.invariant;
    }
