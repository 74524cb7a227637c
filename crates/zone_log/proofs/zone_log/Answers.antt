use Rattle.zone_log.proofs.Runs.{run_in}
use Rattle.zone_log.proofs.zone_log.Goals as goal

pub count_log-requires : goal.count_log-requires
count_log-requires c = run_in c.args.px.now c.args.py.now c.if-px-py.false c.in_default.ensures.answer

pub write_log-requires-clause-run_in : goal.write_log-requires-clause-run_in
write_log-requires-clause-run_in c = run_in c.args.px.now c.args.py.now c.if-px-py.false c.in_default.ensures.answer
