use mathlib.Core.Path.{sym, ◌∙◌}
use Rattle.stream.proofs.Laws.{used_entries, used_ready, run_fits_law}
use Rattle.stream.proofs.check_stream.Goals as goal

pub scan_all-requires-clause-count_in_bounds : goal.scan_all-requires-clause-count_in_bounds
scan_all-requires-clause-count_in_bounds c =
    run_fits_law _ _ _ _ (used_entries _ _ _ _ _ _ (sym c.used_range-u.ensures.answer ∙ c.if-u.true)) c.if-stream-used.true c.if-stream-used-2.true

pub invariant_of-scan_all : goal.invariant_of-scan_all
invariant_of-scan_all c = record { ready = used_ready _ _ _ _ _ _ (sym c.used_range-u.ensures.answer ∙ c.if-u.true) }
