use mathlib.Core.Path.{sym, ◌∙◌}
use Rattle.stream.proofs.Passed.{passed}
use Rattle.probe.proofs.probe_tally.Goals as goal

pub invariant_of-tally_number : goal.invariant_of-tally_number
invariant_of-tally_number c = record { passed = passed _ _ _ _ _ (sym c.stream_passes.ensures.answer ∙ c.if-stream_passes.true) }
