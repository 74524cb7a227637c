use mathlib.Core.Path.{sym, ◌∙◌}
use Rattle.stream.proofs.Passed.{passed}
use Rattle.probe.proofs.probe_read.Goals as goal

pub invariant_of-read_stream : goal.invariant_of-read_stream
invariant_of-read_stream c = record { passed = passed _ _ _ _ _ (sym c.stream_passes.ensures.answer ∙ c.if-stream_passes.true) }
