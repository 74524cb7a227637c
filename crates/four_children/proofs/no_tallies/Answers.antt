use mathlib.Core.Path.{refl}
use Rattle.child_stream.specs.code.Numbers.{filled}
use Rattle.four_children.proofs.no_tallies.Goals as goal

pub returns : goal.returns
unfolding filled
returns c = record { answer = refl }
