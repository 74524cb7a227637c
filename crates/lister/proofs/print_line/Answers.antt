use Rattle.std.proofs.Common.{append_assoc}
use Rattle.lister.proofs.print_line.Goals as goal

pub returns : goal.returns
returns g c = simp append_assoc c.writeln.ensures.bytes
