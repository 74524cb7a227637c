use Rattle.std.specs.Io.KnownBytes.{Appends}
use Rattle.listing.specs.Numbers.{lines_in}
use Rattle.lister.specs.Text.{lines_text}
use Rattle.lister.proofs.print_lines.Given as goal

abbrev pub invariant-loop-i : goal.invariant-loop-i
invariant-loop-i g l = Appends (g.W.Write.contents l.initial.out) (g.W.Write.contents l.out) (lines_text (lines_in l.rows 0 l.i))
