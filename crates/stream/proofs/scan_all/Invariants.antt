use Prim.Native.Nat.{◌+◌, ◌-◌, ◌≤◌}
use mathlib.Core.Path.{◌≡◌}
use Rattle.std.proofs.Common.{Some}
use Rattle.stream.specs.Table.{words_from}
use Rattle.stream.specs.Entry.{lines_in}
use Rattle.stream.specs.Grammar.{env_of}
use Rattle.stream.specs.code.Machine.{scan_n, start_n, Apart}
use Rattle.stream.proofs.scan_all.Given as goal

abbrev pub invariant-loop-i : goal.invariant-loop-i
invariant-loop-i l =
    record {
      above : l.stream.first ≤ l.i;
      below : l.i ≤ l.end;
      same : scan_n (env_of l.context.context) (Some l.s) (words_from l.stream.entries.now l.i (l.end - l.i))
          ≡ scan_n (env_of l.context.context) (Some start_n)
          (words_from l.stream.entries.now l.stream.first l.stream.count);
      apart : Apart l.stream.entries.now l.i l.end l.s;
      few : l.stream.first + l.lines ≤ l.i;
      lines : l.lines + lines_in (words_from l.stream.entries.now l.i (l.end - l.i)) ≡ lines_in (words_from l.stream.entries.now l.stream.first l.stream.count);
    }

abbrev pub decreases-loop-i : goal.decreases-loop-i
decreases-loop-i l = l.end - l.i
