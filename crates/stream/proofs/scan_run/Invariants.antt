use mathlib.Core.Path.{◌≡◌}
use Prim.Native.Nat.{◌+◌, ◌-◌, ◌≤◌}
use Rattle.stream.specs.Table.{words_from}
use Rattle.stream.specs.Entry.{lines_in}
use Rattle.stream.specs.code.Machine.{run_length, each_fits}
use Rattle.stream.proofs.scan_run.Given as goal

abbrev pub invariant-loop-i : goal.invariant-loop-i
invariant-loop-i l =
    record {
      above : l.from ≤ l.i;
      fits : each_fits l.context.context.xs.now l.context.context.ys.now l.context.context.bounds (words_from l.stream.entries.now l.i (l.end - l.i))
          ≡ each_fits l.context.context.xs.now l.context.context.ys.now l.context.context.bounds (words_from l.stream.entries.now l.from (l.end - l.from));
      length : l.i + run_length (words_from l.stream.entries.now l.i (l.end - l.i))
          ≡ l.from + run_length (words_from l.stream.entries.now l.from (l.end - l.from));
      few : l.from + l.lines ≤ l.i;
      lines : l.lines + lines_in (words_from l.stream.entries.now l.i (l.end - l.i)) ≡ lines_in (words_from l.stream.entries.now l.from (l.end - l.from));
    }
