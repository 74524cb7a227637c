use mathlib.Core.Path.{◌≡◌}
use Prim.Native.Nat.{◌-◌, ◌≤◌}
use Rattle.machine.specs.code.Registers.{meant}
use Rattle.cells.specs.Elements.{settled, state}
use Rattle.stream.specs.Table.{words_from}
use Rattle.evaluate.specs.Reading.{set_at}
use Rattle.evaluate.specs.code.Numbers.{set_from}
use Rattle.evaluate.proofs.read_stream.Given as goal

abbrev pub invariant-loop-i : goal.invariant-loop-i
invariant-loop-i l =
    let v = l.s.context in
    record {
      above : l.stream.first ≤ l.i;
      below : l.i ≤ l.end;
      deep : l.m.depth ≤ l.i - l.stream.first;
      same : set_from v.areas.now v.xs.now v.ys.now l.at.x l.at.y (state (meant l.m) settled) (words_from l.stream.entries.now l.i (l.end - l.i))
          ≡ set_at v.areas.now v.xs.now v.ys.now l.at.x l.at.y (words_from l.stream.entries.now l.stream.first l.stream.count);
    }

abbrev pub decreases-loop-i : goal.decreases-loop-i
decreases-loop-i l = l.end - l.i
