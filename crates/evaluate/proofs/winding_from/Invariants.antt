use mathlib.Core.Path.{◌≡◌}
use Prim.Native.Nat.{◌+◌, ◌-◌, ◌≤◌}
use lib.IntN.{◌+ℤ◌}
use Rattle.laws.proofs.Signed.{Running}
use Rattle.stream.specs.Table.{words_from}
use Rattle.evaluate.specs.code.Numbers.{segments_sum}
use Rattle.stream.specs.code.Machine.{run_length}
use Rattle.evaluate.proofs.winding_from.Given as goal

abbrev pub invariant-loop-i : goal.invariant-loop-i
invariant-loop-i l =
    let t = l.stream.entries.now in
    let v = l.context in
    record {
      above : l.from ≤ l.i;
      sum : Running (2048 + (l.i - l.from)) l.sum (segments_sum v.xs.now v.ys.now l.at.x l.at.y (words_from t l.i (l.end - l.i)))
          (l.start +ℤ segments_sum v.xs.now v.ys.now l.at.x l.at.y (words_from t l.from (l.end - l.from)));
      next : l.i + run_length (words_from t l.i (l.end - l.i)) ≡ l.from + run_length (words_from t l.from (l.end - l.from));
    }
