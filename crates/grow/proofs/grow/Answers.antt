use mathlib.Core.Path.{◌≡◌, ap, ◌∙◌}
use mathlib.Core.Bool.{false}
use Prim.Native.Nat.{◌≤◌}
use native.Mathlib.Omega.{arith}
use Rattle.std.proofs.Common.{rules}
use lib.ListN.{length}
use Rattle.tables.specs.Tables.{Tree, tree, counts_in}
use Rattle.grow.proofs.Calls.{call_grown, tree_grown, answer_uncounted, tree_uncounted}
use Rattle.grow.proofs.grow.Goals as goal

pub returns-then-not-counts_fit : goal.returns-then-not-counts_fit
returns-then-not-counts_fit c =
    let a = c.args in
    let d = a.drawing in
    let T = tree d.plan.now d.areas.now d.xs.now d.ys.now a.head.now a.cells.now a.entries.now in
    let n = a.limits.threshold in
    let l = a.limits.depth in
    let f : counts_in T ≡ false = cc in
    let even : length d.xs.now ≡ length d.ys.now = search rules in
    let few : l ≤ 16 = omega arith in
    let Q = tree_uncounted T n l f ∙ tree_grown T n l even few in
    record {
      answer = answer_uncounted T n l f ∙ call_grown T n l even few;
      head = ap (λ (u : Tree). u.head) Q;
      cells = ap (λ (u : Tree). u.cells) Q;
      entries = ap (λ (u : Tree). u.entries) Q;
    }
