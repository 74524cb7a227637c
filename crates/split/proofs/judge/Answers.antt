use mathlib.Core.Path.{◌≡◌}
use mathlib.Core.Bool.{true}
use native.Mathlib.Omega.{arith}
use Rattle.tables.specs.Tables.{tree_of, counts_in}
use Rattle.tables.proofs.Counts.{counts_fit, used_most, used_within, free_most}
use Rattle.split.proofs.judge.Goals as goal

pub invariant_of-in_use : goal.invariant_of-in_use
invariant_of-in_use c =
    let T = tree_of c.args.tree in
    let h : counts_in T ≡ true = cc in
    record { few_cells = omega (arith, used_most T h, c.cells_used-used.ensures.answer); few_entries = free_most T h }

pub judge_cell-requires : goal.judge_cell-requires
judge_cell-requires c =
    let T = tree_of c.args.tree in
    let h : counts_in T ≡ true = cc in
    record {
      plan_long = (counts_fit T h).plan_long;
      i_lt_used = (omega (arith, c.if-used-i.false), omega (arith, used_within T h, c.cells_used-used.ensures.answer));
    }
