use Rattle.std.proofs.Common.{Some, None}
use native.Mathlib.Omega.{arith}
use mathlib.Core.Path.{◌∙◌}
use Rattle.tables.specs.Tables.{tree_of}
use Rattle.listing.proofs.Listing.{written_one, written_none, list_turn, list_count, list_done}
use Rattle.listing.proofs.list_leaves.Goals as goal
use Rattle.listing.proofs.list_leaves.Goals.{in-Some, in_default}

pub loop-k-preserved : goal.loop-k-preserved
loop-k-preserved c =
    let t = tree_of c.args.tree in
    elim c.match-corner_at.branch [
      | in-Some w ↦
          list_turn t _ _ _ c.loop-k.k c.loop-k.n _ (Some w.in-Some.line) c.loop-k-test.true w.in-Some.ensures.answer w.n-is
          (w.rows-is ∙ (w.put_line.ensures.rows ∙ written_one _ _ _)) c.loop-k.invariant
      | in_default w ↦
          list_turn t _ _ _ c.loop-k.k c.loop-k.n _ None c.loop-k-test.true w.in_default.ensures.answer (omega (arith, w.n-is))
          (w.rows-is ∙ written_none _ _) c.loop-k.invariant
    ]

pub returns : goal.returns
returns c =
    let i = c.loop-k.invariant in
    let h = c.loop-k-test.false in record { answer = list_count _ _ _ _ _ h i; rows = list_done _ _ _ _ _ h i; most = omega (arith, i.few, i.low) }
