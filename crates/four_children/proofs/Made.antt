-- The streams of the children of a stream that passes the check.
use mathlib.Core.List.{List}
use Prim.Native.Nat.{ℕ, ◌≤◌}
use native.Mathlib.Omega.{arith}
use lib.ListN.{length}
use Rattle.cells.specs.Cells.{Cell}
use Rattle.stream.specs.declared.Bounds.{Bounds}
use Rattle.stream.specs.Table.{words_from}
use Rattle.stream.specs.Grammar.{env, Passed}
use Rattle.ranges.specs.Held.{lent}
use Rattle.ranges.proofs.Streams.{words_length}
use Rattle.making.specs.Made.{elements_made}
use Rattle.making.proofs.Lent.{lent_reads}
use Rattle.making.proofs.Shorter.{made_shorter}

pub few_elements : (t areas xs ys : List ℕ) (b : Bounds) (first count : ℕ) (c : Cell)
    → Passed t first count (env areas xs ys b)
    → length (elements_made (lent areas xs ys b) c (words_from t first count)) ≤ 4096
few_elements t areas xs ys b first count c p =
    omega (
      arith,
      made_shorter (env areas xs ys b) (lent areas xs ys b) c (lent_reads areas xs ys b) (words_from t first count) p.grammar,
      words_length t first count,
      p.few,
    )
