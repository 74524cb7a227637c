use Rattle.tables.specs.Tables.{tree_of}
use Rattle.listing.proofs.Listing.{Listing}
use Rattle.listing.proofs.list_leaves.Given as goal

abbrev pub invariant-loop-k : goal.invariant-loop-k
invariant-loop-k l = Listing (tree_of l.tree) l.initial.rows l.rows l.k l.n
