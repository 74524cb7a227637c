-- Document 01, "Cells": a tree in lent tables after cell i is split.
use Rattle.std.specs.Prelude.{ℕ}
use Rattle.tables.specs.Tables.{Tree}
use Rattle.split.specs.Split.{split_tables}

-- "A split makes four cells of half the side, numbered onward": the seven tables afterwards; those before where the split is refused.
-- It is `split_tables` by a name that unfolds only where a proof says so.
unfoldable pub split_tree : Tree → ℕ → Tree
split_tree t i = split_tables t i
