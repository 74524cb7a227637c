use Rattle.tables.specs.Tables.{tree_of}
use Rattle.find_leaf.specs.code.Numbers.{leaf_env}
use Rattle.position.proofs.Painted.{set_painted}
use Rattle.position.proofs.set_in.Goals as goal

pub returns-clause-painted : goal.returns-clause-painted
returns-clause-painted c =
    let a = c.args in
    rw (c.read_stream.ensures.answer, c.context_of-context.ensures.answer)
    (set_painted a.tree.entries.now a.leaf.first a.leaf.count (leaf_env (tree_of a.tree) a.leaf) a.at.x a.at.y c.requires.passed)
