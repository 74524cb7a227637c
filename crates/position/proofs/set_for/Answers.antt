use Rattle.tables.specs.Tables.{tree_of}
use Rattle.find_leaf.specs.code.Numbers.{leaf_env}
use Rattle.position.proofs.Painted.{set_painted}
use Rattle.position.proofs.set_for.Goals as goal

pub returns-in-Some-clause-painted : goal.returns-in-Some-clause-painted
returns-in-Some-clause-painted c =
    let a = c.args in
    let l = a.shown.leaf in
    rw (c.requires.read c.in-Some.set c.in-Some.is)
    (set_painted a.tree.entries.now l.first l.count (leaf_env (tree_of a.tree) l) a.at.x a.at.y c.requires.stream)
