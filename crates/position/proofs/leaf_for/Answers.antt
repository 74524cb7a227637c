use mathlib.Core.Path.{sym}
use Rattle.tables.specs.Tables.{tree_of}
use Rattle.position.proofs.Known.{last_serves}
use Rattle.position.proofs.leaf_for.Goals as goal

pub returns-in-Some : goal.returns-in-Some
returns-in-Some c =
    let last = rw c.in-Some.is at c.requires in
    record { answer = last_serves (tree_of c.args.tree) c.in-Some.shown c.args.at.x c.args.at.y last (sym c.if-is_inside.ensures.answer) }
