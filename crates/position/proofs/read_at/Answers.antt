use Rattle.std.proofs.lemmas.Result.{err_from_is_err_and}
use Rattle.tables.specs.Tables.{tree_of}
use Rattle.position.proofs.Known.{readable, read_again, read_broken}
use Rattle.position.proofs.read_at.Goals as goal

pub returns-in_err-shown-clause-answer : goal.returns-in_err-shown-clause-answer
returns-in_err-shown-clause-answer c =
    let p = err_from_is_err_and c.from_residual.result c.from_residual.ensures.1 in
    rw (p.1, p.2) (read_broken (tree_of c.args.tree) c.args.at.x c.args.at.y _ c.in_err-shown.ensures.answer)

pub set_for-set-requires : goal.set_for-set-requires
set_for-set-requires c = readable (tree_of c.args.tree) c.args.at.x c.args.at.y _ c.in_ok-shown.ensures.answer

pub returns-clause-answer : goal.returns-clause-answer
returns-clause-answer c =
    read_again (tree_of c.args.tree) c.args.at.x c.args.at.y _ _ c.in_ok-shown.ensures.answer c.set_for-set.ensures.answer
