use Rattle.std.proofs.lemmas.Result.{err_from_is_err_and}
use Rattle.tables.specs.Tables.{tree_of}
use Rattle.position.proofs.Known.{leaf_plan, leaf_stream_law, read_leaf, anew_uniform, anew_lined, anew_broken}
use Rattle.position.proofs.leaf_anew.Goals as goal

pub returns-in_err-read : goal.returns-in_err-read
returns-in_err-read c =
    let p = err_from_is_err_and c.from_residual.result c.from_residual.ensures.1 in
    record { answer = rw (p.1, p.2) (anew_broken (tree_of c.args.tree) c.args.at.x c.args.at.y _ c.in_err-read.ensures.answer) }

pub returns-else-read : goal.returns-else-read
returns-else-read c =
    record { answer = anew_lined (tree_of c.args.tree) c.args.at.x c.args.at.y _ c.in_ok-read.ensures.answer c.if-read.false }

pub set_in-set-requires-clause-in_bounds : goal.set_in-set-requires-clause-in_bounds
set_in-set-requires-clause-in_bounds c =
    let k = read_leaf (tree_of c.args.tree) c.args.at.x c.args.at.y _ c.in_ok-read.ensures.answer in
    leaf_plan (tree_of c.args.tree) c.args.at.x c.args.at.y _ k.0

pub set_in-set-requires-clause-passed : goal.set_in-set-requires-clause-passed
set_in-set-requires-clause-passed c =
    let k = read_leaf (tree_of c.args.tree) c.args.at.x c.args.at.y _ c.in_ok-read.ensures.answer in
    leaf_stream_law (tree_of c.args.tree) c.args.at.x c.args.at.y _ k.0

pub returns-then-read : goal.returns-then-read
returns-then-read c = record {
  answer = anew_uniform (tree_of c.args.tree) c.args.at.x c.args.at.y _ _ c.in_ok-read.ensures.answer c.if-read.true c.set_in-set.ensures.answer;
}
