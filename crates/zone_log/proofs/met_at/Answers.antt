use mathlib.Core.Path.{refl}
use Rattle.std.proofs.lemmas.Result.{err_from_is_err_and}
use Rattle.tables.specs.Tables.{tree_of}
use Rattle.position.proofs.Known.{read_says, read_refused}
use Rattle.zone_log.proofs.met_at.Goals as goal

pub returns-in_err-read : goal.returns-in_err-read
returns-in_err-read c =
    let p = err_from_is_err_and c.from_residual.result c.from_residual.ensures.1 in
    record { answer = rw (p.1, p.2, ← read_refused (tree_of c.args.tree) c.args.at.x c.args.at.y _ c.in_err-read.ensures.answer) refl }

pub returns : goal.returns
returns c =
    let g = read_says (tree_of c.args.tree) c.args.at.x c.args.at.y _ c.in_ok-read.ensures.answer in
    record { answer = rw (← g.is_shown, c.material_of-material.ensures.answer, g.is_set) }
