use Rattle.std.proofs.Common.{subst}
use Rattle.std.specs.Io.KnownBytes.{Appends}
use Rattle.lister.proofs.Texts.{on_ok, zeros_are, drawing_said}
use Rattle.lister.proofs.print_drawing.Goals as goal

pub returns : goal.returns
returns g c =
    let l = c.list_drawing-outcome.ensures in
    let said = drawing_said _ _ _ _ _ _ _ _ _ _ (zeros_are 2) (zeros_are 8192) (zeros_are 16384) (zeros_are 1280) l.answer l.rows in
    on_ok c.print_outcome.result (subst (Appends _ _) said) c.print_outcome.ensures
