use Rattle.std.proofs.Common.{subst, ◌∙◌}
use Rattle.std.specs.Io.KnownBytes.{Appends}
use Rattle.lister.proofs.Texts.{on_ok, zeros_are}
use Rattle.lister.proofs.FileTexts.{verdict_read, refused_said, accepted_said}
use Rattle.lister.proofs.print_file.Goals as goal

pub returns-in-Ok : goal.returns-in-Ok
returns-in-Ok g c =
    let r = c.in-Ok.ensures in
    let e = r.answer ∙ verdict_read _ _ _ _ _ (zeros_are 4099) (zeros_are 512) (zeros_are 2048) (zeros_are 2048) in
    let said = accepted_said _ _ _ _ _ _ _ _ _ _ e (zeros_are 4099) (zeros_are 512) (zeros_are 2048) (zeros_are 2048) r.plan r.areas r.xs r.ys in
    on_ok c.print_drawing.result (subst (Appends _ _) said) c.print_drawing.ensures

pub returns-in-Err : goal.returns-in-Err
returns-in-Err g c =
    let e = c.in-Err.ensures.answer ∙ verdict_read _ _ _ _ _ (zeros_are 4099) (zeros_are 512) (zeros_are 2048) (zeros_are 2048) in
    on_ok c.print_refused.result (subst (Appends _ _) (refused_said _ _ e)) c.print_refused.ensures
