-- `drawing::Held::check` meets its contract: what is left to scan gives what the whole gives.
use mathlib.Core.Path.{◌≡◌, sym, ◌∙◌}
use borrow.Author.Rules.{rules}
use Rattle.std.specs.Prelude.{Err}
use Rattle.drawing.proofs.Rows.{walk_turn, walk_stops, walk_done, walk_ends}
use Rattle.drawing.proofs.Held.check.Goals as goal

pub returns-in_err-s : goal.returns-in_err-s
returns-in_err-s c =
    let same : c.from_residual.result ≡ Err c.in_err-s.field-0.0 = search rules in
    let stop =
    walk_stops _ _ _ _ _ _ _ _ _ c.loop-i-test.true c.cursor_of.ensures.answer c.row.ensures.answer
    (sym c.in_err-s.was ∙ c.advance.ensures.answer) c.loop-i.invariant in
    record { answer = same ∙ walk_ends _ _ _ _ stop }

pub loop-i-preserved : goal.loop-i-preserved
loop-i-preserved c =
    walk_turn _ _ _ _ _ _ _ _ _ c.loop-i-test.true c.cursor_of.ensures.answer c.row.ensures.answer
    (sym c.in_ok-s.was ∙ c.advance.ensures.answer) c.loop-i.invariant

pub returns : goal.returns
returns c =
    record { answer = c.ended.ensures.answer ∙ walk_ends _ _ _ _ (walk_done _ _ _ _ _ _ c.loop-i-test.false c.loop-i.invariant) }
