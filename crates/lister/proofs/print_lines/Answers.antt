use Rattle.std.proofs.Common.{◌++◌, subst, sym, ap, ◌∙◌}
use Rattle.std.specs.Io.KnownBytes.{Appends}
use Rattle.std.proofs.KnownBytes.{Appends-nil, Appends-trans}
use Rattle.listing.specs.Numbers.{lines_in}
use Rattle.lister.specs.Text.{line_text, lines_text}
use Rattle.lister.proofs.Texts.{lines_text_none, lines_text_more}
use Rattle.lister.proofs.print_lines.Goals as goal

pub loop-i-init : goal.loop-i-init
loop-i-init g c = subst (Appends _ _) (sym (lines_text_none _ _)) (Appends-nil _)

pub loop-i-preserved : goal.loop-i-preserved
loop-i-preserved g c =
    let before = lines_text (lines_in c.args.rows.now 0 c.loop-i.i) in
    let one_more = ap (λ l. before ++ line_text l) c.read_line.ensures.answer ∙ sym (lines_text_more c.args.rows.now c.loop-i.i) in
    subst (Appends _ _) one_more (Appends-trans _ _ _ _ _ c.loop-i.invariant c.in_ok-print_line.ensures)
