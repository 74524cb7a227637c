-- `paint::colour::channel_sums` meets its contract: areas are taken from the lowest up, and those that are left make the whole.
use mathlib.Core.Path.{ap, ◌∙◌}
use native.Mathlib.Omega.{arith}
use Rattle.paint.specs.Areas.{paint_at}
use Rattle.paint.specs.Colours.{add, over}
use Rattle.paint.proofs.Colours.{mix_begin, mix_area, mix_number, mix_less, mix_turn, mix_done}
use Rattle.paint.proofs.colour.channel_sums.Goals as goal

pub loop-k-init : goal.loop-k-init
loop-k-init c = mix_begin (paint_at c.args.areas.now) c.args.shown (omega arith)

pub overflow_add-n : goal.overflow_add-n
overflow_add-n c = omega (arith, mix_number c.loop-k.invariant c.in-Some.k c.in-Some.ensures)

pub of_area-requires : goal.of_area-requires
of_area-requires c = c.requires.row _ (mix_area c.loop-k.invariant c.in-Some.k c.in-Some.ensures)

pub add_area-m-requires-clause-paint_in : goal.add_area-m-requires-clause-paint_in
add_area-m-requires-clause-paint_in c =
    rw c.of_area.ensures.answer (c.requires.bytes _ (mix_area c.loop-k.invariant c.in-Some.k c.in-Some.ensures))

pub overflow_add-first : goal.overflow_add-first
overflow_add-first c = omega (arith, mix_number c.loop-k.invariant c.in-Some.k c.in-Some.ensures)

pub loop-k-smaller : goal.loop-k-smaller
loop-k-smaller c = mix_less c.loop-k.invariant c.in-Some.k c.in-Some.ensures

pub loop-k-preserved : goal.loop-k-preserved
loop-k-preserved c =
    mix_turn c.loop-k.invariant c.in-Some.k c.in-Some.ensures _
    (c.add_area-m.ensures.answer ∙ ap (λ p. add p c.loop-k.m) c.of_area.ensures.answer) c.add_area-m.ensures.range

pub returns-clause-answer : goal.returns-clause-answer
returns-clause-answer c = c.over_white.ensures.answer ∙ ap over (mix_done c.loop-k.invariant c.in_default.ensures)
