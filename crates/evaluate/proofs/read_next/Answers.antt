use mathlib.Core.Path.{refl, sym, ◌∙◌}
use Rattle.stream.specs.Grammar.{env_of}
use Rattle.evaluate.proofs.Loop.{other_onward}
use Rattle.evaluate.proofs.read_next.Goals as goal

pub returns-else-w-from : goal.returns-else-w-from
returns-else-w-from c =
    let a = c.args in
    let v = a.context in
    record {
      onward = other_onward v.areas.now v.xs.now v.ys.now a.at.x a.at.y a.stream.entries.now a.i _ (env_of v) c.requires.ranged a.m
          c.read_entry-w.result c.read_entry-w.ensures.answer _ (λ k. c.if-w-from.false (k ∙ sym c.from.ensures)) c.moved.ensures.answer.0
          c.moved.ensures.answer.1 refl;
    }
