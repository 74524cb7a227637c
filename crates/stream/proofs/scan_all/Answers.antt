use mathlib.Core.Path.{sym, ◌∙◌}
use Prim.Native.Nat.{◌+◌}
use Rattle.std.proofs.Common.{Some}
use Rattle.stream.specs.Table.{words_from}
use Rattle.stream.specs.Grammar.{env_of}
use Rattle.stream.proofs.Counts.{lines_done}
use Rattle.stream.proofs.Laws.{scan_done}
use Rattle.stream.proofs.Uniform.{told_is, told_none}
use Rattle.stream.proofs.scan_all.Goals as goal

pub returns-in_err-r : goal.returns-in_err-r
returns-in_err-r c =
    let a = c.args.stream in
    record {
      answer = c.from_residual.ensures
          ∙ told_none (env_of c.args.context.context) (words_from a.entries.now a.first a.count) (sym c.loop-i.invariant.same ∙ c.in_err-r.ensures.onward);
    }

pub returns : goal.returns
returns c =
    let a = c.args.stream in
    let v = env_of c.args.context.context in
    record {
      answer = c.tell.ensures.answer
          ∙ told_is v (words_from a.entries.now a.first a.count) c.loop-i.s c.loop-i.lines
          (scan_done v a.entries.now c.loop-i.i (a.first + a.count) (Some c.loop-i.s) _ c.loop-i-test.false c.loop-i.invariant.same)
          (lines_done a.entries.now c.loop-i.i (a.first + a.count) c.loop-i.lines _ c.loop-i-test.false c.loop-i.invariant.lines);
    }
