-- `stream::scan_run` meets its contract: what was found so far and what is left make the whole.
use mathlib.Core.Path.{◌≡◌, sym, ap, ◌∙◌}
use mathlib.Core.Bool.{◌&&◌}
use Prim.Native.Nat.{◌+◌, ◌-◌, ◌≤◌, ◌<◌}
use native.Mathlib.Omega.{arith}
use Rattle.stream.specs.declared.Words.{Words}
use Rattle.stream.specs.Table.{words_from}
use Rattle.stream.specs.Entry.{is_segment}
use Rattle.stream.specs.Grammar.{env_of}
use Rattle.stream.specs.code.Machine.{each_fits}
use Rattle.stream.proofs.Counts.{lines_more}
use Rattle.stream.proofs.Runs.{count_more, count_stop, count_last, fits_more, fits_stop, fits_last, run_ended, run_broken}
use Rattle.stream.proofs.scan_run.Goals.{then-is_line, else-is_line}
use Rattle.stream.proofs.scan_run.Goals as goal

pub returns-then-not-is_segment : goal.returns-then-not-is_segment
returns-then-not-is_segment c =
    let t = c.args.stream.entries.now in
    let v = env_of c.args.context.context in
    let e = c.args.stream.first + c.args.stream.count in
    let i = c.loop-i.i in
    let w = c.read_entry-w in
    let lt : i < e = omega arith in
    let s = sym c.is_segment.ensures.answer ∙ c.if-not-is_segment.true in
    record {
      answer = rw c.run_to.ensures.answer
          (run_ended v t c.args.from e c.args.before i c.loop-i.lines c.loop-i.invariant.fits
          (fits_stop v.xs v.ys v.used t i e w.result w.ensures.answer lt s) c.loop-i.invariant.length
          (count_stop t i e w.result w.ensures.answer lt s) (λ _. ap (λ (u : Words). is_segment u.kind) (sym w.ensures.answer) ∙ s)
          c.loop-i.invariant.few c.loop-i.invariant.lines);
    }

pub returns-then-not-segment_fits : goal.returns-then-not-segment_fits
returns-then-not-segment_fits c =
    let e = c.args.stream.first + c.args.stream.count in
    let w = c.read_entry-w in
    let lt : c.loop-i.i < e = omega arith in
    record {
      answer = run_broken (env_of c.args.context.context) c.args.stream.entries.now c.args.from e c.args.before c.loop-i.i w.result w.ensures.answer lt
          (sym c.is_segment.ensures.answer ∙ c.if-not-is_segment.false) (sym c.segment_fits.ensures.answer ∙ c.if-not-segment_fits.true)
          c.loop-i.invariant.fits;
    }

pub loop-i-preserved : goal.loop-i-preserved
loop-i-preserved c =
    let t = c.args.stream.entries.now in
    let v = env_of c.args.context.context in
    let e = c.args.stream.first + c.args.stream.count in
    let i = c.loop-i.i in
    let w = c.read_entry-w in
    let lt : i < e = omega arith in
    let s = sym c.is_segment.ensures.answer ∙ c.if-not-is_segment.false in
    let f = sym c.segment_fits.ensures.answer ∙ c.if-not-segment_fits.false in
    let more = lines_more t i e w.result w.ensures.answer lt in
    record {
      above = omega arith;
      fits = sym (ap (λ b. b && each_fits v.xs v.ys v.used (words_from t (i + 1) (e - (i + 1)))) f)
          ∙ (sym (fits_more v.xs v.ys v.used t i e w.result w.ensures.answer lt s) ∙ c.loop-i.invariant.fits);
      length = omega (arith, count_more t i e w.result w.ensures.answer lt s);
      few = elim c.if-is_line.branch [ then-is_line u ↦ omega arith | else-is_line u ↦ omega arith ];
      lines = elim c.if-is_line.branch [
        | then-is_line u ↦ omega (arith, rw (sym c.is_line.ensures.answer ∙ u.if-is_line.true) at more)
        | else-is_line u ↦ omega (arith, rw (sym c.is_line.ensures.answer ∙ u.if-is_line.false) at more)
      ];
    }

pub returns : goal.returns
returns c =
    let t = c.args.stream.entries.now in
    let v = env_of c.args.context.context in
    let e = c.args.stream.first + c.args.stream.count in
    let i = c.loop-i.invariant in
    let is : c.loop-i.i ≡ e = omega arith in
    let le : e ≤ e = omega arith in
    record {
      answer = rw c.run_to-2.ensures.answer
          (run_ended v t c.args.from e c.args.before e c.loop-i.lines (rw is at i.fits) (fits_last v.xs v.ys v.used t e e le) (rw is at i.length)
          (count_last t e e le) (λ p. absurd (omega (arith, p))) (rw is at i.few) (rw is at i.lines));
    }
