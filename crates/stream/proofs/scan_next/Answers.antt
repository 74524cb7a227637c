use mathlib.Core.Path.{sym}
use Prim.Native.Nat.{◌+◌, ◌-◌}
use native.Mathlib.Omega.{arith}
use Rattle.std.proofs.lemmas.Bool.{not-true, not-false}
use Rattle.stream.specs.Grammar.{env_of}
use Rattle.stream.proofs.Runs.{fits_few, none_onward, one_onward, run_none, run_onward}
use Rattle.stream.proofs.scan_next.Goals as goal

pub returns-in_err-n : goal.returns-in_err-n
returns-in_err-n c =
    let a = c.args in
    let w = c.read_entry-w in
    record {
      onward = rw c.from_residual.ensures
          (none_onward (env_of a.context.context) a.stream.entries.now a.i (a.stream.first + a.stream.count) a.s w.result w.ensures.answer c.requires.i_lt_end.0
          c.requires.apart (sym c.in_err-n.ensures.answer));
    }

pub returns-then-not-n : goal.returns-then-not-n
returns-then-not-n c =
    let a = c.args in
    let w = c.read_entry-w in
    record {
      onward = one_onward (env_of a.context.context) a.stream.entries.now a.i (a.stream.first + a.stream.count) a.s w.result w.ensures.answer
          c.requires.i_lt_end.0 c.requires.apart c.in_ok-n.n (sym c.in_ok-n.ensures.answer) (not-true _ c.if-not-n.true);
    }

pub returns-in_err-r : goal.returns-in_err-r
returns-in_err-r c =
    let a = c.args in
    let w = c.read_entry-w in
    record {
      onward = rw c.from_residual-in_err-r.ensures
          (run_none (env_of a.context.context) a.stream.entries.now a.i (a.stream.first + a.stream.count) a.s w.result w.ensures.answer c.requires.i_lt_end.0
          c.requires.apart c.in_ok-n.n (sym c.in_ok-n.ensures.answer) (not-false _ c.if-not-n.false) c.in_err-r.ensures.answer);
    }

pub overflow_cast-scan : goal.overflow_cast-scan
overflow_cast-scan c =
    let a = c.args in
    let v = env_of a.context.context in
    let r = c.in_ok-r.ensures.answer in
    record {
      fits = omega (
        arith,
        r.segments,
        fits_few v.xs v.ys v.used a.stream.entries.now (a.stream.first + a.stream.count - (a.i + 1)) (a.i + 1) c.in_ok-n.n.segments r.fits
            (omega arith),
      );
    }

pub returns : goal.returns
returns c =
    let a = c.args in
    let w = c.read_entry-w in
    record {
      onward = run_onward (env_of a.context.context) a.stream.entries.now a.i (a.stream.first + a.stream.count) a.s w.result w.ensures.answer
          c.requires.i_lt_end.0 c.requires.apart c.in_ok-n.n (sym c.in_ok-n.ensures.answer) (not-false _ c.if-not-n.false) c.in_ok-r.r c.in_ok-r.ensures.answer;
    }
