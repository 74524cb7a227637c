use mathlib.Core.Path.{◌≡◌}
use native.Mathlib.Omega.{arith}
use Rattle.std.proofs.lemmas.Result.{err_from_is_err_and}
use Rattle.tables.specs.Tables.{tree_of}
use Rattle.paint.specs.Pixels.{sample_x, sample_y}
use Rattle.std.proofs.Common.{Some}
use Rattle.position.proofs.Known.{read_says, read_refused, unknown_set}
use Rattle.pixel_row.proofs.Sampling.{known_at, unknown_at, sampling_turn, sampling_done, sampling_broken}
use Rattle.pixel_row.proofs.pixel_from.Goals as goal

pub returns-in_err-read : goal.returns-in_err-read
returns-in_err-read c =
    let T = tree_of c.args.tree in
    let i = c.loop-i.i in
    let q = c.sample.result in
    let p = err_from_is_err_and c.from_residual.result c.from_residual.ensures.1 in
    record {
      answer = rw (p.1, p.2)
          (sampling_broken T c.args.place.row c.args.place.column i (Some c.loop-i.last) c.loop-i.sum _ c.loop-i-test.true c.loop-i.invariant
          (unknown_at T q.x q.y (sample_x c.args.place.column i) (sample_y c.args.place.row i) _ c.sample.ensures.x c.sample.ensures.y
          (unknown_set T q.x q.y _ (read_refused T q.x q.y _ c.in_err-read.ensures.answer))));
    }

pub loop-i-preserved : goal.loop-i-preserved
loop-i-preserved c =
    let T = tree_of c.args.tree in
    let i = c.loop-i.i in
    let q = c.sample.result in
    let g = known_at T q.x q.y (sample_x c.args.place.column i) (sample_y c.args.place.row i) c.in_ok-read.read.set c.in_ok-read.read.shown
    c.sample.ensures.x c.sample.ensures.y
    (read_says T q.x q.y _ c.in_ok-read.ensures.answer) in
    sampling_turn T c.args.place.row c.args.place.column 16 i c.in_ok-read.read.set (Some c.loop-i.last) c.in_ok-read.read.shown c.loop-i.sum
    c.plus-sum.result c.channel_sums-c.result c.loop-i-test.true c.loop-i.invariant g
    c.channel_sums-c.ensures.answer c.channel_sums-c.ensures.range c.plus-sum.ensures.answer

pub returns : goal.returns
returns c =
    let k = c.loop-i-test.false in
    let v = c.loop-i.invariant in
    let z : c.loop-i.i ≡ 16 = omega (arith, v.to, k) in
    let w = rw z at v in
    record {
      answer = sampling_done (tree_of c.args.tree) c.args.place.row c.args.place.column c.loop-i.last c.loop-i.sum c.mean-colour.result w
          c.mean-colour.ensures.answer;
    }
