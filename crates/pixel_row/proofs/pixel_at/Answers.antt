use Rattle.std.proofs.lemmas.Result.{err_from_is_err_and}
use native.Mathlib.Omega.{arith}
use mathlib.Core.Path.{sym, ◌∙◌}
use Rattle.tables.specs.Tables.{tree_of}
use Rattle.paint.specs.Pixels.{sample_x, sample_y}
use Rattle.pixel_row.specs.code.Numbers.{no_channels}
use Rattle.position.proofs.Known.{read_says, read_refused, unknown_set}
use Rattle.pixel_row.proofs.Sampling.{plus_none, known_at, unknown_at, uniform_read, sampling_begin, sampling_turn, sampling_broken}
use Rattle.pixel_row.proofs.pixel_at.Goals as goal

pub returns-in_err-read : goal.returns-in_err-read
returns-in_err-read c =
    let T = tree_of c.args.tree in
    let q = c.sample.result in
    let p = err_from_is_err_and c.from_residual.result c.from_residual.ensures.1 in
    record {
      answer = rw (p.1, p.2)
          (sampling_broken T c.args.place.row c.args.place.column 0 c.args.before no_channels _ (omega arith)
          (sampling_begin T c.args.place.row c.args.place.column 16 c.args.before c.requires)
          (unknown_at T q.x q.y (sample_x c.args.place.column 0) (sample_y c.args.place.row 0) _ c.sample.ensures.x c.sample.ensures.y
          (unknown_set T q.x q.y _ (read_refused T q.x q.y _ c.in_err-read.ensures.answer))));
    }

pub returns-then-holds_pixel : goal.returns-then-holds_pixel
returns-then-holds_pixel c =
    let T = tree_of c.args.tree in
    let q = c.sample.result in
    let x = sample_x c.args.place.column 0 in
    let y = sample_y c.args.place.row 0 in
    let s = c.in_ok-read.read.shown in
    record {
      answer = uniform_read T c.args.place.row c.args.place.column s c.in_ok-read.read.set c.colour_of-colour.result
          (known_at T q.x q.y x y c.in_ok-read.read.set s c.sample.ensures.x c.sample.ensures.y
          (read_says T q.x q.y _ c.in_ok-read.ensures.answer))
          (sym c.is_some.ensures ∙ c.if-is_some.true) (sym c.if-holds_pixel.ensures.answer) c.colour_of-colour.ensures.answer;
    }

pub pixel_from-requires : goal.pixel_from-requires
pixel_from-requires c =
    let T = tree_of c.args.tree in
    let q = c.sample.result in
    let s = c.in_ok-read.read.shown in
    let g = known_at T q.x q.y (sample_x c.args.place.column 0) (sample_y c.args.place.row 0) c.in_ok-read.read.set s
    c.sample.ensures.x c.sample.ensures.y
    (read_says T q.x q.y _ c.in_ok-read.ensures.answer) in
    sampling_turn T c.args.place.row c.args.place.column 16 0 c.in_ok-read.read.set c.args.before s no_channels c.channel_sums-sums.result
    c.channel_sums-sums.result
    (omega arith) (sampling_begin T c.args.place.row c.args.place.column 16 c.args.before c.requires) g
    c.channel_sums-sums.ensures.answer c.channel_sums-sums.ensures.range (plus_none c.channel_sums-sums.result)
