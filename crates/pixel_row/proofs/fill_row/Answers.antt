use mathlib.Core.Path.{refl, ap}
use Prim.Native.Nat.{◌+◌, ◌/◌}
use lib.ListN.{length}
use Rattle.tables.specs.Tables.{tree_of}
use Rattle.pixel_row.specs.Rows.{Filled}
use Rattle.pixel_row.proofs.Filling.{pixel_told_law, pixel_broken, filling_turn, filling_done, filling_broken}
use Rattle.pixel_row.proofs.fill_row.Goals as goal

pub returns-in-Err : goal.returns-in-Err
returns-in-Err c =
    let T = tree_of c.args.tree in
    let i = c.loop-i.i in
    let n = length c.args.out.now / 3 in
    let b = pixel_broken T c.args.row (c.args.first + i) c.in-Err.refusal c.in-Err.ensures.answer in
    let e = filling_broken T c.args.row c.args.first c.args.out.now n i c.loop-i.last c.loop-i.out c.loop-i-test.true c.loop-i.invariant.1 b.0 in
    record { answer = rw b.1 (ap (λ (z : Filled). z.answer) e); out = ap (λ (z : Filled). z.bytes) e }

pub loop-i-preserved : goal.loop-i-preserved
loop-i-preserved c =
    let T = tree_of c.args.tree in
    let i = c.loop-i.i in
    let n = length c.args.out.now / 3 in
    let g = pixel_told_law T c.args.row (c.args.first + i) c.in-Ok.pixel c.in-Ok.ensures.answer in (
      refl,
      filling_turn T c.args.row c.args.first c.args.out.now n i c.loop-i.last c.in-Ok.pixel c.loop-i.out _
          c.loop-i-test.true c.loop-i.invariant.1 g c.put_pixel.ensures.out,
    )

pub returns : goal.returns
returns c =
    let T = tree_of c.args.tree in
    let n = length c.args.out.now / 3 in
    let e = filling_done T c.args.row c.args.first c.args.out.now n c.loop-i.i c.loop-i.last c.loop-i.out c.loop-i-test.false c.loop-i.invariant.1 in
    record { answer = ap (λ (z : Filled). z.answer) e; out = ap (λ (z : Filled). z.bytes) e }
