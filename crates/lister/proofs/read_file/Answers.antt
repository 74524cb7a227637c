use Rattle.std.proofs.Common.{rules}
use Rattle.lister.proofs.Filling.{filled_more, filled_kept}
use Rattle.lister.proofs.read_file.Goals as goal
use Rattle.lister.proofs.read_file.Goals.{in-Ok, in-Err+else-ne}

pub loop-preserved : goal.loop-preserved
loop-preserved g c =
    let kept = c.loop.invariant in
    let table = c.loop.records in
    let part = c.read.new.buf in
    elim c.match-read.branch [
      | in-Ok w ↦
          let read = w.in-Ok.ensures in
          record {
            long = search rules;
            within = search rules;
            given = filled_more _ _ _ table part c.loop.n _ _ _ kept.within read.bound.0 w.n-is kept.given read.bytes.0;
          }
      | in-Err+else-ne w ↦
          record {
            long = search rules;
            within = search rules;
            given = filled_kept _ _ _ table part c.loop.n _ _ kept.within w.n-is kept.given w.in-Err.ensures.bytes;
          }
    ]
