use Prim.Native.Nat.{◌-◌}
use Rattle.drawing.specs.Tables.{tables_of}
use Rattle.stream.specs.Grammar.{env}
use Rattle.root_stream.specs.Opened.{drawing_in}
use Rattle.root_stream.proofs.Base.{words_in}
use Rattle.root_stream.proofs.Fill.{Filling}
use Rattle.root_stream.proofs.write_open.Given as goal

abbrev pub invariant-loop-kind : goal.invariant-loop-kind
invariant-loop-kind l =
    let d = l.drawing in
    let t = tables_of d in
    Filling (env d.areas.now d.xs.now d.ys.now l.fn.bounds) (drawing_in t) d.plan.now l.records (words_in t) l.made l.i l.source l.m l.out

abbrev pub decreases-loop-kind : goal.decreases-loop-kind
decreases-loop-kind l = l.records - l.i
