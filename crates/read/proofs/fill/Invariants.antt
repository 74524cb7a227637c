use Prim.Native.Nat.{◌+◌}
use Rattle.read.specs.Words.{words_of_kind, words_of_area, words_of_x, words_of_y}
use Rattle.read.proofs.Loops.{Filling}
use Rattle.read.proofs.fill.Given as goal

abbrev pub invariant-loop-i : goal.invariant-loop-i
invariant-loop-i l =
    Filling words_of_kind l.records l.fn.k.records l.initial.plan 3 l.plan l.i (3 + l.i)
    × Filling words_of_area l.records l.fn.k.records l.initial.areas 0 l.areas l.i l.area
    × Filling words_of_x l.records l.fn.k.records l.initial.xs 0 l.xs l.i l.corner
    × Filling words_of_y l.records l.fn.k.records l.initial.ys 0 l.ys l.i l.corner
