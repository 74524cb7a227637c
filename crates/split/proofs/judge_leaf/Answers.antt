use mathlib.Core.Path.{sym, ◌∙◌}
use native.Mathlib.Omega.{arith}
use borrow.Author.Tests.{eq-eqb}
use Rattle.stream.specs.Grammar.{env_of}
use Rattle.stream.proofs.Passed.{passed}
use Rattle.celltable.proofs.Ranges.{square_fits_law}
use Rattle.tables.proofs.Leaves.{leaf_some, leaf_stream_law}
use Rattle.split.proofs.judge_leaf.Goals as goal

pub invariant_of-judge_children-2 : goal.invariant_of-judge_children-2
invariant_of-judge_children-2 c =
    record { on_grid = c.requires; halves = omega (arith, (square_fits_law c.args.w c.requires).some_side, c.if-w-eq1.false) }

pub invariant_of-judge_children : goal.invariant_of-judge_children
invariant_of-judge_children c =
    let a = c.args in
    let t = a.tree in
    let v = env_of a.context in
    let told = leaf_some t.entries.now a.w.first a.w.count a.w.lines a.in_use.entries v c.in-Some.c c.in-Some.ensures.answer in
    let passes = leaf_stream_law t.entries.now a.w.first a.w.count a.w.lines a.in_use.entries v (sym told ∙ eq-eqb _ _ c.if-c-w.false) in
    record { passed = passed t.entries.now a.w.first a.w.count a.in_use.entries v passes }
