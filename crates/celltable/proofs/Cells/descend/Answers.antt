use mathlib.Core.Path.{◌≡◌, refl, ap, ◌∙◌}
use Prim.Native.Nat.{◌-◌, ◌+◌}
use native.Mathlib.Omega.{arith}
use Rattle.std.specs.Prelude.{Some}
use Rattle.celltable.proofs.Meaning.{walk_is}
use Rattle.celltable.proofs.Walk.{walk_deeper, walk_landed, walk_bad, walk_done, going_start, going_on}
use Rattle.celltable.proofs.Cells.descend.Goals as goal

pub loop-k-init : goal.loop-k-init
loop-k-init c = let a = c.args in record {
  going = going_start a.self.used c.requires.some;
  left = walk_is a.self.table.now a.self.used a.self.entries a.x a.y c.requires.some;
}

pub returns-in_err-next : goal.returns-in_err-next
returns-in_err-next c =
    let a = c.args in
    record {
      answer = c.from_residual.ensures
          ∙ walk_bad a.self.table.now a.self.used a.self.entries a.x a.y (17 - c.loop-k.k) c.loop-k.c _ _ (omega arith) c.in_err-next.ensures.answer refl
          c.loop-k.invariant.left;
    }

pub returns-in-Break : goal.returns-in-Break
returns-in-Break c =
    let a = c.args in
    record {
      answer = walk_landed a.self.table.now a.self.used a.self.entries a.x a.y (17 - c.loop-k.k) c.loop-k.c _ _ c.in-Break.leaf (omega arith)
          c.in_ok-next.ensures.answer (ap Some c.in-Break.is) c.loop-k.invariant.left;
    }

pub loop-k-preserved : goal.loop-k-preserved
loop-k-preserved c =
    let a = c.args in
    let next : 17 - c.loop-k.k - 1 ≡ 17 - (c.loop-k.k + 1) = omega arith in
    record {
      going = rw next at
          (going_on a.self.table.now a.self.used a.self.entries a.x a.y (17 - c.loop-k.k) c.loop-k.c c.in-Continue.next _ (omega arith)
          c.in_ok-next.ensures.answer (ap Some c.in-Continue.is) c.loop-k.invariant.going);
      left = rw next at
          (walk_deeper a.self.table.now a.self.used a.self.entries a.x a.y (17 - c.loop-k.k) c.loop-k.c _ _ c.in-Continue.next (omega arith)
          c.in_ok-next.ensures.answer (ap Some c.in-Continue.is) c.loop-k.invariant.left);
    }

pub returns : goal.returns
returns c =
    let a = c.args in
    record { answer = walk_done a.self.table.now a.self.used a.self.entries a.x a.y (17 - c.loop-k.k) c.loop-k.c _ (omega arith) c.loop-k.invariant.left }
