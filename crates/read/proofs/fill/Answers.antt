-- `read::fill` meets its contract: in each table, what is left to write gives what the whole gives.
use mathlib.Core.Path.{ap, ◌∙◌}
use Prim.Native.Nat.{◌+◌}
use lib.ListN.{set, length-set}
use native.Mathlib.Omega.{arith}
use Rattle.read.proofs.Files.{good_from, room_0, room_1, room_2, room_3, left_0, left_1, left_2, left_3}
use Rattle.read.proofs.Loops.{fill_read, fill_begin, fill_room, fill_turn, fill_done}
use Rattle.read.proofs.fill.Goals as goal

pub loop-i-init : goal.loop-i-init
loop-i-init c =
    let f = c.requires.filed in
    let r = c.requires.records_in_bounds in (
      fill_begin _ _ _ _ _ (room_0 _ _ f _ (rw c.put_header.ensures.plan (simp length-set r.0))),
      fill_begin _ _ _ _ _ (room_1 _ _ f _ r.1),
      fill_begin _ _ _ _ _ (room_2 _ _ f _ r.2),
      fill_begin _ _ _ _ _ (room_3 _ _ f _ r.3),
    )

pub put_area-area-requires : goal.put_area-area-requires
put_area-area-requires c =
    let d = fill_read _ _ _ _ _ c.loop-i-test.true (good_from _ _ c.requires.filed) c.read_raw.ensures.answer c.named_of-r.ensures.answer in
    fill_room _ _ _ _ _ _ _ _ _ c.loop-i-test.true d c.loop-i.invariant.1

pub put_corner-corner-requires : goal.put_corner-corner-requires
put_corner-corner-requires c =
    let d = fill_read _ _ _ _ _ c.loop-i-test.true (good_from _ _ c.requires.filed) c.read_raw.ensures.answer c.named_of-r.ensures.answer in
    record {
      xs_room = fill_room _ _ _ _ _ _ _ _ _ c.loop-i-test.true d c.loop-i.invariant.2;
      ys_room = fill_room _ _ _ _ _ _ _ _ _ c.loop-i-test.true d c.loop-i.invariant.3;
    }

pub loop-i-preserved : goal.loop-i-preserved
loop-i-preserved c =
    let l = c.loop-i-test.true in
    let d = fill_read _ _ _ _ _ l (good_from _ _ c.requires.filed) c.read_raw.ensures.answer c.named_of-r.ensures.answer in
    let k = ap (λ k. set c.loop-i.plan (3 + c.loop-i.i) k) (c.into.ensures ∙ c.kind.ensures.answer) in
    let i = c.loop-i.invariant in (
      fill_turn _ _ _ _ _ _ _ _ _ _ _ l d (omega arith) k i.0,
      fill_turn _ _ _ _ _ _ _ _ _ _ _ l d c.put_area-area.ensures.answer c.put_area-area.ensures.table i.1,
      fill_turn _ _ _ _ _ _ _ _ _ _ _ l d c.put_corner-corner.ensures.answer c.put_corner-corner.ensures.xs i.2,
      fill_turn _ _ _ _ _ _ _ _ _ _ _ l d c.put_corner-corner.ensures.alike c.put_corner-corner.ensures.ys i.3,
    )

pub bounds-plan-i : goal.bounds-plan-i
bounds-plan-i c =
    let d = fill_read _ _ _ _ _ c.loop-i-test.true (good_from _ _ c.requires.filed) c.read_raw.ensures.answer c.named_of-r.ensures.answer in
    let h = fill_room _ _ _ _ _ _ _ _ _ c.loop-i-test.true d c.loop-i.invariant.0 in omega arith

pub returns : goal.returns
returns c =
    let f = c.requires.filed in
    let l = c.loop-i-test.false in
    let i = c.loop-i.invariant in
    record {
      plan = left_0 _ _ f _ _ _ c.put_header.ensures.plan (fill_done _ _ _ _ _ _ _ _ l i.0);
      areas = left_1 _ _ f _ _ (fill_done _ _ _ _ _ _ _ _ l i.1);
      xs = left_2 _ _ f _ _ (fill_done _ _ _ _ _ _ _ _ l i.2);
      ys = left_3 _ _ f _ _ (fill_done _ _ _ _ _ _ _ _ l i.3);
    }
