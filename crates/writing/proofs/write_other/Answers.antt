use mathlib.Core.Path.{sym, ◌∙◌}
use Rattle.pruner.specs.code.Numbers.{counted}
use Rattle.making.specs.code.Numbers.{settled_n}
use Rattle.making.proofs.Rooms.{room_after}
use Rattle.writing.specs.code.Numbers.{settled_put}
use Rattle.writing.proofs.Marks.{mark_is, mark_segment}
use Rattle.writing.proofs.write_other.Goals.{then-is_segment, else-is_segment}
use Rattle.writing.proofs.write_other.Goals as goal

pub put_mark-requires-clause-weight_bound : goal.put_mark-requires-clause-weight_bound
put_mark-requires-clause-weight_bound c =
    let a = c.args in
    (room_after a.areas.now a.m.now.pruner c.settle.new.self.pruner a.m.now.waiting a.w.kind c.settle.ensures.pruner c.requires.room).0

pub put_mark-requires-clause-depth_bound : goal.put_mark-requires-clause-depth_bound
put_mark-requires-clause-depth_bound c =
    let a = c.args in
    (room_after a.areas.now a.m.now.pruner c.settle.new.self.pruner a.m.now.waiting a.w.kind c.settle.ensures.pruner c.requires.room).1

pub returns-clause-out : goal.returns-clause-out
returns-clause-out c =
    let a = c.args in
    elim c.if-is_segment.branch [
      | then-is_segment w ↦
          rw (
            w.out-is,
            w.m-is,
            w.put_delimiter.ensures.out,
            c.put_settled.ensures.out,
            w.weight.ensures.answer,
            mark_segment (settled_put a.areas.now a.out.now a.m.now) a.m.now.pruner.weight a.w.kind
                (settled_n a.areas.now (counted a.m.now.pruner) a.m.now.waiting) (sym c.is_segment.ensures.answer ∙ w.if-is_segment.true),
          )
      | else-is_segment w ↦
          rw (w.out-is, w.m-is, w.put_mark.ensures.out, c.put_settled.ensures.out)
          (mark_is (settled_put a.areas.now a.out.now a.m.now) w.settle.new.self.pruner w.put_mark.new.p.weight a.w.kind
          (settled_n a.areas.now (counted a.m.now.pruner) a.m.now.waiting) w.settle.ensures.pruner)
    ]
