use Rattle.making.proofs.Rooms.{room_after}
use Rattle.making.proofs.Maker.go_on.Goals as goal

pub moved-requires-clause-weight_bound : goal.moved-requires-clause-weight_bound
moved-requires-clause-weight_bound c =
    let a = c.args in
    (room_after a.context.areas.now a.self.now.pruner c.settle.new.self.pruner a.self.now.waiting a.w.kind c.settle.ensures.pruner c.requires.asks.room).0

pub moved-requires-clause-depth_bound : goal.moved-requires-clause-depth_bound
moved-requires-clause-depth_bound c =
    let a = c.args in
    (room_after a.context.areas.now a.self.now.pruner c.settle.new.self.pruner a.self.now.waiting a.w.kind c.settle.ensures.pruner c.requires.asks.room).1
