use mathlib.Core.Path.{◌≡◌}
use mathlib.Core.Bool.{true, false}
use lib.ListN.{length}
use Rattle.drawing.specs.Tables.{tables_of}
use Rattle.tables.specs.Tables.{tree_of}
use Rattle.open.specs.Open.{room_for}
use Rattle.open.proofs.Rooms.{opened_with, count_words, count_lines, has_room, no_room}
use Rattle.open.proofs.judge_room.Goals as goal

pub count_open-size-requires : goal.count_open-size-requires
count_open-size-requires c =
    opened_with (tables_of c.args.tree.drawing) c.args.counts c.requires c.root_bounds-bounds.result c.root_bounds-bounds.ensures.answer

pub returns-then-not-has_room : goal.returns-then-not-has_room
returns-then-not-has_room c =
    let t = c.args.tree in
    let n = c.entries_in-n.result in
    let h : room_for (length t.head.now) (length t.cells.now) (length t.entries.now) n ≡ false = cc in
    record {
      answer = no_room (tree_of t) n
          (count_words (tables_of t.drawing) c.args.counts c.requires _ n c.count_open-size.ensures.answer c.entries_in-n.ensures.answer) h;
    }

pub returns : goal.returns
returns c =
    let t = c.args.tree in
    let n = c.entries_in-n.result in
    let h : room_for (length t.head.now) (length t.cells.now) (length t.entries.now) n ≡ true = cc in
    record {
      answer = (
        has_room (tree_of t) n
            (count_words (tables_of t.drawing) c.args.counts c.requires _ n c.count_open-size.ensures.answer c.entries_in-n.ensures.answer) h,
        c.requires,
        count_lines (tables_of t.drawing) c.args.counts c.requires _ _ c.count_open-size.ensures.answer c.lines_in.ensures.answer,
      );
    }
