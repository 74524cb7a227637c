-- Records that a file may hold, and tables that begin with their words: what reading an accepted file leaves.
use Rattle.std.specs.Prelude.{Ok}
use Rattle.std.specs.Prelude.{◌≤◌, ◌≡◌, true, List, map, length}
use Rattle.records.specs.declared.Record.{Record}
use Rattle.grammar.specs.declared.Counts.{Counts}
use Rattle.grammar.specs.Grammar.{checked}
use Rattle.read.specs.Words.{Has, all_range, plan_words, area_words, x_words, y_words}
use Rattle.drawing.specs.Tables.{Tables}

-- records that a file may hold, and how many there are
pub record Acceptable (rs : List Record) (k : Counts) : Type 0 where
  pub range : all_range rs ≡ true
  pub below : length rs ≤ 4096
  pub fold : checked (map Ok rs) ≡ Ok k

-- the four tables begin with the words of these records
pub record Holding (t : Tables) (rs : List Record) : Type 0 where
  pub plan : Has t.plan 0 (plan_words rs)
  pub areas : Has t.areas 0 (area_words rs)
  pub xs : Has t.xs 0 (x_words rs)
  pub ys : Has t.ys 0 (y_words rs)
  pub pair : length t.xs ≡ length t.ys
