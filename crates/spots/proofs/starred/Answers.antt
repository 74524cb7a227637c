use Rattle.std.proofs.Common.{◌≡◌, Bool, true, false, refl}
use lib.Dec.{T}
use Rattle.spots.specs.Starred.{all_right, table}
use Rattle.spots.proofs.Checked.{checked}
use Rattle.spots.proofs.starred.Goals as goal

is_true : (b : Bool) → T b → b ≡ true
is_true true h = refl
is_true false h = absurd h

pub returns : goal.returns
returns c = is_true (all_right table) checked
