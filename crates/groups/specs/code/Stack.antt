-- The open groups as the one number that the code holds. `Rattle.groups.proofs.Stack` says that it tells what the list of open groups does.
use Rattle.std.specs.Prelude.{Bool, cond, ◌&&◌, List, [], ◌∷◌, ℕ, ◌+◌, ◌*◌, ◌/◌, ◌%◌, eqb, ltb, leb}
use Rattle.groups.specs.Sides.{Frame, paint_left, paint_right, clip_left, clip_right}

abbrev pub digit : Frame → ℕ
digit paint_left = 0
digit paint_right = 1
digit clip_left = 2
digit clip_right = 3

abbrev pub num : List Frame → ℕ
num [] = 1
num (f ∷ fs) = num fs * 4 + digit f

abbrev pub paint_n : ℕ → Bool
paint_n stack = eqb (stack % 4) 1

abbrev pub left_n : ℕ → Bool
left_n stack = eqb (stack % 2) 0

abbrev pub right_n : ℕ → Bool
right_n stack = leb 4 stack && eqb (stack % 2) 1

-- 8 open groups are a number from 4^8 on
abbrev pub room_n : ℕ → Bool
room_n stack = ltb stack 65536

abbrev pub open_n : ℕ → ℕ
open_n stack = cond (paint_n stack) (stack * 4) (stack * 4 + 2)

abbrev pub bar_n : ℕ → ℕ
bar_n stack = stack / 2 * 2 + 1

abbrev pub close_n : ℕ → ℕ
close_n stack = stack / 4
