-- Streams that pass and streams that do not, computed.
use Prim.Native.Nat.{ℕ}
use mathlib.Core.Path.{◌≡◌, refl}
use mathlib.Core.Bool.{Bool, true, false}
use mathlib.Core.List.{List, [], ◌∷◌}
use Rattle.curves.specs.Curves.{curve_fits}
use Rattle.records.specs.Record.{area_range}
use Rattle.drawing.specs.Tables.{area_row}
use Rattle.stream.specs.Table.{words_from}
use Rattle.stream.specs.Grammar.{env, bounds, course, accepts, used_range, check_stream}

-- area 0 paints, area 1 clips; the corners of a triangle, and one that is out of range
abbrev areas : List ℕ
areas = 0 ∷ 0 ∷ 255 ∷ 200 ∷ 100 ∷ 50 ∷ 7 ∷ 0 ∷ 1 ∷ 1 ∷ 0 ∷ 0 ∷ 0 ∷ 0 ∷ 0 ∷ 0 ∷ []

abbrev xs : List ℕ
xs = 0 ∷ 10 ∷ 65536 ∷ 65537 ∷ []

abbrev ys : List ℕ
ys = 0 ∷ 0 ∷ 65536 ∷ 0 ∷ []

-- n entries, all that are in use, in the cell with low row 64 and side 16, whose rows are 64 to 79
abbrev passing : ℕ → List ℕ → Bool
passing n t = check_stream t 0 n n (env areas xs ys (bounds 2 4 64 16))

-- ---- the words of an entry before those of others

abbrev opened : List ℕ → List ℕ
opened t = 1 ∷ 0 ∷ 0 ∷ 0 ∷ t

abbrev barred : List ℕ → List ℕ
barred t = 2 ∷ 0 ∷ 0 ∷ 0 ∷ t

abbrev closed : List ℕ → List ℕ
closed t = 3 ∷ 0 ∷ 0 ∷ 0 ∷ t

abbrev area : ℕ → ℕ → List ℕ → List ℕ
area n start t = 4 ∷ n ∷ start ∷ 0 ∷ t

abbrev line : ℕ → ℕ → List ℕ → List ℕ
line a b t = 5 ∷ a ∷ b ∷ 0 ∷ t

abbrev curve : ℕ → List ℕ → List ℕ
curve a t = 8 ∷ a ∷ 0 ∷ 0 ∷ t

abbrev shortcut : ℕ → ℕ → ℕ → List ℕ → List ℕ
shortcut sign first end t = 6 ∷ sign ∷ first ∷ end ∷ t

abbrev passed : List ℕ → List ℕ
passed t = 7 ∷ 0 ∷ 0 ∷ 0 ∷ t

-- one group in another, on its left
abbrev nested : List ℕ → List ℕ
nested t = opened (opened (opened (opened (opened (opened (opened (opened t)))))))

abbrev ended : List ℕ → List ℕ
ended t = barred (closed (barred (closed (barred (closed (barred (closed t)))))))

-- "No records is a valid, empty drawing"; "the first number of an empty stream ... at most that"
empty : check_stream [] 0 0 0 (env areas xs ys (bounds 2 4 64 16)) ≡ true
unfolding area_range area_row words_from course accepts used_range
empty = refl

empty_at_the_end : check_stream (opened []) 1 0 1 (env areas xs ys (bounds 2 4 64 16)) ≡ true
unfolding area_range area_row words_from course accepts used_range
empty_at_the_end = refl

empty_beyond : check_stream (opened []) 2 0 1 (env areas xs ys (bounds 2 4 64 16)) ≡ false
unfolding area_range area_row words_from course accepts used_range
empty_beyond = refl

more_than_in_use : check_stream (area 0 0 (area 0 0 [])) 0 2 1 (env areas xs ys (bounds 2 4 64 16)) ≡ false
unfolding area_range area_row words_from course accepts used_range
more_than_in_use = refl

-- numbers in use beyond what the tables hold
entries_beyond : check_stream (area 0 0 []) 0 1 2 (env areas xs ys (bounds 2 4 64 16)) ≡ false
unfolding area_range area_row words_from course accepts used_range
entries_beyond = refl

areas_beyond : check_stream (area 0 0 []) 0 1 1 (env areas xs ys (bounds 3 4 64 16)) ≡ false
unfolding area_range area_row words_from course accepts used_range
areas_beyond = refl

corners_beyond : check_stream (area 0 0 []) 0 1 1 (env areas xs ys (bounds 2 5 64 16)) ≡ false
unfolding area_range area_row words_from course accepts used_range
corners_beyond = refl

-- an area with lines and shortcuts
one : passing 5 (area 0 0 (line 0 1 (line 1 2 (shortcut 4294967295 64 70 (shortcut 1 70 80 []))))) ≡ true
unfolding area_range area_row words_from course accepts used_range
one = refl

-- "a line or shortcut stands straight after an area, line or shortcut"
line_first : passing 1 (line 0 1 []) ≡ false
unfolding area_range area_row words_from course accepts used_range
line_first = refl

line_after_bar : passing 5 (opened (area 1 0 (barred (line 0 1 (closed []))))) ≡ false
unfolding area_range area_row words_from course accepts used_range
line_after_bar = refl

line_after_passes : passing 5 (opened (passed (line 0 1 (barred (closed []))))) ≡ false
unfolding area_range area_row words_from course accepts used_range
line_after_passes = refl

-- corners
no_such_corner : passing 2 (area 0 0 (line 0 4 [])) ≡ false
unfolding area_range area_row words_from course accepts used_range
no_such_corner = refl

corner_out_of_range : passing 2 (area 0 0 (line 3 0 [])) ≡ false
unfolding area_range area_row words_from course accepts used_range
corner_out_of_range = refl

-- curves: from corner 0 one that rises, from corner 2 one of 4,096 units that falls, from corner 4 one whose y are out of order, from corner 6 one of 4,097
abbrev curving : ℕ → List ℕ → Bool
curving n t =
    check_stream t 0 n n
    (env areas (0 ∷ 8 ∷ 8 ∷ 100 ∷ 4104 ∷ 4105 ∷ 4106 ∷ 4106 ∷ 8203 ∷ []) (0 ∷ 0 ∷ 8 ∷ 8 ∷ 0 ∷ 7 ∷ 5 ∷ 9 ∷ 9 ∷ []) (bounds 2 9 64 16))

curves_in_order : curving 5 (area 0 0 (curve 0 (line 0 1 (curve 2 (shortcut 1 70 80 []))))) ≡ true
unfolding area_range area_row words_from course accepts used_range curve_fits
curves_in_order = refl

curve_first : curving 1 (curve 0 []) ≡ false
unfolding area_range area_row words_from course accepts used_range curve_fits
curve_first = refl

curve_out_of_order : curving 2 (area 0 0 (curve 4 [])) ≡ false
unfolding area_range area_row words_from course accepts used_range curve_fits
curve_out_of_order = refl

curve_too_wide : curving 2 (area 0 0 (curve 6 [])) ≡ false
unfolding area_range area_row words_from course accepts used_range curve_fits
curve_too_wide = refl

curve_past_the_corners : curving 2 (area 0 0 (curve 7 [])) ≡ false
unfolding area_range area_row words_from course accepts used_range curve_fits
curve_past_the_corners = refl

-- "start −2,048 to 2,048"
start_low : passing 1 (area 0 4294965248 []) ≡ true
unfolding area_range area_row words_from course accepts used_range
start_low = refl

start_lower : passing 1 (area 0 4294965247 []) ≡ false
unfolding area_range area_row words_from course accepts used_range
start_lower = refl

start_high : passing 1 (area 0 2048 []) ≡ true
unfolding area_range area_row words_from course accepts used_range
start_high = refl

start_higher : passing 1 (area 0 2049 []) ≡ false
unfolding area_range area_row words_from course accepts used_range
start_higher = refl

-- "sign 1 or −1; rows inside the cell"
no_sign : passing 2 (area 0 0 (shortcut 0 64 70 [])) ≡ false
unfolding area_range area_row words_from course accepts used_range
no_sign = refl

no_rows : passing 2 (area 0 0 (shortcut 1 70 70 [])) ≡ false
unfolding area_range area_row words_from course accepts used_range
no_rows = refl

all_rows : passing 2 (area 0 0 (shortcut 1 64 80 [])) ≡ true
unfolding area_range area_row words_from course accepts used_range
all_rows = refl

rows_below : passing 2 (area 0 0 (shortcut 1 63 70 [])) ≡ false
unfolding area_range area_row words_from course accepts used_range
rows_below = refl

rows_beyond : passing 2 (area 0 0 (shortcut 1 64 81 [])) ≡ false
unfolding area_range area_row words_from course accepts used_range
rows_beyond = refl

-- "An area's role fits its side"
grouped : passing 5 (opened (area 1 0 (barred (area 0 0 (closed []))))) ≡ true
unfolding area_range area_row words_from course accepts used_range
grouped = refl

paint_on_clip_side : passing 5 (opened (area 0 0 (barred (area 0 0 (closed []))))) ≡ false
unfolding area_range area_row words_from course accepts used_range
paint_on_clip_side = refl

clip_at_top : passing 1 (area 1 0 []) ≡ false
unfolding area_range area_row words_from course accepts used_range
clip_at_top = refl

no_such_area : passing 1 (area 2 0 []) ≡ false
unfolding area_range area_row words_from course accepts used_range
no_such_area = refl

-- ""passes" stands where a clip area may"
passes_on_clip_side : passing 5 (opened (passed (barred (area 0 0 (closed []))))) ≡ true
unfolding area_range area_row words_from course accepts used_range
passes_on_clip_side = refl

passes_at_top : passing 1 (passed []) ≡ false
unfolding area_range area_row words_from course accepts used_range
passes_at_top = refl

-- groups
half_open : passing 3 (opened (passed (barred []))) ≡ false
unfolding area_range area_row words_from course accepts used_range
half_open = refl

no_bar : passing 3 (opened (passed (closed []))) ≡ false
unfolding area_range area_row words_from course accepts used_range
no_bar = refl

unknown_kind : passing 1 (9 ∷ 0 ∷ 0 ∷ 0 ∷ []) ≡ false
unfolding area_range area_row words_from course accepts used_range
unknown_kind = refl

eight_groups : passing 24 (nested (ended (ended []))) ≡ true
unfolding area_range area_row words_from course accepts used_range
eight_groups = refl

nine_groups : passing 27 (nested (opened (barred (closed (ended (ended [])))))) ≡ false
unfolding area_range area_row words_from course accepts used_range
nine_groups = refl
