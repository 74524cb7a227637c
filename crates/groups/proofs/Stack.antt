-- Each test and each move of the number is that of the list of open groups.
use mathlib.Core.Path.{◌≡◌, refl}
use mathlib.Core.Bool.{Bool, true, false, cond}
use mathlib.Core.List.{List, [], ◌∷◌}
use Prim.Native.Nat.{ℕ, zero, suc, ◌+◌, ◌*◌, ◌%◌, ◌^◌, ◌≤◌, ◌<◌}
use native.Mathlib.Nat.{le_of_suc-le-suc, not-suc-le-zero, pow-suc, one-le-pow}
use native.Mathlib.Omega.{arith}
use lib.Dec.{eqb, ltb, leb}
use lib.ListN.{length}
use borrow.Author.Tests.{lt-ltb, le-ltb, le-leb, eq-eqb, ne_eqb, ltb-true, ltb-false}
use Rattle.groups.specs.Sides.{Frame, paint_left, paint_right, clip_left, clip_right, is_paint, on_left, on_right, opening, to_right, to_outer, is_empty}
use Rattle.groups.specs.code.Stack.{digit, num, paint_n, left_n, right_n, room_n, open_n, bar_n, close_n}

digit_small : (f : Frame) → digit f < 4
digit_small paint_left = omega arith
digit_small paint_right = omega arith
digit_small clip_left = omega arith
digit_small clip_right = omega arith

pub num_pos : (fs : List Frame) → 1 ≤ num fs
num_pos [] = omega arith
num_pos (f ∷ fs) = omega (arith, num_pos fs)

pub paint_is : (fs : List Frame) → paint_n (num fs) ≡ is_paint fs
paint_is [] = refl
paint_is (paint_left ∷ fs) = ne_eqb ((num fs * 4 + 0) % 4) 1 (λ e. omega arith)
paint_is (paint_right ∷ fs) = eq-eqb ((num fs * 4 + 1) % 4) 1 (omega arith)
paint_is (clip_left ∷ fs) = ne_eqb ((num fs * 4 + 2) % 4) 1 (λ e. omega arith)
paint_is (clip_right ∷ fs) = ne_eqb ((num fs * 4 + 3) % 4) 1 (λ e. omega arith)

pub left_is : (fs : List Frame) → left_n (num fs) ≡ on_left fs
left_is [] = refl
left_is (paint_left ∷ fs) = eq-eqb ((num fs * 4 + 0) % 2) 0 (omega arith)
left_is (paint_right ∷ fs) = ne_eqb ((num fs * 4 + 1) % 2) 0 (λ e. omega arith)
left_is (clip_left ∷ fs) = eq-eqb ((num fs * 4 + 2) % 2) 0 (omega arith)
left_is (clip_right ∷ fs) = ne_eqb ((num fs * 4 + 3) % 2) 0 (λ e. omega arith)

four_le : (fs : List Frame) (f : Frame) → leb 4 (num fs * 4 + digit f) ≡ true
four_le fs f = le-leb 4 (num fs * 4 + digit f) (omega (arith, num_pos fs))

pub right_is : (fs : List Frame) → right_n (num fs) ≡ on_right fs
right_is [] = refl
right_is (paint_left ∷ fs) = rw (four_le fs paint_left, ne_eqb ((num fs * 4 + 0) % 2) 1 (λ e. omega arith))
right_is (paint_right ∷ fs) = rw (four_le fs paint_right, eq-eqb ((num fs * 4 + 1) % 2) 1 (omega arith))
right_is (clip_left ∷ fs) = rw (four_le fs clip_left, ne_eqb ((num fs * 4 + 2) % 2) 1 (λ e. omega arith))
right_is (clip_right ∷ fs) = rw (four_le fs clip_right, eq-eqb ((num fs * 4 + 3) % 2) 1 (omega arith))

-- fewer than k groups are open where the number is below 4 to the k
below : (fs : List Frame) (k : ℕ) → length fs < k → num fs < 4 ^ k
below fs zero h = absurd (not-suc-le-zero h)
below [] (suc k) h = rw pow-suc (omega (arith, one-le-pow k 4 (omega arith)))
below (f ∷ fs) (suc k) h = rw pow-suc (omega (arith, digit_small f, below fs k (le_of_suc-le-suc h)))

above : (fs : List Frame) (k : ℕ) → k ≤ length fs → 4 ^ k ≤ num fs
above fs zero h = num_pos fs
above [] (suc k) h = absurd (not-suc-le-zero h)
above (f ∷ fs) (suc k) h = rw pow-suc (omega (arith, above fs k (le_of_suc-le-suc h)))

pub room_is : (fs : List Frame) → room_n (num fs) ≡ ltb (length fs) 8
room_is fs = go (ltb (length fs) 8) refl
  where
    go : (b : Bool) → ltb (length fs) 8 ≡ b → ltb (num fs) 65536 ≡ b
    go true e = lt-ltb _ _ (below fs 8 (ltb-true _ _ e))
    go false e = le-ltb _ _ (above fs 8 (ltb-false _ _ e))

-- ---- `(`, `|` and `)`

pub bar_is : (fs : List Frame) → bar_n (num fs) ≡ num (to_right fs)
bar_is [] = refl
bar_is (paint_left ∷ fs) = omega arith
bar_is (paint_right ∷ fs) = omega arith
bar_is (clip_left ∷ fs) = omega arith
bar_is (clip_right ∷ fs) = omega arith

pub close_is : (fs : List Frame) → on_right fs ≡ true → close_n (num fs) ≡ num (to_outer fs)
close_is [] h = absurd (let z : ◌≡◌ {A = ℕ} 0 1 = cc in omega arith)
close_is (f ∷ fs) h = omega (arith, digit_small f)

pub open_is : (fs : List Frame) → open_n (num fs) ≡ num (opening fs)
open_is fs = rw (paint_is fs) (go (is_paint fs))
  where
    go : (b : Bool) → cond b (num fs * 4) (num fs * 4 + 2) ≡ num fs * 4 + digit (cond b paint_left clip_left)
    go true = omega arith
    go false = refl

pub empty_is : (fs : List Frame) → eqb (num fs) 1 ≡ is_empty fs
empty_is [] = refl
empty_is (f ∷ fs) = ne_eqb (num fs * 4 + digit f) 1 (λ e. omega (arith, num_pos fs))
