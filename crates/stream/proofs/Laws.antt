-- The loop over a stream, and what the test of the numbers in use says.
use Prim.Native.Nat.{ℕ, ◌+◌, ◌*◌, ◌-◌, ◌/◌, ◌≤◌}
use mathlib.Core.Path.{◌≡◌, ap}
use mathlib.Core.Bool.{Bool, true, ◌&&◌}
use mathlib.Core.List.{List}
use native.Mathlib.Omega.{arith}
use Rattle.std.proofs.Common.{Option}
use lib.ListN.{length}
use lib.Dec.{leb}
use borrow.Author.Tests.{leb-true}
use Rattle.laws.proofs.Booleans.{and_left, and_right}
use Rattle.stream.specs.declared.Bounds.{Bounds}
use Rattle.stream.specs.declared.Scan.{Scan}
use Rattle.stream.specs.Table.{words_from}
use Rattle.stream.specs.Grammar.{Env, used_range, Ready}
use Rattle.stream.specs.code.Machine.{scan_n}
use Rattle.stream.proofs.Table.{words_none}

-- where the loop begins, and where it ends: what is left gives what the whole gives
pub scan_begin : (v : Env) (s : Option Scan) (t : List ℕ) (f n : ℕ) → scan_n v s (words_from t f (f + n - f)) ≡ scan_n v s (words_from t f n)
scan_begin v s t f n = ap (λ (k : ℕ). scan_n v s (words_from t f k)) (omega arith)

pub scan_done : (v : Env) (t : List ℕ) (i e : ℕ) (s whole : Option Scan) → e ≤ i → scan_n v s (words_from t i (e - i)) ≡ whole → s ≡ whole
unfolding scan_n
scan_done v t i e s whole h inv = rw (words_none t i e h) at inv

-- ---- the numbers in use
module _ (n used a x y : ℕ) (b : Bounds) (h : used_range n used a x y b ≡ true) where
  -- the three parts of the test
  abbrev of_entries : Bool
  of_entries = leb used (n / 4) && leb used 65536

  abbrev of_areas : Bool
  of_areas = leb b.areas (a / 8) && leb b.areas 64

  abbrev of_corners : Bool
  of_corners = leb b.corners x && (leb b.corners y && leb b.corners 2048)

  parts : (of_entries && (of_areas && of_corners)) ≡ true
  unfolding used_range
  parts = h

  corners : of_corners ≡ true
  corners = and_right of_areas of_corners (and_right of_entries (of_areas && of_corners) parts)

  pub used_entries : used * 4 ≤ n
  used_entries = omega (arith, leb-true used (n / 4) (and_left (leb used (n / 4)) (leb used 65536) (and_left of_entries (of_areas && of_corners) parts)))

  used_areas : b.areas * 8 ≤ a
  used_areas =
      omega (
        arith,
        leb-true b.areas (a / 8)
            (and_left (leb b.areas (a / 8)) (leb b.areas 64)
            (and_left of_areas of_corners (and_right of_entries (of_areas && of_corners) parts))),
      )

  pub used_few : b.areas ≤ 64
  used_few =
      leb-true b.areas 64
      (and_right (leb b.areas (a / 8)) (leb b.areas 64)
      (and_left of_areas of_corners (and_right of_entries (of_areas && of_corners) parts)))

  used_xs : b.corners ≤ x
  used_xs = leb-true b.corners x (and_left (leb b.corners x) (leb b.corners y && leb b.corners 2048) corners)

  used_ys : b.corners ≤ y
  used_ys =
      leb-true b.corners y
      (and_left (leb b.corners y) (leb b.corners 2048)
      (and_right (leb b.corners x) (leb b.corners y && leb b.corners 2048) corners))

pub used_ready : (n used : ℕ) (a x y : List ℕ) (b : Bounds) → used_range n used (length a) (length x) (length y) b ≡ true → Ready a x y b
used_ready n used a x y b h =
    record {
      areas = used_areas n used (length a) (length x) (length y) b h;
      xs = used_xs n used (length a) (length x) (length y) b h;
      ys = used_ys n used (length a) (length x) (length y) b h;
    }

pub run_fits_law : (first count used n : ℕ) → used * 4 ≤ n → count ≤ used → first ≤ used - count → (first + count) * 4 ≤ n
run_fits_law first count used n h k l = omega arith
