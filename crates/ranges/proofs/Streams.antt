-- The stream of each cell of an accepted drawing passes the check of streams, in tables that hold the drawing.
use mathlib.Core.Path.{◌≡◌, refl, sym, ap, ◌∙◌}
use mathlib.Core.Bool.{Bool, true, false, cond}
use mathlib.Core.List.{List, [], map}
use Prim.Native.Nat.{ℕ, zero, suc, ◌+◌, ◌*◌, ◌-◌, ◌/◌, ◌≤◌}
use native.Mathlib.Omega.{arith}
use lib.ListN.{length, length-map}
use borrow.Author.Tests.{le-leb}
use Rattle.pruning.specs.Sides.{paint, flat}
use Rattle.stream.specs.declared.Words.{Words}
use Rattle.stream.specs.declared.Bounds.{Bounds}
use Rattle.stream.specs.Table.{words_from}
use Rattle.stream.specs.Grammar.{env, is_whole, accepts, used_range, run_range, check_stream, Ready}
use Rattle.cells.specs.Cells.{Cell, low, side}
use Rattle.cells.specs.Drawings.{Drawing}
use Rattle.cells.specs.Streams.{source, made}
use Rattle.cells.specs.Elements.{elements_of}
use Rattle.evaluate.specs.Words.{words_of}
use Rattle.ranges.specs.code.Valid.{Valid}
use Rattle.ranges.specs.Held.{Held}
use Rattle.ranges.proofs.Depth.{made_depth}
use Rattle.ranges.proofs.Weights.{made_areas, made_segments, made_short}
use Rattle.ranges.proofs.Passing.{side_passes}
use Rattle.ranges.proofs.Items.{made_in}

-- every number is in range, the grammar holds, and nothing is over its limit
pub made_passes : (D : Drawing) → Valid D → (areas xs ys : List ℕ) (b : Bounds) → Held areas xs ys b D → (c : Cell) → b.low ≡ low c → b.side ≡ side c
    → accepts (env areas xs ys b) (map words_of (elements_of (flat paint (made D c (source D))))) ≡ true
unfolding accepts
made_passes D ok areas xs ys b H c same_low same_side =
    ap is_whole (side_passes (env areas xs ys b) paint (made D c (source D)) [] false 0 0 refl (made_in D c ok areas xs ys b H same_low same_side)
    (omega (arith, made_depth D c, ok.few_groups)) (omega (arith, made_areas D c, ok.few_areas)) (omega (arith, made_segments D c, ok.few_lines)))

-- ---- in a table of entries

used_in : (t : List ℕ) (used : ℕ) (areas xs ys : List ℕ) (b : Bounds)
    → used * 4 ≤ length t
    → used ≤ 65536
    → Ready areas xs ys b
    → b.areas ≤ 64
    → b.corners ≤ 2048
    → used_range (length t) used (length areas) (length xs) (length ys) b ≡ true
unfolding used_range
used_in t used areas xs ys b e m r a c =
    rw (
      le-leb used (length t / 4) (omega arith),
      le-leb used 65536 m,
      le-leb b.areas (length areas / 8) (omega (arith, r.areas)),
      le-leb b.areas 64 a,
      le-leb b.corners (length xs) r.xs,
      le-leb b.corners (length ys) r.ys,
    )
    (le-leb b.corners 2048 c)

run_in : (first count used : ℕ) → first + count ≤ used → count ≤ 4096 → run_range first count used ≡ true
run_in first count used h m = rw (le-leb count used (omega arith), le-leb first (used - count) (omega arith)) (le-leb count 4096 m)

both_tests : (a b c : Bool) → a ≡ true → b ≡ true → c ≡ true → cond a (cond b c false) false ≡ true
both_tests a b c p q r = rw (p, q) r

pub words_length : (t : List ℕ) (i n : ℕ) → length (words_from t i n) ≡ n
unfolding words_from
words_length t i zero = refl
words_length t i (suc n) = ap suc (words_length t (i + 1) n)

-- a table that has the words of a cell's stream from entry `first` on, all of them in use
pub made_checks : (D : Drawing) → Valid D → (areas xs ys : List ℕ) (b : Bounds) → Held areas xs ys b D → (c : Cell) → b.low ≡ low c → b.side ≡ side c
    → (t : List ℕ) (first count used : ℕ) → words_from t first count ≡ map words_of (elements_of (flat paint (made D c (source D))))
    → first + count ≤ used → used * 4 ≤ length t → used ≤ 65536 → check_stream t first count used (env areas xs ys b) ≡ true
made_checks D ok areas xs ys b H c same_low same_side t first count used same end room few =
    let ws = elements_of (flat paint (made D c (source D))) in
    let many : count ≡ length ws = sym (words_length t first count) ∙ (ap length same ∙ length-map {B = Words} ws words_of) in
    both_tests (used_range (length t) used (length areas) (length xs) (length ys) b) (run_range first count used)
    (accepts (env areas xs ys b) (words_from t first count))
    (used_in t used areas xs ys b room few H.ready (omega (arith, H.areas_used, ok.few_fields))
    (omega (arith, H.corners_used, ok.few_corners)))
    (run_in first count used end (omega (arith, many, made_short D ok c)))
    (ap (accepts (env areas xs ys b)) same ∙ made_passes D ok areas xs ys b H c same_low same_side)
