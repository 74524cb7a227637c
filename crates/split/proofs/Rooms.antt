-- The room that a split asks for.
use mathlib.Core.Path.{◌≡◌}
use mathlib.Core.List.{List}
use Prim.Native.Nat.{ℕ, ◌+◌, ◌≤◌}
use native.Mathlib.Omega.{arith}
use lib.ListN.{length, get_or, length-append}
use Rattle.cells.specs.Cells.{Cell}
use Rattle.cells.specs.Drawings.{Drawing}
use Rattle.stream.specs.declared.Bounds.{Bounds}
use Rattle.stream.specs.declared.Words.{Words}
use Rattle.stream.specs.Table.{words_from}
use Rattle.stream.specs.Grammar.{env, Passed}
use Rattle.ranges.specs.Held.{lent}
use Rattle.four_children.specs.declared.Tally.{Tally}
use Rattle.four_children.specs.Children.{cell_of_child, words_of_child, entries_of_child, streams_to}
use Rattle.four_children.specs.code.Numbers.{no_tally, worked_to, FewEach}
use Rattle.four_children.proofs.Filled.{length_child, entries_at}
use Rattle.four_children.proofs.Placed.{lines_few}
use Rattle.four_children.proofs.Made.{few_elements}

pub few_each : (t areas xs ys : List ℕ) (b : Bounds) (first count : ℕ) (c : Cell) (ts : List Tally)
    → Passed t first count (env areas xs ys b)
    → ts ≡ worked_to (lent areas xs ys b) c (words_from t first count) 4
    → FewEach ts
few_each t areas xs ys b first count c ts p e =
    record {
      few = λ n h.
          omega (
            arith,
            entries_at (lent areas xs ys b) c (words_from t first count) ts n h e,
            few_elements t areas xs ys b first count (cell_of_child (lent areas xs ys b) c (words_from t first count) n) p,
          );
      few_lines = λ n h.
          omega (
            arith,
            lines_few (lent areas xs ys b) c (words_from t first count) ts n h e,
            entries_at (lent areas xs ys b) c (words_from t first count) ts n h e,
            few_elements t areas xs ys b first count (cell_of_child (lent areas xs ys b) c (words_from t first count) n) p,
          );
    }

-- the entries of all four children
abbrev pub sum_of : List Tally → ℕ
sum_of ts = (get_or ts 0 no_tally).entries + (get_or ts 1 no_tally).entries + (get_or ts 2 no_tally).entries + (get_or ts 3 no_tally).entries

pub sum_few : (ts : List Tally) → FewEach ts → sum_of ts ≤ 16384
sum_few ts f = omega (arith, f.few 0 (omega arith), f.few 1 (omega arith), f.few 2 (omega arith), f.few 3 (omega arith))

sum_four : (D : Drawing) (c : Cell) (ws : List Words)
    → length (streams_to D c ws 4) ≡ entries_of_child D c ws 0 + entries_of_child D c ws 1 + entries_of_child D c ws 2 + entries_of_child D c ws 3
unfolding streams_to
sum_four D c ws =
    omega (
      arith,
      length-append (streams_to D c ws 3) (words_of_child D c ws 3),
      length-append (streams_to D c ws 2) (words_of_child D c ws 2),
      length-append (streams_to D c ws 1) (words_of_child D c ws 1),
      length-append (streams_to D c ws 0) (words_of_child D c ws 0),
      length_child D c ws 0,
      length_child D c ws 1,
      length_child D c ws 2,
      length_child D c ws 3,
    )

pub sum_is : (D : Drawing) (c : Cell) (ws : List Words) (ts : List Tally) (n : ℕ) → ts ≡ worked_to D c ws 4
    → n ≡ sum_of ts
    → n ≡ length (streams_to D c ws 4)
sum_is D c ws ts n e h =
    omega (
      arith,
      sum_four D c ws,
      entries_at D c ws ts 0 (omega arith) e,
      entries_at D c ws ts 1 (omega arith) e,
      entries_at D c ws ts 2 (omega arith) e,
      entries_at D c ws ts 3 (omega arith) e,
    )
