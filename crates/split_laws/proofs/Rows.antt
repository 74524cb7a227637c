-- The rows of four children, and their streams, as they are read back.
use mathlib.Core.Path.{◌≡◌, refl, sym, ap, subst, ◌∙◌}
use mathlib.Core.List.{List}
use Prim.Native.Nat.{ℕ, zero, suc, ◌+◌, ◌*◌, ◌≤◌, ◌<◌}
use native.Mathlib.Omega.{arith}
use native.Mathlib.Decide.{ℕ_discrete}
use lib.ListN.{length}
use Rattle.cells.specs.Cells.{Cell}
use Rattle.cells.specs.Drawings.{Drawing}
use Rattle.stream.specs.declared.Words.{Words}
use Rattle.stream.specs.Table.{words_from, written}
use Rattle.stream.proofs.Table.{from_agree, written_append, written_keeps, written_read, length_written}
use Rattle.celltable.specs.declared.CellWords.{CellWords}
use Rattle.celltable.specs.Table.{cell_at}
use Rattle.celltable.proofs.Table.{length_put_cell, put_cell_same, put_cell_other}
use Rattle.four_children.specs.Children.{words_with, cell_of_child, words_of_child, entries_of_child, lines_of_child, streams_to, cells_to}
use Rattle.four_children.proofs.Filled.{length_child, streams_more}

-- ---- the rows
module _ (D : Drawing) (c : Cell) (ws : List Words) (t : List ℕ) (i used free : ℕ) where
  -- the words of child q of cell i
  abbrev pub words_at : ℕ → CellWords
  words_at q = words_with (cell_of_child D c ws q) (free + length (streams_to D c ws q)) (entries_of_child D c ws q) (lines_of_child D c ws q) i

  pub length_cells_to : (n : ℕ) → length (cells_to D c ws t i used free n) ≡ length t
  unfolding cells_to
  length_cells_to zero = refl
  length_cells_to (suc n) = length_put_cell (cells_to D c ws t i used free n) (used + n) (words_at n) ∙ length_cells_to n

  -- the cells before them are as they were
  pub cells_to_keeps : (n j : ℕ) → j < used → cell_at (cells_to D c ws t i used free n) j ≡ cell_at t j
  unfolding cells_to
  cells_to_keeps zero j h = refl
  cells_to_keeps (suc n) j h = put_cell_other (cells_to D c ws t i used free n) (used + n) j (words_at n) (λ e. omega arith) ∙ cells_to_keeps n j h

  pub cells_to_child : (n q : ℕ) → q < n → (used + n) * 8 ≤ length t → cell_at (cells_to D c ws t i used free n) (used + q) ≡ words_at q
  unfolding cells_to
  cells_to_child zero q h r = absurd (omega arith)
  cells_to_child (suc n) q h r = go (ℕ_discrete q n) (λ l. cells_to_child n q l (omega arith))
    where
      go : Dec (q ≡ n)
          → (q < n → cell_at (cells_to D c ws t i used free n) (used + q) ≡ words_at q)
          → cell_at (cells_to D c ws t i used free (suc n)) (used + q) ≡ words_at q
      go (yes e) f = rw e (put_cell_same (cells_to D c ws t i used free n) (used + n) (words_at n) (omega (arith, length_cells_to n)))
      go (no e) f = put_cell_other (cells_to D c ws t i used free n) (used + n) (used + q) (words_at n) (λ d. e (omega arith)) ∙ f (omega arith)

-- ---- the streams
module _ (D : Drawing) (c : Cell) (ws : List Words) where
  pub streams_up : (q n : ℕ) → q ≤ n → length (streams_to D c ws q) ≤ length (streams_to D c ws n)
  streams_up q zero h = let e : q ≡ 0 = omega arith in rw e (omega arith)
  streams_up q (suc n) h = go (ℕ_discrete q (suc n)) (λ l. streams_up q n l)
    where
      go : Dec (q ≡ suc n)
          → (q ≤ n → length (streams_to D c ws q) ≤ length (streams_to D c ws n))
          → length (streams_to D c ws q) ≤ length (streams_to D c ws (suc n))
      go (yes e) f = rw e (omega arith)
      go (no e) f = omega (arith, f (omega arith), streams_more D c ws n)

  -- the stream of child q is read back
  pub streams_read : (t : List ℕ) (free n q : ℕ) → q < n → (free + length (streams_to D c ws n)) * 4 ≤ length t
      → words_from (written t free (streams_to D c ws n)) (free + length (streams_to D c ws q)) (entries_of_child D c ws q) ≡ words_of_child D c ws q
  unfolding streams_to
  streams_read t free zero q h r = absurd (omega arith)
  streams_read t free (suc n) q h r = go (ℕ_discrete q n) (λ l. streams_read t free n q l (omega (arith, streams_more D c ws n)))
    where
      S : List Words
      S = streams_to D c ws n

      W : List Words
      W = words_of_child D c ws n

      u : List ℕ
      u = written t free S

      at : ℕ
      at = free + length S

      two : written t free (streams_to D c ws (suc n)) ≡ written u at W
      two = sym (written_append t free S W)

      last : words_from (written u at W) at (length W) ≡ W
      last = written_read u at W (omega (arith, length_written t free S, streams_more D c ws n, length_child D c ws n, r))

      go : Dec (q ≡ n) → (q < n → words_from u (free + length (streams_to D c ws q)) (entries_of_child D c ws q) ≡ words_of_child D c ws q)
          → words_from (written t free (streams_to D c ws (suc n))) (free + length (streams_to D c ws q)) (entries_of_child D c ws q) ≡ words_of_child D c ws q
      go (yes e) f = rw (e, two) (subst (λ (k : ℕ). words_from (written u at W) at k ≡ W) (length_child D c ws n) last)
      go (no e) f =
          ap (λ (x : List ℕ). words_from x (free + length (streams_to D c ws q)) (entries_of_child D c ws q)) two
          ∙ (from_agree (written u at W) u (at * 4) (free + length (streams_to D c ws q)) (entries_of_child D c ws q)
          (written_keeps u (at * 4) at W (omega arith)) (omega (arith, streams_more D c ws q, streams_up (suc q) n (omega arith)))
          ∙ f (omega arith))
