-- The loop that writes the cells of the four children, and the table that it leaves.
use mathlib.Core.Path.{◌≡◌, refl, sym, ap, subst, ◌∙◌}
use mathlib.Core.List.{List}
use Prim.Native.Nat.{ℕ, zero, suc, ◌+◌, ◌*◌, ◌≤◌, ◌<◌}
use native.Mathlib.Omega.{arith}
use native.Mathlib.Numerals.{add-one}
use lib.ListN.{length, get_or}
use Rattle.cells.specs.Cells.{Cell, child}
use Rattle.cells.specs.Drawings.{Drawing}
use Rattle.stream.specs.declared.Words.{Words}
use Rattle.celltable.specs.declared.CellWords.{CellWords}
use Rattle.celltable.specs.Table.{put_cell_at}
use Rattle.celltable.specs.Descent.{quarter_at}
use Rattle.celltable.proofs.Table.{length_put_cell}
use Rattle.four_children.specs.declared.Tally.{Tally}
use Rattle.making.specs.Made.{elements_made, words_made}
use Rattle.four_children.specs.Children.{words_with, cell_of_child, elements_of_child, lines_of_child, streams_to, cells_to}
use Rattle.four_children.specs.code.Numbers.{no_tally, first_by, cells_by, worked_to, FewEach}
use Rattle.four_children.proofs.Worked.{worked_done}
use Rattle.four_children.proofs.Tallies.{total_is}
use Rattle.four_children.proofs.Tallied.{words_lines}
use Rattle.four_children.proofs.Filled.{entries_at, streams_more}

-- after q children, the stream of the next begins at `at`
pub record Placed (c : Cell) (ts : List Tally) (t₀ : List ℕ) (i used free q at : ℕ) (t : List ℕ) : Type 0 where
  pub low : q ≤ 4
  pub small : at ≤ free + q * 4096
  pub size : length t ≡ length t₀
  pub next : at ≡ first_by ts free q
  pub table : t ≡ cells_by c ts t₀ i used free q

module _ (c : Cell) (ts : List Tally) (t₀ : List ℕ) (i used free : ℕ) (few : FewEach ts) where
  pub placed_begin : Placed c ts t₀ i used free 0 free t₀
  unfolding cells_by
  placed_begin = record { low = omega arith; small = omega arith; size = refl; next = refl; table = refl }

  module _ (q at : ℕ) (t : List ℕ) (p : Placed c ts t₀ i used free q at t) where
    pub placed_turn : q < 4
        → (w : CellWords) (t' : List ℕ)
        → w ≡ words_with (child c (quarter_at q)) at (get_or ts q no_tally).entries (get_or ts q no_tally).lines i
        → t' ≡ put_cell_at t (used + q) w
        → Placed c ts t₀ i used free (q + 1) (at + (get_or ts q no_tally).entries) t'
    unfolding cells_by
    placed_turn h w t' e f =
        rw (add-one q)
        (record {
          low = omega arith;
          small = omega (arith, p.small, few.few q h);
          size = ap length f ∙ (length_put_cell t (used + q) w ∙ p.size);
          next = ap (λ (n : ℕ). n + (get_or ts q no_tally).entries) p.next;
          table = f
              ∙ (ap (λ (u : List ℕ). put_cell_at u (used + q) w) p.table
              ∙ ap (put_cell_at (cells_by c ts t₀ i used free q) (used + q))
              (e ∙ ap (λ (n : ℕ). words_with (child c (quarter_at q)) n (get_or ts q no_tally).entries (get_or ts q no_tally).lines i) p.next));
        })

    pub placed_end : 4 ≤ q → t ≡ cells_by c ts t₀ i used free 4
    placed_end h = let e : q ≡ 4 = omega (arith, p.low) in subst (λ (n : ℕ). t ≡ cells_by c ts t₀ i used free n) e p.table

-- ---- the lines of child q, by the four tallies
module _ (D : Drawing) (c : Cell) (ws : List Words) where
  lines_at_law : (q : ℕ) → q < 4 → (get_or (worked_to D c ws 4) q no_tally).lines ≡ lines_of_child D c ws q
  unfolding elements_made words_made
  lines_at_law q h = ap (λ (x : Tally). x.lines) (worked_done D c ws 4 q (omega arith) h) ∙ sym (words_lines (elements_of_child D c ws q))

  -- no more than it has entries
  pub lines_few : (ts : List Tally) (q : ℕ) → q < 4 → ts ≡ worked_to D c ws 4 → (get_or ts q no_tally).lines ≤ (get_or ts q no_tally).entries
  lines_few ts q h e = rw (e, worked_done D c ws 4 q (omega arith) h) (total_is (elements_of_child D c ws q)).1

-- ---- by the tallies of the four children the table is that of document 01
module _ (D : Drawing) (c : Cell) (ws : List Words) (t : List ℕ) (i used free : ℕ) where
  first_is : (q : ℕ) → q ≤ 4 → first_by (worked_to D c ws 4) free q ≡ free + length (streams_to D c ws q)
  unfolding streams_to
  first_is zero h = omega arith
  first_is (suc q) h = omega (arith, first_is q (omega arith), entries_at D c ws (worked_to D c ws 4) q (omega arith) refl, streams_more D c ws q)

  by_is_to : (n : ℕ) → n ≤ 4 → cells_by c (worked_to D c ws 4) t i used free n ≡ cells_to D c ws t i used free n
  unfolding cells_by cells_to
  by_is_to zero h = refl
  by_is_to (suc n) h =
      λ d.
      put_cell_at (by_is_to n (omega arith) d) (used + n)
      (words_with (cell_of_child D c ws n) (first_is n (omega arith) d) (entries_at D c ws (worked_to D c ws 4) n (omega arith) refl d)
      (lines_at_law D c ws n (omega arith) d) i)

  pub cells_by_four : (ts : List Tally) → ts ≡ worked_to D c ws 4 → cells_by c ts t i used free 4 ≡ cells_to D c ws t i used free 4
  cells_by_four ts e = ap (λ (x : List Tally). cells_by c x t i used free 4) e ∙ by_is_to 4 (omega arith)
