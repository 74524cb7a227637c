-- The loop that writes the streams of the four children.
use mathlib.Core.Path.{◌≡◌, refl, sym, ap, subst, ◌∙◌}
use mathlib.Core.Bool as Bool
use mathlib.Core.List.{List}
use Prim.Native.Nat.{ℕ, zero, suc, ◌+◌, ◌*◌, ◌-◌, ◌≤◌, ◌<◌}
use native.Mathlib.Omega.{arith}
use native.Mathlib.Nat.{add-zero, le_refl}
use native.Mathlib.Numerals.{add-one}
use lib.ListN.{length, get_or, length-append}
use Rattle.cells.specs.Cells.{Cell}
use Rattle.cells.specs.Drawings.{Drawing}
use Rattle.stream.specs.declared.Words.{Words}
use Rattle.stream.specs.Table.{words_from, written}
use Rattle.stream.specs.Grammar.{Env, accepts, Passed}
use Rattle.stream.proofs.Table.{from_agree, written_nil, written_append, written_keeps, length_written}
use Rattle.making.proofs.Made.{made_length}
use Rattle.four_children.specs.declared.Tally.{Tally}
use Rattle.four_children.specs.Children.{cell_of_child, words_of_child, entries_of_child, streams_to}
use Rattle.four_children.specs.code.Numbers.{no_tally, worked_to}
use Rattle.four_children.proofs.Worked.{worked_done}

pub length_child : (D : Drawing) (c : Cell) (ws : List Words) (q : ℕ) → length (words_of_child D c ws q) ≡ entries_of_child D c ws q
length_child D c ws q = made_length D (cell_of_child D c ws q) ws

-- a child more is so many entries more
pub streams_more : (D : Drawing) (c : Cell) (ws : List Words) (n : ℕ)
    → length (streams_to D c ws (suc n)) ≡ length (streams_to D c ws n) + entries_of_child D c ws n
unfolding streams_to
streams_more D c ws n = length-append (streams_to D c ws n) (words_of_child D c ws n) ∙ ap (λ (k : ℕ). length (streams_to D c ws n) + k) (length_child D c ws n)

-- the entries of child q, by the four tallies
pub entries_at : (D : Drawing) (c : Cell) (ws : List Words) (ts : List Tally) (q : ℕ)
    → q < 4
    → ts ≡ worked_to D c ws 4
    → (get_or ts q no_tally).entries ≡ entries_of_child D c ws q
entries_at D c ws ts q h e = rw e (ap (λ (t : Tally). t.entries) (worked_done D c ws 4 q (omega arith) h))

-- after q children, with the next at entry `at`
pub record Filled (D : Drawing) (c : Cell) (t₀ : List ℕ) (first count free q at : ℕ) (t : List ℕ) : Type 0 where
  pub low : q ≤ 4
  pub size : length t ≡ length t₀
  pub next : at ≡ free + length (streams_to D c (words_from t₀ first count) q)
  pub table : t ≡ written t₀ free (streams_to D c (words_from t₀ first count) q)

module _ (v : Env) (D : Drawing) (c : Cell) (t₀ : List ℕ) (first count free : ℕ) (P : Passed t₀ first count v) (behind : first + count ≤ free)
    (room : (free + length (streams_to D c (words_from t₀ first count) 4)) * 4 ≤ length t₀) where
  abbrev ws : List Words
  ws = words_from t₀ first count

  pub filled_begin : Filled D c t₀ first count free 0 free t₀
  unfolding streams_to
  filled_begin = record { low = omega arith; size = refl; next = omega arith; table = sym (written_nil t₀ free) }

  -- a child more is no less
  more : (n m : ℕ) → length (streams_to D c ws n) ≤ length (streams_to D c ws (n + m))
  unfolding streams_to
  more n zero = rw (add-zero n) (le_refl _)
  more n (suc m) =
      let e : n + suc m ≡ suc (n + m) = omega arith in
      rw (e, length-append (streams_to D c ws (n + m)) (words_of_child D c ws (n + m))) (omega (arith, more n m))

  module _ (q at : ℕ) (t : List ℕ) (f : Filled D c t₀ first count free q at t) where
    pub words_same : words_from t first count ≡ ws
    words_same =
        rw f.table
        (from_agree (written t₀ free (streams_to D c ws q)) t₀ ((first + count) * 4) first count
        (written_keeps t₀ ((first + count) * 4) free (streams_to D c ws q) (omega arith)) (omega arith))

    pub still_passed : Passed t first count v
    still_passed =
        record {
          within = omega (arith, P.within, f.size);
          few = P.few;
          few_areas = P.few_areas;
          ready = P.ready;
          grammar = subst (λ (u : List Words). accepts v u ≡ Bool.true) (sym words_same) P.grammar;
        }

    pub still_behind : first + count ≤ at
    still_behind = omega (arith, f.next, behind)

    module _ (h : q < 4) where
      fits_four : length (streams_to D c ws (suc q)) ≤ length (streams_to D c ws 4)
      fits_four =
          let e : suc q + (4 - suc q) ≡ 4 = omega arith in
          subst (λ (n : ℕ). length (streams_to D c ws (suc q)) ≤ length (streams_to D c ws n)) e (more (suc q) (4 - suc q))

      pub made_is : (n : ℕ) → n ≡ entries_of_child D c ws q → n ≡ entries_of_child D c (words_from t first count) q
      made_is n e = e ∙ ap (λ (u : List Words). entries_of_child D c u q) (sym words_same)

      pub child_room_law : (at + entries_of_child D c ws q) * 4 ≤ length t
      child_room_law = omega (arith, f.next, f.size, room, fits_four, streams_more D c ws q)

      pub filled_turn : (t' : List ℕ)
          → t' ≡ written t at (words_of_child D c (words_from t first count) q)
          → Filled D c t₀ first count free (q + 1) (at + entries_of_child D c ws q) t'
      unfolding streams_to
      filled_turn t' e =
          let e₁ : t' ≡ written t at (words_of_child D c ws q) = e ∙ ap (λ (u : List Words). written t at (words_of_child D c u q)) words_same in
          rw (add-one q)
          (record {
            low = omega arith;
            size = ap length e₁ ∙ (length_written t at (words_of_child D c ws q) ∙ f.size);
            next = omega (arith, f.next, streams_more D c ws q);
            table = e₁
                ∙ (ap (λ (u : List ℕ). written u at (words_of_child D c ws q)) f.table
                ∙ (ap (λ (n : ℕ). written (written t₀ free (streams_to D c ws q)) n (words_of_child D c ws q)) f.next
                ∙ written_append t₀ free (streams_to D c ws q) (words_of_child D c ws q)));
          })

    pub filled_end : 4 ≤ q → t ≡ written t₀ free (streams_to D c ws 4)
    filled_end h = let e : q ≡ 4 = omega (arith, f.low) in subst (λ (n : ℕ). t ≡ written t₀ free (streams_to D c ws n)) e f.table
