-- The tallies after the passes of the first of the children.
use mathlib.Core.Path.{◌≡◌, refl, ◌∙◌}
use mathlib.Core.List.{List}
use Prim.Native.Nat.{ℕ, zero, suc, ◌+◌, ◌≤◌, ◌<◌}
use native.Mathlib.Omega.{arith}
use lib.ListN.{get_or, set}
use borrow.Author.Tests.{lt-ltb, le-ltb}
use Rattle.cells.specs.Cells.{Cell}
use Rattle.cells.specs.Drawings.{Drawing}
use Rattle.stream.specs.declared.Words.{Words}
use Rattle.four_children.specs.declared.Tally.{Tally}
use Rattle.four_children.specs.Children.{elements_of_child}
use Rattle.four_children.specs.code.Numbers.{tally, no_tally, worked_at, worked_to}

module _ (D : Drawing) (c : Cell) (ws : List Words) where
  worked_at_law : (q k : ℕ) → k < 4 → get_or (worked_to D c ws q) k no_tally ≡ worked_at D c ws q k
  worked_at_law q zero h = refl
  worked_at_law q (suc zero) h = refl
  worked_at_law q (suc (suc zero)) h = refl
  worked_at_law q (suc (suc (suc zero))) h = refl
  worked_at_law q (suc (suc (suc (suc k)))) h = absurd (omega arith)

  -- those of the first q children
  pub worked_done : (q k : ℕ) → q ≤ 4 → k < q → get_or (worked_to D c ws q) k no_tally ≡ tally (elements_of_child D c ws k)
  worked_done q k m h = worked_at_law q k (omega arith) ∙ rw (lt-ltb k q h)

  -- the others are as they were
  pub worked_rest : (q k : ℕ) → q ≤ k → get_or (worked_to D c ws q) k no_tally ≡ get_or (worked_to D c ws 0) k no_tally
  worked_rest q zero h = rw (le-ltb 0 q h)
  worked_rest q (suc zero) h = rw (le-ltb 1 q h)
  worked_rest q (suc (suc zero)) h = rw (le-ltb 2 q h)
  worked_rest q (suc (suc (suc zero))) h = rw (le-ltb 3 q h)
  worked_rest q (suc (suc (suc (suc k)))) h = refl

  -- a child more
  pub worked_next : (q : ℕ) → q < 4 → set (worked_to D c ws q) q (tally (elements_of_child D c ws q)) ≡ worked_to D c ws (q + 1)
  worked_next zero h = refl
  worked_next (suc zero) h = refl
  worked_next (suc (suc zero)) h = refl
  worked_next (suc (suc (suc zero))) h = refl
  worked_next (suc (suc (suc (suc q)))) h = absurd (omega arith)

  -- after q children of n
  pub record Working (n q : ℕ) (ts : List Tally) : Type 0 where
    pub low : q ≤ n
    pub tallies : ts ≡ worked_to D c ws q

  pub working_end : (n q : ℕ) (ts : List Tally) → Working n q ts → n ≤ q → ts ≡ worked_to D c ws n
  working_end n q ts w h = let e : q ≡ n = omega (arith, w.low) in rw e at w.tallies
