-- The way up from a cell of a history: each parent's square is around it, and it ends at cell 0.
use mathlib.Core.Path.{◌≡◌, sym, ap, ◌∙◌, subst}
use mathlib.Core.List.{List}
use Prim.Native.Nat.{ℕ, zero, suc, ◌-◌, ◌≤◌, ◌<◌}
use native.Mathlib.Omega.{arith}
use native.Mathlib.Decide.{ℕ_discrete}
use lib.ListN.{length}
use Rattle.cells.specs.Cells.{Position, Cell, level, Holds, Quarter, child}
use Rattle.cells.proofs.Cells.{holds_up, level_child}
use Rattle.demand.specs.History.{Node, cell_in, parent_in, up_in, Around, Upward}
use Rattle.demand.proofs.History.{Hangs, Grown, hangs_child}

module _ (H : List Node) (g : Grown H) where
  -- cell 0 has level 16
  root_level : (i : ℕ) → i ≡ 0 → level (cell_in H i) ≡ 16
  root_level i z = ap (λ (x : ℕ). level (cell_in H x)) z ∙ ap level g.first

  -- cell i and its parent
  record Under (i : ℕ) : Type 0 where
    in_use : parent_in H i < length H
    level_is : level (cell_in H (parent_in H i)) ≡ suc (level (cell_in H i))
    holds : (p : Position) → Holds (cell_in H i) p → Holds (cell_in H (parent_in H i)) p

  under : (i : ℕ) → i < length H → (i ≡ 0 → ⊥) → Under i
  under i h z =
      let k : Hangs H i = g.hangs i h z in
      let c : Cell = cell_in H (parent_in H i) in
      let q : Quarter = k.quarter in
      let e : cell_in H i ≡ child c q = hangs_child H i g k in
      record {
        in_use = k.in_use;
        level_is = sym (level_child c q (g.divided (parent_in H i) k.in_use k.parted).wide) ∙ ap (λ (x : Cell). suc (level x)) (sym e);
        holds = λ p o. holds_up c q p (subst (λ (x : Cell). Holds x p) e o);
      }

  around_by : (k i : ℕ) → i < length H → k ≤ 16 - level (cell_in H i) → Around H i k
  around_by zero i h l = record { in_use = h; level_is = omega arith; holds = λ p o. o }
  around_by (suc k) i h l =
      let u : Under i = under i h (λ z. omega (arith, root_level i z, l)) in
      let a : Around H (parent_in H i) k = around_by k (parent_in H i) u.in_use (omega (arith, u.level_is, l)) in
      record { in_use = a.in_use; level_is = omega (arith, a.level_is, u.level_is); holds = λ p o. a.holds p (u.holds p o) }

  -- no other cell has level 16: its parent would have level 17
  root_only : (i : ℕ) → i < length H → level (cell_in H i) ≡ 16 → i ≡ 0
  root_only i h e = go (ℕ_discrete i 0)
    where
      go : Dec (i ≡ 0) → i ≡ 0
      go (yes z) = z
      go (no z) = let u : Under i = under i h z in absurd (omega (arith, u.level_is, e, (g.on_grid (parent_in H i) u.in_use).few))

  to_root_by : (i : ℕ) → i < length H → up_in H (16 - level (cell_in H i)) i ≡ 0
  to_root_by i h =
      let k : ℕ = 16 - level (cell_in H i) in
      let a : Around H i k = around_by k i h (omega arith) in
      root_only (up_in H k i) a.in_use (omega (arith, a.level_is, (g.on_grid i h).few))

pub upward : (H : List Node) → Grown H → Upward H
upward H g = record { around = λ i k h l. around_by H g k i h l; to_root = to_root_by H g }
