-- What stands after a list of calls, a list that goes on behind another, and what a refused call leaves.
use mathlib.Core.Path.{◌≡◌, refl, sym}
use mathlib.Core.Bool.{false}
use mathlib.Core.List.{List, [], ◌∷◌, ◌++◌}
use Prim.Native.Nat.{ℕ}
use Rattle.std.specs.Prelude.{Result, Ok, Err}
use Rattle.refusals.specs.declared.Refusal.{Refusal}
use Rattle.laws.proofs.Booleans.{clash}
use Rattle.cells.specs.Drawings.{Drawing}
use Rattle.tables.specs.Tables.{Tree}
use Rattle.split.specs.Split.{split_answer}
use Rattle.split_laws.proofs.Trees.{tree_refused}
use Rattle.open.specs.Open.{open_answer}
use Rattle.demand.specs.History.{Node}
use Rattle.demand.specs.Stands.{Stands}
use Rattle.demand.specs.code.Opened.{opened_by}
use Rattle.demand.specs.Calls.{Call, opens, splits, grows, finds, reads, rows, logs, opening, splitting, refusal, is_growing, tree_after}
use Rattle.demand.specs.Lists.{Listed, Refused, tables_after, nodes_after, AllAllowed, tables_after_all, nodes_after_all}
use Rattle.demand.specs.Demand.{Throughout}

module _ (D : Drawing) where
  -- the claim about a list that goes on is the claim about its rest, at the tables and the history that its beginning leaves
  pub list_goes_on : (cs ds : List Listed) (t : Tree) (H : List Node) → Throughout D (cs ++ ds) t H → AllAllowed cs t
      → Throughout D ds (tables_after_all cs t) (nodes_after_all cs t H)
  list_goes_on [] ds t H s a = s
  list_goes_on (c ∷ cs) ds t H s a = list_goes_on cs ds (tables_after c t) (nodes_after c t H) (s a.0).1 a.1

  pub stands_after : (cs : List Listed) (t : Tree) (H : List Node) → Throughout D cs t H → AllAllowed cs t
      → Stands D (tables_after_all cs t) (nodes_after_all cs t H)
  stands_after [] t H s a = s
  stands_after (c ∷ cs) t H s a = stands_after cs (tables_after c t) (nodes_after c t H) (s a.0).1 a.1

-- a refused opening leaves all
pub opening_same : (t : Tree) (a : Result ℕ Refusal) → (refusal (opening a) ≡ 0 → ⊥) → opened_by t a ≡ t
opening_same t (Ok n) f = absurd (f refl)
opening_same t (Err r) f = refl

splitting_same : (t : Tree) (i : ℕ) (a : Result ℕ Refusal) → split_answer t i ≡ a → (refusal (splitting a) ≡ 0 → ⊥) → tree_after (splits i) t ≡ t
splitting_same t i (Ok n) e f = absurd (f refl)
splitting_same t i (Err r) e f = tree_refused t i r e

-- so does every other refused call, but for growing: "cells split before a 12 remain"
pub refused_same : (c : Call) (t : Tree) → is_growing c ≡ false → Refused c t → tree_after c t ≡ t
refused_same opens t g f = opening_same t (open_answer t) f
refused_same (splits i) t g f = splitting_same t i (split_answer t i) refl f
refused_same (grows n l) t g f = clash (sym g)
refused_same (finds x y out) t g f = refl
refused_same (reads x y out) t g f = refl
refused_same (rows row first out) t g f = refl
refused_same (logs px py out) t g f = refl
