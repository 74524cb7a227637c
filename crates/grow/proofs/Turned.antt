-- A turn of the sweep by its numbers and by its tables.
use mathlib.Core.Path.{◌≡◌, sym, ap, ◌∙◌}
use mathlib.Core.Bool.{true, ◌&&◌}
use mathlib.Core.List.{List}
use Prim.Native.Nat.{ℕ}
use Rattle.std.specs.Prelude.{Result, Ok, Some}
use Rattle.laws.proofs.Booleans.{cond_left}
use Rattle.refusals.specs.declared.Refusal.{Refusal}
use Rattle.celltable.specs.declared.CellWords.{CellWords}
use Rattle.celltable.specs.Ranges.{side_range, grid_range, square_range}
use Rattle.tables.specs.Tables.{Tree, tree, cells_used, entries_used}
use Rattle.split.specs.Split.{words, split_answer, head_after, cells_after, entries_after}
use Rattle.split_laws.specs.After.{split_tree}
use Rattle.grow.specs.declared.Tried.{Tried}
use Rattle.grow.specs.declared.Tried.TheVariants.{Bad, Past, Wanted}
use Rattle.grow.specs.declared.Sweep.{Sweep}
use Rattle.grow.specs.Grow.{tried_cell, tried}
use Rattle.grow.specs.code.Numbers.{split_n, by_answer, turn_by, tree_by}

-- ---- a leaf that is split, by the answer of the split and the head afterwards
module _ (t : Tree) (s : Sweep) (x : Result ℕ Refusal) (e : x ≡ split_answer t s.cell) where
  abbrev i : ℕ
  i = s.cell

  pub head_is : (h' : List ℕ) → h' ≡ head_after t s.cell x → h' ≡ (split_tree t s.cell).head
  unfolding split_tree
  head_is h' q = q ∙ ap (head_after t i) e

  pub cells_is : (c' : List ℕ) → c' ≡ cells_after t s.cell x → c' ≡ (split_tree t s.cell).cells
  unfolding split_tree
  cells_is c' q = q ∙ ap (cells_after t i) e

  pub entries_is : (e' : List ℕ) → e' ≡ entries_after t s.cell x → e' ≡ (split_tree t s.cell).entries
  unfolding split_tree
  entries_is e' q = q ∙ ap (entries_after t i) e

  pub turn_split : (k : ℕ) (next : Sweep) (h' : List ℕ) → x ≡ Ok k → next ≡ split_n s (entries_used h') → h' ≡ head_after t s.cell x
      → Ok (Some next) ≡ turn_by Wanted t s
  turn_split k next h' f g q =
      ap (λ (n : Sweep). Ok (Some n)) g
      ∙ (ap (λ (y : List ℕ). Ok (Some (split_n s (entries_used y)))) (head_is h' q)
      ∙ ap (λ (y : Result ℕ Refusal). by_answer y s (split_tree t i).head) (sym f ∙ e))

-- ---- what is met at the cell, test by test
pub side_passes : (w : CellWords) → square_range w ≡ true → side_range w.side ≡ true
side_passes w h = cond_left (side_range w.side) (grid_range w.x w.side && grid_range w.y w.side) h

-- with the numbers in use as the sweep holds them
pub tried_here : (n l : ℕ) (t : Tree) (s : Sweep) (x : Tried)
    → s.used ≡ cells_used t.head
    → s.free ≡ entries_used t.head
    → x ≡ tried_cell n l t.cells s.cell s.used s.free (words t s.cell)
    → tried t n l s.cell ≡ x
unfolding tried
tried_here n l t s x eu ef e = sym (rw (eu, ef) at e)

-- the tables after a turn, together
pub tree_is : (p a x y h c e h' c' e' : List ℕ) (i : ℕ) (q : Tried)
    → h' ≡ (tree_by q (tree p a x y h c e) i).head
    → c' ≡ (tree_by q (tree p a x y h c e) i).cells
    → e' ≡ (tree_by q (tree p a x y h c e) i).entries
    → tree p a x y h' c' e' ≡ tree_by q (tree p a x y h c e) i
unfolding split_tree
tree_is p a x y h c e h' c' e' i Bad eh ec ee = λ d. tree p a x y (eh d) (ec d) (ee d)
tree_is p a x y h c e h' c' e' i Past eh ec ee = λ d. tree p a x y (eh d) (ec d) (ee d)
tree_is p a x y h c e h' c' e' i Wanted eh ec ee = λ d. tree p a x y (eh d) (ec d) (ee d)
