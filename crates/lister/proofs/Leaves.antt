-- The lister prints each leaf: a cell in use with no child is found from its low corner, and so it is listed.
use mathlib.Core.Path.{◌≡◌, refl, sym, subst, ap, ◌∙◌}
use mathlib.Core.Bool.{true}
use mathlib.Core.List.{List}
use Prim.Native.Nat.{ℕ, ◌-◌, ◌≤◌, ◌<◌}
use native.Mathlib.Omega.{arith}
use lib.Dec.{eqb, ltb}
use lib.ListN.{length}
use borrow.Author.Tests.{eq-eqb, lt-ltb}
use Rattle.std.specs.Prelude.{Result, Ok, Err}
use Rattle.laws.proofs.Booleans.{and_both}
use Rattle.refusals.specs.declared.Refusal.{Refusal}
use Rattle.cells.specs.Cells.{at, OnGrid, side, level}
use Rattle.cells.proofs.Cells.{some_side}
use Rattle.celltable.specs.Descent.{leaf_of}
use Rattle.tables.specs.Tables.{Tree}
use Rattle.split.specs.Split.{words}
use Rattle.open.specs.Open.{open_answer, open_tree}
use Rattle.grow.specs.declared.Growth.{Growth}
use Rattle.grow.specs.declared.Growth.TheVariants as Growths
use Rattle.grow.specs.Grow.{Ending, none_left, no_room, not_passed, grown, answer_by, answer_of}
use Rattle.find_leaf.specs.declared.FoundLeaf.{FoundLeaf}
use Rattle.std.proofs.Common.{Ok, Err}
use Rattle.find_leaf.specs.Leaf.{position_range, report_of, found_by, find_answer}
use Rattle.listing.specs.declared.Line.{Line}
use Rattle.listing.specs.Listed.{line_of, listed, Among, IsLeaf, leaf_line}
use Rattle.listing.specs.Numbers.{lines_in}
use Rattle.listing.proofs.Order.{in_key_order}
use Rattle.listing.proofs.Listing.{few_lines, written_read}
use Rattle.listing.proofs.Only.{only_leaves, one_line}
use Rattle.demand.specs.History.{Node, begun, cell_in, after_splits, Leaf, LeafAt}
use Rattle.demand.specs.Stands.{drawing_of}
use Rattle.demand.proofs.Sound.{Sound}
use Rattle.demand.proofs.Opened.{open_sound}
use Rattle.demand.proofs.Growing.{Ends, Grows, grown_sound}
use Rattle.demand.proofs.Finding.{lands}
use Rattle.lister.specs.Printed.{grows, grown_tree, outcome_of, lines_of, outcome_grown, rows_grown, outcome_opened, rows_opened, printed}
use Rattle.lister.specs.Leaves.{EachLeaf, PrintsEachLeaf}
use Rattle.lister.proofs.Depths.{each_leaf}

-- ---- in tables that are a history's, a leaf is found from its low corner
module _ (t : Tree) (H : List Node) (s : Sound t H) (i : ℕ) (o : IsLeaf t i) where
  abbrev x : ℕ
  x = (words t i).x

  abbrev y : ℕ
  y = (words t i).y

  in_history : i < length H
  in_history = omega (arith, o.in_use, s.in_use)

  history_leaf : Leaf H i
  history_leaf = record { in_use = in_history; undivided = sym (s.firsts i in_history) ∙ o.undivided }

  wide : 0 < side (cell_in H i)
  wide = some_side (cell_in H i)

  holds_corner : LeafAt H (at x y) i
  holds_corner =
      let q = s.squares i in_history in
      record {
        leaf = history_leaf;
        holds =
            record {
              west = omega (arith, q.same_x);
              east = omega (arith, q.same_x, wide);
              south = omega (arith, q.same_y);
              north = omega (arith, q.same_y, wide);
            };
      }

  on_grid : OnGrid (at x y)
  on_grid =
      let q = s.squares i in_history in
      let g = s.grown.on_grid i in_history in
      record { x_below = omega (arith, q.same_x, g.east, wide); y_below = omega (arith, q.same_y, g.north, wide) }

  in_range_law : position_range x y ≡ true
  in_range_law = and_both (ltb x 65536) (ltb y 65536) (lt-ltb x 65536 on_grid.x_below) (lt-ltb y 65536 on_grid.y_below)

  found_corner : (f : FoundLeaf) × (find_answer t x y ≡ Ok f) × (line_of f ≡ leaf_line t i)
  found_corner =
      let r = lands t H s x y on_grid in
      let same : r.leaf ≡ i = s.grown.tiled.one_leaf (at x y) r.leaf i r.holds holds_corner in
      let f = report_of t.entries (leaf_of r.leaf (16 - level (cell_in H r.leaf)) (words t r.leaf)) in
      (f, rw (eq-eqb (length t.xs) (length t.ys) s.drawn.pair, in_range_law) (ap (found_by t) r.found), ap (leaf_line t) same)

-- ---- growing in such tables is not refused
module _ (u : Tree) (H : List Node) (s : Sound u H) where
  few : 4 ≤ 16
  few = omega arith

  abbrev history : List Node
  history = after_splits H (grown 0 4 u).cells

  keeps : Grows (drawing_of u) 0 4 few H (grown 0 4 u)
  keeps = grown_sound (drawing_of u) 0 4 few u H s refl

  paired : eqb (length u.xs) (length u.ys) ≡ true
  paired = eq-eqb (length u.xs) (length u.ys) s.drawn.pair

  grown_tables : Sound (grown_tree u) history
  grown_tables = rw paired keeps.sound

  not_by : (e : Ending) (k n : ℕ) (r : Refusal) → Ends (drawing_of u) 0 4 few history (grown 0 4 u).after e → outcome_of (answer_by e k) n ≡ Err r → ⊥
  not_by none_left k n r f e = let z : ◌≡◌ {A = ℕ} 0 1 = cc in omega arith
  not_by no_room k n r f e = let z : ◌≡◌ {A = ℕ} 0 1 = cc in omega arith
  not_by not_passed k n r f e = f

  not_refused : (r : Refusal) → outcome_grown u ≡ Err r → ⊥
  not_refused r e =
      let a : grows u ≡ answer_of (grown 0 4 u) = rw paired in
      let n = length (listed (grown_tree u)) in
      not_by (grown 0 4 u).ending (length (grown 0 4 u).cells) n r keeps.ending (sym (ap (λ (b : Result Growth Refusal). outcome_of b n) a) ∙ e)

lines_by : (a : Result Growth Refusal) (n : ℕ) → ((r : Refusal) → outcome_of a n ≡ Err r → ⊥) → lines_of (outcome_of a n) ≡ n
lines_by (Ok (Growths.Done k)) n f = refl
lines_by (Ok (Growths.Full k)) n f = refl
lines_by (Err r) n f = absurd (f r refl)

-- ---- the lister
module _ (t : Tree) (n : ℕ) (e : open_answer t ≡ Ok n) where
  abbrev u : Tree
  u = grown_tree (open_tree t)

  opened : Sound (open_tree t) begun
  opened = open_sound t n e

  lists_each : (i : ℕ) → IsLeaf u i → Among (leaf_line u i) (listed u)
  lists_each i o =
      let f = found_corner u (history (open_tree t) begun opened) (grown_tables (open_tree t) begun opened) i o in
      subst (λ (l : Line). Among l (listed u)) f.2 (each_leaf t n e (words u i).x (words u i).y f.0 f.1)

  lists : EachLeaf u (listed u)
  lists = record { each = lists_each; only = only_leaves u; once = one_line u; in_order = in_key_order u }

  lines_are : (rows : List ℕ) → 1280 ≤ length rows → printed t rows ≡ listed u
  lines_are rows h =
      let n : ℕ = length (listed u) in
      let m : lines_of (outcome_grown (open_tree t)) ≡ n = lines_by (grows (open_tree t)) n (not_refused (open_tree t) begun opened) in
      ap (λ (a : Result ℕ Refusal). lines_in (rows_opened t a rows) 0 (lines_of (outcome_opened t a))) e
      ∙ (ap (lines_in (rows_grown (open_tree t) rows) 0) m ∙ written_read rows 0 (listed u) (omega (arith, few_lines u)))

pub prints_each_leaf : PrintsEachLeaf
prints_each_leaf t n e rows h =
    record {
      accepted = λ r q. not_refused (open_tree t) begun (opened t n e) r (sym (ap (outcome_opened t) e) ∙ q);
      leaves = subst (EachLeaf (grown_tree (open_tree t))) (sym (lines_are t n e rows h)) (lists t n e);
    }
