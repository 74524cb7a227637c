-- What every call of the list keeps: the numbers in the tables are in range, the cells are the history's, and the words of each leaf's stream are those
-- made from the drawing. From it follows what is claimed of the tables.
use mathlib.Core.Path.{◌≡◌, refl, sym, ap, ◌∙◌, subst}
use mathlib.Core.Bool.{true}
use mathlib.Core.List.{List}
use Prim.Native.Nat.{ℕ, zero, suc, ◌+◌, ◌-◌, ◌≤◌, ◌<◌}
use native.Mathlib.Omega.{arith}
use lib.ListN.{length, get_or}
use Rattle.paint.specs.Areas.{paint_at, material_of}
use Rattle.paint.specs.Colours.{colour_of}
use Rattle.pruning.specs.Sides.{paint, flat}
use Rattle.cells.specs.Cells.{at, Cell, level, Holds}
use Rattle.cells.specs.Drawings.{Drawing}
use Rattle.cells.specs.Streams.{Each, Winds, source, made, shown_in}
use Rattle.cells.specs.Elements.{elements_of, entries_of, decode, role_in}
use Rattle.cells.proofs.Streams.{made_shown, source_shown, made_winds}
use Rattle.cells.proofs.Elements.{decode_elements, made_on_side}
use Rattle.stream.specs.Entry.{lines_in}
use Rattle.stream.specs.Grammar.{bounds}
use Rattle.evaluate.specs.Reading.{set_at}
use Rattle.ranges.specs.code.Valid.{Valid}
use Rattle.ranges.specs.Held.{Held}
use Rattle.ranges.proofs.Reading.{valid_words_read}
use Rattle.celltable.specs.Table.{cell_at}
use Rattle.celltable.proofs.Grid.{SaysCell, on_square_law}
use Rattle.tables.specs.Tables.{Tree, cells_used, entries_used, counts_in}
use Rattle.split.specs.Split.{stream}
use Rattle.demand.specs.History.{Node, cell_in, first_in, parent_in, Leaf, up_in, Around}
use Rattle.demand.specs.NoTree.{set_shown}
use Rattle.demand.specs.Stands.{drawing_of, words_of_cell, LeafStands, up_at, Stands}
use Rattle.demand.proofs.History.{Grown}
use Rattle.demand.proofs.Upward.{upward}
use Rattle.demand.proofs.Made.{words_say, words_stream}
use Rattle.demand.proofs.Paints.{material_held, colour_held}

-- the drawing of a tree was accepted, and its tables hold it
pub record Drawn (t : Tree) : Type 0 where
  pub valid : Valid (drawing_of t)
  pub held : (low side : ℕ) → Held t.areas t.xs t.ys (bounds (get_or t.plan 1 0) (get_or t.plan 2 0) low side) (drawing_of t)
  pub pair : length t.xs ≡ length t.ys

pub record Sound (t : Tree) (H : List Node) : Type 0 where
  pub drawn : Drawn t
  pub counts : counts_in t ≡ true
  pub in_use : cells_used t.head ≡ length H
  pub grown : Grown H
  pub squares : (i : ℕ) → i < length H → SaysCell (cell_at t.cells i) (cell_in H i)
  pub firsts : (i : ℕ) → i < length H → (cell_at t.cells i).child ≡ first_in H i
  pub parents : (i : ℕ) → i < length H → (cell_at t.cells i).parent ≡ parent_in H i
  pub entries : (i : ℕ) → i < length H → (cell_at t.cells i).first + (cell_at t.cells i).count ≤ entries_used t.head
  pub streams : (i : ℕ) → Leaf H i → stream t i ≡ words_of_cell (drawing_of t) (cell_in H i)
  pub line_counts : (i : ℕ) → Leaf H i → (cell_at t.cells i).lines ≡ lines_in (stream t i)

-- ---- the words of a stream that is made from the drawing
module _ (t : Tree) (d : Drawn t) (c : Cell) where
  abbrev D : Drawing
  D = drawing_of t

  entries_are : entries_of (decode (role_in D) (elements_of (flat paint (made D c (source D))))) ≡ flat paint (made D c (source D))
  entries_are = ap entries_of (decode_elements (role_in D) (flat paint (made D c (source D))) (made_on_side D d.valid.roles c))

  cell_winds : Each (Winds D c) (entries_of (decode (role_in D) (elements_of (flat paint (made D c (source D))))))
  cell_winds = rw entries_are (made_winds D c)

  pub cell_set : (x y : ℕ) → Holds c (at x y) → set_at t.areas t.xs t.ys x y (words_of_cell D c) ≡ set_shown D (at x y)
  cell_set x y h = valid_words_read D d.valid t.areas t.xs t.ys _ (d.held 0 0) c x y h

  cell_stands : LeafStands D t c (words_of_cell D c)
  cell_stands =
      record {
        stream = refl;
        windings = rw (words_say D d.valid c) cell_winds;
        meaning = λ p h. ap (shown_in D p) (words_stream D d.valid c) ∙ (made_shown D c p h (source D) ∙ source_shown D p);
        set = cell_set;
        material = λ x y h.
            ap (material_of (paint_at t.areas)) (cell_set x y h)
            ∙ material_held D d.valid t.areas t.xs t.ys _ (d.held 0 0) (at x y);
        colour = λ x y h.
            ap (colour_of (paint_at t.areas)) (cell_set x y h)
            ∙ colour_held D d.valid t.areas t.xs t.ys _ (d.held 0 0) (at x y);
      }

-- ---- the parents that the words say are the history's, all the way up
walk_up : (t : Tree) (H : List Node) → Sound t H → (k i : ℕ) → i < length H → k ≤ 16 - level (cell_in H i) → up_at t k i ≡ up_in H k i
walk_up t H s zero i h l = refl
walk_up t H s (suc k) i h l =
    let a : Around H i 1 = (upward H s.grown).around i 1 h (omega arith) in
    ap (up_at t k) (s.parents i h) ∙ walk_up t H s k (parent_in H i) a.in_use (omega (arith, a.level_is))

-- over the drawing that the tables hold
sound_stands_held : (t : Tree) (H : List Node) → Sound t H → Stands (drawing_of t) t H
sound_stands_held t H s =
    record {
      drawing = refl;
      in_use = s.in_use;
      squares = λ i h. on_square_law (cell_at t.cells i) (cell_in H i) (s.squares i h);
      children = s.firsts;
      parents = s.parents;
      line_counts = s.line_counts;
      walk = λ i k h l. walk_up t H s k i h l;
      upward = upward H s.grown;
      tiled = s.grown.tiled;
      leaves = λ i l. subst (LeafStands (drawing_of t) t (cell_in H i)) (sym (s.streams i l)) (cell_stands t s.drawn (cell_in H i));
    }

pub sound_stands : (D : Drawing) (t : Tree) (H : List Node) → Sound t H → drawing_of t ≡ D → Stands D t H
sound_stands D t H s e = subst (λ (E : Drawing). Stands E t H) e (sound_stands_held t H s)
