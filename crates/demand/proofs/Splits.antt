-- A split in tables that are sound: it is accepted, and leaves them sound with the cell divided in the history, or it is refused, and not with 12.
use mathlib.Core.Path.{◌≡◌, refl, sym, ap, ◌∙◌, subst}
use mathlib.Core.List.{List}
use Prim.Native.Nat.{ℕ, suc, ◌+◌, ◌≤◌, ◌<◌}
use native.Mathlib.Omega.{arith}
use lib.ListN.{length}
use Rattle.std.specs.Prelude.{Ok}
use Rattle.cells.specs.Cells.{Cell, level, Quarter, child}
use Rattle.cells.specs.Drawings.{Drawing}
use Rattle.stream.specs.Entry.{lines_in}
use Rattle.stream.specs.Table.{words_from}
use Rattle.celltable.specs.declared.CellWords.{CellWords}
use Rattle.celltable.specs.Table.{with_child}
use Rattle.celltable.specs.Ranges.{cell_of}
use Rattle.celltable.specs.Descent.{place_of}
use Rattle.celltable.proofs.Grid.{SaysCell}
use Rattle.making.specs.Made.{words_made}
use Rattle.four_children.specs.Children.{words_with, entries_of_child, lines_of_child, streams_to}
use Rattle.four_children.proofs.Filled.{streams_more}
use Rattle.tables.specs.Tables.{Tree, cells_used, entries_used, bounds_of}
use Rattle.split.specs.Split.{words, drawing, stream, split_answer}
use Rattle.split_laws.specs.After.{split_tree}
use Rattle.split_laws.proofs.Rows.{streams_up}
use Rattle.split_laws.proofs.Trees.{tree_used, tree_free, tree_counts, tree_keeps_cell, tree_cell, tree_child, tree_stream, tree_child_stream}
use Rattle.root_stream.specs.Opened.{drawing_in}
use Rattle.open.specs.Open.{drawing_tables}
use Rattle.demand.specs.History.{Node, cell_in, first_in, parent_in, split_at, Leaf}
use Rattle.demand.specs.Stands.{drawing_of, words_of_cell}
use Rattle.demand.proofs.History.{
  From,
  kept,
  divides,
  new,
  comes,
  few_places,
  split_length,
  cell_old,
  cell_new,
  first_other,
  first_split,
  first_new,
  parent_old,
  parent_new,
  split_grown,
}
use Rattle.demand.proofs.Made.{split_made}
use Rattle.demand.proofs.Sound.{Drawn, Sound}
use Rattle.demand.proofs.Passing.{cell_is}
use Rattle.celltable.proofs.Quarters.{place_quarter}

-- ---- the drawing stays
pub tables_split : (t : Tree) (i : ℕ) → drawing_tables (split_tree t i) ≡ drawing_tables t
unfolding split_tree
tables_split t i = refl

pub drawing_split : (t : Tree) (i : ℕ) → drawing_of (split_tree t i) ≡ drawing_of t
drawing_split t i = ap drawing_in (tables_split t i)

drawn_split : (t : Tree) (i : ℕ) → Drawn t → Drawn (split_tree t i)
unfolding split_tree
drawn_split t i d = record { valid = d.valid; held = d.held; pair = d.pair }

module _ (t : Tree) (H : List Node) (i n : ℕ) (s : Sound t H) (e : split_answer t i ≡ Ok n) (l : Leaf H i) (large : 0 < level (cell_in H i)) where
  abbrev m₀ : ℕ
  m₀ = length H

  abbrev h : i < length H
  h = l.in_use

  abbrev w : CellWords
  w = words t i

  abbrev u : Tree
  u = split_tree t i

  abbrev K : List Node
  K = split_at H i

  -- the cells in use are those of the history
  used_is : cells_used t.head ≡ length H
  used_is = s.in_use

  -- ---- each new cell
  abbrev stream_first : ℕ → ℕ
  stream_first q = entries_used t.head + length (streams_to (drawing t i) (cell_of w) (stream t i) q)

  abbrev stream_count : ℕ → ℕ
  stream_count q = entries_of_child (drawing t i) (cell_of w) (stream t i) q

  abbrev stream_lines : ℕ → ℕ
  stream_lines q = lines_of_child (drawing t i) (cell_of w) (stream t i) q

  new_words : (q : Quarter)
      → words u (length H + place_of q)
      ≡ words_with (child (cell_in H i) q) (stream_first (place_of q)) (stream_count (place_of q)) (stream_lines (place_of q)) i
  new_words q =
      ap (λ (k : ℕ). words u (k + place_of q)) (sym used_is)
      ∙ (tree_child t i n e (place_of q) (few_places q)
      ∙ ap (λ (c : Cell). words_with c (stream_first (place_of q)) (stream_count (place_of q)) (stream_lines (place_of q)) i)
      (λ d. child (cell_is t H s i h d) (place_quarter q d)))

  new_stream : (q : Quarter) → stream u (length H + place_of q) ≡ words_of_cell (drawing_of t) (child (cell_in H i) q)
  new_stream q =
      ap (λ (x : CellWords). words_from u.entries x.first x.count) (new_words q)
      ∙ (tree_child_stream t i n e (place_of q) (few_places q)
      ∙ ((λ d. words_made (drawing t i) (child (cell_is t H s i h d) (place_quarter q d)) (s.streams i l d))
      ∙ split_made (drawing_of t) s.drawn.valid t.areas t.xs t.ys (bounds_of t.plan w) (s.drawn.held w.y w.side) (cell_in H i) q))

  new_entries : (q : Quarter) → stream_first (place_of q) + stream_count (place_of q) ≤ entries_used u.head
  new_entries q =
      omega (
        arith,
        tree_free t i n e,
        streams_more (drawing t i) (cell_of w) (stream t i) (place_of q),
        streams_up (drawing t i) (cell_of w) (stream t i) (suc (place_of q)) 4 (omega (arith, few_places q)),
      )

  -- ---- each cell
  squares_by : (m : ℕ) → From H i h m → SaysCell (words u m) (cell_in K m)
  squares_by m (kept g z) =
      subst (λ (x : CellWords). SaysCell x (cell_in K m)) (sym (tree_keeps_cell t i n e m (omega (arith, used_is)) z))
      (subst (SaysCell (words t m)) (sym (cell_old H i h m g)) (s.squares m g))
  squares_by m (divides z) =
      let o = s.squares i h in
      let p : SaysCell (words u i) (cell_in K i) = subst (λ (x : CellWords). SaysCell x (cell_in K i)) (sym (tree_cell t i n e))
      (subst (SaysCell (with_child w (cells_used t.head))) (sym (cell_old H i h i h))
      (record { same_x = o.same_x; same_y = o.same_y; same_side = o.same_side })) in
      subst (λ (k : ℕ). SaysCell (words u k) (cell_in K k)) (sym z) p
  squares_by m (new q z) =
      let p : SaysCell (words u (length H + place_of q)) (cell_in K (length H + place_of q)) = subst
      (λ (x : CellWords). SaysCell x (cell_in K (length H + place_of q))) (sym (new_words q))
      (subst (SaysCell (words_with (child (cell_in H i) q) (stream_first (place_of q)) (stream_count (place_of q)) (stream_lines (place_of q)) i))
      (sym (cell_new H i h q))
      (record { same_x = refl; same_y = refl; same_side = refl })) in
      subst (λ (k : ℕ). SaysCell (words u k) (cell_in K k)) (sym z) p

  firsts_by : (m : ℕ) → From H i h m → (words u m).child ≡ first_in K m
  firsts_by m (kept g z) =
      ap (λ (x : CellWords). x.child) (tree_keeps_cell t i n e m (omega (arith, used_is)) z)
      ∙ (s.firsts m g ∙ sym (first_other H i h m g z))
  firsts_by m (divides z) =
      ap (λ (k : ℕ). (words u k).child) z
      ∙ (ap (λ (x : CellWords). x.child) (tree_cell t i n e) ∙ (used_is ∙ (sym (first_split H i h) ∙ ap (first_in K) (sym z))))
  firsts_by m (new q z) =
      ap (λ (k : ℕ). (words u k).child) z ∙ (ap (λ (x : CellWords). x.child) (new_words q) ∙ (sym (first_new H i h q) ∙ ap (first_in K) (sym z)))

  parents_by : (m : ℕ) → From H i h m → (words u m).parent ≡ parent_in K m
  parents_by m (kept g z) =
      ap (λ (x : CellWords). x.parent) (tree_keeps_cell t i n e m (omega (arith, used_is)) z)
      ∙ (s.parents m g ∙ sym (parent_old H i h m g))
  parents_by m (divides z) =
      ap (λ (k : ℕ). (words u k).parent) z
      ∙ (ap (λ (x : CellWords). x.parent) (tree_cell t i n e) ∙ (s.parents i h ∙ (sym (parent_old H i h i h) ∙ ap (parent_in K) (sym z))))
  parents_by m (new q z) =
      ap (λ (k : ℕ). (words u k).parent) z
      ∙ (ap (λ (x : CellWords). x.parent) (new_words q) ∙ (sym (parent_new H i h q) ∙ ap (parent_in K) (sym z)))

  entries_by_law : (m : ℕ) → From H i h m → (words u m).first + (words u m).count ≤ entries_used u.head
  entries_by_law m (kept g z) =
      subst (λ (x : CellWords). x.first + x.count ≤ entries_used u.head) (sym (tree_keeps_cell t i n e m (omega (arith, used_is)) z))
      (omega (arith, s.entries m g, tree_free t i n e))
  entries_by_law m (divides z) =
      subst (λ (k : ℕ). (words u k).first + (words u k).count ≤ entries_used u.head) (sym z)
      (subst (λ (x : CellWords). x.first + x.count ≤ entries_used u.head) (sym (tree_cell t i n e)) (omega (arith, s.entries i h, tree_free t i n e)))
  entries_by_law m (new q z) =
      subst (λ (k : ℕ). (words u k).first + (words u k).count ≤ entries_used u.head) (sym z)
      (subst (λ (x : CellWords). x.first + x.count ≤ entries_used u.head) (sym (new_words q)) (new_entries q))

  streams_by : (m : ℕ) → From H i h m → first_in K m ≡ 0 → stream u m ≡ words_of_cell (drawing_of t) (cell_in K m)
  streams_by m (kept g z) f =
      ap (λ (x : CellWords). words_from u.entries x.first x.count) (tree_keeps_cell t i n e m (omega (arith, used_is)) z)
      ∙ (tree_stream t i n e (words t m).first (words t m).count (s.entries m g)
      ∙ (s.streams m (record { in_use = g; undivided = sym (first_other H i h m g z) ∙ f }) ∙ ap (words_of_cell (drawing_of t)) (sym (cell_old H i h m g))))
  streams_by m (divides z) f = absurd (let o : length H ≡ 0 = sym (first_split H i h) ∙ (ap (first_in K) (sym z) ∙ f) in omega (arith, h))
  streams_by m (new q z) f =
      ap (stream u) z
      ∙ (new_stream q
      ∙ (ap (words_of_cell (drawing_of t)) (sym (cell_new H i h q)) ∙ ap (λ (k : ℕ). words_of_cell (drawing_of t) (cell_in K k)) (sym z)))

  -- the stream of a leaf that was one before is as it was, and that of a child is the one whose lines were counted
  counts_by : (m : ℕ) → From H i h m → first_in K m ≡ 0 → (words u m).lines ≡ lines_in (stream u m)
  counts_by m (kept g z) f =
      let keep = tree_keeps_cell t i n e m (omega (arith, used_is)) z in
      let same : stream u m ≡ stream t m = ap (λ (x : CellWords). words_from u.entries x.first x.count) keep
      ∙ tree_stream t i n e (words t m).first (words t m).count (s.entries m g) in
      ap (λ (x : CellWords). x.lines) keep
      ∙ (s.line_counts m (record { in_use = g; undivided = sym (first_other H i h m g z) ∙ f }) ∙ sym (ap lines_in same))
  counts_by m (divides z) f = absurd (let o : length H ≡ 0 = sym (first_split H i h) ∙ (ap (first_in K) (sym z) ∙ f) in omega (arith, h))
  counts_by m (new q z) f =
      let read = ap (λ (x : CellWords). words_from u.entries x.first x.count) (new_words q) ∙ tree_child_stream t i n e (place_of q) (few_places q) in
      ap (λ (k : ℕ). (words u k).lines) z
      ∙ (ap (λ (x : CellWords). x.lines) (new_words q) ∙ (sym (ap lines_in read) ∙ ap (λ (k : ℕ). lines_in (stream u k)) (sym z)))

  pub split_sound : Sound (split_tree t i) (split_at H i)
  split_sound =
      record {
        drawn = drawn_split t i s.drawn;
        counts = tree_counts t i n e;
        in_use = omega (arith, tree_used t i n e, used_is, split_length H i h);
        grown = split_grown H i h s.grown l.undivided large;
        squares = λ m g. squares_by m (comes H i h m g);
        firsts = λ m g. firsts_by m (comes H i h m g);
        parents = λ m g. parents_by m (comes H i h m g);
        entries = λ m g. entries_by_law m (comes H i h m g);
        line_counts = λ m g. counts_by m (comes H i h m g.in_use) g.undivided;
        streams = λ m g. streams_by m (comes H i h m g.in_use) g.undivided ∙ ap (λ (D : Drawing). words_of_cell D (cell_in K m)) (sym (drawing_split t i));
      }
