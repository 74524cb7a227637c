-- "Entries of split cells are not used again.": of every accepted split, of any tables, and of one split after another.
use mathlib.Core.Path.{◌≡◌, ap, ◌∙◌}
use Prim.Native.Nat.{ℕ, suc, ◌+◌, ◌≤◌, ◌<◌}
use native.Mathlib.Omega.{arith}
use lib.ListN.{length}
use Rattle.std.specs.Prelude.{Ok}
use Rattle.celltable.specs.declared.CellWords.{CellWords}
use Rattle.celltable.specs.Ranges.{cell_of}
use Rattle.stream.specs.Table.{words_from}
use Rattle.four_children.specs.Children.{streams_to}
use Rattle.four_children.proofs.Filled.{streams_more}
use Rattle.tables.specs.Tables.{Tree, entries_used}
use Rattle.split.specs.Split.{words, drawing, stream, split_answer}
use Rattle.split_laws.specs.After.{split_tree}
use Rattle.split_laws.specs.Entries.{child_after, NotUsedAgain}
use Rattle.split.proofs.Accepted.{split_able, able_entries}
use Rattle.split_laws.proofs.Rows.{streams_up}
use Rattle.split_laws.proofs.Trees.{tree_free, tree_cell, tree_child, tree_stream}

module _ (t : Tree) (i n : ℕ) (e : split_answer t i ≡ Ok n) where
  -- the entries of the first q children
  abbrev entries_to : ℕ → ℕ
  entries_to q = length (streams_to (drawing t i) (cell_of (words t i)) (stream t i) q)

  first_is : (q : ℕ) → q < 4 → (child_after t i q).first ≡ entries_used t.head + entries_to q
  first_is q h = ap (λ (w : CellWords). w.first) (tree_child t i n e q h)

  end_is : (q : ℕ) → q < 4 → (child_after t i q).first + (child_after t i q).count ≡ entries_used t.head + entries_to (suc q)
  end_is q h =
      omega (
        arith,
        first_is q h,
        ap (λ (w : CellWords). w.count) (tree_child t i n e q h),
        streams_more (drawing t i) (cell_of (words t i)) (stream t i) q,
      )

  -- cell i's stream stands in the entries in use
  ends : (words t i).first + (words t i).count ≤ entries_used t.head
  ends = able_entries t i (split_able t i n e)

  up : (p q : ℕ) → p ≤ q → entries_to p ≤ entries_to q
  up = streams_up (drawing t i) (cell_of (words t i)) (stream t i)

  pub not_used_again : NotUsedAgain t i
  not_used_again =
      record {
        kept = tree_stream t i n e;
        stands =
            ap (λ (w : CellWords). words_from (split_tree t i).entries w.first w.count) (tree_cell t i n e)
            ∙ tree_stream t i n e (words t i).first (words t i).count ends;
        behind = λ q h. omega (arith, first_is q h);
        within = λ q h. omega (arith, end_is q h, tree_free t i n e, up (suc q) 4 (omega arith));
        apart = λ p q l h. omega (arith, end_is p (omega arith), first_is q h, up (suc p) q (omega arith));
      }

-- an accepted split of a cell j that comes after leaves the entries of cell i's stream as they were, and no stream of its children has one of them
pub not_used_later : (t : Tree) (i n j m : ℕ) → split_answer t i ≡ Ok n → split_answer (split_tree t i) j ≡ Ok m
    → (words_from (split_tree (split_tree t i) j).entries (words t i).first (words t i).count ≡ stream t i)
    × ((q : ℕ) → q < 4 → (words t i).first + (words t i).count ≤ (child_after (split_tree t i) j q).first)
not_used_later t i n j m e f =
    let a = not_used_again t i n e in
    let b = not_used_again (split_tree t i) j m f in
    let low : (words t i).first + (words t i).count ≤ entries_used (split_tree t i).head = omega (arith, ends t i n e, tree_free t i n e) in (
      b.kept (words t i).first (words t i).count low ∙ a.kept (words t i).first (words t i).count (ends t i n e),
      λ q h. omega (arith, low, b.behind q h),
    )
