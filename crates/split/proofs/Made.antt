-- A split that is accepted, by the numbers that the code holds: what they ask of the tables, and the tables that are left.
use mathlib.Core.Path.{◌≡◌, refl, sym, ap, ◌∙◌}
use mathlib.Core.Bool.{true}
use mathlib.Core.List.{List}
use Prim.Native.Nat.{ℕ, ◌+◌, ◌<◌}
use lib.ListN.{length, get_or, set}
use Rattle.stream.specs.Table.{words_from}
use Rattle.stream.specs.Grammar.{env, Passed}
use Rattle.ranges.specs.Held.{lent}
use Rattle.celltable.specs.declared.CellWords.{CellWords}
use Rattle.celltable.specs.Table.{put_child_at}
use Rattle.celltable.specs.Ranges.{square_range, cell_of}
use Rattle.four_children.specs.declared.Tally.{Tally}
use Rattle.four_children.specs.code.Numbers.{worked_to, cells_by, FewEach}
use Rattle.four_children.proofs.Placed.{cells_by_four}
use Rattle.tables.specs.Tables.{Tree, cells_used, entries_used, bounds_of}
use Rattle.tables.proofs.Counts.{counts_long}
use Rattle.tables.proofs.Heads.{used_is}
use Rattle.std.specs.Prelude.{Ok}
use Rattle.split.specs.Split.{words, drawing, stream, made, head_after, cells_after}
use Rattle.split.specs.code.Accepted.{Accepted}
use Rattle.split.proofs.Accepted.{able_square, able_stream}
use Rattle.split.proofs.Rooms.{few_each, sum_of, sum_is}

module _ (t : Tree) (i : ℕ) (A : Accepted t i) (ts : List Tally) (T : ts ≡ worked_to (drawing t i) (cell_of (words t i)) (stream t i) 4) (used free : ℕ)
    (w : CellWords) (eh : used ≡ get_or t.head 0 0) (ef : free ≡ get_or t.head 1 0) (ew : w ≡ words t i) where
  eu : used ≡ cells_used t.head
  eu = eh ∙ sym (used_is t.head (counts_long t A.able.counts))

  pub made_stream : Passed t.entries w.first w.count (env t.areas t.xs t.ys (bounds_of t.plan w))
  made_stream = rw ew (able_stream t i A.able)

  pub made_square : square_range w ≡ true
  made_square = rw ew (able_square t i A.able)

  pub made_halves : 1 < w.side
  made_halves = rw ew A.able.halves

  pub made_tallies : ts ≡ worked_to (lent t.areas t.xs t.ys (bounds_of t.plan w)) (cell_of w) (words_from t.entries w.first w.count) 4
  made_tallies = rw ew T

  pub made_few : FewEach ts
  made_few = few_each t.entries t.areas t.xs t.ys (bounds_of t.plan w) w.first w.count (cell_of w) ts made_stream made_tallies

  -- ---- the tables afterwards
  pub made_head : (x : List ℕ) → x ≡ set (set t.head 0 (used + 4)) 1 (free + sum_of ts) → x ≡ head_after t i (Ok 0)
  made_head x e =
      let n : sum_of ts ≡ length (made t i) = sum_is (drawing t i) (cell_of (words t i)) (stream t i) ts (sum_of ts) T refl in
      e ∙ (λ d. set (set t.head 0 (eu d + 4)) 1 (ef d + n d))

  pub made_rows : (x : List ℕ) → x ≡ put_child_at (cells_by (cell_of w) ts t.cells i used free 4) i used → x ≡ cells_after t i (Ok 0)
  made_rows x e =
      let f : x ≡ put_child_at (cells_by (cell_of (words t i)) ts t.cells i (cells_used t.head) (entries_used t.head) 4) i (cells_used t.head) =
      rw (ew, eu, ef) at e in
      f
      ∙ ap (λ (u : List ℕ). put_child_at u i (cells_used t.head))
      (cells_by_four (drawing t i) (cell_of (words t i)) (stream t i) t.cells i (cells_used t.head) (entries_used t.head) ts T)
