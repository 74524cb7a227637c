-- An accepted opening leaves tables that are sound, with the one cell of the history's begin.
use Rattle.std.specs.Prelude.{Ok}
use mathlib.Core.Path.{◌≡◌, refl, sym, ap, ◌∙◌, subst}
use mathlib.Core.Bool.{true}
use Prim.Native.Nat.{ℕ, zero, suc, ◌+◌, ◌*◌, ◌/◌, ◌≤◌, ◌<◌}
use native.Mathlib.Omega.{arith}
use lib.ListN.{length, get_or, set, length-set}
use lib.Seq.{get_or-set_same, get_or-set_other}
use borrow.Author.Tests.{le-leb}
use Rattle.std.specs.Prelude.{Result, Ok}
use Rattle.refusals.specs.declared.Refusal.{Refusal}
use Rattle.grammar.specs.declared.Counts.{Counts}
use Rattle.drawing.specs.Tables as Tables
use Rattle.drawing.specs.Tables.{drawn_in}
use Rattle.drawing.proofs.Rows as Rows
use Rattle.drawing.proofs.Theorems.{passes_holding}
use Rattle.cells.specs.Cells.{root}
use Rattle.stream.specs.Entry.{lines_in}
use Rattle.stream.specs.Table.{words_from}
use Rattle.stream.specs.Grammar.{bounds, used_range}
use Rattle.stream.proofs.Table.{written_read, length_written}
use Rattle.plans.proofs.Valid.{accepted_valid}
use Rattle.plans.proofs.Held.{accepted_held}
use Rattle.celltable.specs.declared.CellWords.{CellWords}
use Rattle.celltable.proofs.Table.{put_cell_same, length_put_cell}
use Rattle.celltable.proofs.Grid.{SaysCell}
use Rattle.root_stream.specs.Opened.{elements_opened, words_opened}
use Rattle.tables.specs.Tables.{Tree, cells_used, entries_used, counts_in}
use Rattle.split.specs.Split.{words, stream}
use Rattle.tables.proofs.Heads.{used_is}
use Rattle.tables.proofs.Counts.{head_fits, counts_of}
use Rattle.open.specs.Open.{root_words, drawing_tables, stream_opened, open_answer, open_tree}
use Rattle.open.proofs.Accepted.{Accepts, open_accepts}
use Rattle.demand.specs.History.{begun, cell_in, first_in, parent_in, Leaf}
use Rattle.demand.specs.Stands.{drawing_of, words_of_cell}
use Rattle.demand.specs.code.Opened.{opened_by}
use Rattle.demand.proofs.History.{begun_grown}
use Rattle.demand.proofs.Sound.{Drawn, Sound}

-- ---- a drawing that the check accepts
pub accepted_drawn : (t : Tree) (k : Counts) → Tables.drawing_verdict (drawing_tables t) ≡ Ok k → Drawn t
accepted_drawn t k e =
    let p = passes_holding (drawing_tables t) k e in
    let u : Tables.used_of t.plan ≡ k = sym (Rows.drawn (drawing_tables t) k e).used in
    record {
      valid = accepted_valid (drawn_in (drawing_tables t)) k p.0;
      held = λ low side.
          accepted_held (drawing_tables t) (drawn_in (drawing_tables t)) k p.0 p.1 (bounds (get_or t.plan 1 0) (get_or t.plan 2 0) low side)
          (ap (λ (x : Counts). x.areas) u) (ap (λ (x : Counts). x.corners) u);
      pair = p.1.pair;
    }

used_in : (t : Tree) → Drawn t → (entries used : ℕ) → used * 4 ≤ entries → used ≤ 65536 → (low side : ℕ)
    → used_range entries used (length t.areas) (length t.xs) (length t.ys) (bounds (get_or t.plan 1 0) (get_or t.plan 2 0) low side) ≡ true
unfolding used_range
used_in t d entries used h m low side =
    let H = d.held low side in
    let v = d.valid in
    rw (
      le-leb used (entries / 4) (omega arith),
      le-leb used 65536 m,
      le-leb (get_or t.plan 1 0) (length t.areas / 8) (omega (arith, H.ready.areas)),
      le-leb (get_or t.plan 1 0) 64 (omega (arith, H.areas_used, v.few_fields)),
      le-leb (get_or t.plan 2 0) (length t.xs) H.ready.xs,
      le-leb (get_or t.plan 2 0) (length t.ys) H.ready.ys,
    )
    (le-leb (get_or t.plan 2 0) 2048 (omega (arith, H.corners_used, v.few_corners)))

module _ (t : Tree) (n : ℕ) (a : Accepts t n) (long : 3 ≤ length t.plan) where
  abbrev u : Tree
  u = opened_by t (Ok n)

  abbrev lines : ℕ
  lines = lines_in (stream_opened t)

  opened_drawn : Drawn t
  opened_drawn = accepted_drawn t a.counts a.drawing

  head_length : length u.head ≡ length t.head
  head_length = length-set (set t.head 0 1) 1 n ∙ length-set t.head 0 1

  head_cells : get_or u.head 0 0 ≡ 1
  head_cells = get_or-set_other (set t.head 0 1) 1 0 n 0 (λ e. omega arith) ∙ get_or-set_same t.head 0 1 0 (omega (arith, a.head_room))

  head_entries : get_or u.head 1 0 ≡ n
  head_entries = get_or-set_same (set t.head 0 1) 1 n 0 (omega (arith, length-set t.head 0 1, a.head_room))

  used_one : cells_used u.head ≡ 1
  used_one = used_is u.head (omega (arith, head_length, a.head_room)) ∙ head_cells

  cells_length : length u.cells ≡ length t.cells
  cells_length = length_put_cell t.cells 0 (root_words n lines)

  entries_length : length u.entries ≡ length t.entries
  entries_length = length_written t.entries 0 (stream_opened t)

  root_cell : words u 0 ≡ root_words n lines
  root_cell = put_cell_same t.cells 0 (root_words n lines) (omega (arith, a.cells_room))

  opened_counts : counts_in u ≡ true
  opened_counts =
      counts_of u
      (head_fits u.head (length u.cells) (length u.entries) (omega (arith, head_length, a.head_room)) (omega (arith, head_cells))
      (omega (arith, head_cells, cells_length, a.cells_room)) (omega (arith, head_cells))
      (omega (arith, head_entries, entries_length, a.entries_room)) (omega (arith, head_entries, a.few)))
      (le-leb 3 (length t.plan) long) (words u 0)
      (used_in t opened_drawn (length u.entries) (entries_used u.head) (omega (arith, head_entries, entries_length, a.entries_room))
      (omega (arith, head_entries, a.few)) (words u 0).y (words u 0).side)

  squares : (i : ℕ) → i < 1 → SaysCell (words u i) (cell_in begun i)
  squares zero h = subst (λ (w : CellWords). SaysCell w root) (sym root_cell) (record { same_x = refl; same_y = refl; same_side = refl })
  squares (suc i) h = absurd (omega arith)

  firsts : (i : ℕ) → i < 1 → (words u i).child ≡ first_in begun i
  firsts zero h = ap (λ (w : CellWords). w.child) root_cell
  firsts (suc i) h = absurd (omega arith)

  parents : (i : ℕ) → i < 1 → (words u i).parent ≡ parent_in begun i
  parents zero h = ap (λ (w : CellWords). w.parent) root_cell
  parents (suc i) h = absurd (omega arith)

  entries : (i : ℕ) → i < 1 → (words u i).first + (words u i).count ≤ entries_used u.head
  entries zero h = subst (λ (w : CellWords). w.first + w.count ≤ entries_used u.head) (sym root_cell) (omega (arith, head_entries))
  entries (suc i) h = absurd (omega arith)

  stream_opened_law : stream_opened t ≡ words_of_cell (drawing_of t) root
  unfolding elements_opened words_opened
  stream_opened_law = refl

  root_stream : stream u 0 ≡ stream_opened t
  root_stream =
      ap (λ (w : CellWords). words_from u.entries w.first w.count) root_cell
      ∙ (ap (words_from u.entries 0) a.entries ∙ written_read t.entries 0 (stream_opened t) (omega (arith, a.entries, a.entries_room)))

  streams : (i : ℕ) → Leaf begun i → stream u i ≡ words_of_cell (drawing_of t) (cell_in begun i)
  streams zero l = root_stream ∙ stream_opened_law
  streams (suc i) l = absurd (omega (arith, l.in_use))

  line_counts : (i : ℕ) → Leaf begun i → (words u i).lines ≡ lines_in (stream u i)
  line_counts zero l = ap (λ (w : CellWords). w.lines) root_cell ∙ sym (ap lines_in root_stream)
  line_counts (suc i) l = absurd (omega (arith, l.in_use))

  opened_sound : Sound u begun
  opened_sound =
      record {
        drawn = record { valid = opened_drawn.valid; held = opened_drawn.held; pair = opened_drawn.pair };
        counts = opened_counts;
        in_use = used_one;
        grown = begun_grown;
        squares = squares;
        firsts = firsts;
        parents = parents;
        entries = entries;
        streams = streams;
        line_counts = line_counts;
      }

pub open_sound : (t : Tree) (n : ℕ) → open_answer t ≡ Ok n → Sound (open_tree t) begun
open_sound t n e =
    let a = open_accepts t n e in
    subst (λ (r : Result ℕ Refusal). Sound (opened_by t r) begun) (sym e)
    (opened_sound t n a (omega (arith, (Rows.drawn (drawing_tables t) a.counts a.drawing).room.plan)))
