-- Laws of a table of eight words a cell: reading back what was written, and what a write leaves as it was.
use Prim.Native.Nat.{ℕ, ◌+◌, ◌*◌, ◌-◌, ◌≤◌, ◌<◌}
use mathlib.Core.Path.{◌≡◌, sym, ap, ◌∙◌}
use mathlib.Core.List.{List, ◌++◌, append_assoc}
use native.Mathlib.Omega.{arith}
use native.Mathlib.Decide.{dec_lt}
use native.Mathlib.Numerals.{towards_suc}
use lib.ListN.{length, get_or, take, drop, length-set}
use lib.Seq.{get_or-set_same, get_or-set_other, get_or-take, get_or-drop, take-set-le, drop-set-lt, length-take-le, get_or-append-add, sets, sets-eq}
use Rattle.celltable.specs.declared.CellWords.{CellWords}
use Rattle.celltable.specs.Table.{cell_at, cell_row, put_cell_at, put_child_at, with_child}

-- ---- a cell goes by its own eight words

same_words : (t t' : List ℕ) (i : ℕ) → ((k : ℕ) → k < 8 → get_or t (i * 8 + k) 0 ≡ get_or t' (i * 8 + k) 0) → cell_at t i ≡ cell_at t' i
same_words t t' i f =
    λ d.
    record {
      x = at_zero d;
      y = f 1 (omega arith) d;
      side = f 2 (omega arith) d;
      child = f 3 (omega arith) d;
      first = f 4 (omega arith) d;
      count = f 5 (omega arith) d;
      lines = f 6 (omega arith) d;
      parent = f 7 (omega arith) d;
    }
  where
    zeroth : (l : List ℕ) → get_or l (i * 8) 0 ≡ get_or l (i * 8 + 0) 0
    zeroth l = ap (λ (k : ℕ). get_or l k 0) (omega arith)

    at_zero : get_or t (i * 8) 0 ≡ get_or t' (i * 8) 0
    at_zero = zeroth t ∙ f 0 (omega arith) ∙ sym (zeroth t')

-- the cells within the first m words go by those words alone, and so do those beyond
pub cell_before : (t t' : List ℕ) (m i : ℕ) → take m t ≡ take m t' → i * 8 + 8 ≤ m → cell_at t i ≡ cell_at t' i
cell_before t t' m i e h = same_words t t' i (λ k l. at (i * 8 + k) (omega arith))
  where
    at : (k : ℕ) → k < m → get_or t k 0 ≡ get_or t' k 0
    at k l = sym (get_or-take m t k 0 l) ∙ ap (λ (x : List ℕ). get_or x k 0) e ∙ get_or-take m t' k 0 l

pub cell_beyond : (t t' : List ℕ) (m i : ℕ) → drop m t ≡ drop m t' → m ≤ i * 8 → cell_at t i ≡ cell_at t' i
cell_beyond t t' m i e h = same_words t t' i (λ k l. at (i * 8 + k) (omega arith))
  where
    at : (k : ℕ) → m ≤ k → get_or t k 0 ≡ get_or t' k 0
    at k l =
        let q : m + (k - m) ≡ k = omega arith in
        rw q at (sym (get_or-drop m t (k - m) 0) ∙ ap (λ (x : List ℕ). get_or x (k - m) 0) e ∙ get_or-drop m t' (k - m) 0)

-- two tables that agree before cell i and after it agree on every other cell
pub cell_other : (t t' : List ℕ) (i j : ℕ)
    → take (i * 8) t ≡ take (i * 8) t'
    → drop (i * 8 + 8) t ≡ drop (i * 8 + 8) t'
    → (j ≡ i → ⊥)
    → cell_at t j ≡ cell_at t' j
cell_other t t' i j e f n = go (dec_lt j i)
  where
    go : Dec (j < i) → cell_at t j ≡ cell_at t' j
    go (yes l) = cell_before t t' (i * 8) j e (omega arith)
    go (no l) = cell_beyond t t' (i * 8 + 8) j f (omega arith)

-- ---- a cell is written

pub length_put_cell : (t : List ℕ) (i : ℕ) (w : CellWords) → length (put_cell_at t i w) ≡ length t
length_put_cell t i w = simp length-set

pub put_cell_before : (t : List ℕ) (m i : ℕ) (w : CellWords) → m ≤ i * 8 → take m (put_cell_at t i w) ≡ take m t
put_cell_before t m i w h =
    let a : m ≤ i * 8 + 1 = omega arith in
    let b : m ≤ i * 8 + 2 = omega arith in
    let d : m ≤ i * 8 + 3 = omega arith in
    let e : m ≤ i * 8 + 4 = omega arith in
    let f : m ≤ i * 8 + 5 = omega arith in
    let g : m ≤ i * 8 + 6 = omega arith in
    let k : m ≤ i * 8 + 7 = omega arith in
    simp take-set-le

pub put_cell_beyond : (t : List ℕ) (m i : ℕ) (w : CellWords) → i * 8 + 8 ≤ m → drop m (put_cell_at t i w) ≡ drop m t
put_cell_beyond t m i w h =
    let z : i * 8 < m = omega arith in
    let a : i * 8 + 1 < m = omega arith in
    let b : i * 8 + 2 < m = omega arith in
    let d : i * 8 + 3 < m = omega arith in
    let e : i * 8 + 4 < m = omega arith in
    let f : i * 8 + 5 < m = omega arith in
    let g : i * 8 + 6 < m = omega arith in
    let k : i * 8 + 7 < m = omega arith in
    simp drop-set-lt

-- the whole table: what stands before, the eight words, and what stands after
pub put_cell_eq : (t : List ℕ) (i : ℕ) (w : CellWords) → i * 8 + 8 ≤ length t → put_cell_at t i w ≡ take (i * 8) t ++ cell_row w ++ drop (i * 8 + 8) t
put_cell_eq t i w h = stores ∙ sets-eq (cell_row w) t (i * 8) h
  where
    stores : put_cell_at t i w ≡ sets t (i * 8) (cell_row w)
    stores = simp towards_suc

-- what was written is read back
pub put_cell_same : (t : List ℕ) (i : ℕ) (w : CellWords) → i * 8 + 8 ≤ length t → cell_at (put_cell_at t i w) i ≡ w
put_cell_same t i w h =
    rw (put_cell_eq t i w h, append_assoc (take (i * 8) t) (cell_row w) (drop (i * 8 + 8) t))
    (λ d. record { x = at_zero d; y = at 1 d; side = at 2 d; child = at 3 d; first = at 4 d; count = at 5 d; lines = at 6 d; parent = at 7 d })
  where
    whole : List ℕ
    whole = take (i * 8) t ++ (cell_row w ++ drop (i * 8 + 8) t)

    at : (k : ℕ) → get_or whole (i * 8 + k) 0 ≡ get_or (cell_row w ++ drop (i * 8 + 8) t) k 0
    at k =
        rw (length-take-le (i * 8) t (omega arith)) at (get_or-append-add (take (i * 8) t) (cell_row w ++ drop (i * 8 + 8) t) k 0)

    at_zero : get_or whole (i * 8) 0 ≡ w.x
    at_zero = ap (λ (k : ℕ). get_or whole k 0) (omega arith) ∙ at 0

-- another cell is as it was
pub put_cell_other : (t : List ℕ) (i j : ℕ) (w : CellWords) → (j ≡ i → ⊥) → cell_at (put_cell_at t i w) j ≡ cell_at t j
put_cell_other t i j w n =
    cell_other (put_cell_at t i w) t i j (put_cell_before t (i * 8) i w (omega arith)) (put_cell_beyond t (i * 8 + 8) i w (omega arith)) n

-- ---- a first child is written

pub length_put_child : (t : List ℕ) (i n : ℕ) → length (put_child_at t i n) ≡ length t
length_put_child t i n = simp length-set

pub put_child_before : (t : List ℕ) (m i n : ℕ) → m ≤ i * 8 → take m (put_child_at t i n) ≡ take m t
put_child_before t m i n h = take-set-le m t (i * 8 + 3) n (omega arith)

pub put_child_beyond : (t : List ℕ) (m i n : ℕ) → i * 8 + 8 ≤ m → drop m (put_child_at t i n) ≡ drop m t
put_child_beyond t m i n h = drop-set-lt m t (i * 8 + 3) n (omega arith)

pub put_child_same : (t : List ℕ) (i n : ℕ) → i * 8 + 8 ≤ length t → cell_at (put_child_at t i n) i ≡ with_child (cell_at t i) n
put_child_same t i n h =
    λ d.
    record {
      x = other (i * 8) (λ e. omega arith) d;
      y = other (i * 8 + 1) (λ e. omega arith) d;
      side = other (i * 8 + 2) (λ e. omega arith) d;
      child = get_or-set_same t (i * 8 + 3) n 0 (omega arith) d;
      first = other (i * 8 + 4) (λ e. omega arith) d;
      count = other (i * 8 + 5) (λ e. omega arith) d;
      lines = other (i * 8 + 6) (λ e. omega arith) d;
      parent = other (i * 8 + 7) (λ e. omega arith) d;
    }
  where
    other : (k : ℕ) → (k ≡ i * 8 + 3 → ⊥) → get_or (put_child_at t i n) k 0 ≡ get_or t k 0
    other k f = get_or-set_other t (i * 8 + 3) k n 0 f

pub put_child_other : (t : List ℕ) (i j n : ℕ) → (j ≡ i → ⊥) → cell_at (put_child_at t i n) j ≡ cell_at t j
put_child_other t i j n f =
    cell_other (put_child_at t i n) t i j (put_child_before t (i * 8) i n (omega arith)) (put_child_beyond t (i * 8 + 8) i n (omega arith)) f
