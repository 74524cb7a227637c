-- What cell 0's stream is made from, one entry at a time, as the numbers that the code holds. `Rattle.root_stream.proofs` says that they go as the elements do
-- (`Rattle.plans.specs.code.Source`). And what the code asks of its caller.
use Rattle.std.specs.Prelude.{◌≡◌, cond, List, [], ◌∷◌, ℕ, zero, suc, ◌+◌, Option, Some, None, eqb, ltb, get_or}
use Rattle.records.specs.declared.Kind.{Kind}
use Rattle.records.specs.Kinds.{kind_number}
use Rattle.geometry.specs.Windings.{Line, line, curve}
use Rattle.grammar.specs.declared.Counts.{Counts}
use Rattle.drawing.specs.Tables.{Tables, drawn_in}
use Rattle.drawing.specs.code.Held.{Acceptable, Holding}
use Rattle.cells.specs.Segments.{drawn}
use Rattle.stream.specs.declared.Words.{Words}
use Rattle.stream.specs.declared.Bounds.{Bounds}
use Rattle.stream.specs.Grammar.{bounds}
use Rattle.evaluate.specs.Words.{words, segment_words}
use Rattle.root_stream.specs.declared.Source.{Source}

-- the areas and the corners before a record, and the first corner of the contour in progress
abbrev pub source_at : (area corner first : ℕ) → Source
source_at a c f = record { area = a; corner = c; first = f }

-- the number of a kind, or 0 of none
abbrev pub number_in : Option Kind → ℕ
number_in (Some k) = kind_number k
number_in None = 0

-- the kind of record i, or 0 where there is none
abbrev pub kind_n : List ℕ → (records i : ℕ) → ℕ
kind_n plan records i = cond (ltb i records) (get_or plan (i + 3) 0) 0

-- how many records and corners an edge takes up to where it ends, with a record of kind b straight behind its first corner
abbrev pub stride_n : (b : ℕ) → ℕ
stride_n b = cond (eqb b 7) 2 1

-- "corner to next corner, the closing edge last of its contour"; document 02: "Record kind 7 is a control corner": the line or curve from corner c,
-- with a record of kind b straight behind it
abbrev pub line_n : (b corner first : ℕ) → Line
line_n b c f = cond (eqb b 3) (line c (c + 1)) (cond (eqb b 7) (curve c) (line c f))

abbrev pub edge_n : (b corner first : ℕ) → Words
edge_n b c f = segment_words (drawn (line_n b c f))

-- `(`, `|` and `)`
abbrev pub mark_n : ℕ → Words
mark_n k = cond (eqb k 4) (words 1 0 0 0) (cond (eqb k 5) (words 2 0 0 0) (words 3 0 0 0))

-- a record of kind k, with one of kind b straight behind it
abbrev pub entry_n : Source → (k b : ℕ) → Words
entry_n s k b =
    cond (eqb k 1) (words 4 s.area 0 0)
    (cond (eqb k 2) (edge_n b s.corner s.corner) (cond (eqb k 3) (edge_n b s.corner s.first) (mark_n k)))

-- behind that entry
abbrev pub after_n : Source → (k b : ℕ) → Source
after_n s k b =
    cond (eqb k 1) (source_at (s.area + 1) s.corner s.first)
    (cond (eqb k 2) (source_at s.area (s.corner + stride_n b) s.corner)
    (cond (eqb k 3) (source_at s.area (s.corner + stride_n b) s.first) s))

-- the entries of the records from record i on, at most n of them
abbrev pub entries_n : List ℕ → (records i : ℕ) → Source → (n : ℕ) → List Words
entries_n plan records i s zero = []
entries_n plan records i s (suc n) =
    cond (ltb i records)
    (entry_n s (kind_n plan records i) (kind_n plan records (i + 1))
    ∷ entries_n plan records (i + stride_n (kind_n plan records (i + 1))) (after_n s (kind_n plan records i) (kind_n plan records (i + 1))) n)
    []

-- ---- what is asked of the lent tables

-- the tables hold accepted records, so many of them; b has the areas and the corners in use, and the rows of the square of side 65,536 at (0, 0)
pub record Opened (t : Tables) (records : ℕ) (b : Bounds) : Type 0 where
  pub used : Counts
  pub accepted : Acceptable (drawn_in t) used
  pub holding : Holding t (drawn_in t)
  pub records_used : records ≡ used.records
  pub bounds_used : b ≡ bounds used.areas used.corners 0 65536
