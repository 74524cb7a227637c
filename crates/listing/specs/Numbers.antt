-- The lines in a lent table, five words a line, as the code writes and reads them. `Rattle.listing.proofs` says that the table read back is the lines
-- (`written_read`).
use Rattle.std.specs.Prelude.{List, [], ◌∷◌, ℕ, zero, suc, ◌+◌, ◌*◌, get_or, set}
use Rattle.std.proofs.lemmas.List.Edits.{sets}
use Rattle.listing.specs.declared.Line.{Line}

-- the words of the table
unfoldable pub flat : List Line → List ℕ
flat [] = []
flat (l ∷ ls) = l.cell ∷ l.key ∷ l.side ∷ l.entries ∷ l.lines ∷ flat ls

-- the five words of line i
abbrev pub line_at : List ℕ → ℕ → Line
line_at t i =
    record {
      cell = get_or t (i * 5) 0;
      key = get_or t (i * 5 + 1) 0;
      side = get_or t (i * 5 + 2) 0;
      entries = get_or t (i * 5 + 3) 0;
      lines = get_or t (i * 5 + 4) 0;
    }

-- the n lines from line i on
unfoldable pub lines_in : List ℕ → (i n : ℕ) → List Line
lines_in t i zero = []
lines_in t i (suc n) = line_at t i ∷ lines_in t (i + 1) n

-- the table with l at line i, as five stores
abbrev pub put_at : List ℕ → ℕ → Line → List ℕ
put_at t i l = set (set (set (set (set t (i * 5) l.cell) (i * 5 + 1) l.key) (i * 5 + 2) l.side) (i * 5 + 3) l.entries) (i * 5 + 4) l.lines

-- the table with ls from line i on
unfoldable pub written : List ℕ → ℕ → List Line → List ℕ
written t i ls = sets t (i * 5) (flat ls)
