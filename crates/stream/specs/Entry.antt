-- Document 01, "Cells", and document 02, Items 2 and 4: an entry of a stream, and what the four words say that hold it.
use Rattle.std.specs.Prelude.{ℕ, ◌+◌, ◌≡◌, Bool, true, cond, ◌||◌, List, [], ◌∷◌, eqb, leb}
use Rattle.stream.specs.declared.Words.{Words}

-- "A stream holds one entry for each delimiter, each area (with its start number), line and shortcut." "C1 becomes a bare entry "passes", with no area number".
-- document 02: "a kept curve is one entry".
pub data Entry : Type 0 where
  -- `(`, `|` and `)`
  opens : Entry
  bar : Entry
  closes : Entry
  -- the area's number and the word of its start number
  area : ℕ → ℕ → Entry
  -- the numbers of the corners from which and to which it is drawn
  line : ℕ → ℕ → Entry
  -- the number of its first corner; its control corner and its end are the next two
  curve : ℕ → Entry
  -- the word of its sign, its first row, and the row after its last
  shortcut : ℕ → ℕ → ℕ → Entry
  passes : Entry
  -- a kind that is none of these
  bad : Entry

abbrev pub is_curve : (kind : ℕ) → Bool
is_curve k = eqb k 8

-- a line or a curve, document 02: "a kept curve is one entry that the lister and growing count as a line"
abbrev pub is_line : (kind : ℕ) → Bool
is_line k = eqb k 5 || is_curve k

-- how many entries are lines: a shortcut is none
abbrev pub lines_in : List Words → ℕ
lines_in [] = 0
lines_in (w ∷ ws) = cond (is_line w.kind) (1 + lines_in ws) (lines_in ws)

-- a line, a curve or a shortcut
abbrev pub is_segment : (kind : ℕ) → Bool
is_segment k = is_line k || eqb k 6

-- how many entries are lines, curves or shortcuts
abbrev pub segments_in : List Words → ℕ
segments_in [] = 0
segments_in (w ∷ ws) = cond (is_segment w.kind) (1 + segments_in ws) (segments_in ws)

-- one of the entries is a line, a curve or a shortcut
pub data HoldsSegment : List Words → Type 0 where
  here : (w : Words) (ws : List Words) → is_segment w.kind ≡ true → HoldsSegment (w ∷ ws)
  behind : (w : Words) (ws : List Words) → HoldsSegment ws → HoldsSegment (w ∷ ws)

-- document 02: "yes exactly when the leaf's stream holds no line, curve or shortcut"; `Rattle.stream.proofs.Uniform` says both ways
abbrev pub is_uniform : List Words → Bool
is_uniform ws = eqb (segments_in ws) 0

-- four words an entry: kind, p, q, r. Kinds: 1 `(`, 2 `|`, 3 `)`, 4 area (p, q), 5 line (p, q), 6 shortcut (p, q, r), 7 passes, 8 curve (p); the
-- other words of an entry, which the documents leave free, are not looked at
abbrev pub decode : Words → Entry
decode w =
    cond (eqb w.kind 1) opens
    (cond (eqb w.kind 2) bar
    (cond (eqb w.kind 3) closes
    (cond (eqb w.kind 4) (area w.p w.q)
    (cond (is_curve w.kind) (curve w.p)
    (cond (eqb w.kind 5) (line w.p w.q)
    (cond (eqb w.kind 6) (shortcut w.p w.q w.r)
    (cond (eqb w.kind 7) passes bad)))))))

-- signed numbers are words in two's complement; `Rattle.stream.proofs.Signed` says the two ranges of the signed numbers

-- "start −2,048 to 2,048": 4,294,965,248 is the word of −2,048
abbrev pub start_range : ℕ → Bool
start_range q = leb q 2048 || leb 4294965248 q

-- "sign 1 or −1": 4,294,967,295 is the word of −1
abbrev pub sign_range : ℕ → Bool
sign_range p = eqb p 1 || eqb p 4294967295
