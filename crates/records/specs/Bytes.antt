-- Document 01, "Drawing", and document 02, Item 2: a record as sixteen bytes.
use Rattle.std.specs.Prelude.{Err, ℕ, ◌+◌, ◌*◌, ◌/◌, ◌%◌, Bool, cond, List, [], ◌∷◌, get_or, eqb, leb}
use Rattle.records.specs.declared.Fields.{Fields}
use Rattle.refusals.specs.declared.Refusal.TheVariants.{Kind, Field}
use Rattle.records.specs.declared.Record.{Record}
use Rattle.records.specs.declared.Record.TheVariants.{Area, First, Next, Open, Bar, Close, Control}
use Rattle.records.specs.Record.{Decoded, all_zero, ranged, is_corner, corner_of, delimiter_of}

-- the sixteen bytes of a record, by name
pub record Raw : Type 0 where
  pub b0 : ℕ
  pub b1 : ℕ
  pub b2 : ℕ
  pub b3 : ℕ
  pub b4 : ℕ
  pub b5 : ℕ
  pub b6 : ℕ
  pub b7 : ℕ
  pub b8 : ℕ
  pub b9 : ℕ
  pub b10 : ℕ
  pub b11 : ℕ
  pub b12 : ℕ
  pub b13 : ℕ
  pub b14 : ℕ
  pub b15 : ℕ

-- "A file of 16-byte records, no header": the bytes of record i
abbrev pub raw_at : List ℕ → ℕ → Raw
raw_at b i =
    record {
      b0 = get_or b (i * 16) 0;
      b1 = get_or b (i * 16 + 1) 0;
      b2 = get_or b (i * 16 + 2) 0;
      b3 = get_or b (i * 16 + 3) 0;
      b4 = get_or b (i * 16 + 4) 0;
      b5 = get_or b (i * 16 + 5) 0;
      b6 = get_or b (i * 16 + 6) 0;
      b7 = get_or b (i * 16 + 7) 0;
      b8 = get_or b (i * 16 + 8) 0;
      b9 = get_or b (i * 16 + 9) 0;
      b10 = get_or b (i * 16 + 10) 0;
      b11 = get_or b (i * 16 + 11) 0;
      b12 = get_or b (i * 16 + 12) 0;
      b13 = get_or b (i * 16 + 13) 0;
      b14 = get_or b (i * 16 + 14) 0;
      b15 = get_or b (i * 16 + 15) 0;
    }

abbrev pub raw_bytes : Raw → List ℕ
raw_bytes r =
    r.b0 ∷ r.b1 ∷ r.b2 ∷ r.b3 ∷ r.b4 ∷ r.b5 ∷ r.b6 ∷ r.b7 ∷ r.b8 ∷ r.b9 ∷ r.b10 ∷ r.b11 ∷ r.b12 ∷ r.b13 ∷ r.b14 ∷ r.b15 ∷ []

-- "numbers little-endian"
abbrev pub number2 : ℕ → ℕ → ℕ
number2 a b = a + 256 * b

abbrev pub number4 : ℕ → ℕ → ℕ → ℕ → ℕ
number4 a b d e = a + 256 * b + 65536 * d + 16777216 * e

-- ---- "Unnamed bytes are zero."
abbrev pub area_unnamed : Raw → Bool
area_unnamed r = all_zero r.b7 (r.b10 ∷ r.b11 ∷ r.b12 ∷ r.b13 ∷ r.b14 ∷ r.b15 ∷ [])

abbrev pub corner_unnamed : Raw → Bool
corner_unnamed r = all_zero r.b1 (r.b2 ∷ r.b3 ∷ r.b12 ∷ r.b13 ∷ r.b14 ∷ r.b15 ∷ [])

abbrev pub delimiter_unnamed : Raw → Bool
delimiter_unnamed r =
    all_zero r.b1 (r.b2 ∷ r.b3 ∷ r.b4 ∷ r.b5 ∷ r.b6 ∷ r.b7 ∷ r.b8 ∷ r.b9 ∷ r.b10 ∷ r.b11 ∷ r.b12 ∷ r.b13 ∷ r.b14 ∷ r.b15 ∷ [])

unfoldable pub unnamed_zero : Raw → Bool
unnamed_zero r = cond (eqb r.b0 1) (area_unnamed r) (cond (is_corner r.b0) (corner_unnamed r) (delimiter_unnamed r))

-- ---- the named bytes
unfoldable pub fields_of : Raw → Fields
fields_of r = record { role = r.b1; rule = r.b2; alpha = r.b3; red = r.b4; green = r.b5; blue = r.b6; material = number2 r.b8 r.b9 }

unfoldable pub named : Raw → Record
named r =
    cond (eqb r.b0 1) (Area (fields_of r))
    (cond (is_corner r.b0) (corner_of r.b0 (number4 r.b4 r.b5 r.b6 r.b7) (number4 r.b8 r.b9 r.b10 r.b11))
    (delimiter_of r.b0))

-- a record; or 2, "unknown kind"; or 3, "field out of range or unnamed byte not zero"
unfoldable pub decoded_raw : Raw → Decoded
decoded_raw r = cond (leb 1 r.b0) (cond (leb r.b0 7) (cond (unnamed_zero r) (ranged (named r)) (Err Field)) (Err Kind)) (Err Kind)

-- ---- the bytes of a record, for writing out
abbrev pub raw_area : Fields → Raw
raw_area f =
    record {
      b0 = 1;
      b1 = f.role % 256;
      b2 = f.rule % 256;
      b3 = f.alpha % 256;
      b4 = f.red % 256;
      b5 = f.green % 256;
      b6 = f.blue % 256;
      b7 = 0;
      b8 = f.material % 256;
      b9 = f.material / 256 % 256;
      b10 = 0;
      b11 = 0;
      b12 = 0;
      b13 = 0;
      b14 = 0;
      b15 = 0;
    }

abbrev pub raw_corner : ℕ → ℕ → ℕ → Raw
raw_corner k x y =
    record {
      b0 = k;
      b1 = 0;
      b2 = 0;
      b3 = 0;
      b4 = x % 256;
      b5 = x / 256 % 256;
      b6 = x / 65536 % 256;
      b7 = x / 16777216 % 256;
      b8 = y % 256;
      b9 = y / 256 % 256;
      b10 = y / 65536 % 256;
      b11 = y / 16777216 % 256;
      b12 = 0;
      b13 = 0;
      b14 = 0;
      b15 = 0;
    }

abbrev pub raw_delimiter : ℕ → Raw
raw_delimiter k =
    record { b0 = k; b1 = 0; b2 = 0; b3 = 0; b4 = 0; b5 = 0; b6 = 0; b7 = 0; b8 = 0; b9 = 0; b10 = 0; b11 = 0; b12 = 0; b13 = 0; b14 = 0; b15 = 0 }

abbrev pub raw_of : Record → Raw
raw_of (Area f) = raw_area f
raw_of (First x y) = raw_corner 2 x y
raw_of (Next x y) = raw_corner 3 x y
raw_of Open = raw_delimiter 4
raw_of Bar = raw_delimiter 5
raw_of Close = raw_delimiter 6
raw_of (Control x y) = raw_corner 7 x y

abbrev pub bytes_of : Record → List ℕ
bytes_of r = raw_bytes (raw_of r)
