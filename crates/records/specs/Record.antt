-- Document 01, "Drawing", and document 02, Item 2: a record, and the ranges of its fields.
use Rattle.std.specs.Prelude.{ℕ, Bool, true, false, cond, ◌&&◌, ◌||◌, List, [], ◌∷◌, Result, Ok, Err, eqb, ltb, leb}
use Rattle.records.specs.declared.Fields.{Fields}
use Rattle.refusals.specs.declared.Refusal.{Refusal}
use Rattle.refusals.specs.declared.Refusal.TheVariants.{Field}
use Rattle.records.specs.declared.Record.{Record}
use Rattle.records.specs.declared.Record.TheVariants.{Area, First, Next, Open, Bar, Close, Control}

-- a record, or why there is none: Kind or Field
abbrev pub Decoded : Type 0
Decoded = Result Record Refusal

-- every number of a list that is not empty is zero
abbrev pub all_zero : ℕ → List ℕ → Bool
all_zero b [] = eqb b 0
all_zero b (c ∷ cs) = eqb b 0 && all_zero c cs

-- "byte 1 role (0 paint, 1 clip), 2 fill rule (0 non-zero, 1 even-odd), 3 alpha, 4 to 6 red, green, blue, 8 and 9 material."
-- "Paint: material 1 to 65,535."
abbrev pub paint_range : Fields → Bool
paint_range f = leb f.alpha 255 && (leb f.red 255 && (leb f.green 255 && (leb f.blue 255 && (leb 1 f.material && leb f.material 65535))))

-- "Clip: alpha, colour and material zero."
abbrev pub clip_range : Fields → Bool
clip_range f = all_zero f.alpha (f.red ∷ f.green ∷ f.blue ∷ f.material ∷ [])

unfoldable pub area_range : Fields → Bool
area_range f = cond (leb f.rule 1) (cond (eqb f.role 0) (paint_range f) (cond (eqb f.role 1) (clip_range f) false)) false

-- "Bytes 4 to 7 x, 8 to 11 y, each 0 to 65,536."
abbrev pub corner_range : ℕ → ℕ → Bool
corner_range x y = leb x 65536 && leb y 65536

abbrev pub in_range : Record → Bool
in_range (Area f) = area_range f
in_range (First x y) = corner_range x y
in_range (Next x y) = corner_range x y
in_range Open = true
in_range Bar = true
in_range Close = true
in_range (Control x y) = corner_range x y

-- 3, "field out of range"
abbrev pub ranged : Record → Decoded
ranged r = cond (in_range r) (Ok r) (Err Field)

-- a record, and no refusal
abbrev pub is_good : Decoded → Bool
is_good (Ok r) = true
is_good (Err x) = false

-- ---- kinds: 1 area; 2 first corner of a contour; 3 next corner; 4 `(`, 5 `|`, 6 `)`; 7 control corner

-- of the kinds from 2 on, the corners: document 02: "Record kind 7 is a control corner, laid out as kind 3"
abbrev pub is_corner : ℕ → Bool
is_corner k = ltb k 4 || eqb k 7

unfoldable pub corner_of : ℕ → ℕ → ℕ → Record
corner_of k x y = cond (eqb k 2) (First x y) (cond (eqb k 3) (Next x y) (Control x y))

unfoldable pub delimiter_of : ℕ → Record
delimiter_of k = cond (eqb k 4) Open (cond (eqb k 5) Bar Close)

abbrev pub kind_of : Record → ℕ
kind_of (Area f) = 1
kind_of (First x y) = 2
kind_of (Next x y) = 3
kind_of Open = 4
kind_of Bar = 5
kind_of Close = 6
kind_of (Control x y) = 7
