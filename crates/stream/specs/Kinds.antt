-- Document 01, "Cells", and document 02, Item 2: the kinds of entries, and the numbers that the code holds for them.
use Rattle.std.specs.Prelude.{ℕ, cond, eqb, Option, None, Some}
use Rattle.stream.specs.declared.Kind.{Kind}
use Rattle.stream.specs.declared.Kind.TheVariants.{Open, Bar, Close, Area, Line, Shortcut, Passes, Curve}

abbrev pub kind_number : Kind → ℕ
kind_number Open = 1
kind_number Bar = 2
kind_number Close = 3
kind_number Area = 4
kind_number Line = 5
kind_number Shortcut = 6
kind_number Passes = 7
kind_number Curve = 8

-- the kind of an entry with this first word, which may be any word
abbrev pub kind_at : ℕ → Option Kind
kind_at k =
    cond (eqb k 1) (Some Open)
    (cond (eqb k 2) (Some Bar)
    (cond (eqb k 3) (Some Close)
    (cond (eqb k 4) (Some Area)
    (cond (eqb k 5) (Some Line)
    (cond (eqb k 6) (Some Shortcut)
    (cond (eqb k 7) (Some Passes)
    (cond (eqb k 8) (Some Curve) None)))))))
