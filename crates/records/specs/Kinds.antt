-- Document 01, "Drawing": the kinds of records and their numbers; document 02, Item 2: kind 7.
use Rattle.std.specs.Prelude.{ℕ, cond, Result, Ok, Err, eqb}
use Rattle.refusals.specs.declared.Refusal.{Refusal}
use Rattle.refusals.specs.declared.Refusal.TheVariants as Refusals
use Rattle.records.specs.declared.Kind.{Kind}
use Rattle.records.specs.declared.Kind.TheVariants.{Area, First, Next, Open, Bar, Close, Control}

-- "Byte 0 is the kind." `Rattle.records.specs.Record` says which number is which.
abbrev pub kind_number : Kind → ℕ
kind_number Area = 1
kind_number First = 2
kind_number Next = 3
kind_number Open = 4
kind_number Bar = 5
kind_number Close = 6
kind_number Control = 7

-- the kind of a number; or 2, "unknown kind"
unfoldable pub kind_at : ℕ → Result Kind Refusal
kind_at k =
    cond (eqb k 1) (Ok Area)
    (cond (eqb k 2) (Ok First)
    (cond (eqb k 3) (Ok Next)
    (cond (eqb k 4) (Ok Open) (cond (eqb k 5) (Ok Bar) (cond (eqb k 6) (Ok Close) (cond (eqb k 7) (Ok Control) (Err Refusals.Kind)))))))
