-- Document 01, "From the input" and "From the state", and document 02: the number of each refusal.
use Rattle.std.specs.Prelude.{ℕ}
use Rattle.refusals.specs.declared.Refusal.{Refusal}
use Rattle.refusals.specs.declared.Refused.{Refused}
use Rattle.refusals.specs.declared.Refusal.TheVariants.{
  Length,
  Kind,
  Field,
  Unfit,
  Short,
  Limit,
  Argument,
  NoCell,
  AlreadySplit,
  Smallest,
  Room,
  Broken,
  Curve,
}

abbrev pub number_of : Refusal → ℕ
-- "length no multiple of 16, or over 4,096 records"
number_of Length = 1
-- "unknown kind"
number_of Kind = 2
-- "field out of range or unnamed byte not zero"
number_of Field = 3
-- "record that does not fit, or a group open at the end"
number_of Unfit = 4
-- "contour of under 3 corners"
number_of Short = 5
-- "65th area, 2,049th corner, 9th open group"
number_of Limit = 6
-- "a lent pair of x and y tables of unequal length ...; position or depth limit out of range; ..."
number_of Argument = 7
-- "cell number not below the cells in use"
number_of NoCell = 8
-- "cell already split"
number_of AlreadySplit = 9
-- "cell of side 1"
number_of Smallest = 10
-- "cells, entries or another output table too short for the whole result"
number_of Room = 11
-- "a number met in the tables used ... is outside its range, or that drawing or stream breaks the grammar"
number_of Broken = 12
-- document 02, Item 2: "13 for a curve that breaks the order or span"
number_of Curve = 13

-- "Each gives its number and a place."
abbrev pub at_place : Refusal → ℕ → Refused
at_place r p = record { refusal = r; place = p }
