-- The answers of the calls that read a tree: one number, and the words that are written.
use Rattle.std.specs.Prelude.{cond, Result, Ok, Err, List, ℕ, ◌/◌, ◌%◌, leb, length, set}
use Rattle.refusals.specs.declared.Refusal.{Refusal}
use Rattle.refusals.specs.declared.Refused.{Refused}
use Rattle.refusals.specs.declared.Refusal.TheVariants.{Room}
use Rattle.refusals.specs.Refusals.{number_of}
use Rattle.position.specs.declared.Spot.{Spot}
use Rattle.answers.specs.Answers.{packed, word_of}

-- a position: 11, "another output table too short for the whole result", which is ten words; out is how many words the table has
abbrev pub spot_room : Result Spot Refusal → (out : ℕ) → Result Spot Refusal
spot_room (Ok s) out = cond (leb 10 out) (Ok s) (Err Room)
spot_room (Err r) out = Err r

-- the material; document 01 leaves free which number of the position is the result; refusals of a position have place 0
abbrev pub spot_number : Result Spot Refusal → ℕ
spot_number (Ok s) = packed 0 s.material
spot_number (Err r) = packed (number_of r) 0

-- the six words of what shows: the low and the high half of the set, the material, the colour
abbrev pub shown_put : Spot → List ℕ → List ℕ
shown_put s out = set (set (set (set (set (set out 0 (s.set % 4294967296)) 1 (s.set / 4294967296)) 2 s.material) 3 s.red) 4 s.green) 5 s.blue

-- and the four words of how far that reaches: whether the leaf is uniform, its low corner, its side
abbrev pub spot_put : Spot → List ℕ → List ℕ
spot_put s out = set (set (set (set (shown_put s out) 6 (word_of s.uniform)) 7 s.x) 8 s.y) 9 s.side

-- "nothing lent changed" on a refusal; "An accepted call leaves the rest of a longer output untouched."
abbrev pub out_spot : Result Spot Refusal → List ℕ → List ℕ
out_spot (Ok s) out = spot_put s out
out_spot (Err r) out = out

-- the output table after the call
abbrev pub spot_written : Result Spot Refusal → (out : List ℕ) → List ℕ
spot_written a out = out_spot (spot_room a (length out)) out

-- a place or a result over 4,294,967,295 is packed as 4,294,967,295
abbrev pub low_half : ℕ → ℕ
low_half n = cond (leb n 4294967295) n 4294967295

-- a zone log: how many indices; document 01 leaves this result free; 7 has the "index of the position in a run"
abbrev pub log_number : Result ℕ Refused → ℕ
log_number (Ok n) = packed 0 (low_half n)
log_number (Err r) = packed (number_of r.refusal) (low_half r.place)

-- a row of pixels: 0; document 01 leaves this result free; 12 has "the pixel's index in the call", which is below 4,096
abbrev pub row_number : Result (Unit {0}) Refused → ℕ
row_number (Ok u) = packed 0 0
row_number (Err r) = packed (number_of r.refusal) r.place

abbrev pub row_place : Result (Unit {0}) Refused → ℕ
row_place (Ok u) = 0
row_place (Err r) = r.place
