-- An answer as one number: the refusal's number times 2^32 and its place; the result where nothing is refused.
use Rattle.std.specs.Prelude.{Bool, cond, List, ℕ, ◌+◌, ◌*◌, leb, length, set, Result, Ok, Err}
use Rattle.refusals.specs.declared.Refusal.{Refusal}
use Rattle.refusals.specs.declared.Refusal.TheVariants.{Room}
use Rattle.refusals.specs.declared.Refused.{Refused}
use Rattle.refusals.specs.Refusals.{number_of}
use Rattle.grammar.specs.Grammar.{Verdict}
use Rattle.drawing.specs.Tables.{Written}
use Rattle.grow.specs.declared.Growth.{Growth}
use Rattle.grow.specs.declared.Growth.TheVariants as Growths
use Rattle.find_leaf.specs.declared.FoundLeaf.{FoundLeaf}

abbrev pub packed : (number low : ℕ) → ℕ
packed number low = number * 4294967296 + low

-- the result with 0, or the refusal's number with its place
abbrev pub packed_answer : Result ℕ Refused → ℕ
packed_answer (Ok n) = packed 0 n
packed_answer (Err e) = packed (number_of e.refusal) e.place

abbrev pub packed_low : Result ℕ Refused → ℕ
packed_low (Ok n) = n
packed_low (Err e) = e.place

-- reading: how many records; document 01 leaves this result free
abbrev pub read_number : Verdict → ℕ
read_number (Ok k) = packed 0 k.records
read_number (Err e) = packed (number_of e.refusal) e.place

-- writing: how many bytes; document 01 leaves this result free; refusals from the state have place 0
abbrev pub write_number : Written → ℕ
write_number (Ok n) = packed 0 n
write_number (Err r) = packed (number_of r) 0

-- opening: how many entries; document 01 leaves this result free
abbrev pub open_number : Result ℕ Refusal → ℕ
open_number (Ok entries) = packed 0 entries
open_number (Err r) = packed (number_of r) 0

-- splitting: the number of the first child; document 01 leaves this result free
abbrev pub split_number : Result ℕ Refusal → ℕ
split_number (Ok child) = packed 0 child
split_number (Err r) = packed (number_of r) 0

-- growing: "it says "done" when there is none, "full" when that split would be refused with 11, and gives the splits made": 2^31 more for "full"
abbrev pub grow_number : Result Growth Refusal → ℕ
grow_number (Ok (Growths.Done splits)) = packed 0 splits
grow_number (Ok (Growths.Full splits)) = packed 0 (2147483648 + splits)
grow_number (Err r) = packed (number_of r) 0

-- finding a leaf: 11, "another output table too short for the whole result", which is eight words; out is how many words the table has
abbrev pub find_room : Result FoundLeaf Refusal → (out : ℕ) → Result FoundLeaf Refusal
find_room (Ok l) out = cond (leb 8 out) (Ok l) (Err Room)
find_room (Err r) out = Err r

-- the number of the leaf; document 01 leaves free which number of the leaf is the result
abbrev pub find_number : Result FoundLeaf Refusal → ℕ
find_number (Ok l) = packed 0 l.cell
find_number (Err r) = packed (number_of r) 0

-- document 02: "yes or no", as a word: 1 or 0
abbrev pub word_of : Bool → ℕ
word_of b = cond b 1 0

-- the eight words of a leaf
abbrev pub leaf_put : FoundLeaf → List ℕ → List ℕ
leaf_put l out =
    set (set (set (set (set (set (set (set out 0 l.cell) 1 l.x) 2 l.y) 3 l.side) 4 l.steps) 5 l.entries) 6 l.lines) 7
    (word_of l.uniform)

-- "nothing lent changed" on a refusal; "An accepted call leaves the rest of a longer output untouched."
abbrev pub out_found : Result FoundLeaf Refusal → List ℕ → List ℕ
out_found (Ok l) out = leaf_put l out
out_found (Err r) out = out

-- the output table after the call
abbrev pub leaf_written : Result FoundLeaf Refusal → (out : List ℕ) → List ℕ
leaf_written a out = out_found (find_room a (length out)) out

-- the low halves
abbrev pub read_low : Verdict → ℕ
read_low (Ok k) = k.records
read_low (Err e) = e.place

abbrev pub write_low : Written → ℕ
write_low (Ok n) = n
write_low (Err r) = 0

-- the splits made
abbrev pub grow_splits : Result Growth Refusal → ℕ
grow_splits (Ok (Growths.Done splits)) = splits
grow_splits (Ok (Growths.Full splits)) = splits
grow_splits (Err r) = 0
