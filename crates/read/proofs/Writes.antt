-- Lists written into a table.
use Prim.Native.Nat.{ℕ, suc, ◌+◌}
use mathlib.Core.Path.{◌≡◌, refl, ap, ◌∙◌}
use mathlib.Core.List.{List, [], ◌∷◌, ◌++◌}
use native.Mathlib.Omega.{arith}
use native.Mathlib.Nat.{add-zero}
use lib.ListN.{length, set, length-append}
use lib.Seq.{sets}
use Rattle.records.specs.declared.Record.{Record}
use Rattle.records.specs.Record.{Decoded}
use Rattle.std.specs.Prelude.{Ok, Err}
use Rattle.grammar.specs.Lists.{good_records}
use Rattle.read.specs.Words.{joined, on_good}

pub sets_append : (t : List ℕ) (i : ℕ) (xs ys : List ℕ) → sets (sets t i xs) (i + length xs) ys ≡ sets t i (xs ++ ys)
sets_append t i [] ys = rw (add-zero i)
sets_append t i (x ∷ xs) ys =
    let n : i + suc (length xs) ≡ suc i + length xs = omega arith in
    rw n (sets_append (set t i x) (suc i) xs ys)

-- ---- spread
pub spread_on : (f : Record → List ℕ) (d : Decoded) (ds : List Decoded) → joined f (good_records (d ∷ ds)) ≡ on_good f d ++ joined f (good_records ds)
unfolding joined
spread_on f (Ok r) ds = refl
spread_on f (Err x) ds = refl

pub length_on : (f : Record → List ℕ) (d : Decoded) (ds : List Decoded)
    → length (joined f (good_records (d ∷ ds))) ≡ length (on_good f d) + length (joined f (good_records ds))
length_on f d ds = ap length (spread_on f d ds) ∙ length-append (on_good f d) (joined f (good_records ds))

-- a turn of a loop that writes what was decoded
pub turn_table : (f : Record → List ℕ) (t t' : List ℕ) (at at' : ℕ) (d : Decoded) (ds : List Decoded)
    → t' ≡ sets t at (on_good f d)
    → at' ≡ at + length (on_good f d)
    → sets t' at' (joined f (good_records ds)) ≡ sets t at (joined f (good_records (d ∷ ds)))
turn_table f t t' at at' d ds p q = rw (p, q, spread_on f d ds) (sets_append t at (on_good f d) (joined f (good_records ds)))
