-- A zone log as the numbers that the code holds.
use Rattle.std.specs.Prelude.{◌≡◌, Bool, true, cond, not, List, Option, Some, None, Result, Ok, Err, ℕ, ◌+◌, ◌≤◌, ◌<◌, eqb, ltb, length, get_or}
use Rattle.refusals.specs.declared.Refusal.{Refusal}
use Rattle.refusals.specs.declared.Refusal.TheVariants.{Broken}
use Rattle.tables.specs.Tables.{Tree}
use Rattle.position.specs.declared.Shown.{Shown}
use Rattle.position.specs.Spots.{material_in}
use Rattle.position.specs.code.Numbers.{WasShown, shown_there}
use Rattle.zone_log.specs.declared.Met.{Met}
use Rattle.zone_log.specs.Logs.{outside_from, each_word, known_from, zone_log}

-- a run whose positions are all in range
pub record RunIn (px py : List ℕ) : Type 0 where
  pub same : length px ≡ length py
  pub inside : (i : ℕ) → i < length px → (get_or px i 0 < 65536) × (get_or py i 0 < 65536)

-- a run met by 12 nowhere, whose log has room in a table of so many words
pub record Accepted (t : Tree) (px py : List ℕ) (out : ℕ) : Type 0 where
  pub knows : known_from t px py 0 (length px) ≡ true
  pub size : length (zone_log t px py) ≤ out
  pub words : each_word (zone_log t px py) ≡ true

-- the lowest index whose position is out of range
abbrev pub outside_n : (px py : List ℕ) → Option ℕ
outside_n px py = cond (ltb (outside_from px py 0 (length px)) (length px)) (Some (outside_from px py 0 (length px))) None

abbrev pub met_n : Shown → (material : ℕ) → Met
met_n s m = record { shown = s; material = m }

abbrev pub met_by : (material : ℕ) → Result Shown Refusal → Result Met Refusal
met_by m (Ok s) = Ok (met_n s m)
met_by m (Err e) = Err e

-- what shows at (x, y), and its material; or 12
abbrev pub met_there : Tree → (x y : ℕ) → Result Met Refusal
met_there t x y = met_by (material_in t x y) (shown_there t x y)

-- what was met last, or nothing yet
abbrev pub LastMet : Tree → Option Met → Type 0
LastMet t (Some m) = WasShown t m.shown
LastMet t None = Unit {0}

-- whether an index is in the log, where `last` was met at the index before
abbrev pub logged_n : (last : Option Met) → Met → Bool
logged_n (Some before) m = not (eqb m.material before.material)
logged_n None m = true

-- index i more
abbrev pub counted_n : Option ℕ → (i : ℕ) → Option ℕ
counted_n (Some n) i = cond (ltb i 4294967296) (Some (n + 1)) None
counted_n None i = None

-- so many indices, if a word holds each
abbrev pub count_of : List ℕ → Option ℕ
count_of l = cond (each_word l) (Some (length l)) None

-- how many indices the log has, if a word holds each; or 12
abbrev pub count_in : Tree → (px py : List ℕ) → Result (Option ℕ) Refusal
count_in t px py = cond (known_from t px py 0 (length px)) (Ok (count_of (zone_log t px py))) (Err Broken)
