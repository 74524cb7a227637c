-- Document 01, "Winding and meaning", "From the input" and "From the state": a zone log over a run of positions.
use Rattle.std.specs.Prelude.{Bool, true, false, cond, not, ◌&&◌, ◌||◌, List, [], ◌∷◌, Result, Ok, Err, ℕ, zero, suc, ◌+◌, ◌-◌, eqb, ltb, leb, length, get_or}
use Rattle.std.proofs.lemmas.List.Edits.{sets}
use Rattle.refusals.specs.declared.Refused.{Refused}
use Rattle.refusals.specs.Refusals.{at_place}
use Rattle.refusals.specs.declared.Refusal.TheVariants.{Argument, Room, Broken}
use Rattle.tables.specs.Tables.{Tree}
use Rattle.find_leaf.specs.Leaf.{position_range}
use Rattle.position.specs.Spots.{known, material_in}

-- "A zone log over a run of positions gives index 0 (if there is one) and each index whose material differs from the one before."
abbrev pub is_logged : (material : ℕ → ℕ) → (i : ℕ) → Bool
is_logged m i = eqb i 0 || not (eqb (m i) (m (i - 1)))

-- the log of the n indices from i on
unfoldable pub log_from : (material : ℕ → ℕ) → (i n : ℕ) → List ℕ
log_from m i zero = []
log_from m i (suc n) = cond (is_logged m i) (i ∷ log_from m (i + 1) n) (log_from m (i + 1) n)

-- 7: "position ... out of range": the lowest index, of the n from i on, whose position is; i + n where there is none
unfoldable pub outside_from : (px py : List ℕ) → (i n : ℕ) → ℕ
outside_from px py i zero = i
outside_from px py i (suc n) = cond (position_range (get_or px i 0) (get_or py i 0)) (outside_from px py (i + 1) n) i

-- an index that a word cannot hold has no room in a table of words
unfoldable pub each_word : List ℕ → Bool
each_word [] = true
each_word (i ∷ l) = cond (ltb i 4294967296) (each_word l) false

module _ (t : Tree) (px py : List ℕ) where
  -- the material at index i
  abbrev pub material_at : ℕ → ℕ
  material_at i = material_in t (get_or px i 0) (get_or py i 0)

  -- 12 is met at none of the n positions from index i on
  unfoldable pub known_from : (i n : ℕ) → Bool
  known_from i zero = true
  known_from i (suc n) = cond (known t (get_or px i 0) (get_or py i 0)) (known_from (i + 1) n) false

  unfoldable pub zone_log : List ℕ
  zone_log = log_from material_at 0 (length px)

  -- 11: "... another output table too short for the whole result"; a table of so many words
  abbrev pub log_room : (out : ℕ) → Result ℕ Refused
  log_room out = cond (leb (length zone_log) out && each_word zone_log) (Ok (length zone_log)) (Err (at_place Room 0))

  -- 12 over every position of the run: "Number and place 0"
  abbrev pub log_known : (out : ℕ) → Result ℕ Refused
  log_known out = cond (known_from 0 (length px)) (log_room out) (Err (at_place Broken 0))

  -- 7 at a position: "index of the position in a run"
  abbrev pub log_range : (out : ℕ) → Result ℕ Refused
  log_range out = cond (ltb (outside_from px py 0 (length px)) (length px)) (Err (at_place Argument (outside_from px py 0 (length px)))) (log_known out)

  -- 7: "a lent pair of x and y tables of unequal length (tried before all other checks ...)": place 0
  abbrev pub log_answer : (out : ℕ) → Result ℕ Refused
  log_answer out = cond (eqb (length t.xs) (length t.ys)) (cond (eqb (length px) (length py)) (log_range out) (Err (at_place Argument 0))) (Err
      (at_place Argument 0))

  -- the output table afterwards: "An accepted call leaves the rest of a longer output untouched"; on a refusal nothing changes
  abbrev pub out_after : Result ℕ Refused → List ℕ → List ℕ
  out_after (Ok n) out = sets out 0 zone_log
  out_after (Err r) out = out

  -- the output table after the call
  abbrev pub out_logged : List ℕ → List ℕ
  out_logged out = out_after (log_answer (length out)) out
