-- A table of four words an entry, as a list of entries, and the table after entries are written. `Rattle.stream.proofs.Table` has the laws.
use Rattle.std.specs.Prelude.{ℕ, zero, suc, ◌+◌, ◌*◌, List, [], ◌∷◌, get_or, set}
use Rattle.std.proofs.lemmas.List.Edits.{sets}
use denote.Triple.Both.{Both}
use Rattle.stream.specs.declared.Stream.{Stream}
use Rattle.stream.specs.declared.Words.{Words}

-- the four words of entry i
abbrev pub words_at : List ℕ → ℕ → Words
words_at t i = record { kind = get_or t (i * 4) 0; p = get_or t (i * 4 + 1) 0; q = get_or t (i * 4 + 2) 0; r = get_or t (i * 4 + 3) 0 }

-- the n entries' words from entry i on
unfoldable pub words_from : List ℕ → ℕ → ℕ → List Words
words_from t i zero = []
words_from t i (suc n) = words_at t i ∷ words_from t (i + 1) n

-- those of a stream, and of one that is passed as a call begins
abbrev pub words_in : Stream → List Words
words_in s = words_from s.entries.now s.first s.count

abbrev pub words_passed : Both Stream Stream → List Words
words_passed s = words_in s.entry

-- the table with w at entry i, as four stores
abbrev pub put_at : List ℕ → ℕ → Words → List ℕ
put_at t i w = set (set (set (set t (i * 4) w.kind) (i * 4 + 1) w.p) (i * 4 + 2) w.q) (i * 4 + 3) w.r

-- the words of a list of entries, one after the other
unfoldable pub flat : List Words → List ℕ
flat [] = []
flat (w ∷ ws) = w.kind ∷ w.p ∷ w.q ∷ w.r ∷ flat ws

-- the table with ws from entry i on, stored one after the other; `written_eq` says it with take and drop
unfoldable pub written : List ℕ → ℕ → List Words → List ℕ
written t i ws = sets t (i * 4) (flat ws)
