-- Document 01, "Cells": "A stream is read in one pass as in document 000's flat clipping, states P, S and SA; the machine's move is decided by state,
-- kind of entry and depth, and it stops on an alpha of 255, not on left = 0." `FlatClipping` has document 000's machine as it stands there, with its count u;
-- `Rattle.pruning.proofs.Machine` says that both show the same (`without_u`).
use Rattle.std.specs.Prelude.{Bool, cond, List, [], ◌∷◌, ℕ, suc, pred, leb}
use Rattle.pruning.specs.Sides.{paint, clip, Entry, item, push, activate, pop}

-- P; S and SA, with the stopping depth
pub data Mode : Type 0 where
  processing : Mode
  skipping skipping_by : ℕ → Mode

-- what is shown from here on, where d groups are open
module _ {A : Type 0} (pass opaque : A → Bool) where
  abbrev pub scan : List (Entry A) → Mode → ℕ → List A
  scan [] m d = []
  scan (item paint a ∷ es) processing d = cond (pass a) (a ∷ cond (opaque a) [] (scan es processing d)) (scan es processing d)
  scan (item clip a ∷ es) processing d = cond (pass a) (scan es (skipping d) d) (scan es processing d)
  scan (item k a ∷ es) (skipping s) d = scan es (skipping s) d
  scan (item k a ∷ es) (skipping_by s) d = scan es (skipping_by s) d
  scan (push ∷ es) m d = scan es m (suc d)
  scan (activate ∷ es) processing d = scan es (skipping_by d) d
  scan (activate ∷ es) (skipping s) d = cond (leb d s) (scan es processing d) (scan es (skipping s) d)
  scan (activate ∷ es) (skipping_by s) d = scan es (skipping_by s) d
  scan (pop ∷ es) processing d = scan es processing (pred d)
  scan (pop ∷ es) (skipping s) d = cond (leb d s) (scan es (skipping (pred d)) (pred d)) (scan es (skipping s) (pred d))
  scan (pop ∷ es) (skipping_by s) d = cond (leb d s) (scan es processing (pred d)) (scan es (skipping_by s) (pred d))
