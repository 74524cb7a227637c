-- Document 000's flat clipping machine, with its three variables and its arrows as the text tells them. Document 01: "A stream is read in one pass as in
-- document 000's flat clipping, states P, S and SA; the machine's move is decided by state, kind of entry and depth, and it stops on an alpha of 255, not on
-- left = 0." Our machine, `scan`, has no u. Proved in `Rattle.pruning.proofs`: on every stream in the grammar both show the same (`Machine`: `without_u`),
-- and this one shows the same from any u (`FlatClipping`: `flat_clipping_law`), so that its arrow at u = 0 changes nothing; also with the "dummy push-pop pair"
-- of document 000 around the stream (`scene`).
use Rattle.std.specs.Prelude.{Bool, cond, List, [], ◌∷◌, ℕ, suc, pred, leb, eqb}
use Rattle.pruning.specs.Sides.{paint, clip, Entry, item, push, activate, pop}
use Rattle.pruning.specs.Machine.{Mode, processing, skipping, skipping_by}

module _ {A : Type 0} (pass opaque : A → Bool) where
  -- what is shown from here on. Document 000: "the current clipping nesting depth d and the number u of nested clip-paths that have not yet been
  -- activated". By (29) `(` adds 1 to both, by (30) `|` takes 1 from u, by (31) `)` takes 1 from d. "Skipping is interrupted when one of terminals | or )
  -- is found at a depth at least as shallow as the current stopping depth s": the depth of the group that it belongs to, so at `)` before d falls.
  abbrev pub flat_clipping : List (Entry A) → Mode → (d u : ℕ) → List A
  flat_clipping [] m d u = []
  -- P, f1, α = 1, document 000: "The machine transitions to S, and sets s to 0." For α = 1 document 01 has "an alpha of 255, not on left = 0".
  flat_clipping (item paint a ∷ es) processing d u =
      cond (pass a) (a ∷ cond (opaque a) (flat_clipping es (skipping 0) d u) (flat_clipping es processing d u)) (flat_clipping es processing d u)
  -- P, c1, document 000: "The machine transitions to S and sets the stop depth to d."
  flat_clipping (item clip a ∷ es) processing d u = cond (pass a) (flat_clipping es (skipping d) d u) (flat_clipping es processing d u)
  flat_clipping (item k a ∷ es) (skipping s) d u = flat_clipping es (skipping s) d u
  flat_clipping (item k a ∷ es) (skipping_by s) d u = flat_clipping es (skipping_by s) d u
  flat_clipping (push ∷ es) m d u = flat_clipping es m (suc d) (suc u)
  -- P, `|`, document 000: "Since the test failed, it can skip until the matching ).": s is d
  flat_clipping (activate ∷ es) processing d u = flat_clipping es (skipping_by d) d (pred u)
  -- S, `|`, document 000: "an entire clip-path test has succeeded, and therefore we transition unconditionally back to P"
  flat_clipping (activate ∷ es) (skipping s) d u = cond (leb d s) (flat_clipping es processing d (pred u)) (flat_clipping es (skipping s) d (pred u))
  flat_clipping (activate ∷ es) (skipping_by s) d u = flat_clipping es (skipping_by s) d (pred u)
  flat_clipping (pop ∷ es) processing d u = flat_clipping es processing (pred d) u
  -- S, `)`, document 000: "The condition u = 0 means the machine is not inside a nested clip-path test, so it simply transitions back to P." Else "The
  -- machine simply resets the stop depth to the outer level and continues in state S."
  flat_clipping (pop ∷ es) (skipping s) d u =
      cond (leb d s) (cond (eqb u 0) (flat_clipping es processing (pred d) u) (flat_clipping es (skipping (pred d)) (pred d) u))
      (flat_clipping es (skipping s) (pred d) u)
  -- SA, document 000: "the matching )"
  flat_clipping (pop ∷ es) (skipping_by s) d u = cond (leb d s) (flat_clipping es processing (pred d) u) (flat_clipping es (skipping_by s) (pred d) u)
