-- The end of a table, lent as a slice of its own.
use mathlib.Core.Path.{◌≡◌, sym, ap, ◌∙◌}
use mathlib.Core.List.{List, ◌++◌, append_assoc}
use Prim.Native.Nat.{ℕ, ◌+◌, ◌*◌, ◌≤◌}
use native.Mathlib.Omega.{arith}
use lib.ListN.{length, take, drop}
use lib.Seq.{drop-drop}
use Rattle.stream.specs.declared.Words.{Words}
use Rattle.stream.specs.Table.{flat, written}
use Rattle.stream.proofs.Table.{written_eq}

-- entries that are written from the tail's first on are written from entry `free` on
pub tail_written : (t : List ℕ) (free : ℕ) (ws : List Words)
    → (free + length ws) * 4 ≤ length t
    → take (free * 4) t ++ (flat ws ++ drop (length ws * 4) (drop (free * 4) t)) ≡ written t free ws
tail_written t free ws h =
    let e : free * 4 + length ws * 4 ≡ (free + length ws) * 4 = omega arith in
    sym (written_eq t free ws h ∙ (append_assoc (take (free * 4) t) (flat ws) (drop ((free + length ws) * 4) t)
    ∙ ap (λ (x : List ℕ). take (free * 4) t ++ (flat ws ++ x)) (sym (drop-drop (length ws * 4) (free * 4) t ∙ ap (λ (n : ℕ). drop n t) e))))
