-- What a head that has passed says.
use mathlib.Core.Path.{◌≡◌, ap}
use mathlib.Core.Bool.{Bool, true, cond}
use mathlib.Core.List.{List}
use Prim.Native.Nat.{ℕ, ◌*◌, ◌≤◌}
use native.Mathlib.Omega.{arith}
use lib.ListN.{length, get_or}
use borrow.Author.Tests.{le-leb}
use Rattle.celltable.specs.Ranges.{head_range}
use Rattle.celltable.proofs.Ranges.{head_long, head_cells, head_entries}
use Rattle.tables.specs.Tables.{cells_used, entries_used}

pub used_is : (head : List ℕ) → 2 ≤ length head → cells_used head ≡ get_or head 0 0
used_is head h = ap (λ (b : Bool). cond b (get_or head 0 0) 0) (le-leb 2 (length head) h)

pub head_passes : (head t : List ℕ) (entries : ℕ) → head_range head (length t) entries ≡ true
    → (2 ≤ length head) × (cells_used head ≤ 4096) × (cells_used head * 8 ≤ length t) × (entries_used head ≤ 65536)
head_passes head t entries h =
    let c = head_cells head t entries h in
    let e = head_entries head t entries h in
    let u = used_is head (head_long head t entries h) in
    (head_long head t entries h, omega (arith, c.few, u), omega (arith, c.within, u), e.0)
