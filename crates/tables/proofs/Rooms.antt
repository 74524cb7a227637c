-- What a table of so many words holds.
use mathlib.Core.Path.{◌≡◌}
use mathlib.Core.Bool.{true, ◌&&◌}
use Prim.Native.Nat.{ℕ, ◌*◌, ◌/◌, ◌≤◌}
use native.Mathlib.Omega.{arith}
use lib.Dec.{leb}
use borrow.Author.Tests.{leb-true}
use Rattle.laws.proofs.Booleans.{and_left, and_right}
use Rattle.celltable.specs.Ranges.{cells_held, entries_held}

pub cells_room : (n len : ℕ) → cells_held n len ≡ true → (n * 8 ≤ len) × (n ≤ 4096)
cells_room n len h =
    let q = and_right (leb 1 n) (leb n (len / 8) && leb n 4096) h in
    (omega (arith, leb-true n (len / 8) (and_left (leb n (len / 8)) (leb n 4096) q)), leb-true n 4096 (and_right (leb n (len / 8)) (leb n 4096) q))

pub entries_room : (n len : ℕ) → entries_held n len ≡ true → (n * 4 ≤ len) × (n ≤ 65536)
entries_room n len h =
    (omega (arith, leb-true n (len / 4) (and_left (leb n (len / 4)) (leb n 65536) h)), leb-true n 65536 (and_right (leb n (len / 4)) (leb n 65536) h))
