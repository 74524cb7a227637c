-- The level of a square's side, and the number of words that are made.
use mathlib.Core.Path.{◌≡◌, refl}
use mathlib.Core.List.{List}
use Prim.Native.Nat.{ℕ, zero, suc, ◌*◌, ◌^◌, ◌/◌, ◌≤◌}
use native.Mathlib.Omega.{arith}
use native.Mathlib.Nat.{one-le-pow, pow-suc}
use lib.ListN.{length, length-map}
use borrow.Author.Tests.{lt-leb}
use Rattle.cells.specs.Cells.{Cell}
use Rattle.cells.specs.Drawings.{Drawing}
use Rattle.stream.specs.declared.Words.{Words}
use Rattle.evaluate.specs.Words.{words_of}
use Rattle.making.specs.Made.{elements_made, words_made}
use Rattle.making.specs.code.Numbers.{level_from}

-- the level of a power of two is its exponent
pub level_from_law : (n k : ℕ) → k ≤ n → level_from n (2 ^ k) ≡ k
level_from_law zero zero h = refl
level_from_law zero (suc k) h = absurd (omega arith)
level_from_law (suc n) zero h = refl
level_from_law (suc n) (suc k) h =
    let p : 2 ^ suc k ≡ 2 ^ k * 2 = pow-suc 2 k in
    let q : 2 ^ suc k / 2 ≡ 2 ^ k = omega arith in
    rw (lt-leb (2 ^ suc k) 1 (omega (arith, one-le-pow k 2 (omega arith))), q, level_from_law n k (omega arith))

-- an entry for each element
pub made_length : (D : Drawing) (c : Cell) (ws : List Words) → length (words_made D c ws) ≡ length (elements_made D c ws)
unfolding words_made
made_length D c ws = length-map {B = Words} (elements_made D c ws) words_of
