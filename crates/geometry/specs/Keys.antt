-- Document 01, "Cells": the key of a position.
use Rattle.std.specs.Prelude.{ℕ, zero, suc, ◌+◌, ◌*◌, ◌/◌, ◌%◌}

-- "a byte with its bits spread to even places": the n low bits of x, bit i at place 2i
unfoldable pub spread : (n x : ℕ) → ℕ
spread zero x = 0
spread (suc n) x = x % 2 + 4 * spread n (x / 2)

-- "The key of (x, y): bit i of x at 2i, bit i of y at 2i + 1"
unfoldable pub key_of : (x y : ℕ) → ℕ
key_of x y = spread 16 x + 2 * spread 16 y
