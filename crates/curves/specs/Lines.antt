-- Document 01, "Winding and meaning": where a straight line counts, taken from its lower end.
use Rattle.std.specs.Prelude.{Bool, ◌&&◌, ℕ, leb, ltb, ℤ, pos, ◌+ℤ◌, ◌-ℤ◌, ◌*ℤ◌}
use Rattle.std.specs.Int.Signed.{lt_z}

-- "An edge whose lower end is (a, b) and upper end (c, d) has rows b to d − 1; level edges have none."
abbrev pub is_row : (b d y : ℕ) → Bool
is_row b d y = leb b y && ltb y d

-- "P = (a − x)×(d − b) + (y − b)×(c − a)"
unfoldable pub product : (a b c d x y : ℕ) → ℤ
product a b c d x y = (pos a -ℤ pos x) *ℤ (pos d -ℤ pos b) +ℤ (pos y -ℤ pos b) *ℤ (pos c -ℤ pos a)

-- "It counts at (x, y) if y is one of its rows and the signed product P below is above zero"
unfoldable pub line_counts : (a b c d x y : ℕ) → Bool
line_counts a b c d x y = is_row b d y && lt_z (pos 0) (product a b c d x y)
