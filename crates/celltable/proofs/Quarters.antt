-- The numbers of a quarter are those of document 01's child, and the places of the quarters are 0 to 3 in its order.
use Prim.Native.Nat.{ℕ, zero, suc, ◌/◌, ◌%◌, ◌^◌, ◌<◌}
use mathlib.Core.Path.{◌≡◌, refl, sym, ap, ◌∙◌}
use mathlib.Core.Bool.{Bool, true}
use native.Mathlib.Omega.{arith}
use lib.Dec.{eqb, leb}
use Rattle.geometry.specs.declared.class.Square.{Square}
use Rattle.cells.specs.Cells.{Quarter, low_low, high_low, low_high, high_high, cell, square_of, child, quarter_by}
use Rattle.celltable.specs.declared.CellWords.{CellWords}
use Rattle.celltable.specs.Ranges.{square_range, half_at, level_of, cell_of}
use Rattle.celltable.specs.Descent.{place_of, quarter_at}
use Rattle.celltable.proofs.Ranges.{square_fits_law}
use Rattle.celltable.proofs.Meaning.{half_pow, part_x, part_y}

abbrev quarter_n : CellWords → (a b : Bool) → Square
quarter_n w a b = record { x = half_at w.x (w.side / 2) a; y = half_at w.y (w.side / 2) b; side = w.side / 2 }

at_level : (w : CellWords) (a b : Bool) (k : ℕ) → 2 ^ k ≡ w.side → 1 < w.side → quarter_n w a b ≡ square_of (child (cell w.x w.y k) (quarter_by a b))
at_level w a b zero e h = absurd (omega arith)
at_level w a b (suc k) e h =
    rw (sym (ap (λ (s : ℕ). s / 2) e) ∙ half_pow k)
    (λ d. record { x = part_x w.x (2 ^ k) a b d; y = part_y w.y (2 ^ k) a b d; side = 2 ^ k })

pub quarter_is : (w : CellWords) (q : ℕ) → square_range w ≡ true → 1 < w.side → quarter_n w (eqb (q % 2) 1) (leb 2 q)
    ≡ square_of (child (cell_of w) (quarter_at q))
quarter_is w q h l = at_level w (eqb (q % 2) 1) (leb 2 q) (level_of w.side) (square_fits_law w h).power l

pub place_quarter : (q : Quarter) → quarter_at (place_of q) ≡ q
place_quarter low_low = refl
place_quarter high_low = refl
place_quarter low_high = refl
place_quarter high_high = refl
