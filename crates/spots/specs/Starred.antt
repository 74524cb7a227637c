-- Document 01, "Spots to try": the starred ones, as one table. `Rattle.spots.proofs.Checked`
-- has the theorem that every row is right.
use Rattle.std.specs.Prelude.{Bool, true, false, ◌&&◌, List, [], ◌∷◌, ℕ, eqb, ℤ, pos}
use Rattle.laws.specs.Integers.{eq_z}
use Rattle.geometry.specs.Windings.{contour, straights, winding}
use Rattle.geometry.specs.Keys.{key_of}
use Rattle.paint.specs.Areas.{paint_at, material_of}
use Rattle.paint.specs.Colours.{mix_of, colour_of}
use Rattle.paint.specs.declared.colour.Colour.{Colour}
use Rattle.records.specs.declared.Fields.{Fields}
use Rattle.pruning.specs.Sides.{end, leaf}
use Rattle.cells.specs.Cells.{at}
use Rattle.cells.specs.Drawings.{Drawing, shown_at}

-- "Triangle (0,0) (10,0) (10,10)"
abbrev pub triangle_x : List ℕ
triangle_x = 0 ∷ 10 ∷ 10 ∷ []

abbrev pub triangle_y : List ℕ
triangle_y = 0 ∷ 0 ∷ 10 ∷ []

-- "black, alpha 128"
abbrev pub black : List ℕ
black = 0 ∷ 0 ∷ 128 ∷ 0 ∷ 0 ∷ 0 ∷ 7 ∷ 0 ∷ []

-- "Red (255,0,0), alpha 128, before black, alpha 128"
abbrev pub red_black : List ℕ
red_black = 0 ∷ 0 ∷ 128 ∷ 255 ∷ 0 ∷ 0 ∷ 8 ∷ 0 ∷ 0 ∷ 0 ∷ 128 ∷ 0 ∷ 0 ∷ 0 ∷ 7 ∷ 0 ∷ []

-- "Two areas of alpha 254"
abbrev pub two_areas : List ℕ
two_areas = 0 ∷ 0 ∷ 254 ∷ 1 ∷ 2 ∷ 3 ∷ 4 ∷ 0 ∷ 0 ∷ 0 ∷ 254 ∷ 1 ∷ 2 ∷ 3 ∷ 5 ∷ 0 ∷ []

-- "Two areas of alpha 254 ..., and a third behind": three areas, each with the triangle's contour
abbrev pub translucent : Fields
translucent = record { role = 0; rule = 0; alpha = 254; red = 1; green = 2; blue = 3; material = 4 }

abbrev pub three_areas : Drawing
three_areas =
    record {
      fields = translucent ∷ translucent ∷ translucent ∷ [];
      xs = triangle_x;
      ys = triangle_y;
      contours = (contour 0 (straights 2) ∷ []) ∷ (contour 0 (straights 2) ∷ []) ∷ (contour 0 (straights 2) ∷ []) ∷ [];
      plan = leaf 0 (leaf 1 (leaf 2 end));
    }

-- "Empty drawing"
abbrev pub no_areas : Drawing
no_areas = record { fields = []; xs = []; ys = []; contours = []; plan = end }

pub data Spot : Type 0 where
  -- the triangle's winding at (x, y)
  triangle : (x y : ℕ) (w : ℤ) → Spot
  -- the material and the colour of a set of areas
  shows : (areas : List ℕ) (set material red green blue : ℕ) → Spot
  -- what is left behind a set of areas
  leaves : (areas : List ℕ) (set left : ℕ) → Spot
  -- the shown areas of a drawing at (x, y), front to back
  shown : Drawing → (x y : ℕ) → List ℕ → Spot
  -- the key of (x, y)
  keyed : (x y key : ℕ) → Spot

abbrev pub is_colour : Colour → (red green blue : ℕ) → Bool
is_colour c r g b = eqb c.red r && (eqb c.green g && eqb c.blue b)

abbrev pub is_list : List ℕ → List ℕ → Bool
is_list [] [] = true
is_list [] (b ∷ y) = false
is_list (a ∷ x) [] = false
is_list (a ∷ x) (b ∷ y) = eqb a b && is_list x y

abbrev pub right : Spot → Bool
right (triangle x y w) = eq_z (winding triangle_x triangle_y (contour 0 (straights 2) ∷ []) x y) w
right (shows areas set m r g b) = eqb (material_of (paint_at areas) set) m && is_colour (colour_of (paint_at areas) set) r g b
right (leaves areas set l) = eqb (mix_of (paint_at areas) set).left l
right (shown D x y l) = is_list (shown_at D (at x y)) l
right (keyed x y k) = eqb (key_of x y) k

abbrev pub all_right : List Spot → Bool
all_right [] = true
all_right (s ∷ l) = right s && all_right l

abbrev pub table : List Spot
table =
    triangle 5 5 (pos 1) ∷ triangle 0 0 (pos 1) ∷ triangle 9 9 (pos 1)
    ∷ triangle 4 5 (pos 0) ∷ triangle 10 5 (pos 0) ∷ triangle 5 10 (pos 0)
    ∷ shows black 1 7 127 127 127
    ∷ shows red_black 3 8 191 63 63
    ∷ leaves two_areas 3 0
    ∷ shown three_areas 5 5 (0 ∷ 1 ∷ 2 ∷ [])
    ∷ shown no_areas 5 5 []
    ∷ shows [] 0 0 255 255 255
    ∷ keyed 32768 0 1073741824
    ∷ []
