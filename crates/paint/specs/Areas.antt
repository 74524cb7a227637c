-- Document 01, "Winding and meaning": the paint of each area, and the material.
use Rattle.std.specs.Prelude.{◌≡◌, true, cond, List, ℕ, zero, suc, ◌+◌, ◌*◌, ◌≤◌, length, get_or}
use Rattle.paint.specs.Sets.{has}
use Rattle.paint.specs.declared.area.Paint.{Paint}

-- the paint of area n in the table of areas: 8 words an area, of which words 2 to 6 are alpha, red, green, blue and material
abbrev pub paint_at : List ℕ → ℕ → Paint
paint_at areas n =
    record {
      alpha = get_or areas (n * 8 + 2) 0;
      red = get_or areas (n * 8 + 3) 0;
      green = get_or areas (n * 8 + 4) 0;
      blue = get_or areas (n * 8 + 5) 0;
      material = get_or areas (n * 8 + 6) 0;
    }

-- "The material is the material of the lowest numbered area in that set, or 0 if it is empty."
abbrev pub material_from : (ℕ → Paint) → (set i n : ℕ) → ℕ
material_from paint set i zero = 0
material_from paint set i (suc n) = cond (has set i) (paint i).material (material_from paint set (suc i) n)

unfoldable pub material_of : (ℕ → Paint) → (set : ℕ) → ℕ
material_of paint set = material_from paint set 0 64

-- alpha and channels are bytes
pub record PaintIn (p : Paint) : Type 0 where
  pub alpha_byte : p.alpha ≤ 255
  pub red_byte : p.red ≤ 255
  pub green_byte : p.green ≤ 255
  pub blue_byte : p.blue ≤ 255

-- what the code asks of a table and a set: each area of the set has a row, in range
pub record Painted (areas : List ℕ) (set : ℕ) : Type 0 where
  pub row : (n : ℕ) → has set n ≡ true → n * 8 + 8 ≤ length areas
  pub bytes : (n : ℕ) → has set n ≡ true → PaintIn (paint_at areas n)
