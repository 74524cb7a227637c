-- Document 01, "The list of demand 3": ""with no tree" is by the same section over the whole drawing, pixels and logs too."; document 02, Item 1:
-- "Pixels are compared with this rule alone."
use Rattle.std.specs.Prelude.{Bool, ℕ}
use Rattle.paint.specs.Sets.{set_of}
use Rattle.paint.specs.Areas.{material_of}
use Rattle.paint.specs.Colours.{sums_of, colour_of}
use Rattle.paint.specs.Pixels.{pixel_of}
use Rattle.paint.specs.declared.area.Paint.{Paint}
use Rattle.paint.specs.declared.colour.Channels.{Channels}
use Rattle.paint.specs.declared.colour.Colour.{Colour}
use Rattle.cells.specs.Cells.{Position, at, Cell, left, low, side}
use Rattle.cells.specs.Drawings.{Drawing, fields_of, shown_at}
use Rattle.position.specs.declared.Spot.{Spot}

module _ (D : Drawing) where
  -- alpha, colour and material of area n
  abbrev pub paint_of : ℕ → Paint
  paint_of n =
      record {
        alpha = (fields_of D n).alpha;
        red = (fields_of D n).red;
        green = (fields_of D n).green;
        blue = (fields_of D n).blue;
        material = (fields_of D n).material;
      }

  -- "The shown set is the passing paint areas that every group around them shows, front to back, up to and including the first with alpha 255."
  abbrev pub set_shown : Position → ℕ
  set_shown p = set_of (shown_at D p)

  abbrev pub material_shown : Position → ℕ
  material_shown p = material_of paint_of (set_shown p)

  abbrev pub colour_shown : Position → Colour
  colour_shown p = colour_of paint_of (set_shown p)

  -- the answer at a position of a leaf on the square c, which is uniform or not; document 02: "Positions hand it on, together with the leaf's low corner and
  -- side."
  abbrev pub spot_shown : Position → Cell → (uniform : Bool) → Spot
  spot_shown p c u =
      record {
        set = set_shown p;
        material = material_shown p;
        red = (colour_shown p).red;
        green = (colour_shown p).green;
        blue = (colour_shown p).blue;
        uniform = u;
        x = left c;
        y = low c;
        side = side c;
      }

  -- document 02: "the unrounded channel sums (before + 127 and the division)"
  abbrev pub sums_shown : Position → Channels
  sums_shown p = sums_of paint_of (set_shown p)

  -- document 02: "a pixel's channel is the sum over its sixteen samples of the unrounded channel sums (before + 127 and the division), plus
  -- 2,040, divided by 4,080 and rounded down"
  abbrev pub pixel_shown : (row pixel : ℕ) → Colour
  pixel_shown row pixel = pixel_of (λ x y. sums_shown (at x y)) row pixel
