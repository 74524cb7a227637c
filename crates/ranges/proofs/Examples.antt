-- A small drawing that has what an accepted drawing has, and tables that hold it: what the laws ask can be met.
use mathlib.Core.Path.{◌≡◌, refl}
use mathlib.Core.Bool.{true}
use mathlib.Core.List.{List, [], ◌∷◌, map}
use Prim.Native.Nat.{ℕ, zero, suc, ◌≤◌, ◌<◌}
use native.Mathlib.Omega.{arith}
use lib.ListN.{length, get_or}
use Rattle.curves.specs.Curves.{curve_fits}
use Rattle.geometry.specs.Windings.{contour, straight, bent}
use Rattle.records.specs.declared.Record.TheVariants.{Area}
use Rattle.std.specs.Prelude.{Ok}
use Rattle.records.specs.Record.{area_range, corner_range}
use Rattle.drawing.specs.Tables.{area_row}
use Rattle.pruning.specs.Sides.{paint, end, leaf, group, flat}
use Rattle.stream.specs.declared.Bounds.{Bounds}
use Rattle.stream.specs.Grammar.{env, bounds, accepts}
use Rattle.cells.specs.Cells.{root}
use Rattle.cells.specs.Drawings.{Drawing, fields_of}
use Rattle.cells.specs.Streams.{source, made}
use Rattle.cells.specs.Elements.{elements_of}
use Rattle.evaluate.specs.Words.{words_of}
use Rattle.ranges.specs.code.Valid.{CornersBelow, CurvesIn, lines, Valid}
use Rattle.ranges.specs.Held.{Held}
use Rattle.ranges.proofs.Streams.{made_passes}

-- two triangles, the second with a curve and shown where the first passes: (clip | paint)
abbrev clipped : Drawing
clipped =
    record {
      fields = record { role = 1; rule = 0; alpha = 0; red = 0; green = 0; blue = 0; material = 0 }
          ∷ record { role = 0; rule = 1; alpha = 255; red = 9; green = 8; blue = 7; material = 3 }
          ∷ [];
      xs = 0 ∷ 8 ∷ 0 ∷ 65536 ∷ 65536 ∷ 65530 ∷ 9 ∷ [];
      ys = 0 ∷ 0 ∷ 8 ∷ 0 ∷ 4 ∷ 8 ∷ 65536 ∷ [];
      contours = (contour 0 (straight ∷ straight ∷ []) ∷ []) ∷ (contour 3 (bent ∷ straight ∷ []) ∷ []) ∷ [];
      plan = group (leaf 0 end) (leaf 1 end) end;
    }

fields_in_law : (n : ℕ) → n < 2 → area_range (fields_of clipped n) ≡ true
unfolding area_range
fields_in_law zero l = refl
fields_in_law (suc zero) l = refl
fields_in_law (suc (suc n)) l = absurd (omega arith)

coordinates_in : (n : ℕ) → n < 7 → corner_range (get_or clipped.xs n 0) (get_or clipped.ys n 0) ≡ true
coordinates_in zero l = refl
coordinates_in (suc zero) l = refl
coordinates_in (suc (suc zero)) l = refl
coordinates_in (suc (suc (suc zero))) l = refl
coordinates_in (suc (suc (suc (suc zero)))) l = refl
coordinates_in (suc (suc (suc (suc (suc zero))))) l = refl
coordinates_in (suc (suc (suc (suc (suc (suc zero)))))) l = refl
coordinates_in (suc (suc (suc (suc (suc (suc (suc n))))))) l = absurd (omega arith)

corners_in_law : (n : ℕ) → CornersBelow 7 (lines clipped n)
corners_in_law zero = ((omega arith, omega arith), ((omega arith, omega arith), ((omega arith, omega arith), tt)))
corners_in_law (suc zero) = (omega arith, ((omega arith, omega arith), ((omega arith, omega arith), tt)))
corners_in_law (suc (suc n)) = tt

curves_in : (n : ℕ) → CurvesIn clipped.xs clipped.ys (lines clipped n)
unfolding curve_fits
curves_in zero = (tt, (tt, (tt, tt)))
curves_in (suc zero) = (refl, (tt, (tt, tt)))
curves_in (suc (suc n)) = tt

few_in : (n : ℕ) → length (lines clipped n) ≤ 2048
few_in zero = omega arith
few_in (suc zero) = omega arith
few_in (suc (suc n)) = omega arith

pub clipped_valid : Valid clipped
clipped_valid =
    record {
      roles = ((refl, tt), (refl, tt), tt);
      numbers = ((omega arith, tt), (omega arith, tt), tt);
      fields = fields_in_law;
      pairs = refl;
      coordinates = coordinates_in;
      corners = corners_in_law;
      curves = curves_in;
      few_records = omega arith;
      few_areas = omega arith;
      few_fields = omega arith;
      few_lines = omega arith;
      few_each = few_in;
      few_corners = omega arith;
      few_groups = omega arith;
    }

-- eight words an area, and one word more in each table than is in use
abbrev areas : List ℕ
areas = 1 ∷ 0 ∷ 0 ∷ 0 ∷ 0 ∷ 0 ∷ 0 ∷ 0 ∷ 0 ∷ 1 ∷ 255 ∷ 9 ∷ 8 ∷ 7 ∷ 3 ∷ 0 ∷ 5 ∷ []

abbrev xs : List ℕ
xs = 0 ∷ 8 ∷ 0 ∷ 65536 ∷ 65536 ∷ 65530 ∷ 9 ∷ 7 ∷ []

abbrev ys : List ℕ
ys = 0 ∷ 0 ∷ 8 ∷ 0 ∷ 4 ∷ 8 ∷ 65536 ∷ 7 ∷ []

abbrev in_use : Bounds
in_use = bounds 2 7 0 65536

rows_in : (n : ℕ) → n < 2 → area_row areas 2 n ≡ Ok (Area (fields_of clipped n))
unfolding area_row area_range
rows_in zero l = refl
rows_in (suc zero) l = refl
rows_in (suc (suc n)) l = absurd (omega arith)

pub clipped_held : Held areas xs ys in_use clipped
clipped_held =
    record {
      ready = record { areas = omega arith; xs = omega arith; ys = omega arith };
      areas_used = refl;
      corners_used = refl;
      fields_same = refl;
      xs_same = refl;
      ys_same = refl;
      rows = rows_in;
    }

-- so the stream of cell 0 passes the check
pub clipped_passes : accepts (env areas xs ys in_use) (map words_of (elements_of (flat paint (made clipped root (source clipped))))) ≡ true
clipped_passes = made_passes clipped clipped_valid areas xs ys in_use clipped_held root refl refl
