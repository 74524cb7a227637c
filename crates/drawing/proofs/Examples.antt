-- Small files, computed.
use Rattle.std.specs.Prelude.{Ok, Err}
use Rattle.refusals.specs.Refusals.{at_place}
use mathlib.Core.Path.{◌≡◌, refl}
use mathlib.Core.List.{List, [], ◌∷◌}
use Rattle.refusals.specs.declared.Refusal.TheVariants.{Length, Field, Unfit, Short, Limit, Curve}
use Rattle.curves.specs.Curves.{curve_fits}
use Rattle.records.specs.declared.Record.{Record}
use Rattle.records.specs.declared.Record.TheVariants.{Area, First, Next, Open, Bar, Close, Control}
use Rattle.records.specs.Record.{area_range, corner_of, delimiter_of}
use Rattle.records.specs.Bytes.{decoded_raw, unnamed_zero, named, fields_of}
use Rattle.grammar.specs.Grammar.{course, checked, counts}
use Rattle.read.specs.Words.{joined, file_of}
use Rattle.read.specs.Reading.{decoded_from, verdict_of}

paint : Record
paint = Area (record { role = 0; rule = 0; alpha = 255; red = 1; green = 2; blue = 3; material = 500 })

clip : Record
clip = Area (record { role = 1; rule = 1; alpha = 0; red = 0; green = 0; blue = 0; material = 0 })

-- 8 opening brackets in front
deep : List Record → List Record
deep rs = Open ∷ Open ∷ Open ∷ Open ∷ Open ∷ Open ∷ Open ∷ Open ∷ rs

module _ where
  empty : verdict_of [] ≡ Ok (counts 0 0 0)
  unfolding verdict_of decoded_from course checked
  empty = refl

  triangle : verdict_of (file_of (paint ∷ First 0 0 ∷ Next 10 0 ∷ Next 10 65536 ∷ [])) ≡ Ok (counts 4 1 3)
  unfolding paint verdict_of decoded_from course checked joined decoded_raw unnamed_zero named fields_of area_range corner_of delimiter_of
  triangle = refl

  group : verdict_of (file_of (Open ∷ clip ∷ Bar ∷ paint ∷ Close ∷ [])) ≡ Ok (counts 5 2 0)
  unfolding paint clip verdict_of decoded_from course checked joined decoded_raw unnamed_zero named fields_of area_range corner_of delimiter_of
  group = refl

  short_end : verdict_of (file_of (paint ∷ First 0 0 ∷ Next 10 0 ∷ [])) ≡ Err (at_place Short 3)
  unfolding paint verdict_of decoded_from course checked joined decoded_raw unnamed_zero named fields_of area_range corner_of delimiter_of
  short_end = refl

  -- a first corner straight after a first corner fits, and then ends a contour of one
  twice : verdict_of (file_of (paint ∷ First 0 0 ∷ First 10 0 ∷ [])) ≡ Err (at_place Short 2)
  unfolding paint verdict_of decoded_from course checked joined decoded_raw unnamed_zero named fields_of area_range corner_of delimiter_of
  twice = refl

  alone : verdict_of (file_of (First 0 0 ∷ [])) ≡ Err (at_place Unfit 0)
  unfolding verdict_of decoded_from course checked joined decoded_raw unnamed_zero named fields_of area_range corner_of delimiter_of
  alone = refl

  -- open at the end, and short: 4 before 5
  unclosed : verdict_of (file_of (Open ∷ clip ∷ First 0 0 ∷ [])) ≡ Err (at_place Unfit 3)
  unfolding clip verdict_of decoded_from course checked joined decoded_raw unnamed_zero named fields_of area_range corner_of delimiter_of
  unclosed = refl

  ninth : verdict_of (file_of (deep (Open ∷ []))) ≡ Err (at_place Limit 8)
  unfolding deep verdict_of decoded_from course checked joined decoded_raw unnamed_zero named fields_of area_range corner_of delimiter_of
  ninth = refl

  far : verdict_of (file_of (paint ∷ First 0 65537 ∷ [])) ≡ Err (at_place Field 1)
  unfolding paint verdict_of decoded_from course checked joined decoded_raw unnamed_zero named fields_of area_range corner_of delimiter_of
  far = refl

  odd : verdict_of (0 ∷ []) ≡ Err (at_place Length 0)
  unfolding verdict_of
  odd = refl

  -- a berm: a curve and two straight edges; the control corner is one of the four corners
  curved : verdict_of (file_of (paint ∷ First 0 0 ∷ Control 8 0 ∷ Next 8 8 ∷ Next 0 8 ∷ [])) ≡ Ok (counts 5 1 4)
  unfolding paint verdict_of decoded_from course checked joined decoded_raw unnamed_zero named fields_of area_range corner_of delimiter_of curve_fits
  curved = refl

  -- y goes up and down again: 13 at the record of kind 3
  turning : verdict_of (file_of (paint ∷ First 0 0 ∷ Control 4 8 ∷ Next 8 0 ∷ [])) ≡ Err (at_place Curve 3)
  unfolding paint verdict_of decoded_from course checked joined decoded_raw unnamed_zero named fields_of area_range corner_of delimiter_of curve_fits
  turning = refl

  -- a span of 4,096 is allowed, one of 4,097 is not
  spanning : verdict_of (file_of (paint ∷ First 0 0 ∷ Control 8 0 ∷ Next 4096 8 ∷ Next 0 8 ∷ [])) ≡ Ok (counts 5 1 4)
  unfolding paint verdict_of decoded_from course checked joined decoded_raw unnamed_zero named fields_of area_range corner_of delimiter_of curve_fits
  spanning = refl

  too_long : verdict_of (file_of (paint ∷ First 0 0 ∷ Control 8 0 ∷ Next 4097 8 ∷ Next 0 8 ∷ [])) ≡ Err (at_place Curve 3)
  unfolding paint verdict_of decoded_from course checked joined decoded_raw unnamed_zero named fields_of area_range corner_of delimiter_of curve_fits
  too_long = refl

  -- a control corner does not count toward the three of a contour
  two_and_control : verdict_of (file_of (paint ∷ First 0 0 ∷ Control 8 0 ∷ Next 8 8 ∷ [])) ≡ Err (at_place Short 4)
  unfolding paint verdict_of decoded_from course checked joined decoded_raw unnamed_zero named fields_of area_range corner_of delimiter_of curve_fits
  two_and_control = refl

  after_an_area : verdict_of (file_of (paint ∷ Control 8 0 ∷ Next 8 8 ∷ [])) ≡ Err (at_place Unfit 1)
  unfolding paint verdict_of decoded_from course checked joined decoded_raw unnamed_zero named fields_of area_range corner_of delimiter_of curve_fits
  after_an_area = refl

  -- 4 at the record that follows, or at the end
  two_controls : verdict_of (file_of (paint ∷ First 0 0 ∷ Control 8 0 ∷ Control 8 0 ∷ [])) ≡ Err (at_place Unfit 3)
  unfolding paint verdict_of decoded_from course checked joined decoded_raw unnamed_zero named fields_of area_range corner_of delimiter_of curve_fits
  two_controls = refl

  control_last : verdict_of (file_of (paint ∷ First 0 0 ∷ Control 8 0 ∷ [])) ≡ Err (at_place Unfit 3)
  unfolding paint verdict_of decoded_from course checked joined decoded_raw unnamed_zero named fields_of area_range corner_of delimiter_of curve_fits
  control_last = refl
