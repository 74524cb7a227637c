-- Every starred spot of the table is right: one test, computed from the definitions.
use lib.Dec.{T}
use Rattle.curves.specs.Lines.{product, line_counts}
use Rattle.geometry.specs.Edges.{counts, sign}
use Rattle.geometry.specs.Windings.{adds, sum_of}
use Rattle.geometry.specs.Keys.{spread, key_of}
use Rattle.paint.specs.Sets.{each}
use Rattle.paint.specs.Areas.{material_of}
use Rattle.paint.specs.Colours.{mix_of}
use Rattle.spots.specs.Starred.{all_right, table}

pub checked : T (all_right table)
unfolding product line_counts counts sign adds sum_of spread key_of each material_of mix_of
checked = tt
