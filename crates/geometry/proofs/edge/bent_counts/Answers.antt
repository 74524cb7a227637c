use mathlib.Core.Path.{◌∙◌}
use Rattle.curves.proofs.Boxes.{fits_turn}
use Rattle.geometry.proofs.edge.bent_counts.Goals as goal

pub curve_counts-requires-else-from-to-clause-y2_value : goal.curve_counts-requires-else-from-to-clause-y2_value
curve_counts-requires-else-from-to-clause-y2_value c = fits_turn _ _ _ _ _ _ ∙ c.requires.y1_value
