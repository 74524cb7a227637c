-- What pruning knows of an item.
use Rattle.std.specs.Prelude.{◌≡◌, Bool, true, false}
use Rattle.pruning.specs.Sides.{Kind, clip}

-- "F0, C0, F1, C1 are areas with no line or shortcut, whose start number fails or passes; F1 also has alpha 255": fails (F0, C0), passes
-- (F1, C1), or neither
pub data Class : Type 0 where
  fails passes other : Class

-- the items: their class on a side of each kind, and the bare entry "passes", "which is a C1 in every rule"
pub record Items : Type 1 where
  pub Item : Type 0
  pub class : Kind → Item → Class
  pub bare : Item
  pub bare_passes : class clip bare ≡ passes

abbrev pub is_passes : Class → Bool
is_passes fails = false
is_passes passes = true
is_passes other = false
