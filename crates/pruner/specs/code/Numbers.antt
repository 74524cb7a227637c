-- The one-pass pruner (`Rattle.pruning.specs.code.Counters`) as the numbers that the code holds. `Rattle.pruner.proofs.Laws` says that it is the same.
use Rattle.std.specs.Prelude.{Bool, cond, List, [], ◌∷◌, ℕ, zero, suc, eqb, get_or, Option, Some, None}
use Rattle.pruning.specs.Sides.{Kind, paint, clip}
use Rattle.pruning.specs.Items as Items
use Rattle.pruning.specs.Items.{fails, passes, other}
use Rattle.pruning.specs.code.Pruner as Pruning
use Rattle.pruning.specs.code.Pruner.{Place, left, right, through, dead, Skip, going, shut}
use Rattle.pruning.specs.code.Counters.{Count, ct}
use Rattle.pruner.specs.declared.ItemClass.{ItemClass}
use Rattle.pruner.specs.declared.ItemClass.TheVariants.{Fails, Passes, Neither}
use Rattle.pruner.specs.declared.Frame.{Frame}
use Rattle.pruner.specs.declared.Mode.{Mode}
use Rattle.pruner.specs.declared.Mode.TheVariants.{Left, Right, Through, Dead}
use Rattle.pruner.specs.declared.Pruner.{Pruner}

abbrev pub mode_of : Mode → Place
mode_of Left = left
mode_of Right = right
mode_of Through = through
mode_of Dead = dead

-- none for a side that is read on, m for one that is skipped with m groups opened on the way
abbrev pub skip_of : Option ℕ → Skip
skip_of None = going
skip_of (Some m) = shut m

abbrev pub frame_of : Frame → Pruning.Frame
frame_of f = Pruning.frame (mode_of f.mode) f.start f.outer

abbrev pub no_frame : Frame
no_frame = record { mode = Left; start = 0; outer = 0 }

-- the first d frames, the innermost first
abbrev pub frames_of : List Frame → ℕ → List Pruning.Frame
frames_of l zero = []
frames_of l (suc d) = frame_of (get_or l d no_frame) ∷ frames_of l d

unfoldable pub counted : Pruner → Count
counted p = ct p.weight p.base (skip_of p.skip) (frames_of p.frames p.depth)

-- ---- the numbers of a count

abbrev pub base_of : Count → ℕ
base_of (ct n b w fs) = b

abbrev pub skip_number : Skip → ℕ
skip_number going = 0
skip_number (shut m) = suc m

abbrev pub skip_in : Count → ℕ
skip_in (ct n b w fs) = skip_number w

abbrev pub class_of : ItemClass → Items.Class
class_of Fails = fails
class_of Passes = passes
class_of Neither = other

-- the class that a number says: 0 fails, 1 passes, any other is neither
abbrev pub numbered_class : ℕ → Items.Class
numbered_class n = cond (eqb n 0) fails (cond (eqb n 1) passes other)

abbrev pub kind_of : Bool → Kind
kind_of is_paint = cond is_paint paint clip
