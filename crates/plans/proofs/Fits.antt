-- The entries of an accepted list of records fit the grammar of streams: so they are the stream of their tree.
use Prim.Native.Nat.{ℕ, suc}
use mathlib.Core.Path.{◌≡◌, refl}
use mathlib.Core.Bool.{true}
use mathlib.Core.List.{List, [], ◌∷◌}
use Rattle.laws.proofs.Booleans.{and_both}
use Rattle.groups.specs.Sides.{is_paint}
use Rattle.records.specs.declared.Record.{Record}
use Rattle.records.specs.declared.Record.TheVariants.{Area, First, Next, Control, Open, Bar, Close}
use Rattle.grammar.specs.Grammar.{Progress, after}
use Rattle.pruning.specs.Sides.{paint, flat}
use Rattle.pruning.specs.Grammar as Stream
use Rattle.pruning.specs.Grammar.{tree}
use Rattle.pruning.proofs.Grammar.{fits_flat}
use Rattle.ranges.proofs.Groups.{opens, kind_on, Nested, nested_open, nested_right, nested_outer, role_kind, fits_end, fits_open, fits_bar, fits_close}
use Rattle.plans.specs.Plans.{entries_from}
use Rattle.plans.proofs.Runs.{Runs, start, stood}

fits_run : (rs : List Record) (p : Progress) (a : ℕ)
    → Nested p.groups
    → Runs p rs
    → Stream.fits (entries_from a rs) (kind_on p.groups) (opens p.groups) ≡ true
fits_run [] p a n h = fits_end {A = ℕ} [] p.groups (kind_on p.groups) h.1
fits_run (Area f ∷ rs) p a n h =
    and_both _ _ (role_kind (is_paint p.groups) f.role (stood p (Area f) refl h.0.fit)) (fits_run rs (after p (Area f)) (suc a) n h.1)
fits_run (First x y ∷ rs) p a n h = fits_run rs (after p (First x y)) a n h.1
fits_run (Next x y ∷ rs) p a n h = fits_run rs (after p (Next x y)) a n h.1
fits_run (Control x y ∷ rs) p a n h = fits_run rs (after p (Control x y)) a n h.1
fits_run (Open ∷ rs) p a n h = fits_open (entries_from a rs) p.groups (fits_run rs (after p Open) a (nested_open p.groups n) h.1)
fits_run (Bar ∷ rs) p a n h =
    fits_bar (entries_from a rs) p.groups (stood p Bar refl h.0.fit) (fits_run rs (after p Bar) a (nested_right p.groups n) h.1)
fits_run (Close ∷ rs) p a n h =
    fits_close (entries_from a rs) p.groups n (stood p Close refl h.0.fit) (fits_run rs (after p Close) a (nested_outer p.groups n) h.1)

-- the entries are the stream of the plan
pub entries_flat : (rs : List Record) → Runs start rs → entries_from 0 rs ≡ flat paint (tree (entries_from 0 rs))
entries_flat rs h = fits_flat (entries_from 0 rs) (fits_run rs start 0 tt h)
