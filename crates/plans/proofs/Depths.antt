-- The plan of an accepted list of records has at most 8 open groups.
use Prim.Native.Nat.{ℕ, suc, pred, ◌+◌, ◌≤◌, ◌<◌}
use mathlib.Core.Path.{◌≡◌, refl, ◌∙◌, subst}
use mathlib.Core.List.{List, [], ◌∷◌}
use native.Mathlib.Omega.{arith}
use lib.ListN.{length}
use borrow.Author.Tests.{ltb-true}
use Rattle.groups.specs.Sides.{Frame, paint_left, paint_right, clip_left, clip_right, to_right, to_outer}
use Rattle.records.specs.declared.Record.{Record}
use Rattle.records.specs.declared.Record.TheVariants.{Area, First, Next, Control, Open, Bar, Close}
use Rattle.grammar.specs.Grammar.{Progress, after}
use Rattle.pruning.specs.Sides.{Kind, paint, clip, Side, end, leaf, group, Entry, item, push, activate, pop}
use Rattle.pruning.proofs.Sides.{flat_over, flat_is_over}
use Rattle.pruning.specs.Grammar.{tree}
use Rattle.ranges.specs.code.Valid.{depth}
use Rattle.plans.specs.Plans.{entries_from}
use Rattle.plans.proofs.Runs.{Runs, start}
use Rattle.plans.proofs.Fits.{entries_flat}

-- with d groups open before these entries, no `(` opens a ninth
abbrev Eight : {A : Type 0} → ℕ → List (Entry A) → Type 0
Eight d [] = Unit {0}
Eight d (item k a ∷ es) = Eight d es
Eight d (push ∷ es) = (d < 8) × Eight (suc d) es
Eight d (activate ∷ es) = Eight d es
Eight d (pop ∷ es) = Eight (pred d) es

right_length : (fs : List Frame) → length (to_right fs) ≡ length fs
right_length [] = refl
right_length (paint_left ∷ fs) = refl
right_length (paint_right ∷ fs) = refl
right_length (clip_left ∷ fs) = refl
right_length (clip_right ∷ fs) = refl

outer_length : (fs : List Frame) → length (to_outer fs) ≡ pred (length fs)
outer_length [] = refl
outer_length (f ∷ fs) = refl

eight_run : (rs : List Record) (p : Progress) (a : ℕ) → Runs p rs → Eight (length p.groups) (entries_from a rs)
eight_run [] p a h = tt
eight_run (Area f ∷ rs) p a h = eight_run rs (after p (Area f)) (suc a) h.1
eight_run (First x y ∷ rs) p a h = eight_run rs (after p (First x y)) a h.1
eight_run (Next x y ∷ rs) p a h = eight_run rs (after p (Next x y)) a h.1
eight_run (Control x y ∷ rs) p a h = eight_run rs (after p (Control x y)) a h.1
eight_run (Open ∷ rs) p a h = (ltb-true (length p.groups) 8 h.0.room, eight_run rs (after p Open) a h.1)
eight_run (Bar ∷ rs) p a h = subst (λ d. Eight d (entries_from a rs)) (right_length p.groups) (eight_run rs (after p Bar) a h.1)
eight_run (Close ∷ rs) p a h = subst (λ d. Eight d (entries_from a rs)) (outer_length p.groups) (eight_run rs (after p Close) a h.1)

-- a side in front of other entries
eight_side : {A : Type 0} (s : Side A) (k : Kind) (d : ℕ) (z : List (Entry A)) → d ≤ 8 → Eight d (flat_over k s z) → (d + depth s ≤ 8) × Eight d z
eight_side end k d z b h = (omega arith, h)
eight_side (leaf a t) k d z b h = eight_side t k d z b h
eight_side (group l r t) k d z b h =
    let u = eight_side l clip (suc d) (activate ∷ flat_over k r (pop ∷ flat_over k t z)) (omega (arith, h.0)) h.1 in
    let v = eight_side r k (suc d) (pop ∷ flat_over k t z) (omega (arith, h.0)) u.1 in
    let w = eight_side t k d z b v.1 in
    (omega (arith, u.0, v.0, w.0), w.1)

pub plan_depth : (rs : List Record) → Runs start rs → depth (tree (entries_from 0 rs)) ≤ 8
plan_depth rs h =
    let e : Eight 0 (flat_over paint (tree (entries_from 0 rs)) []) =
    subst (Eight 0) (entries_flat rs h ∙ flat_is_over paint (tree (entries_from 0 rs))) (eight_run rs start 0 h) in
    omega (arith, (eight_side (tree (entries_from 0 rs)) paint 0 [] (omega arith) e).0)
