-- `curves::curve::implicit_form` meets its contract: each operation reads back what it means, and fits.
use mathlib.Core.Path.{◌≡◌, ap, ap₂}
use lib.IntN.{pos, ◌-ℤ◌, ◌*ℤ◌}
use mir.Syntax.{w64}
use mir.Val.{to_z, of_z}
use mir.ValLaws.{to_z-of_z}
use Rattle.laws.proofs.Signed.{reads, fits_as}
use Rattle.curves.specs.Curves.{implicit}
use Rattle.curves.proofs.Bounds.{chord_fits, legs_fit, four_fits, form_fits}
use Rattle.curves.proofs.curve.implicit_form.Goals.{Start}
use Rattle.curves.proofs.curve.implicit_form.Goals as goal

chord : (c : Start) → let a = c.args in to_z w64 (of_z w64 a.c) *ℤ to_z w64 (of_z w64 a.c) ≡ a.c *ℤ a.c
chord c = let b = to_z-of_z w64 c.args.c c.ranges.c in ap₂ ◌*ℤ◌ b b

legs : (c : Start) → let a = c.args in to_z w64 (of_z w64 a.f) *ℤ to_z w64 (of_z w64 a.s) ≡ a.f *ℤ a.s
legs c = ap₂ ◌*ℤ◌ (to_z-of_z w64 c.args.f c.ranges.f) (to_z-of_z w64 c.args.s c.ranges.s)

four : (c : Start)
    → let a = c.args in
    pos 4 *ℤ to_z w64 (of_z w64 (to_z w64 (of_z w64 a.f) *ℤ to_z w64 (of_z w64 a.s))) ≡ pos 4 *ℤ (a.f *ℤ a.s)
four c = let a = c.args in
    ap (λ z. pos 4 *ℤ z) (reads (legs c) (legs_fit a.c a.f a.s c.requires.c_bound c.requires.f_bound c.requires.s_bound))

-- the whole form, as the machine subtracts it
whole : (c : Start)
    → let a = c.args in
    to_z w64 (of_z w64 (to_z w64 (of_z w64 a.c) *ℤ to_z w64 (of_z w64 a.c)))
    -ℤ to_z w64 (of_z w64 (pos 4 *ℤ to_z w64 (of_z w64 (to_z w64 (of_z w64 a.f) *ℤ to_z w64 (of_z w64 a.s)))))
    ≡ implicit a.c a.f a.s
whole c = let a = c.args in
    ap₂ ◌-ℤ◌ (reads (chord c) (chord_fits a.c a.f a.s c.requires.c_bound c.requires.f_bound c.requires.s_bound))
    (reads (four c) (four_fits a.c a.f a.s c.requires.c_bound c.requires.f_bound c.requires.s_bound))

pub overflow_sub-result : goal.overflow_sub-result
overflow_sub-result c = let a = c.args in fits_as (whole c) (form_fits a.c a.f a.s c.requires.c_bound c.requires.f_bound c.requires.s_bound)

pub returns : goal.returns
returns c = let a = c.args in record { answer = reads (whole c) (form_fits a.c a.f a.s c.requires.c_bound c.requires.f_bound c.requires.s_bound) }
