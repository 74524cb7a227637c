use mathlib.Core.Path.{ap, ◌∙◌}
use native.Mathlib.Omega.{arith}
use Rattle.paint.proofs.Sets.{lowest_has, material_some, material_none}
use Rattle.paint.proofs.area.material_of.Goals as goal

pub of_area-requires : goal.of_area-requires
of_area-requires c =
    let e = c.in-Some.ensures in
    c.requires.row c.in-Some.n (rw e.1 (lowest_has 64 _ (omega (arith, e))))

pub returns-in-Some : goal.returns-in-Some
returns-in-Some c =
    let e = c.in-Some.ensures in
    record { answer = ap (λ p. p.material) c.of_area.ensures.answer ∙ material_some _ _ _ e.1 e.0 }

pub returns-in-None : goal.returns-in-None
returns-in-None c = record { answer = material_none _ _ c.in-None.ensures }
