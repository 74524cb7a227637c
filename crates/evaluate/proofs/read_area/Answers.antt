use mathlib.Core.Path.{refl, ap, ◌∙◌}
use Prim.Native.Nat.{◌+◌, ◌-◌}
use native.Mathlib.Omega.{arith}
use lib.IntN.{◌+ℤ◌}
use Rattle.laws.proofs.Signed.{read_back}
use Rattle.stream.specs.Table.{words_from}
use Rattle.stream.specs.Grammar.{env_of}
use Rattle.evaluate.specs.code.Numbers.{segments_sum}
use Rattle.evaluate.proofs.Laws.{area_below}
use Rattle.evaluate.proofs.Loop.{ranged_name, area_onward, idle_onward}
use Rattle.evaluate.proofs.read_area.Goals as goal

pub returns-then-m-ne-P : goal.returns-then-m-ne-P
returns-then-m-ne-P c =
    let a = c.args in
    let v = a.context in
    record {
      onward = idle_onward v.areas.now v.xs.now v.ys.now a.at.x a.at.y a.stream.entries.now a.i _ (env_of v) c.requires.ranged a.m a.w
          c.requires.w_value.0 _ c.requires.w_value.1 c.if-m-ne-P.true refl refl;
    }

pub after_area-requires-clause-n_bound : goal.after_area-requires-clause-n_bound
after_area-requires-clause-n_bound c =
    let a = c.args in
    let h = ranged_name _ a.i _ (env_of a.context) a.w c.requires.ranged c.requires.w_value.0 c.requires.w_value.1 in
    omega (arith, area_below a.context.areas.now a.context.bounds.areas a.w.p h.0, c.requires.ranged.few_areas)

pub after_area-requires-clause-n_in_bounds : goal.after_area-requires-clause-n_in_bounds
after_area-requires-clause-n_in_bounds c =
    let a = c.args in
    let h = ranged_name _ a.i _ (env_of a.context) a.w c.requires.ranged c.requires.w_value.0 c.requires.w_value.1 in
    omega (arith, area_below a.context.areas.now a.context.bounds.areas a.w.p h.0, c.requires.ranged.ready.areas)

pub returns : goal.returns
returns c =
    let a = c.args in
    let v = a.context in
    let t = a.stream.entries.now in
    let e = a.stream.first + a.stream.count in
    let w = c.winding_from-winding in
    record {
      onward = area_onward v.areas.now v.xs.now v.ys.now a.at.x a.at.y t a.i e (env_of v) c.requires.ranged a.m a.w c.requires.w_value.0 _ _
          c.requires.w_value.1
          c.after_area.ensures.answer.0 c.after_area.ensures.answer.1
          (read_back _ w.type_inv.1.1.0.1
          ∙ (w.ensures.sum
          ∙ ap (λ u. u +ℤ segments_sum v.xs.now v.ys.now a.at.x a.at.y (words_from t (a.i + 1) (e - (a.i + 1))))
          (read_back _ c.start_of.type_inv ∙ c.start_of.ensures.answer)))
          w.ensures.next;
    }
