use Rattle.std.proofs.Common.{◌≡◌, ℕ, true, false, Option, Some, None, Ok, ok_or, MatchOption, subst}
use Rattle.std.proofs.lemmas.Result.{err_from_is_err_and}
use Rattle.curves.specs.declared.Position.{Position}
use Rattle.refusals.specs.declared.Refusal.{Refusal}
use Rattle.find_leaf.specs.Leaf.{position_range}
use Rattle.tables.specs.Tables.{tree_of}
use Rattle.position.proofs.Known.{readable, position_tested, spot_known, spot_broken}
use Rattle.position.proofs.position.Goals as goal

in_range : (x y : ℕ) (o : Option Position) (e : Refusal) (at : Position) → Ok at ≡ ok_or o e
    → MatchOption o (position_range x y ≡ false) (λ p. (position_range x y ≡ true) × ((p.x ≡ x) × (p.y ≡ y)))
    → (position_range x y ≡ true) × ((at.x ≡ x) × (at.y ≡ y))
in_range x y None e at q h = absurd cc
in_range x y (Some p) e at q h =
    let z : p ≡ at = cc in
    subst (λ (k : Position). (position_range x y ≡ true) × ((k.x ≡ x) × (k.y ≡ y))) z h

pub returns-in_err-shown : goal.returns-in_err-shown
returns-in_err-shown c =
    let a = in_range c.args.x c.args.y c.position_at.result _ c.in_ok-at.at c.in_ok-at.ensures.value c.position_at.ensures in
    let p = err_from_is_err_and c.from_residual-in_err-shown.result c.from_residual-in_err-shown.ensures.1 in
    let e = spot_broken (tree_of c.args.tree) c.in_ok-at.at.x c.in_ok-at.at.y _ c.in_err-shown.ensures.answer in
    record {
      answer = rw (p.1, p.2) (position_tested (tree_of c.args.tree) c.args.x c.args.y _ c.if-tree.false a.0 (rw (a.1.0, a.1.1) at e));
    }

pub set_for-set-requires : goal.set_for-set-requires
set_for-set-requires c = readable (tree_of c.args.tree) c.in_ok-at.at.x c.in_ok-at.at.y _ c.in_ok-shown.ensures.answer

pub returns : goal.returns
returns c =
    let a = in_range c.args.x c.args.y c.position_at.result _ c.in_ok-at.at c.in_ok-at.ensures.value c.position_at.ensures in
    let e = spot_known (tree_of c.args.tree) c.in_ok-at.at.x c.in_ok-at.at.y _ _ c.in_ok-shown.ensures.answer c.set_for-set.ensures.answer in
    record {
      answer = position_tested (tree_of c.args.tree) c.args.x c.args.y _ c.if-tree.false a.0
          (rw (c.spot_of-spot.ensures.answer, c.is_some.ensures) (rw (a.1.0, a.1.1) at e));
    }
