use Rattle.std.proofs.Common.{◌≡◌, Option, Some, None, Ok, Err, ok_or, true, false, refl, sym, ◌∙◌}
use Rattle.std.proofs.lemmas.Result.{err_from_is_err_and}
use native.Mathlib.Omega.{arith}
use borrow.Author.Tests.{eq-eqb, ne_eqb}
use Rattle.refusals.specs.declared.Refusal.{Refusal}
use Rattle.tables.specs.Tables.{tree_of, counts_in}
use Rattle.tables.proofs.Counts.{counts_fit, counts_cells, told}
use Rattle.find_leaf.proofs.Landing.{read_uncounted, read_astray, read_stopped, read_unfit, read_met}
use Rattle.find_leaf.proofs.read_leaf.Goals as goal

none_from_err : {T : Type 0} (o : Option T) (e r : Refusal) → Err r ≡ ok_or o e → (o ≡ None) × (r ≡ e)
none_from_err None e r q = (refl, cc)
none_from_err (Some v) e r q = absurd cc

some_from_ok : {T : Type 0} (o : Option T) (e : Refusal) (v : T) → Ok v ≡ ok_or o e → o ≡ Some v
some_from_ok None e v q = cc
some_from_ok (Some w) e v q = cc

pub returns-then-not-counts_fit : goal.returns-then-not-counts_fit
returns-then-not-counts_fit c =
    let T = tree_of c.args.tree in record {
      answer = read_uncounted T c.args.x c.args.y (told c.counts_fit.result (counts_in T) false c.counts_fit.ensures.answer c.if-not-counts_fit.true);
    }

pub bounds-tree-0 : goal.bounds-tree-0
bounds-tree-0 c =
    let T = tree_of c.args.tree in
    let h = told c.counts_fit.result (counts_in T) true c.counts_fit.ensures.answer c.if-not-counts_fit.false in
    omega (arith, (counts_fit T h).head_long)

pub bounds-tree-1 : goal.bounds-tree-1
bounds-tree-1 c =
    let T = tree_of c.args.tree in
    let h = told c.counts_fit.result (counts_in T) true c.counts_fit.ensures.answer c.if-not-counts_fit.false in
    (counts_fit T h).head_long

pub invariant_of-cells : goal.invariant_of-cells
invariant_of-cells c =
    let T = tree_of c.args.tree in
    let h = told c.counts_fit.result (counts_in T) true c.counts_fit.ensures.answer c.if-not-counts_fit.false in
    record { in_table = (counts_cells T _ h refl).within }

pub descend-requires : goal.descend-requires
descend-requires c =
    let T = tree_of c.args.tree in
    let h = told c.counts_fit.result (counts_in T) true c.counts_fit.ensures.answer c.if-not-counts_fit.false in
    counts_cells T _ h refl

pub check_leaf-requires : goal.check_leaf-requires
check_leaf-requires c =
    let T = tree_of c.args.tree in
    let h = told c.counts_fit.result (counts_in T) true c.counts_fit.ensures.answer c.if-not-counts_fit.false in
    (counts_fit T h).plan_long

pub returns-in_err-leaf : goal.returns-in_err-leaf
returns-in_err-leaf c =
    let T = tree_of c.args.tree in
    let h = told c.counts_fit.result (counts_in T) true c.counts_fit.ensures.answer c.if-not-counts_fit.false in
    let p = err_from_is_err_and c.from_residual.result c.from_residual.ensures.1 in
    let s = none_from_err _ _ _ c.in_err-leaf.ensures.value in
    record {
      answer = rw (p.1, p.2, s.1) (read_astray T c.args.x c.args.y _ _ _ h refl refl c.descend.ensures.answer s.0);
    }

pub returns-in_err-checked : goal.returns-in_err-checked
returns-in_err-checked c =
    let T = tree_of c.args.tree in
    let h = told c.counts_fit.result (counts_in T) true c.counts_fit.ensures.answer c.if-not-counts_fit.false in
    let p = err_from_is_err_and c.from_residual-in_err-checked.result c.from_residual-in_err-checked.ensures.1 in
    let f = some_from_ok _ _ _ c.in_ok-leaf.ensures.value in
    let s = none_from_err _ _ _ c.in_err-checked.ensures.value in
    record {
      answer = rw (p.1, p.2, s.1) (read_stopped T c.args.x c.args.y _ _ _ h
          refl refl c.descend.ensures.answer _ f (sym s.0 ∙ c.check_leaf.ensures.answer));
    }

pub returns-then-checked-leaf : goal.returns-then-checked-leaf
returns-then-checked-leaf c =
    let T = tree_of c.args.tree in
    let h = told c.counts_fit.result (counts_in T) true c.counts_fit.ensures.answer c.if-not-counts_fit.false in
    let f = some_from_ok _ _ _ c.in_ok-leaf.ensures.value in
    let s = some_from_ok _ _ _ c.in_ok-checked.ensures.value in
    record {
      answer = read_unfit T c.args.x c.args.y _ _ _ h
          refl refl c.descend.ensures.answer _ _ f (sym s ∙ c.check_leaf.ensures.answer) (ne_eqb _ _ c.if-checked-leaf.true);
    }

pub returns : goal.returns
returns c =
    let T = tree_of c.args.tree in
    let h = told c.counts_fit.result (counts_in T) true c.counts_fit.ensures.answer c.if-not-counts_fit.false in
    let f = some_from_ok _ _ _ c.in_ok-leaf.ensures.value in
    let s = some_from_ok _ _ _ c.in_ok-checked.ensures.value in
    record {
      answer = read_met T c.args.x c.args.y _ _ _ h
          refl refl c.descend.ensures.answer _ _ f (sym s ∙ c.check_leaf.ensures.answer) (eq-eqb _ _ c.if-checked-leaf.false);
    }
