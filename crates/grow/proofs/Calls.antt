-- The call, test by test.
use mathlib.Core.Path.{◌≡◌, sym, ap, ◌∙◌}
use mathlib.Core.Bool.{Bool, false, cond}
use Prim.Native.Nat.{ℕ, ◌≤◌}
use lib.Dec.{eqb, leb}
use lib.ListN.{length}
use borrow.Author.Tests.{eq-eqb, le-leb}
use Rattle.std.specs.Prelude.{Err}
use Rattle.refusals.specs.declared.Refusal.TheVariants.{Argument, Broken}
use Rattle.tables.specs.Tables.{Tree, cells_used, counts_in}
use Rattle.laws.proofs.Choices.{pick_true}
use Rattle.grow.specs.Grow.{lowest_from, Round, broken, round_by, round, not_passed, Grown, ended, go_on, grown, answer_of, grow_answer, grow_tree}
use Rattle.grow.proofs.Fuel.{grown_step}

module _ (t : Tree) (n l : ℕ) where
  abbrev even : Bool
  even = eqb (length t.xs) (length t.ys)

  abbrev shallow : Bool
  shallow = leb l 16

  module _ (p : length t.xs ≡ length t.ys) where
    module _ (h : l ≤ 16) where
      pub call_grown : answer_of (grown n l t) ≡ grow_answer t n l
      call_grown =
          pick_true shallow (answer_of (grown n l t)) (Err Argument) (le-leb l 16 h)
          ∙ pick_true even (cond shallow (answer_of (grown n l t)) (Err Argument)) (Err Argument) (eq-eqb (length t.xs) (length t.ys) p)

      pub tree_grown : (grown n l t).after ≡ grow_tree t n l
      tree_grown =
          pick_true shallow (grown n l t).after t (le-leb l 16 h)
          ∙ pick_true even (cond shallow (grown n l t).after t) t (eq-eqb (length t.xs) (length t.ys) p)

  -- 12 over the numbers in use
  stops : counts_in t ≡ false → round n l t ≡ broken
  unfolding round
  stops c = ap (λ (b : Bool). cond b (round_by t (lowest_from t n l 0 (cells_used t.head))) broken) c

  ends : counts_in t ≡ false → grown n l t ≡ ended t not_passed
  ends c = grown_step n l t ∙ ap (λ (r : Round). go_on r t (grown n l)) (stops c)

  pub answer_uncounted : counts_in t ≡ false → Err Broken ≡ answer_of (grown n l t)
  answer_uncounted c = sym (ap answer_of (ends c))

  pub tree_uncounted : counts_in t ≡ false → t ≡ (grown n l t).after
  tree_uncounted c = sym (ap (λ (g : Grown). g.after) (ends c))
