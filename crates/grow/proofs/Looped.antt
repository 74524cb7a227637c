-- The loop of the sweep over the tables as the code holds them.
use mathlib.Core.Path.{◌≡◌, refl, sym, ap, subst, ◌∙◌}
use mathlib.Core.List.{List}
use Prim.Native.Nat.{ℕ, ◌-◌, ◌<◌}
use native.Mathlib.Omega.{arith}
use Rattle.std.specs.Prelude.{Result, Ok, Err, Option, None, Some}
use Rattle.refusals.specs.declared.Refusal.{Refusal}
use Rattle.refusals.specs.declared.Refusal.TheVariants.{Broken}
use Rattle.tables.specs.Tables.{Tree, tree}
use Rattle.tables.proofs.Counts.{used_most}
use Rattle.grow.specs.declared.Growth.TheVariants.{Full}
use Rattle.grow.specs.declared.Sweep.{Sweep}
use Rattle.grow.specs.Grow.{tried, grown, answer_of}
use Rattle.grow.specs.code.Numbers.{turn_by, tree_by}
use Rattle.grow.proofs.Swept.{Sweeping, turn_further, turn_full, turn_stopped, turn_broken, turn_moves}
use Rattle.grow.proofs.Turned.{tree_is}

module _ (n l : ℕ) (t₀ : Tree) (p a x y h c e : List ℕ) (s : Sweep) (S : Sweeping n l t₀ (tree p a x y h c e) s) (less : s.cell < s.used) where
  abbrev t : Tree
  t = tree p a x y h c e

  module _ (h' c' e' : List ℕ) (r : Result (Option Sweep) Refusal) (er : r ≡ turn_by (tried t n l s.cell) t s) (eh : h' ≡ (tree_by (tried t n l
      s.cell) t s.cell).head)
      (ec : c' ≡ (tree_by (tried t n l s.cell) t s.cell).cells) (ee : e' ≡ (tree_by (tried t n l s.cell) t s.cell).entries) where
    whole : tree p a x y h' c' e' ≡ tree_by (tried t n l s.cell) t s.cell
    whole = tree_is p a x y h c e h' c' e' s.cell (tried t n l s.cell) eh ec ee

    pub loop_on : (s' : Sweep) → r ≡ Ok (Some s') → Sweeping n l t₀ (tree p a x y h' c' e') s'
    loop_on s' f = subst (λ (u : Tree). Sweeping n l t₀ u s') (sym whole) (turn_further n l t₀ t s S less (tried t n l s.cell) s' refl (sym er ∙ f))

    pub loop_nearer : (s' : Sweep) → r ≡ Ok (Some s') → 4096 - s'.cell < 4096 - s.cell
    loop_nearer s' f = omega (arith, turn_moves n l t₀ t s S less (tried t n l s.cell) s' (sym er ∙ f), used_most t S.counts, S.used)

    pub loop_full : r ≡ Ok None → Ok (Full s.splits) ≡ answer_of (grown n l t₀)
    loop_full f = (turn_full n l t₀ t s S less (tried t n l s.cell) refl (sym er ∙ f)).0

    pub full_tree : r ≡ Ok None → tree p a x y h' c' e' ≡ (grown n l t₀).after
    full_tree f = whole ∙ (turn_full n l t₀ t s S less (tried t n l s.cell) refl (sym er ∙ f)).1

    stops_so : (e₀ : Refusal) → r ≡ Err e₀ → e₀ ≡ Broken
    stops_so e₀ f = turn_broken n l t₀ t s S less (tried t n l s.cell) e₀ (sym er ∙ f)

    stops : (e₀ : Refusal) → r ≡ Err e₀ → turn_by (tried t n l s.cell) t s ≡ Err Broken
    stops e₀ f = sym er ∙ (f ∙ ap (λ (q : Refusal). Err q) (stops_so e₀ f))

    pub loop_stopped : (e₀ : Refusal) → r ≡ Err e₀ → Err e₀ ≡ answer_of (grown n l t₀)
    loop_stopped e₀ f =
        ap (λ (q : Refusal). Err q) (stops_so e₀ f) ∙ (turn_stopped n l t₀ t s S less (tried t n l s.cell) refl (stops e₀ f)).0

    pub stopped_tree : (e₀ : Refusal) → r ≡ Err e₀ → tree p a x y h' c' e' ≡ (grown n l t₀).after
    stopped_tree e₀ f = whole ∙ (turn_stopped n l t₀ t s S less (tried t n l s.cell) refl (stops e₀ f)).1
