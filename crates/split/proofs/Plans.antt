-- What a planned split says of the answer, and the other way round.
use mathlib.Core.Path.{◌≡◌, sym, ap, ◌∙◌}
use mathlib.Core.List.{List}
use Prim.Native.Nat.{ℕ}
use Rattle.std.specs.Prelude.{Result, Ok, Err}
use Rattle.refusals.specs.declared.Refusal.{Refusal}
use Rattle.four_children.specs.declared.Tally.{Tally}
use Rattle.split.specs.declared.Planned.{Planned}
use Rattle.split.specs.code.Judged.{planned}

pub plan_is : (a : Result ℕ Refusal) (k : ℕ) (xs ts : List Tally) → Ok k ≡ a → xs ≡ ts → Ok (record { child = k; children = xs }) ≡ planned a ts
plan_is a k xs ts e f =
    ap (λ (l : List Tally). planned (Ok k) l) f ∙ ap (λ (r : Result ℕ Refusal). planned r ts) e

pub plan_refused : (a : Result ℕ Refusal) (r : Refusal) (ts : List Tally) → Err r ≡ a → Err r ≡ planned a ts
plan_refused a r ts e = ap (λ (x : Result ℕ Refusal). planned x ts) e

pub answer_planned : (a : Result ℕ Refusal) (p : Planned) (ts : List Tally) → Ok p ≡ planned a ts → (a ≡ Ok p.child) × (p.children ≡ ts)
answer_planned (Ok n) p ts e =
    let q : p ≡ record { child = n; children = ts } = cc in
    (ap (λ (x : Planned). Ok x.child) (sym q), ap (λ (x : Planned). x.children) q)
answer_planned (Err r) p ts e = absurd cc

pub answer_refused : (a : Result ℕ Refusal) (r : Refusal) (ts : List Tally) → Err r ≡ planned a ts → Err r ≡ a
answer_refused (Ok n) r ts e = absurd cc
answer_refused (Err x) r ts e = cc
