-- The numbers of a pruner after an area has settled are still far from their ends.
use mathlib.Core.Path.{◌≡◌, refl, sym, ap, ◌∙◌}
use mathlib.Core.List.{List}
use Prim.Native.Nat.{ℕ, ◌^◌, ◌≤◌, ◌<◌}
use native.Mathlib.Omega.{arith}
use Rattle.pruning.specs.code.Counters.{Count}
use Rattle.pruner.specs.declared.Pruner.{Pruner}
use Rattle.std.specs.Prelude.{Option, Some, None}
use Rattle.pruner.specs.code.Numbers.{counted, class_of, skip_of, skip_number}
use Rattle.pruner.proofs.Near.{Near, near_same, item_near, counted_weight, counted_base, counted_skip, counted_depth}
use Rattle.evaluate.specs.Reading.{role_at}
use Rattle.making.specs.declared.Waiting.{Waiting}
use Rattle.making.specs.code.Numbers.{class_n, settled_n, weight_in, Room}

pub settled_near : (areas : List ℕ) (c : Count) (a : Option Waiting) → Near (weight_in a) c (settled_n areas c a)
settled_near areas c None = near_same 0 c
settled_near areas c (Some a) = item_near (role_at areas a.number) (class_of (class_n areas a)) a.weight c

none_by : (s : Option ℕ) → skip_number (skip_of s) ≡ 0 → s ≡ None
none_by None e = refl
none_by (Some m) e = absurd (omega arith)

pub room_after : (areas : List ℕ) (p q : Pruner) (a : Option Waiting) (kind : ℕ) → counted q ≡ settled_n areas (counted p) a → Room p a kind
    → ((q.weight < 2 ^ 61) × (q.base < 2 ^ 61) × (skip_number (skip_of q.skip) < 4096) × (q.depth ≤ 8)) × (kind ≡ 1 → q.skip ≡ None → q.depth < 8)
room_after areas p q a kind e r =
    let n : Near (weight_in a) (counted p) (counted q) = rw e (settled_near areas (counted p) a) in
    let d : q.depth ≡ p.depth = sym (counted_depth q) ∙ (n.depth_same ∙ counted_depth p) in (
      (
        omega (arith, n.weight_near, counted_weight p, counted_weight q, counted_base p, r.weight, r.base),
        omega (arith, n.base_same, counted_base p, counted_base q, r.base),
        omega (arith, n.skip_near, counted_skip p, counted_skip q, r.skip),
        omega (arith, d, r.depth),
      ),
      λ k z. rw d (r.deep k (none_by p.skip (sym (counted_skip p) ∙ n.skip_zero (counted_skip q ∙ ap (λ s. skip_number (skip_of s)) z)))),
    )
