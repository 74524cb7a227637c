use mathlib.Core.Path.{◌≡◌, ap, ◌∙◌}
use Prim.Native.Nat.{◌/◌, ◌≤◌}
use native.Mathlib.Omega.{arith}
use lib.IntN.{ℤ, nat_abs}
use mir.Syntax.{w16, w64}
use mir.Val.{to_z, of_z}
use mir.ValLaws.{to_z-of_z}
use borrow.Author.Tests.{lt-ltb, le-ltb}
use borrow.Author.Rules.{rules}
use Rattle.laws.proofs.Differences.{mag_abs}
use Rattle.evaluate.proofs.Laws.{small_back}
use Rattle.making.specs.code.Numbers.{start_in}
use Rattle.child_stream.specs.code.Numbers.{put_start}
use Rattle.child_stream.proofs.note.Goals as goal

-- in 16 bits
same : (z s : ℤ) → z ≡ s → nat_abs s ≤ 8192 → to_z w16 (of_z w16 (to_z w64 (of_z w64 z))) ≡ s
same z s e h = ap (λ (y : ℤ). to_z w16 (of_z w16 (to_z w64 (of_z w64 y)))) e ∙ (ap (λ (y : ℤ). to_z w16 (of_z w16 y)) (small_back s h)
    ∙ to_z-of_z w16 s (record { sfits = mag_abs s (omega arith) }))

pub returns-then-k-lt-MOST_AREAS : goal.returns-then-k-lt-MOST_AREAS
unfolding put_start
returns-then-k-lt-MOST_AREAS c =
    let start : c.map_or-start.result ≡ start_in c.args.m.now.waiting = search rules in
    record {
      at = rw (lt-ltb (c.args.m.now.pruner.weight / 4294967296) 64 c.if-k-lt-MOST_AREAS.true, same _ _ start c.requires);
    }

pub returns-else-k-lt-MOST_AREAS : goal.returns-else-k-lt-MOST_AREAS
unfolding put_start
returns-else-k-lt-MOST_AREAS c = record { at = rw (le-ltb (c.args.m.now.pruner.weight / 4294967296) 64 c.if-k-lt-MOST_AREAS.false) }
