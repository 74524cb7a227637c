use mathlib.Core.Path.{◌≡◌, refl}
use Prim.Native.Nat.{ℕ, ◌≤◌}
use native.Mathlib.Omega.{arith}
use borrow.Author.Tests.{lt-ltb}
use Rattle.std.specs.Result.{result_ok}
use Rattle.records.specs.Kinds.{kind_at}
use Rattle.records.proofs.Kindlaws.{numbers}
use Rattle.root_stream.specs.code.Numbers.{number_in}
use Rattle.root_stream.proofs.kind_at.Goals as goal

number_ok : (n : ℕ) → n ≤ 7 → number_in (result_ok (kind_at n)) ≡ n
unfolding kind_at
number_ok =
    numbers (λ n. n ≤ 7 → number_in (result_ok (kind_at n)) ≡ n) (λ h. refl) (λ h. refl) (λ h. refl) (λ h. refl) (λ h. refl) (λ h. refl) (λ h. refl) (λ h. refl)
    (λ n m h. absurd (omega arith))

pub returns-then-i-records : goal.returns-then-i-records
returns-then-i-records c =
    let l = lt-ltb _ _ c.if-i-records.true in
    record { answer = rw (l, c.ok.ensures.value, c.try_from.ensures) (number_ok _ (rw l at c.requires.is_kind)) }
