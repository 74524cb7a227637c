-- A table that reads fill from its front holds what they took from the file.
use Rattle.std.specs.Prelude.{Option}
use Rattle.std.specs.Io.KnownBytes.{Consumes, Keeps}
use Rattle.std.proofs.Common.{◌≡◌, ℕ, ◌+◌, ◌≤◌, List, ◌++◌, length, take, sym, ap, ◌∙◌, subst, le_refl, arith}
use Rattle.std.proofs.lemmas.List.{take-append-le, length-take-le}
use Rattle.std.proofs.lemmas.Slice.{take-put_mid_below}
use Rattle.std.proofs.Math.Seq.{take-append-add}
use Rattle.std.proofs.KnownBytes.{Consumes-trans, Consumes-kept}
use borrow.Rule.Slice.PartMut.{put_mid, post_of}

-- one read more, into the rest of the table
pub filled_more : (a b c : Option (List ℕ)) (table part : List ℕ) (n room more after : ℕ) → n ≤ length table → more ≤ length part → after ≡ n + more
    → Consumes a b (take n table) → Consumes b c (take more part) → Consumes a c (take after (put_mid n room table part))
filled_more a b c table part n room more after p q e before read =
    let front = take n table in
    let behind = post_of n room table in
    let long : length front ≡ n = length-take-le n table p in
    let to : after ≡ length front + more = omega (arith, long, e) in
    let joined : take after (put_mid n room table part) ≡ front ++ take more part =
    ap (λ m. take m (put_mid n room table part)) to ∙ take-append-add front (part ++ behind) more ∙ ap (λ l. front ++ l) (take-append-le more part behind q) in
    subst (Consumes a c) (sym joined) (Consumes-trans a b c front (take more part) before read)

-- a read that failed
pub filled_kept : (a b c : Option (List ℕ)) (table part : List ℕ) (n room after : ℕ) → n ≤ length table → after ≡ n → Consumes a b (take n table) → Keeps b c
    → Consumes a c (take after (put_mid n room table part))
filled_kept a b c table part n room after p e before kept =
    let same : take after (put_mid n room table part) ≡ take n table =
    ap (λ m. take m (put_mid n room table part)) e ∙ take-put_mid_below n room table part n (le_refl n) p in
    subst (Consumes a c) (sym same) (Consumes-kept a b c (take n table) before kept)
