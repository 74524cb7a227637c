-- A delimiter by a pruner's numbers and by those of its count.
use mathlib.Core.Path.{◌≡◌, refl, sym, ap, ◌∙◌}
use mathlib.Core.Bool.{Bool, true, false}
use mathlib.Core.List.{List}
use Prim.Native.Nat.{ℕ, suc}
use native.Mathlib.Omega.{arith}
use lib.Dec.{eqb}
use borrow.Author.Tests.{ne_eqb, eqb-true}
use Rattle.std.specs.Prelude.{Option, Some, None, is_none}
use Rattle.laws.proofs.Booleans.{clash}
use Rattle.pruning.specs.code.Counters.{Count, length_of}
use Rattle.pruner.specs.declared.Pruner.{Pruner}
use Rattle.pruner.specs.code.Numbers.{counted, skip_of, skip_number, skip_in}
use Rattle.pruner.proofs.Near.{counted_weight, counted_base, counted_skip}
use Rattle.stream.specs.Entry.{is_segment}
use Rattle.writing.specs.code.Numbers.{delimiter_put, mark_put, mark_on}

-- the side is read on
pub none_is : (p : Pruner) → eqb (skip_in (counted p)) 0 ≡ is_none p.skip
none_is p = ap (λ n. eqb n 0) (counted_skip p) ∙ go p.skip
  where
    go : (s : Option ℕ) → eqb (skip_number (skip_of s)) 0 ≡ is_none s
    go None = refl
    go (Some m) = ne_eqb (suc m) 0 (λ e. omega arith)

pub mark_is : (t : List ℕ) (q : Pruner) (n kind : ℕ) (c : Count) → counted q ≡ c → mark_put t q n kind ≡ mark_on t c n kind
mark_is t q n kind c e = rw (← e, counted_weight q, counted_base q, none_is q)

-- a line, a curve or a shortcut is no "passes"
pub mark_segment : (t : List ℕ) (n kind : ℕ) (c : Count)
    → is_segment kind ≡ true
    → mark_on t c n kind ≡ delimiter_put t (length_of c) n kind
mark_segment t n kind c h = rw (go (eqb kind 7) refl)
  where
    go : (b : Bool) → eqb kind 7 ≡ b → eqb kind 7 ≡ false
    go true e = clash (sym (ap is_segment (eqb-true kind 7 e)) ∙ h)
    go false e = e
