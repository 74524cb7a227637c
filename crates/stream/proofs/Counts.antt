-- How many lines a stream holds, entry by entry.
use mathlib.Core.Path.{◌≡◌, refl, sym, ap, ◌∙◌}
use mathlib.Core.Bool.{Bool, true, false, cond, ◌||◌}
use mathlib.Core.List.{List, ◌∷◌}
use Prim.Native.Nat.{ℕ, ◌+◌, ◌-◌, ◌≤◌, ◌<◌}
use native.Mathlib.Omega.{arith}
use Rattle.std.proofs.Common.{None, Some}
use lib.Dec.{eqb}
use Rattle.laws.proofs.Booleans.{clash}
use Rattle.stream.specs.declared.Words.{Words}
use Rattle.stream.specs.declared.Scan.{Scan}
use Rattle.stream.specs.Table.{words_at, words_from}
use Rattle.stream.specs.Entry.{is_line, is_segment, lines_in}
use Rattle.stream.specs.code.Machine.{other_n}
use Rattle.stream.proofs.Entries.{segment_ne}
use Rattle.stream.proofs.Table.{words_step, words_none}

-- what is no line, curve or shortcut is no line
pub no_line : (k : ℕ) → is_segment k ≡ false → is_line k ≡ false
no_line k h = go (is_line k) h
  where
    go : (b : Bool) → (b || eqb k 6) ≡ false → b ≡ false
    go true e = clash (sym e)
    go false e = refl

pub one_more_law : (b : Bool) (n : ℕ) → cond b (1 + n) n ≡ cond b 1 0 + n
one_more_law true n = refl
one_more_law false n = omega arith

-- the lines from entry i on: entry i, and those behind it
pub lines_more : (t : List ℕ) (i e : ℕ) (w : Words)
    → w ≡ words_at t i
    → i < e
    → lines_in (words_from t i (e - i)) ≡ cond (is_line w.kind) 1 0 + lines_in (words_from t (i + 1) (e - (i + 1)))
lines_more t i e w q l =
    ap lines_in (words_step t i e l ∙ ap (λ u. u ∷ words_from t (i + 1) (e - (i + 1))) (sym q))
    ∙ one_more_law (is_line w.kind) (lines_in (words_from t (i + 1) (e - (i + 1))))

-- none are left behind the last entry
pub lines_done : (t : List ℕ) (i e n whole : ℕ) → e ≤ i → n + lines_in (words_from t i (e - i)) ≡ whole → n ≡ whole
lines_done t i e n whole h k = omega (arith, ap lines_in (words_none t i e h), k)

-- an entry that stops no scan is no line, curve or shortcut
module _ (areas : List ℕ) (used : ℕ) (s n : Scan) (w : Words) (alive : other_n areas used s w ≡ Some n) where
  pub alive_other : is_segment w.kind ≡ false
  alive_other = go (is_segment w.kind) refl
    where
      go : (b : Bool) → is_segment w.kind ≡ b → b ≡ false
      go true e =
          let z : None ≡ Some n = rw (
            segment_ne w.kind 1 e refl,
            segment_ne w.kind 2 e refl,
            segment_ne w.kind 3 e refl,
            segment_ne w.kind 4 e refl,
            segment_ne w.kind 7 e refl,
          ) at alive in
          cc
      go false e = refl

  pub alive_lines : (t : List ℕ) (i e : ℕ)
      → w ≡ words_at t i
      → i < e
      → lines_in (words_from t (i + 1) (e - (i + 1))) ≡ lines_in (words_from t i (e - i))
  alive_lines t i e q l =
      omega (
        arith,
        lines_more t i e w q l,
        ap (λ b. cond b 1 0 + lines_in (words_from t (i + 1) (e - (i + 1)))) (no_line w.kind alive_other),
      )
