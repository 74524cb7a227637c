-- 12 over a leaf: what the check of its stream answers, and what it says that a leaf passes.
use mathlib.Core.Path.{◌≡◌, sym, ap, ◌∙◌}
use mathlib.Core.Bool.{Bool, true, false, ◌&&◌}
use mathlib.Core.List.{List}
use Prim.Native.Nat.{ℕ}
use lib.Dec.{eqb}
use Rattle.std.proofs.Common.{Option, None, Some}
use borrow.Author.Tests.{eq-eqb}
use Rattle.laws.proofs.Booleans.{and_left, and_both}
use Rattle.stream.specs.declared.Checked.{Checked}
use Rattle.stream.specs.Entry.{lines_in}
use Rattle.stream.specs.Table.{words_from}
use Rattle.stream.specs.Grammar.{Env, check_stream}
use Rattle.stream.specs.code.Checks.{checked}
use Rattle.stream.proofs.Uniform.{fits_is, lines_is, unfit_is}
use Rattle.tables.specs.Tables.{leaf_passes}

module _ (t : List ℕ) (first count lines used : ℕ) (v : Env) where
  abbrev in_stream : Bool
  in_stream = check_stream t first count used v

  abbrev in_count : Bool
  in_count = eqb (lines_in (words_from t first count)) lines

  pub leaf_some : (r : Checked) → Some r ≡ checked t first count used v → eqb r.lines lines ≡ leaf_passes t first count lines used v
  leaf_some r e =
      ap (λ n. eqb n lines) (lines_is t first count used v r e) ∙ ap (λ b. b && in_count) (sym (fits_is t first count used v r e))

  pub leaf_none : None ≡ checked t first count used v → leaf_passes t first count lines used v ≡ false
  leaf_none e = ap (λ b. b && in_count) (unfit_is t first count used v e)

  -- the code's test: the check passes, and it says so many lines
  abbrev pub says_lines : Option Checked → Bool
  says_lines (Some r) = eqb r.lines lines
  says_lines None = false

  pub leaf_told : (r : Option Checked) → r ≡ checked t first count used v → says_lines r ≡ leaf_passes t first count lines used v
  leaf_told (Some r) e = leaf_some r e
  leaf_told None e = sym (leaf_none e)

  pub leaf_stream_law : leaf_passes t first count lines used v ≡ true → check_stream t first count used v ≡ true
  leaf_stream_law h = and_left in_stream in_count h

  pub leaf_both : check_stream t first count used v ≡ true → lines_in (words_from t first count) ≡ lines → leaf_passes t first count lines used v ≡ true
  leaf_both h e = and_both in_stream in_count h (eq-eqb (lines_in (words_from t first count)) lines e)
