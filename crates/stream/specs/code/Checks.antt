-- What the check of a stream answers beside whether it passes: how many lines, and how many lines, curves and shortcuts, it holds.
use Rattle.std.specs.Prelude.{ℕ, Bool, cond, List, eqb, Option, None, Some}
use Rattle.stream.specs.declared.Words.{Words}
use Rattle.stream.specs.declared.Scan.{Scan}
use Rattle.stream.specs.declared.Checked.{Checked}
use Rattle.stream.specs.Entry.{lines_in, segments_in}
use Rattle.stream.specs.Table.{words_from}
use Rattle.stream.specs.Grammar.{Env, check_stream}

abbrev pub fit : (lines segments : ℕ) → Option Checked
fit l n = Some (record { lines = l; segments = n })

abbrev pub unfit : Option Checked
unfit = None

-- of a stream with these words, which passes or does not
abbrev pub told : Bool → List Words → Option Checked
told b ws = cond b (fit (lines_in ws) (segments_in ws)) unfit

-- where the code stands at the end of a stream
abbrev pub told_at : Scan → (lines : ℕ) → Option Checked
told_at s l = cond (eqb s.groups.number 1) (fit l s.segments) unfit

abbrev pub checked : List ℕ → (first count used : ℕ) → Env → Option Checked
checked t first count used v = told (check_stream t first count used v) (words_from t first count)
