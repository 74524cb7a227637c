-- `read::scan_records` meets its contract: what is left to scan gives what the whole gives.
use mathlib.Core.Path.{◌≡◌, sym, ◌∙◌}
use Rattle.std.specs.Prelude.{Err}
use borrow.Author.Rules.{rules}
use Rattle.read.proofs.Loops.{scan_turn, scan_stops, scan_done}
use Rattle.read.proofs.scan_records.Goals as goal

pub returns-in_err-s : goal.returns-in_err-s
returns-in_err-s c =
    let same : c.from_residual.result ≡ Err c.in_err-s.field-0.0 = search rules in
    record {
      answer = same ∙ scan_stops _ _ _ _ _ _ _ _ c.loop-i-test.true c.read_raw.ensures.answer c.decoded_raw.ensures.answer
          (sym c.in_err-s.was ∙ c.advance.ensures.answer) c.loop-i.invariant;
    }

pub loop-i-preserved : goal.loop-i-preserved
loop-i-preserved c =
    let on = sym c.in_ok-s.was ∙ c.advance.ensures.answer in search scan_turn

pub returns : goal.returns
returns c = record { answer = search scan_done }
