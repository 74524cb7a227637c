-- Document 01, "The list of demand 3": the answers of rows and logs worked out "with no tree": "by the same section over the whole drawing, pixels and
-- logs too".
use Rattle.std.specs.Prelude.{Result, Ok, Err}
use Rattle.refusals.specs.declared.Refused.{Refused}
use Rattle.refusals.specs.Refusals.{at_place}
use Rattle.std.specs.Prelude.{cond, ◌&&◌, List, ℕ, zero, suc, ◌+◌, ◌/◌, ◌%◌, eqb, ltb, leb, length, get_or}
use Rattle.std.proofs.lemmas.List.Edits.{sets}
use Rattle.refusals.specs.declared.Refusal.TheVariants.{Argument, Room}
use Rattle.cells.specs.Cells.{at}
use Rattle.cells.specs.Drawings.{Drawing}
use Rattle.pixel_row.specs.Rows.{Filled, filled, put_pixel}
use Rattle.zone_log.specs.Logs.{log_from, outside_from, each_word}
use Rattle.demand.specs.NoTree.{material_shown, pixel_shown}
use Rattle.demand.specs.Calls.{rowing, logging, Given, gives}

module _ (D : Drawing) where
  -- "A row call fills red, green, blue per pixel.": the n pixels of the call from index i on
  abbrev pub fill_shown : (row first i n : ℕ) → List ℕ → List ℕ
  fill_shown row first i zero out = out
  fill_shown row first i (suc n) out = fill_shown row first (i + 1) n (put_pixel out i (pixel_shown D row (first + i)))

  -- 7 for a "pixel row over 4,095", a "pixel buffer no multiple of 3" and "first pixel plus pixels over 4,096", else every pixel of the buffer
  abbrev pub row_shown : (row first : ℕ) → List ℕ → Filled
  row_shown row first out =
      cond (leb row 4095)
      (cond (eqb (length out % 3) 0)
      (cond (leb (first + length out / 3) 4096) (filled (Ok tt) (fill_shown row first 0 (length out / 3) out)) (filled (Err (at_place Argument 0)) out))
      (filled (Err (at_place Argument 0)) out))
      (filled (Err (at_place Argument 0)) out)

  abbrev pub row_given : (row first : ℕ) (out : List ℕ) → Given
  row_given row first out = gives (rowing (row_shown row first out).answer) (row_shown row first out).bytes

  module _ (px py : List ℕ) where
    -- "A zone log over a run of positions gives index 0 (if there is one) and each index whose material differs from the one before."
    abbrev pub log_shown : List ℕ
    log_shown = log_from (λ i. material_shown D (at (get_or px i 0) (get_or py i 0))) 0 (length px)

    -- 7 for tables of unequal length, 7 at the lowest index whose position is out of range, 11 for a table of so many words, else the log
    abbrev pub log_answer_shown : (out : ℕ) → Result ℕ Refused
    log_answer_shown out =
        cond (eqb (length px) (length py))
        (cond (ltb (outside_from px py 0 (length px)) (length px)) (Err (at_place Argument (outside_from px py 0 (length px))))
        (cond (leb (length log_shown) out && each_word log_shown) (Ok (length log_shown)) (Err (at_place Room 0))))
        (Err (at_place Argument 0))

    abbrev pub log_out_shown : Result ℕ Refused → List ℕ → List ℕ
    log_out_shown (Ok n) out = sets out 0 log_shown
    log_out_shown (Err r) out = out

    abbrev pub log_given : (out : List ℕ) → Given
    log_given out = gives (logging (log_answer_shown (length out))) (log_out_shown (log_answer_shown (length out)) out)
