-- What is printed of a file whose tree opens is the line of each leaf.
use Rattle.std.proofs.Common.{◌≡◌, true, false, Bool, cond, Ok, Err, ℕ, ◌≤◌, List, [], ◌++◌, length, refl, sym, ap, ◌∙◌, append-nil, arith}
use Rattle.refusals.specs.declared.Refusal.{Refusal}
use Rattle.listing.specs.Numbers.{lines_in}
use Rattle.lister.specs.Printed.{Outcome, lines_of, outcome, rows_after, printed}
use Rattle.lister.specs.Text.{lines_text, full_text, outcome_text, zeros, file_tree, verdict_text}
use Rattle.lister.specs.Leaves.{last_line, FilePrintsEachLeaf}
use Rattle.lister.proofs.Leaves.{prints_each_leaf}
use Rattle.lister.proofs.FileTexts.{length-zeros}

text_of_lines : (a : Outcome) (rows : List ℕ) → ((r : Refusal) → a ≡ Err r → ⊥) → outcome_text a rows ≡ lines_text (lines_in rows 0 (lines_of a)) ++ last_line a
text_of_lines (Ok o) rows f = go o.full
  where
    ls : List ℕ
    ls = lines_text (lines_in rows 0 o.lines)

    go : (b : Bool) → cond b (ls ++ full_text) ls ≡ ls ++ cond b full_text []
    go true = refl
    go false = sym (append-nil ls)
text_of_lines (Err r) rows f = absurd (f r refl)

pub file_prints_each_leaf : FilePrintsEachLeaf
file_prints_each_leaf b k n e o =
    let t = file_tree b in
    let rows = zeros 1280 in
    let wide : 1280 ≤ length rows = omega (arith, length-zeros 1280) in
    let p = prints_each_leaf t n o rows wide in
    record {
      lines = printed t rows;
      leaves = p.leaves;
      text = ap (verdict_text b) e ∙ text_of_lines (outcome t) (rows_after t rows) p.accepted;
    }
