-- The text of one line more, and texts one after another.
use Rattle.std.proofs.Common.{
  ◌≡◌,
  ℕ,
  zero,
  suc,
  ◌+◌,
  List,
  [],
  ◌++◌,
  Result,
  Ok,
  Err,
  OnOk,
  refl,
  sym,
  ap,
  ◌∙◌,
  append_assoc,
  append-nil,
  replicate,
  arith,
}
use Rattle.listing.specs.Numbers.{line_at, lines_in}
use Rattle.tables.specs.Tables.{tree}
use Rattle.lister.specs.Printed.{Outcome, outcome, rows_after}
use Rattle.lister.specs.Text.{line_text, lines_text, outcome_text, zeros, begun_tree, drawing_text}

pub on_ok : {A E P Q : Type 0} (r : Result A E) → (P → Q) → OnOk r P → OnOk r Q
on_ok (Ok x) f p = f p
on_ok (Err e) f p = tt

pub lines_text_none : (t : List ℕ) (i : ℕ) → lines_text (lines_in t i 0) ≡ []
unfolding lines_in lines_text
lines_text_none t i = refl

lines_text_from : (t : List ℕ) (i n : ℕ) → lines_text (lines_in t i (suc n)) ≡ lines_text (lines_in t i n) ++ line_text (line_at t (i + n))
unfolding lines_in lines_text
lines_text_from t i zero =
    let e : i ≡ i + 0 = omega arith in
    append-nil _ ∙ ap (λ k. line_text (line_at t k)) e
lines_text_from t i (suc n) =
    let e : i + 1 + n ≡ i + suc n = omega arith in
    ap (λ l. line_text (line_at t i) ++ l) (lines_text_from t (i + 1) n)
    ∙ sym (append_assoc (line_text (line_at t i)) (lines_text (lines_in t (i + 1) n)) (line_text (line_at t (i + 1 + n))))
    ∙ ap (λ k. lines_text (lines_in t i (suc n)) ++ line_text (line_at t k)) e

pub lines_text_more : (t : List ℕ) (n : ℕ) → lines_text (lines_in t 0 (n + 1)) ≡ lines_text (lines_in t 0 n) ++ line_text (line_at t n)
lines_text_more t n =
    let e : n + 1 ≡ suc n = omega arith in
    let f : 0 + n ≡ n = omega arith in
    ap (λ k. lines_text (lines_in t 0 k)) e ∙ lines_text_from t 0 n ∙ ap (λ k. lines_text (lines_in t 0 n) ++ line_text (line_at t k)) f

-- ---- a drawing
pub zeros_are : (n : ℕ) → replicate n 0 ≡ zeros n
unfolding zeros
zeros_are n = refl

pub drawing_said : (plan areas xs ys head cells entries rows after : List ℕ) (a : Outcome)
    → head ≡ zeros 2 → cells ≡ zeros 8192 → entries ≡ zeros 16384 → rows ≡ zeros 1280
    → a ≡ outcome (tree plan areas xs ys head cells entries) → after ≡ rows_after (tree plan areas xs ys head cells entries) rows
    → outcome_text a after ≡ drawing_text plan areas xs ys
drawing_said plan areas xs ys head cells entries rows after a h c e r o w =
    ap (λ x. outcome_text x after) o ∙ ap (outcome_text (outcome (tree plan areas xs ys head cells entries))) w
    ∙ ap (λ x. outcome_text (outcome (tree plan areas xs ys x cells entries)) (rows_after (tree plan areas xs ys x cells entries) rows)) h
    ∙ ap (λ x. outcome_text (outcome (tree plan areas xs ys (zeros 2) x entries)) (rows_after (tree plan areas xs ys (zeros 2) x entries) rows)) c
    ∙ ap (λ x. outcome_text (outcome (tree plan areas xs ys (zeros 2) (zeros 8192) x)) (rows_after (tree plan areas xs ys (zeros 2) (zeros 8192) x) rows)) e
    ∙ ap (λ x. outcome_text (outcome (begun_tree plan areas xs ys)) (rows_after (begun_tree plan areas xs ys) x)) r
