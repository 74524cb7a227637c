-- A table of what was made, as a whole.
use mathlib.Core.Path.{◌≡◌, refl, sym, ap, subst, ◌∙◌}
use mathlib.Core.Bool.{true}
use mathlib.Core.List.{List, [], ◌∷◌}
use Prim.Native.Nat.{ℕ, zero, suc, ◌+◌, ◌*◌, ◌≤◌, ◌<◌}
use native.Mathlib.Omega.{arith}
use lib.ListN.{length, get_or, take, drop}
use lib.Seq.{drop-cons, take-length}
use Rattle.pruning.specs.code.Effects.{out_of}
use Rattle.cells.specs.Cells.{Cell}
use Rattle.cells.specs.Drawings.{Drawing}
use Rattle.cells.specs.Elements.{Element}
use Rattle.cells.specs.code.Making.{Making, settle}
use Rattle.stream.specs.declared.Words.{Words}
use Rattle.stream.specs.Table.{words_from, flat}
use Rattle.stream.specs.Grammar.{Env, accepts}
use Rattle.evaluate.specs.Reading.{elements_in}
use Rattle.making.specs.declared.Maker.{Maker}
use Rattle.making.specs.Made.{elements_made, words_made}
use Rattle.making.proofs.Standing.{Reads}
use Rattle.making.proofs.Whole.{all_of, elements_all}
use Rattle.writing.specs.code.Numbers.{settled_put}
use Rattle.writing.proofs.Agree.{Agree, agree_all}
use Rattle.writing.proofs.Same.{same_settled}
use Rattle.writing.proofs.Written.{settle_agrees}
use Rattle.writing.proofs.Turn.{Writing}

-- ---- the words of entries
four : (t : List ℕ) (k : ℕ) → k + 4 ≤ length t → drop k t ≡ get_or t k 0 ∷ get_or t (k + 1) 0 ∷ get_or t (k + 2) 0 ∷ get_or t (k + 3) 0 ∷ drop (k + 4) t
four t k h =
    at k (omega arith)
    ∙ ap (λ (x : List ℕ). get_or t k 0 ∷ x) (at (k + 1) (omega arith)
    ∙ ap (λ (x : List ℕ). get_or t (k + 1) 0 ∷ x) (next (k + 1) (k + 2) (omega arith) (omega arith)
    ∙ ap (λ (x : List ℕ). get_or t (k + 2) 0 ∷ x) (next (k + 2) (k + 3) (omega arith) (omega arith) ∙ ap (λ (x : List ℕ). get_or t (k + 3) 0 ∷ x) last)))
  where
    at : (j : ℕ) → j < length t → drop j t ≡ get_or t j 0 ∷ drop (j + 1) t
    at j l = let e : suc j ≡ j + 1 = omega arith in drop-cons t j 0 l ∙ ap (λ (m : ℕ). get_or t j 0 ∷ drop m t) e

    last : drop (k + 3 + 1) t ≡ drop (k + 4) t
    last = let e : k + 3 + 1 ≡ k + 4 = omega arith in ap (λ (j : ℕ). drop j t) e

    next : (j m : ℕ) → j + 1 ≡ m → m < length t → drop (j + 1) t ≡ get_or t m 0 ∷ drop (m + 1) t
    next j m e l = ap (λ (x : ℕ). drop x t) e ∙ at m l

words_flat : (t : List ℕ) (i n : ℕ) → (i + n) * 4 ≤ length t → take (n * 4) (drop (i * 4) t) ≡ flat (words_from t i n)
unfolding flat words_from
words_flat t i zero h = refl
words_flat t i (suc n) h =
    let e : suc n * 4 ≡ suc (suc (suc (suc (n * 4)))) = omega arith in
    let d : i * 4 + 4 ≡ (i + 1) * 4 = omega arith in
    rw (e, four t (i * 4) (omega arith), d)
    (ap (λ (x : List ℕ). get_or t (i * 4) 0 ∷ get_or t (i * 4 + 1) 0 ∷ get_or t (i * 4 + 2) 0 ∷ get_or t (i * 4 + 3) 0 ∷ x)
    (words_flat t (i + 1) n (omega arith)))

-- ---- a table of the entries ws
pub table_is : (t : List ℕ) (limit : ℕ) (ws : List Words) → length t ≡ limit * 4 → words_from t 0 limit ≡ ws → t ≡ flat ws
table_is t limit ws h e =
    let d : (0 + limit) * 4 ≤ length t = omega arith in
    let a : take (limit * 4) t ≡ t = ap (λ n. take n t) (sym h) ∙ take-length t in
    sym a ∙ (words_flat t 0 limit d ∙ ap flat e)

-- in the end the table is what was made
module _ (v : Env) (D : Drawing) (c : Cell) (R : Reads v D) (all : List Words) (accepted : accepts v all ≡ true) (k : ℕ) (mk : Maker)
    (limit : ℕ) (t : List ℕ) (l : k ≤ 4096) (exact : limit ≡ length (elements_made D c all))
    (s : Writing v D c k mk [] (all_of D c all) limit t) where
  room : limit * 4 ≤ length t
  room = omega (arith, s.size)

  elements_end : s.standing.elements ≡ all_of D c all
  unfolding elements_in
  elements_end = s.standing.ahead

  agrees_end : Agree limit (settled_put v.areas t mk) 0 (elements_made D c all)
  agrees_end =
      subst (λ (x : List Element). Agree limit (settled_put v.areas t mk) 0 x)
      (ap (λ (m : Making). out_of (settle D c m)) elements_end ∙ elements_all v D c R all accepted)
      (settle_agrees limit v.areas D c R.agrees k mk s.standing.elements t l room s.standing.follows s.writes)

  pub written_end : settled_put v.areas t mk ≡ flat (words_made D c all)
  unfolding words_made
  written_end =
      table_is (settled_put v.areas t mk) limit (words_made D c all) (same_settled v.areas t mk ∙ s.size)
      (subst (λ (n : ℕ). words_from (settled_put v.areas t mk) 0 n ≡ words_made D c all) (sym exact)
      (agree_all limit (settled_put v.areas t mk) 0 (elements_made D c all) (omega arith) agrees_end))
