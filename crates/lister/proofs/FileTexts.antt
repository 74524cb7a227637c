-- The lister's tables hold every drawing that passes, so reading into them gives the file's own verdict; and one byte more than a file may have is enough
-- to refuse it.
use Rattle.std.specs.Prelude.{Ok, Err, Option}
use Rattle.refusals.specs.Refusals.{at_place}
use Rattle.std.specs.Io.KnownBytes.{Appends}
use Rattle.std.proofs.Common.{Some, None, IfSome, ◌≡◌, ℕ, ◌/◌, ◌%◌, ◌≤◌, ◌<◌, Bool, true, false, cond, List, length, take, refl, sym, ap, ◌∙◌, subst, arith}
use Rattle.std.proofs.lemmas.List.{length-replicate, length-take-le, take_all}
use lib.Dec.{eqb, leb}
use borrow.Author.Tests.{eq-eqb, le-leb, eqb-true, leb-true, leb-false}
use Rattle.laws.proofs.Booleans.{and_both}
use Rattle.std.proofs.lemmas.List.Edits.{sets}
use Rattle.grammar.specs.declared.Counts.{Counts}
use Rattle.grammar.specs.Grammar.{Verdict}
use Rattle.refusals.specs.declared.Refused.{Refused}
use Rattle.refusals.specs.declared.Refusal.TheVariants.{Length, Argument, Room}
use Rattle.read.specs.Words.{plan_words, area_words, x_words, y_words}
use Rattle.read.specs.Reading.{records_in, verdict_of, holds, if_room, read_answer}
use Rattle.read.proofs.Files.{filed}
use Rattle.lister.specs.Text.{zeros, drawing_text, verdict_text, file_text, refused_text}

pub length-zeros : (n : ℕ) → length (zeros n) ≡ n
unfolding zeros
length-zeros n = length-replicate n 0

room_for_all : (k : Counts) → k.records ≤ 4096 → k.areas ≤ 64 → k.corners ≤ 2048 → holds 4099 512 2048 k ≡ true
unfolding holds
room_for_all k r a c =
    and_both (leb k.records 4096) _ (le-leb k.records 4096 r) (and_both (leb k.areas 64) _ (le-leb k.areas 64 a) (le-leb k.corners 2048 c))

room_of_verdict : (b : List ℕ) (v : Verdict) → verdict_of b ≡ v → if_room v 4099 512 2048 ≡ v
room_of_verdict b (Err x) e = refl
room_of_verdict b (Ok k) e =
    let f = filed b k e in
    ap (λ h. cond h (Ok k) (Err (at_place Room 0))) (room_for_all k f.below f.few f.many)

verdict_zeros : (b : List ℕ) → read_answer b (zeros 4099) (zeros 512) (zeros 2048) (zeros 2048) ≡ verdict_of b
unfolding read_answer
verdict_zeros b =
    ap (λ h. cond h (if_room (verdict_of b) (length (zeros 4099)) (length (zeros 512)) (length (zeros 2048))) (Err (at_place Argument 0)))
    (eq-eqb (length (zeros 2048)) (length (zeros 2048)) refl)
    ∙ ap (λ n. if_room (verdict_of b) n (length (zeros 512)) (length (zeros 2048))) (length-zeros 4099)
    ∙ ap (λ n. if_room (verdict_of b) 4099 n (length (zeros 2048))) (length-zeros 512)
    ∙ ap (λ n. if_room (verdict_of b) 4099 512 n) (length-zeros 2048)
    ∙ room_of_verdict b (verdict_of b) refl

pub verdict_read : (b plan areas xs ys : List ℕ) → plan ≡ zeros 4099 → areas ≡ zeros 512 → xs ≡ zeros 2048 → ys ≡ zeros 2048
    → read_answer b plan areas xs ys ≡ verdict_of b
verdict_read b plan areas xs ys p a x y =
    ap (λ t. read_answer b t areas xs ys) p
    ∙ ap (λ t. read_answer b (zeros 4099) t xs ys) a
    ∙ ap (λ t. read_answer b (zeros 4099) (zeros 512) t ys) x
    ∙ ap (λ t. read_answer b (zeros 4099) (zeros 512) (zeros 2048) t) y
    ∙ verdict_zeros b

pub refused_said : (b : List ℕ) (e : Refused) → Err e ≡ verdict_of b → refused_text e.refusal e.place ≡ file_text b
refused_said b r e = ap (verdict_text b) e

pub accepted_said : (b plan areas xs ys plan' areas' xs' ys' : List ℕ) (k : Counts) → Ok k ≡ verdict_of b
    → plan ≡ zeros 4099 → areas ≡ zeros 512 → xs ≡ zeros 2048 → ys ≡ zeros 2048
    → plan' ≡ sets plan 0 (plan_words (records_in b)) → areas' ≡ sets areas 0 (area_words (records_in b))
    → xs' ≡ sets xs 0 (x_words (records_in b)) → ys' ≡ sets ys 0 (y_words (records_in b))
    → drawing_text plan' areas' xs' ys' ≡ file_text b
accepted_said b plan areas xs ys plan' areas' xs' ys' k e p a x y p' a' x' y' =
    let rs = records_in b in
    let plan₁ = sets (zeros 4099) 0 (plan_words rs) in
    let areas₁ = sets (zeros 512) 0 (area_words rs) in
    let xs₁ = sets (zeros 2048) 0 (x_words rs) in
    let ys₁ = sets (zeros 2048) 0 (y_words rs) in
    ap (λ t. drawing_text t areas' xs' ys') (p' ∙ ap (λ t. sets t 0 (plan_words rs)) p)
    ∙ ap (λ t. drawing_text plan₁ t xs' ys') (a' ∙ ap (λ t. sets t 0 (area_words rs)) a)
    ∙ ap (λ t. drawing_text plan₁ areas₁ t ys') (x' ∙ ap (λ t. sets t 0 (x_words rs)) x)
    ∙ ap (λ t. drawing_text plan₁ areas₁ xs₁ t) (y' ∙ ap (λ t. sets t 0 (y_words rs)) y)
    ∙ ap (verdict_text b) e

-- ---- a file that is too long
long_law : (m : ℕ) (v : Verdict) → 65536 < m → cond (eqb (m % 16) 0) (cond (leb (m / 16) 4096) v (Err (at_place Length 0))) (Err (at_place Length 0))
    ≡ Err (at_place Length 0)
long_law m v h = go (eqb (m % 16) 0) (leb (m / 16) 4096) refl refl
  where
    go : (s t : Bool) → eqb (m % 16) 0 ≡ s → leb (m / 16) 4096 ≡ t → cond s (cond t v (Err (at_place Length 0))) (Err (at_place Length 0)) ≡ Err
        (at_place Length 0)
    go false t p q = refl
    go true false p q = refl
    go true true p q = absurd (omega (arith, eqb-true (m % 16) 0 p, leb-true (m / 16) 4096 q))

too_long : (b : List ℕ) → 65536 < length b → verdict_of b ≡ Err (at_place Length 0)
unfolding verdict_of
too_long b h = long_law (length b) _ h

pub one_byte_more : (b : List ℕ) → file_text (take 65537 b) ≡ file_text b
one_byte_more b = go (leb (length b) 65537) refl
  where
    go : (t : Bool) → leb (length b) 65537 ≡ t → file_text (take 65537 b) ≡ file_text b
    go true e = ap file_text (take_all 65537 b (leb-true (length b) 65537 e))
    go false e =
        let h : 65537 < length b = leb-false (length b) 65537 e in
        let n : length (take 65537 b) ≡ 65537 = length-take-le 65537 b (omega arith) in
        ap (verdict_text (take 65537 b)) (too_long (take 65537 b) (omega arith)) ∙ sym (ap (verdict_text b) (too_long b (omega arith)))

pub listed_said : (o : Option (List ℕ)) (records : List ℕ) (old new : Option (List ℕ)) → IfSome o (λ bs. records ≡ take 65537 bs)
    → Appends old new (file_text records) → IfSome o (λ bs. Appends old new (file_text bs))
listed_said None records old new e h = tt
listed_said (Some bs) records old new e h = subst (Appends old new) (ap file_text e ∙ one_byte_more bs) h
