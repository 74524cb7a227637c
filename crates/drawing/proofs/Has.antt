-- Laws of words that a table holds.
use Prim.Native.Nat.{ℕ, suc, ◌+◌, ◌≤◌, ◌<◌}
use mathlib.Core.Path.{◌≡◌, refl, sym, ap, ◌∙◌}
use mathlib.Core.List.{List, [], ◌∷◌, ◌++◌, append-nil}
use native.Mathlib.Omega.{arith}
use native.Mathlib.Nat.{add-zero}
use lib.ListN.{length, get_or, take, drop, set, length-append, length-set}
use lib.Seq.{sets, sets-eq, length-sets, get_or-set_same, get_or-set_other, set-get_or, drop-length, take_at}
use Rattle.read.specs.Words.{words_from, Has}

before : (l vs : List ℕ) (i j : ℕ) → j < i → get_or (sets l i vs) j 0 ≡ get_or l j 0
before l [] i j h = refl
before l (v ∷ vs) i j h = before (set l i v) vs (suc i) j (omega arith) ∙ get_or-set_other l i j v 0 (λ e. omega arith)

-- what was written is there
sets_words : (t : List ℕ) (i : ℕ) (ws : List ℕ) → i + length ws ≤ length t → words_from (sets t i ws) i (length ws) ≡ ws
sets_words t i [] h = refl
sets_words t i (w ∷ ws) h =
    λ d.
    (before (set t i w) ws (suc i) i (omega arith) ∙ get_or-set_same t i w 0 (omega arith)) d
    ∷ sets_words (set t i w) (suc i) ws (rw (length-set t i w) (omega arith)) d

pub has_sets : (t : List ℕ) (i : ℕ) (ws : List ℕ) → i + length ws ≤ length t → Has (sets t i ws) i ws
has_sets t i ws h = record { room = rw (length-sets t i ws) h; same = sets_words t i ws h }

cons_head : (a b : ℕ) (xs ys : List ℕ) → a ∷ xs ≡ b ∷ ys → a ≡ b
cons_head a b xs ys e = cc

cons_tail : (a b : ℕ) (xs ys : List ℕ) → a ∷ xs ≡ b ∷ ys → xs ≡ ys
cons_tail a b xs ys e = cc

-- writing what is there changes nothing
same_sets : (t : List ℕ) (i : ℕ) (ws : List ℕ) → words_from t i (length ws) ≡ ws → sets t i ws ≡ t
same_sets t i [] e = refl
same_sets t i (w ∷ ws) e =
    let h : set t i w ≡ t = ap (set t i) (sym (cons_head (get_or t i 0) w _ ws e)) ∙ set-get_or t i 0 in
    rw h (same_sets t (suc i) ws (cons_tail (get_or t i 0) w _ ws e))

pub has_same : (t : List ℕ) (i : ℕ) (ws : List ℕ) → Has t i ws → sets t i ws ≡ t
has_same t i ws h = same_sets t i ws h.same

-- ---- parts
pub has_nil : (t : List ℕ) (i : ℕ) → i ≤ length t → Has t i []
has_nil t i h = record { room = omega arith; same = refl }

join_words : (t : List ℕ) (i : ℕ) (xs ys : List ℕ)
    → words_from t i (length xs) ≡ xs
    → words_from t (i + length xs) (length ys) ≡ ys
    → words_from t i (length (xs ++ ys)) ≡ xs ++ ys
join_words t i [] ys p q = rw (add-zero i) at q
join_words t i (x ∷ xs) ys p q =
    let n : i + suc (length xs) ≡ suc i + length xs = omega arith in
    λ d. cons_head (get_or t i 0) x _ xs p d ∷ join_words t (suc i) xs ys (cons_tail (get_or t i 0) x _ xs p) (rw n at q) d

left_words : (t : List ℕ) (i : ℕ) (xs ys : List ℕ) → words_from t i (length (xs ++ ys)) ≡ xs ++ ys → words_from t i (length xs) ≡ xs
left_words t i [] ys e = refl
left_words t i (x ∷ xs) ys e = λ d. cons_head (get_or t i 0) x _ (xs ++ ys) e d ∷ left_words t (suc i) xs ys (cons_tail (get_or t i 0) x _ (xs ++ ys) e) d

right_words : (t : List ℕ) (i : ℕ) (xs ys : List ℕ) → words_from t i (length (xs ++ ys)) ≡ xs ++ ys → words_from t (i + length xs) (length ys) ≡ ys
right_words t i [] ys e = rw (add-zero i) e
right_words t i (x ∷ xs) ys e =
    let n : i + suc (length xs) ≡ suc i + length xs = omega arith in
    rw n (right_words t (suc i) xs ys (cons_tail (get_or t i 0) x _ (xs ++ ys) e))

pub has_join : (t : List ℕ) (i : ℕ) (xs ys : List ℕ) → Has t i xs → Has t (i + length xs) ys → Has t i (xs ++ ys)
has_join t i xs ys p q = record { room = rw (length-append xs ys) (omega (arith, q.room)); same = join_words t i xs ys p.same q.same }

pub has_left : (t : List ℕ) (i : ℕ) (xs ys : List ℕ) → Has t i (xs ++ ys) → Has t i xs
has_left t i xs ys h = record { room = omega (arith, h.room, length-append xs ys); same = left_words t i xs ys h.same }

pub has_right : (t : List ℕ) (i : ℕ) (xs ys : List ℕ) → Has t i (xs ++ ys) → Has t (i + length xs) ys
has_right t i xs ys h = record { room = omega (arith, h.room, length-append xs ys); same = right_words t i xs ys h.same }

pub has_at : (t : List ℕ) (i j : ℕ) (ws : List ℕ) → i ≡ j → Has t i ws → Has t j ws
has_at t i j ws e h = rw e at h

pub has_first : (t : List ℕ) (i w : ℕ) (ws : List ℕ) → Has t i (w ∷ ws) → get_or t i 0 ≡ w
has_first t i w ws h = cons_head (get_or t i 0) w _ ws h.same

pub has_rest : (t : List ℕ) (i w : ℕ) (ws : List ℕ) → Has t i (w ∷ ws) → Has t (suc i) ws
has_rest t i w ws h = record { room = omega (arith, h.room); same = cons_tail (get_or t i 0) w _ ws h.same }

pub has_one_law : (t : List ℕ) (i w : ℕ) → i < length t → get_or t i 0 ≡ w → Has t i (w ∷ [])
has_one_law t i w h e = record { room = omega arith; same = λ d. e d ∷ [] }

pub has_cons : (t : List ℕ) (i w : ℕ) (ws : List ℕ) → get_or t i 0 ≡ w → Has t (suc i) ws → Has t i (w ∷ ws)
has_cons t i w ws e h = record { room = omega (arith, h.room); same = λ d. e d ∷ h.same d }

-- words as long as the table are the table
pub has_whole : (t ws : List ℕ) → Has t 0 ws → length ws ≡ length t → ws ≡ t
has_whole t ws h e = sym (append-nil ws) ∙ sym parts ∙ has_same t 0 ws h
  where
    parts : sets t 0 ws ≡ ws ++ []
    parts =
        let n : 0 + length ws ≡ length t = omega arith in
        sets-eq ws t 0 h.room ∙ ap (λ (x : List ℕ). ws ++ x) (ap (λ (m : ℕ). drop m t) n ∙ drop-length t)

-- the beginning of a table that holds words from its beginning
pub has_take : (t ws : List ℕ) → length ws ≤ length t → take (length ws) (sets t 0 ws) ≡ ws
has_take t ws h = ap (take (length ws)) (sets-eq ws t 0 (omega arith)) ∙ take_at ws (drop (0 + length ws) t) (length ws) refl
