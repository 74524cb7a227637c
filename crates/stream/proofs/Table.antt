-- Laws of a table of four words an entry: reading it one entry at a time, what a write leaves as it was, and reading back what was written.
use Prim.Native.Nat.{ℕ, zero, suc, ◌+◌, ◌*◌, ◌-◌, ◌≤◌, ◌<◌}
use mathlib.Core.Path.{◌≡◌, refl, sym, ap, subst, ◌∙◌}
use mathlib.Core.List.{List, [], ◌∷◌, ◌++◌}
use native.Mathlib.Omega.{arith}
use native.Mathlib.Nat.{add-zero}
use native.Mathlib.Numerals.{towards_suc}
use lib.ListN.{length, get_or, take, drop, set, length-set}
use lib.Seq.{get_or-set_same, get_or-set_other, get_or-take, take-set-le, sets, sets-eq, length-sets}
use Rattle.stream.specs.declared.Words.{Words}
use Rattle.stream.specs.Table.{words_at, words_from, put_at, flat, written}

-- the entries from i to e, one at a time, as a loop `while i < e` takes them
pub words_step : (t : List ℕ) (i e : ℕ) → i < e → words_from t i (e - i) ≡ words_at t i ∷ words_from t (i + 1) (e - (i + 1))
unfolding words_from
words_step t i e h =
    let q : e - i ≡ suc (e - (i + 1)) = omega arith in
    rw q

pub words_none : (t : List ℕ) (i e : ℕ) → e ≤ i → words_from t i (e - i) ≡ []
unfolding words_from
words_none t i e h =
    let q : e - i ≡ 0 = omega arith in
    rw q

-- ---- what a write leaves as it was
-- the entries within the first m words go by those words alone
pub at_agree : (t t' : List ℕ) (m i : ℕ) → take m t ≡ take m t' → i * 4 + 4 ≤ m → words_at t i ≡ words_at t' i
at_agree t t' m i e h =
    λ d.
    record {
      kind = at (i * 4) (omega arith) d;
      p = at (i * 4 + 1) (omega arith) d;
      q = at (i * 4 + 2) (omega arith) d;
      r = at (i * 4 + 3) (omega arith) d;
    }
  where
    at : (k : ℕ) → k < m → get_or t k 0 ≡ get_or t' k 0
    at k l = sym (get_or-take m t k 0 l) ∙ ap (λ (x : List ℕ). get_or x k 0) e ∙ get_or-take m t' k 0 l

pub from_agree : (t t' : List ℕ) (m i n : ℕ) → take m t ≡ take m t' → (i + n) * 4 ≤ m → words_from t i n ≡ words_from t' i n
unfolding words_from
from_agree t t' m i zero e h = refl
from_agree t t' m i (suc n) e h = λ d. at_agree t t' m i e (omega arith) d ∷ from_agree t t' m (i + 1) n e (omega arith) d

pub put_keeps : (t : List ℕ) (m i : ℕ) (w : Words) → m ≤ i * 4 → take m (put_at t i w) ≡ take m t
put_keeps t m i w h =
    let a : m ≤ i * 4 + 1 = omega arith in
    let b : m ≤ i * 4 + 2 = omega arith in
    let d : m ≤ i * 4 + 3 = omega arith in
    simp take-set-le

pub length_put : (t : List ℕ) (i : ℕ) (w : Words) → length (put_at t i w) ≡ length t
length_put t i w = simp length-set

-- ---- a list of entries, written one at a time
pub written_nil : (t : List ℕ) (i : ℕ) → written t i [] ≡ t
unfolding written flat
written_nil t i = refl

pub written_cons : (t : List ℕ) (i : ℕ) (w : Words) (ws : List Words) → written (put_at t i w) (i + 1) ws ≡ written t i (w ∷ ws)
unfolding written flat
written_cons t i w ws =
    let n : (i + 1) * 4 ≡ suc (suc (suc (suc (i * 4)))) = omega arith in
    rw n (simp towards_suc)

pub written_append : (t : List ℕ) (i : ℕ) (xs ys : List Words) → written (written t i xs) (i + length xs) ys ≡ written t i (xs ++ ys)
written_append t i [] ys = rw (written_nil, add-zero)
written_append t i (x ∷ xs) ys =
    let n : i + suc (length xs) ≡ i + 1 + length xs = omega arith in
    rw (← written_cons t i x xs, n) (written_append (put_at t i x) (i + 1) xs ys ∙ written_cons t i x (xs ++ ys))

pub length_flat : (ws : List Words) → length (flat ws) ≡ length ws * 4
unfolding flat
length_flat [] = refl
length_flat (w ∷ ws) = rw (length_flat ws) (omega arith)

-- where there is room, the whole table: what stands before, the entries, and what stands after
pub written_eq : (t : List ℕ) (i : ℕ) (ws : List Words)
    → (i + length ws) * 4 ≤ length t
    → written t i ws ≡ take (i * 4) t ++ flat ws ++ drop ((i + length ws) * 4) t
unfolding written
written_eq t i ws h =
    let n : i * 4 + length (flat ws) ≡ (i + length ws) * 4 = omega (arith, length_flat ws) in
    rw n at (sets-eq (flat ws) t (i * 4) (omega (arith, length_flat ws)))

pub length_written : (t : List ℕ) (i : ℕ) (ws : List Words) → length (written t i ws) ≡ length t
unfolding written
length_written t i ws = length-sets t (i * 4) (flat ws)

-- what stands before is as it was
take_sets : (m i : ℕ) (l vs : List ℕ) → m ≤ i → take m (sets l i vs) ≡ take m l
take_sets m i l [] h = refl
take_sets m i l (v ∷ vs) h = take_sets m (suc i) (set l i v) vs (omega arith) ∙ take-set-le m l i v h

pub written_keeps : (t : List ℕ) (m i : ℕ) (ws : List Words) → m ≤ i * 4 → take m (written t i ws) ≡ take m t
unfolding written
written_keeps t m i ws h = take_sets m (i * 4) t (flat ws) h

skip : (l : List ℕ) (i j a : ℕ) → j < i → get_or (set l i a) j 0 ≡ get_or l j 0
skip l i j a h = get_or-set_other l i j a 0 (λ e. omega arith)

pub put_same : (t : List ℕ) (i : ℕ) (w : Words) → i * 4 + 4 ≤ length t → words_at (put_at t i w) i ≡ w
put_same t i w h = λ d. record { kind = k d; p = p' d; q = q' d; r = r' d }
  where
    t₁ : List ℕ
    t₁ = set t (i * 4) w.kind

    t₂ : List ℕ
    t₂ = set t₁ (i * 4 + 1) w.p

    t₃ : List ℕ
    t₃ = set t₂ (i * 4 + 2) w.q

    k : (words_at (put_at t i w) i).kind ≡ w.kind
    k =
        skip t₃ (i * 4 + 3) (i * 4) w.r (omega arith)
        ∙ skip t₂ (i * 4 + 2) (i * 4) w.q (omega arith)
        ∙ skip t₁ (i * 4 + 1) (i * 4) w.p (omega arith)
        ∙ get_or-set_same t (i * 4) w.kind 0 (omega arith)

    p' : (words_at (put_at t i w) i).p ≡ w.p
    p' =
        skip t₃ (i * 4 + 3) (i * 4 + 1) w.r (omega arith)
        ∙ skip t₂ (i * 4 + 2) (i * 4 + 1) w.q (omega arith)
        ∙ get_or-set_same t₁ (i * 4 + 1) w.p 0 (simp length-set (omega arith))

    q' : (words_at (put_at t i w) i).q ≡ w.q
    q' = skip t₃ (i * 4 + 3) (i * 4 + 2) w.r (omega arith) ∙ get_or-set_same t₂ (i * 4 + 2) w.q 0 (simp length-set (omega arith))

    r' : (words_at (put_at t i w) i).r ≡ w.r
    r' = get_or-set_same t₃ (i * 4 + 3) w.r 0 (simp length-set (omega arith))

-- entries that are written can be read back, and are those that were written
pub written_read : (t : List ℕ) (i : ℕ) (ws : List Words) → (i + length ws) * 4 ≤ length t → words_from (written t i ws) i (length ws) ≡ ws
unfolding words_from
written_read t i [] h = refl
written_read t i (w ∷ ws) h =
    subst (λ u. words_from u i (suc (length ws)) ≡ w ∷ ws) (written_cons t i w ws)
    (λ d. first d ∷ written_read (put_at t i w) (i + 1) ws room d)
  where
    first : words_at (written (put_at t i w) (i + 1) ws) i ≡ w
    first = at_agree _ _ (i * 4 + 4) i (written_keeps (put_at t i w) (i * 4 + 4) (i + 1) ws (omega arith)) (omega arith) ∙ put_same t i w (omega arith)

    room : (i + 1 + length ws) * 4 ≤ length (put_at t i w)
    room = simp length-set (omega arith)
