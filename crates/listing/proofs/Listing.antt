-- Lines written to a table one after the other, the loop over the corners, and the lines read back.
use Rattle.std.proofs.Common.{Option, Some, None}
use mathlib.Core.Path.{◌≡◌, refl, sym, ap, subst, ◌∙◌}
use mathlib.Core.List.{List, [], ◌∷◌, ◌++◌}
use Prim.Native.Nat.{ℕ, zero, suc, ◌+◌, ◌*◌, ◌-◌, ◌≤◌, ◌<◌}
use native.Mathlib.Omega.{arith}
use native.Mathlib.Nat.{add-zero}
use native.Mathlib.Numerals.{towards_suc}
use lib.ListN.{length, get_or, take, set, length-set}
use lib.Seq.{get_or-set_same, get_or-set_other, get_or-take, take-set-le, sets, length-sets}
use Rattle.tables.specs.Tables.{Tree}
use Rattle.listing.specs.declared.Line.{Line}
use Rattle.listing.specs.Listed.{corner_at, with_corner, lines_from, listed}
use Rattle.listing.specs.Numbers.{flat, line_at, lines_in, put_at, written}

pub written_nil : (t : List ℕ) (i : ℕ) → written t i [] ≡ t
unfolding written flat
written_nil t i = refl

pub written_cons : (t : List ℕ) (i : ℕ) (l : Line) (ls : List Line) → written (put_at t i l) (i + 1) ls ≡ written t i (l ∷ ls)
unfolding written flat
written_cons t i l ls =
    let n : (i + 1) * 5 ≡ suc (suc (suc (suc (suc (i * 5))))) = omega arith in
    rw n (simp towards_suc)

written_append : (t : List ℕ) (i : ℕ) (xs ys : List Line) → written (written t i xs) (i + length xs) ys ≡ written t i (xs ++ ys)
written_append t i [] ys = rw (written_nil, add-zero)
written_append t i (x ∷ xs) ys =
    let n : i + suc (length xs) ≡ i + 1 + length xs = omega arith in
    rw (← written_cons t i x xs, n) (written_append (put_at t i x) (i + 1) xs ys ∙ written_cons t i x (xs ++ ys))

length_written : (t : List ℕ) (i : ℕ) (ls : List Line) → length (written t i ls) ≡ length t
unfolding written
length_written t i ls = length-sets t (i * 5) (flat ls)

-- one line more
pub written_one : (t : List ℕ) (i : ℕ) (l : Line) → put_at t i l ≡ written t i (l ∷ [])
written_one t i l = rw (← written_cons t i l []) (rw (written_nil (put_at t i l) (i + 1)))

pub written_none : (t : List ℕ) (i : ℕ) → t ≡ written t i []
written_none t i = rw (written_nil t i)

with_append : (p : Option Line) (ls : List Line) → with_corner p [] ++ ls ≡ with_corner p ls
with_append (Some l) ls = refl
with_append None ls = refl

with_length : (p : Option Line) (ls : List Line) → length (with_corner p ls) ≡ length (with_corner p []) + length ls
with_length (Some l) ls = omega arith
with_length None ls = omega arith

with_few : (p : Option Line) → length (with_corner p []) ≤ 1
with_few (Some l) = omega arith
with_few None = omega arith

few_from : (t : Tree) (n k : ℕ) → length (lines_from t k n) ≤ n
unfolding lines_from
few_from t zero k = omega arith
few_from t (suc n) k = omega (arith, with_length (corner_at t k) (lines_from t (k + 1) n), with_few (corner_at t k), few_from t n (k + 1))

pub few_lines : (t : Tree) → length (listed t) ≤ 256
few_lines t = few_from t 256 0

lines_step : (t : Tree) (k : ℕ) → k < 256 → lines_from t k (256 - k) ≡ with_corner (corner_at t k) (lines_from t (k + 1) (256 - (k + 1)))
unfolding lines_from
lines_step t k h =
    let q : 256 - k ≡ suc (256 - (k + 1)) = omega arith in
    rw q

lines_none : (t : Tree) (k : ℕ) → 256 ≤ k → lines_from t k (256 - k) ≡ []
unfolding lines_from
lines_none t k h =
    let q : 256 - k ≡ 0 = omega arith in
    rw q

-- the table is r and was r₀; n lines of the corners below k are written, and the others are to come
pub record Listing (t : Tree) (r₀ r : List ℕ) (k n : ℕ) : Type 0 where
  pub size : length r ≡ length r₀
  pub few : n ≤ k
  pub low : k ≤ 256
  pub count : n + length (lines_from t k (256 - k)) ≡ length (listed t)
  pub rest : written r n (lines_from t k (256 - k)) ≡ written r₀ 0 (listed t)

pub list_turn : (t : Tree) (r₀ r r' : List ℕ) (k n n' : ℕ) (p : Option Line)
    → k < 256
    → p ≡ corner_at t k
    → n' ≡ n + length (with_corner p [])
    → r' ≡ written r n (with_corner p [])
    → Listing t r₀ r k n
    → Listing t r₀ r' (k + 1) n'
list_turn t r₀ r r' k n n' p h e f g c =
    let ls : List Line = lines_from t (k + 1) (256 - (k + 1)) in
    let s : lines_from t k (256 - k) ≡ with_corner p ls = lines_step t k h ∙ rw (← e) in
    let m : n + length (with_corner p ls) ≡ length (listed t) = rw s at c.count in
    record {
      size = ap length g ∙ length_written r n (with_corner p []) ∙ c.size;
      few = omega (arith, with_few p, c.few);
      low = omega arith;
      count = omega (arith, m, with_length p ls);
      rest = rw (g, f) (written_append r n (with_corner p []) ls ∙ (rw (with_append p ls) (rw s at c.rest)));
    }

pub list_count : (t : Tree) (r₀ r : List ℕ) (k n : ℕ) → 256 ≤ k → Listing t r₀ r k n → n ≡ length (listed t)
list_count t r₀ r k n h c = omega (arith, rw (lines_none t k h) at c.count)

pub list_done : (t : Tree) (r₀ r : List ℕ) (k n : ℕ) → 256 ≤ k → Listing t r₀ r k n → r ≡ written r₀ 0 (listed t)
list_done t r₀ r k n h c = rw (lines_none t k h, written_nil r n) at c.rest

-- ---- the lines that are written can be read back, and are those that were written
at_agree : (t t' : List ℕ) (m i : ℕ) → take m t ≡ take m t' → i * 5 + 5 ≤ m → line_at t i ≡ line_at t' i
at_agree t t' m i e h =
    λ d.
    record {
      cell = at (i * 5) (omega arith) d;
      key = at (i * 5 + 1) (omega arith) d;
      side = at (i * 5 + 2) (omega arith) d;
      entries = at (i * 5 + 3) (omega arith) d;
      lines = at (i * 5 + 4) (omega arith) d;
    }
  where
    at : (k : ℕ) → k < m → get_or t k 0 ≡ get_or t' k 0
    at k l = sym (get_or-take m t k 0 l) ∙ ap (λ (x : List ℕ). get_or x k 0) e ∙ get_or-take m t' k 0 l

take_sets : (m i : ℕ) (l vs : List ℕ) → m ≤ i → take m (sets l i vs) ≡ take m l
take_sets m i l [] h = refl
take_sets m i l (v ∷ vs) h = take_sets m (suc i) (set l i v) vs (omega arith) ∙ take-set-le m l i v h

written_keeps : (t : List ℕ) (m i : ℕ) (ls : List Line) → m ≤ i * 5 → take m (written t i ls) ≡ take m t
unfolding written
written_keeps t m i ls h = take_sets m (i * 5) t (flat ls) h

skip : (l : List ℕ) (i j a : ℕ) → j < i → get_or (set l i a) j 0 ≡ get_or l j 0
skip l i j a h = get_or-set_other l i j a 0 (λ e. omega arith)

put_same : (t : List ℕ) (i : ℕ) (l : Line) → i * 5 + 5 ≤ length t → line_at (put_at t i l) i ≡ l
put_same t i l h = λ d. record { cell = c d; key = k d; side = s d; entries = e d; lines = n d }
  where
    t₁ : List ℕ
    t₁ = set t (i * 5) l.cell

    t₂ : List ℕ
    t₂ = set t₁ (i * 5 + 1) l.key

    t₃ : List ℕ
    t₃ = set t₂ (i * 5 + 2) l.side

    t₄ : List ℕ
    t₄ = set t₃ (i * 5 + 3) l.entries

    c : (line_at (put_at t i l) i).cell ≡ l.cell
    c =
        skip t₄ (i * 5 + 4) (i * 5) l.lines (omega arith)
        ∙ skip t₃ (i * 5 + 3) (i * 5) l.entries (omega arith)
        ∙ skip t₂ (i * 5 + 2) (i * 5) l.side (omega arith)
        ∙ skip t₁ (i * 5 + 1) (i * 5) l.key (omega arith)
        ∙ get_or-set_same t (i * 5) l.cell 0 (omega arith)

    k : (line_at (put_at t i l) i).key ≡ l.key
    k =
        skip t₄ (i * 5 + 4) (i * 5 + 1) l.lines (omega arith)
        ∙ skip t₃ (i * 5 + 3) (i * 5 + 1) l.entries (omega arith)
        ∙ skip t₂ (i * 5 + 2) (i * 5 + 1) l.side (omega arith)
        ∙ get_or-set_same t₁ (i * 5 + 1) l.key 0 (simp length-set (omega arith))

    s : (line_at (put_at t i l) i).side ≡ l.side
    s =
        skip t₄ (i * 5 + 4) (i * 5 + 2) l.lines (omega arith)
        ∙ skip t₃ (i * 5 + 3) (i * 5 + 2) l.entries (omega arith)
        ∙ get_or-set_same t₂ (i * 5 + 2) l.side 0 (simp length-set (omega arith))

    e : (line_at (put_at t i l) i).entries ≡ l.entries
    e = skip t₄ (i * 5 + 4) (i * 5 + 3) l.lines (omega arith) ∙ get_or-set_same t₃ (i * 5 + 3) l.entries 0 (simp length-set (omega arith))

    n : (line_at (put_at t i l) i).lines ≡ l.lines
    n = get_or-set_same t₄ (i * 5 + 4) l.lines 0 (simp length-set (omega arith))

pub written_read : (t : List ℕ) (i : ℕ) (ls : List Line) → (i + length ls) * 5 ≤ length t → lines_in (written t i ls) i (length ls) ≡ ls
unfolding lines_in
written_read t i [] h = refl
written_read t i (l ∷ ls) h =
    subst (λ u. lines_in u i (suc (length ls)) ≡ l ∷ ls) (written_cons t i l ls)
    (λ d. first d ∷ written_read (put_at t i l) (i + 1) ls room d)
  where
    first : line_at (written (put_at t i l) (i + 1) ls) i ≡ l
    first = at_agree _ _ (i * 5 + 5) i (written_keeps (put_at t i l) (i * 5 + 5) (i + 1) ls (omega arith)) (omega arith) ∙ put_same t i l (omega arith)

    room : (i + 1 + length ls) * 5 ≤ length (put_at t i l)
    room = simp length-set (omega arith)
