-- The laws of classes, for any segment f with the rows b to d − 1:
-- L1 a dropped segment counts at no position of the square (`dropped_counts`);
-- L2 one that counts everywhere counts in the square exactly at its rows there (`start_counts`, `shortcut_counts`);
-- L3 in a square within a square, dropped stays dropped, and everywhere stays everywhere over the cut rows or has none (`child_class`).
-- And the class by four positions (`quick_dropped`, `quick_every`, `quick_kept`), which the code computes.
use mathlib.Core.Path.{◌≡◌, refl, sym, ap, ap₂, ◌∙◌, subst₂}
use mathlib.Core.Bool.{Bool, true, false, not, cond, ◌&&◌, ◌||◌, or-true}
use mathlib.Core.Logic.{◌⊎◌, inl, inr}
use Prim.Native.Nat.{ℕ, ◌+◌, ◌≤◌, ◌<◌, min, max}
use native.Mathlib.Omega.{arith}
use native.Mathlib.Decide.{dec_le, dec_lt}
use lib.Dec.{T, T_not, leb, ltb, eqb, leb→le, ltb→lt}
use borrow.Author.Tests.{lt-leb, le-leb, lt-ltb, le-ltb, eq-eqb, leb-true, leb-false, eqb-true}
use Rattle.laws.proofs.Booleans.{T_true, T_false, true_T, false_T, &&_left, &&_right}
use Rattle.curves.specs.Lines.{is_row}
use Rattle.curves.proofs.Segments.{Segment}
use Rattle.geometry.specs.Classes.{nowhere, everywhere, verdict, class_of, cut, child_of, says, Inside, Contains}
use Rattle.geometry.specs.declared.class.Class.{Class}
use Rattle.geometry.specs.declared.class.Class.TheVariants.{Dropped, Start, Shortcut, Kept}
use Rattle.geometry.proofs.Squares.{nowhere_at, nowhere_of, everywhere_at, everywhere_of, nowhere_quick, everywhere_quick}

-- ---- rows that are cut

-- rows that were cut to a taller square's are cut as they were
cut_again : (b d lo hi Y S : ℕ) → max lo Y ≡ max b Y → min hi (Y + S) ≡ min d (Y + S) → cut lo hi Y S ≡ cut b d Y S
unfolding cut
cut_again b d lo hi Y S p q = ap₂ (λ l h. verdict false true l h Y S) p q

cut_none : (lo hi Y S : ℕ) → min hi (Y + S) ≤ max lo Y → cut lo hi Y S ≡ Dropped
unfolding cut verdict
cut_none lo hi Y S h = simp (le-leb (min hi (Y + S)) (max lo Y) h)

cut_whole : (lo hi Y S : ℕ) → 0 < S → max lo Y ≡ Y → min hi (Y + S) ≡ Y + S → cut lo hi Y S ≡ Start
unfolding cut verdict
cut_whole lo hi Y S w p q = simp (lt-leb (min hi (Y + S)) (max lo Y) (omega arith), eq-eqb (max lo Y) Y p, eq-eqb (min hi (Y + S)) (Y + S) q)

-- ---- what a class tells, and what tells the class

module _ (f : ℕ → ℕ → Bool) (b d X Y S : ℕ) where
  Nowhere : Type 0
  Nowhere = (x y : ℕ) → max b Y ≤ y → y < min d (Y + S) → X ≤ x → x < X + S → T (not (f x y))

  Everywhere : Type 0
  Everywhere = (x y : ℕ) → max b Y ≤ y → y < min d (Y + S) → X ≤ x → x < X + S → T (f x y)

  data View : Class → Type 0 where
    dropped : Nowhere → View Dropped
    start : Everywhere → max b Y < min d (Y + S) → max b Y ≡ Y → min d (Y + S) ≡ Y + S → View Start
    shortcut : Everywhere → max b Y < min d (Y + S) → View (Shortcut (max b Y) (min d (Y + S)))
    kept : View Kept

  by : (r n e u v : Bool) →
      (leb (min d (Y + S)) (max b Y) ≡ r) → (nowhere f (max b Y) (min d (Y + S)) X S ≡ n) → (everywhere f (max b Y) (min d (Y + S)) X S ≡ e) →
      (eqb (max b Y) Y ≡ u) → (eqb (min d (Y + S)) (Y + S) ≡ v) →
      View (cond (r || n) Dropped (cond e (cond (u && v) Start (Shortcut (max b Y) (min d (Y + S)))) Kept))
  unfolding Nowhere Everywhere
  by true n e u v p q w h k = dropped (λ x y a b' c c'. absurd (clash (leb-true _ _ p) a b'))
    where
      clash : {lo hi y : ℕ} → hi ≤ lo → lo ≤ y → y < hi → ⊥
      clash p a b' = omega arith
  by false true e u v p q w h k = dropped (nowhere_at f (max b Y) (min d (Y + S)) X S (true_T q))
  by false false true true true p q w h k = start (everywhere_at f (max b Y) (min d (Y + S)) X S (true_T w)) (leb-false _ _ p) (eqb-true _ _ h) (eqb-true _ _ k)
  by false false true true false p q w h k = shortcut (everywhere_at f (max b Y) (min d (Y + S)) X S (true_T w)) (leb-false _ _ p)
  by false false true false v p q w h k = shortcut (everywhere_at f (max b Y) (min d (Y + S)) X S (true_T w)) (leb-false _ _ p)
  by false false false u v p q w h k = kept

  view : View (class_of f b d X Y S)
  unfolding class_of verdict
  view = by _ _ _ _ _ refl refl refl refl refl

  is_dropped : Nowhere → class_of f b d X Y S ≡ Dropped
  unfolding class_of verdict Nowhere
  is_dropped g = simp (T_true {a = nowhere f (max b Y) (min d (Y + S)) X S} (nowhere_of f (max b Y) (min d (Y + S)) X S g), or-true)

  is_cut : 0 < S → max b Y < min d (Y + S) → Everywhere → class_of f b d X Y S ≡ cut b d Y S
  unfolding class_of verdict cut Everywhere
  is_cut wide rows g =
      simp (
        lt-leb _ _ rows,
        T_true {a = everywhere f (max b Y) (min d (Y + S)) X S} (everywhere_of f (max b Y) (min d (Y + S)) X S g),
        some (nowhere f (max b Y) (min d (Y + S)) X S) refl,
      )
    where
      some : (t : Bool) → nowhere f (max b Y) (min d (Y + S)) X S ≡ t → t ≡ false
      some true e =
          absurd
          (T_not (f X (max b Y))
          (nowhere_at f (max b Y) (min d (Y + S)) X S (true_T e) X (max b Y) (omega arith) rows (omega arith) (omega arith))
          (g X (max b Y) (omega arith) rows (omega arith) (omega arith)))
      some false e = refl

  pub no_rows : min d (Y + S) ≤ max b Y → class_of f b d X Y S ≡ Dropped
  unfolding class_of verdict
  no_rows h = simp (le-leb (min d (Y + S)) (max b Y) h)

-- ---- the class by four positions: lo and hi are the first row in the square and the one past the last, l the last, z the rightmost column

module _ {f : ℕ → ℕ → Bool} {b d : ℕ} (k : Segment f b d) (X Y S lo hi l : ℕ) (p : lo ≡ max b Y) (q : hi ≡ min d (Y + S)) (some : lo < hi)
    (wide : 0 < S) (last : l + 1 ≡ hi) where
  none_by : nowhere f (max b Y) (min d (Y + S)) X S ≡ not (f X lo) && not (f X l)
  none_by = rw (← p, ← q) (nowhere_quick k lo hi X S l some (omega arith) (omega arith) wide last)

  every_by : (z : ℕ) → z + 1 ≡ X + S → everywhere f (max b Y) (min d (Y + S)) X S ≡ f z lo && f z l
  every_by z right = rw (← p, ← q) (everywhere_quick k lo hi X S l some (omega arith) (omega arith) wide last z right)

  pub quick_dropped : not (f X lo) && not (f X l) ≡ true → class_of f b d X Y S ≡ Dropped
  unfolding Nowhere
  quick_dropped n = is_dropped f b d X Y S (nowhere_at f (max b Y) (min d (Y + S)) X S (true_T (none_by ∙ n)))

  pub quick_every : (z : ℕ) → z + 1 ≡ X + S → f z lo && f z l ≡ true → class_of f b d X Y S ≡ cut lo hi Y S
  unfolding Everywhere
  quick_every z right e =
      is_cut f b d X Y S wide (omega arith) (everywhere_at f (max b Y) (min d (Y + S)) X S (true_T (every_by z right ∙ e)))
      ∙ sym (cut_again b d lo hi Y S (omega arith) (omega arith))

  pub quick_kept : (z : ℕ) → z + 1 ≡ X + S → not (f X lo) && not (f X l) ≡ false → f z lo && f z l ≡ false → class_of f b d X Y S ≡ Kept
  unfolding class_of verdict
  quick_kept z right n e = simp (lt-leb (min d (Y + S)) (max b Y) (omega arith), none_by ∙ n, every_by z right ∙ e)

-- ---- L1 and L2: at each position of its square a class says what its segment does

module _ {f : ℕ → ℕ → Bool} {b d : ℕ} (k : Segment f b d) (X Y S x y : ℕ) (i : Inside X Y S x y) where
  -- outside its rows a segment does not count
  off : (y < b) ⊎ (d ≤ y) → f x y ≡ false
  off o = go (f x y) refl o
    where
      go : (t : Bool) → f x y ≡ t → (y < b) ⊎ (d ≤ y) → t ≡ false
      go true e (inl p) = let r = k.rows x y (true_T e) in absurd (omega arith)
      go true e (inr p) = let r = k.rows x y (true_T e) in absurd (omega arith)
      go false e o = refl

  -- y is a row of the segment, below its rows, or above
  data Place : Type 0 where
    on : b ≤ y → y < d → Place
    under : y < b → Place
    over : b ≤ y → d ≤ y → Place

  place : Place
  place = go (dec_le b y) (dec_lt y d)
    where
      go : Dec (b ≤ y) → Dec (y < d) → Place
      go (yes p) (yes q) = on p q
      go (yes p) (no q) = over p (omega arith)
      go (no p) q = under (omega arith)

  told : {c : Class} → View f b d X Y S c → Place → says c f x y ≡ f x y
  unfolding Nowhere Everywhere
  told (dropped g) (on p q) = sym (T_false {a = f x y} (g x y (omega arith) (omega arith) i.west i.east))
  told (dropped g) (under p) = sym (off (inl p))
  told (dropped g) (over p q) = sym (off (inr q))
  told (start g r p q) o = sym (T_true {a = f x y} (g x y (omega arith) (omega arith) i.west i.east))
  told (shortcut g r) (on p q) =
      rw (le-leb (max b Y) y (omega arith), lt-ltb y (min d (Y + S)) (omega arith))
      (sym (T_true {a = f x y} (g x y (omega arith) (omega arith) i.west i.east)))
  told (shortcut g r) (under p) = rw (lt-leb (max b Y) y (omega arith)) (sym (off (inl p)))
  told (shortcut g r) (over p q) = rw (le-leb (max b Y) y (omega arith), le-ltb y (min d (Y + S)) (omega arith)) (sym (off (inr q)))
  told kept o = refl

  pub class_says : says (class_of f b d X Y S) f x y ≡ f x y
  class_says = told (view f b d X Y S) place

  pub dropped_counts : class_of f b d X Y S ≡ Dropped → f x y ≡ false
  dropped_counts e = sym class_says ∙ ap (λ c. says c f x y) e

  pub start_counts : class_of f b d X Y S ≡ Start → f x y ≡ true
  start_counts e = sym class_says ∙ ap (λ c. says c f x y) e

  pub shortcut_counts : (lo hi : ℕ) → class_of f b d X Y S ≡ Shortcut lo hi → f x y ≡ is_row lo hi y
  shortcut_counts lo hi e = sym class_says ∙ ap (λ c. says c f x y) e

-- ---- L3: the class in a square (X, Y, S) within a square (X', Y', S')

module _ (f : ℕ → ℕ → Bool) (b d X' Y' S' X Y S : ℕ) (w : Contains X' Y' S' X Y S) where
  inner : {c : Class} → View f b d X' Y' S' c → class_of f b d X Y S ≡ child_of c (class_of f b d X Y S) Y S
  unfolding Nowhere Everywhere
  inner (dropped g) = is_dropped f b d X Y S (λ x y h k m n. g x y (omega arith) (omega arith) (omega arith) (omega arith))
  inner (start g r h k) =
      is_cut f b d X Y S w.some_side (omega arith) (λ x y h k m n. g x y (omega arith) (omega arith) (omega arith) (omega arith))
      ∙ cut_whole b d Y S w.some_side (omega arith) (omega arith)
  inner (shortcut g r) = go (dec_lt (max b Y) (min d (Y + S))) ∙ sym (cut_again b d (max b Y') (min d (Y' + S')) Y S (omega arith) (omega arith))
    where
      go : Dec (max b Y < min d (Y + S)) → class_of f b d X Y S ≡ cut b d Y S
      go (yes t) = is_cut f b d X Y S w.some_side t (λ x y h k m n. g x y (omega arith) (omega arith) (omega arith) (omega arith))
      go (no t) = no_rows f b d X Y S (omega arith) ∙ sym (cut_none b d Y S (omega arith))
  inner kept = refl

  pub child_class : class_of f b d X Y S ≡ child_of (class_of f b d X' Y' S') (class_of f b d X Y S) Y S
  child_class = inner (view f b d X' Y' S')

-- ---- a shortcut is a segment too: it counts at every position of its rows

row_low : (lo hi y : ℕ) → T (is_row lo hi y) → (lo ≤ y) × (y < hi)
row_low lo hi y t = (leb→le lo y (&&_left (leb lo y) (ltb y hi) t), ltb→lt y hi (&&_right (leb lo y) (ltb y hi) t))

row_in : (lo hi y : ℕ) → lo ≤ y → y < hi → T (is_row lo hi y)
row_in lo hi y p q = true_T {a = is_row lo hi y} (rw (le-leb lo y p, lt-ltb y hi q))

pub rows_segment : (lo hi : ℕ) → Segment (λ x y. is_row lo hi y) lo hi
rows_segment lo hi =
    record {
      rows = λ x y t. row_low lo hi y t;
      leftward = λ x x' y h t. t;
      between = λ x y0 y y1 h k t u. let a = row_low lo hi y0 t in let b = row_low lo hi y1 u in row_in lo hi y (omega arith) (omega arith);
      outside = λ x y0 y y1 a b c d t u. absurd (T_not (is_row lo hi y0) t (row_in lo hi y0 a (omega arith)));
    }

-- its class is that of its rows, cut to the square's
pub shortcut_class : (lo hi X Y S : ℕ) → 0 < S → class_of (λ x y. is_row lo hi y) lo hi X Y S ≡ cut lo hi Y S
unfolding Everywhere
shortcut_class lo hi X Y S w = go (dec_lt (max lo Y) (min hi (Y + S)))
  where
    go : Dec (max lo Y < min hi (Y + S)) → class_of (λ x y. is_row lo hi y) lo hi X Y S ≡ cut lo hi Y S
    go (yes t) = is_cut (λ x y. is_row lo hi y) lo hi X Y S w t (λ x y a b c d. row_in lo hi y (omega arith) (omega arith))
    go (no t) = no_rows (λ x y. is_row lo hi y) lo hi X Y S (omega arith) ∙ sym (cut_none lo hi Y S (omega arith))

-- and never a line
pub cut_cases : (P : Class → Type 0) (lo hi Y S : ℕ) → P Dropped → P Start → ((l h : ℕ) → P (Shortcut l h)) → P (cut lo hi Y S)
unfolding cut verdict
cut_cases P lo hi Y S a b c = go (leb (min hi (Y + S)) (max lo Y)) (eqb (max lo Y) Y && eqb (min hi (Y + S)) (Y + S))
  where
    go : (r w : Bool) → P (cond (r || false) Dropped (cond w Start (Shortcut (max lo Y) (min hi (Y + S)))))
    go true w = a
    go false true = b
    go false false = c (max lo Y) (min hi (Y + S))

-- ---- a square of one position keeps no line

pub one_position : {f : ℕ → ℕ → Bool} {b d : ℕ} → Segment f b d → (X Y : ℕ) → class_of f b d X Y 1 ≡ cond (f X Y) Start Dropped
unfolding Nowhere Everywhere
one_position {f} {b} {d} k X Y = go (f X Y) refl
  where
    here : {x c : ℕ} → c ≤ x → x < c + 1 → c ≡ x
    here p q = omega arith

    only : (P : ℕ → ℕ → Type 0) → P X Y → (x y : ℕ) → max b Y ≤ y → y < min d (Y + 1) → X ≤ x → x < X + 1 → P x y
    only P p x y h k m n = subst₂ P (here m n) (here {x = y} {c = Y} (omega arith) (omega arith)) p

    go : (t : Bool) → f X Y ≡ t → class_of f b d X Y 1 ≡ cond t Start Dropped
    go true e =
        let r = k.rows X Y (true_T e) in
        is_cut f b d X Y 1 (omega arith) (omega arith) (only (λ x y. T (f x y)) (true_T e))
        ∙ cut_whole b d Y 1 (omega arith) (omega arith) (omega arith)
    go false e = is_dropped f b d X Y 1 (only (λ x y. T (not (f x y))) (false_T e))
