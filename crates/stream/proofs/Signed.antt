-- The ranges of a start number and of a sign, said of the words that hold them, are those of the signed numbers that the words stand for.
use Prim.Native.Nat.{ℕ, suc, ◌-◌, ◌≤◌, ◌<◌}
use mathlib.Core.Path.{◌≡◌, refl, sym, ap, ◌∙◌}
use mathlib.Core.Bool.{Bool, true, false, ◌&&◌, ◌||◌}
use native.Mathlib.Omega.{arith}
use lib.Dec.{eqb, ltb, leb}
use lib.IntN.{pos, negsuc}
use lib.Signed.{le_z}
use Rattle.laws.specs.Integers.{eq_z}
use Rattle.laws.proofs.Booleans.{and_true}
use mir.Syntax.{w32}
use mir.Val.{to_z}
use mir.ValLaws.{to_z_pos}
use borrow.Author.Tests.{le-ltb, le-leb, lt-leb, eq-eqb, ne_eqb, ltb-true, ltb-false, leb-true, leb-false}
use Rattle.stream.specs.Entry.{start_range, sign_range}

-- a word in its upper half stands for the number that is 2^32 less
pub upper : (w : ℕ) → 2147483648 ≤ w → to_z w32 w ≡ negsuc (4294967296 - suc w)
upper w h = rw (le-ltb w 2147483648 h)

or_false : (b : Bool) → (b || false) ≡ b
or_false true = refl
or_false false = refl

-- two comparisons that say the same
same : (a b m n : ℕ) → (a ≤ b → m ≤ n) → (b < a → n < m) → leb a b ≡ leb m n
same a b m n f g = go (leb a b) refl
  where
    go : (t : Bool) → leb a b ≡ t → t ≡ leb m n
    go true e = sym (le-leb m n (f (leb-true a b e)))
    go false e = sym (lt-leb m n (g (leb-false a b e)))

-- "start −2,048 to 2,048"
pub start_range_is : (w : ℕ) → start_range w ≡ (le_z (negsuc 2047) (to_z w32 w) && le_z (to_z w32 w) (pos 2048))
start_range_is w = go (ltb w 2147483648) refl
  where
    go : (b : Bool) → ltb w 2147483648 ≡ b → start_range w ≡ (le_z (negsuc 2047) (to_z w32 w) && le_z (to_z w32 w) (pos 2048))
    go true e =
        let h : w < 2147483648 = ltb-true w 2147483648 e in
        rw (to_z_pos w32 w h, lt-leb 4294965248 w (omega arith)) (or_false (leb w 2048))
    go false e =
        let h : 2147483648 ≤ w = ltb-false w 2147483648 e in
        rw (upper w h, lt-leb w 2048 (omega arith))
        (same 4294965248 w (4294967296 - suc w) 2047 (λ k. omega arith) (λ k. omega arith) ∙ sym (and_true (leb (4294967296 - suc w) 2047)))

-- two numbers are the same where neither is above the other
eq_leb : (a b m n : ℕ) → (a ≡ b → m ≤ n) → (a ≡ b → n ≤ m) → (m ≡ n → a ≡ b) → eqb a b ≡ (leb m n && leb n m)
eq_leb a b m n f g k = go (leb m n) (leb n m) refl refl
  where
    go : (t u : Bool) → leb m n ≡ t → leb n m ≡ u → eqb a b ≡ (t && u)
    go true true e d =
        let h : m ≤ n = leb-true m n e in
        let l : n ≤ m = leb-true n m d in
        eq-eqb a b (k (omega arith))
    go true false e d =
        let h : m < n = leb-false n m d in
        ne_eqb a b (λ q. let l : n ≤ m = g q in omega arith)
    go false u e d =
        let h : n < m = leb-false m n e in
        ne_eqb a b (λ q. let l : m ≤ n = f q in omega arith)

-- "sign 1 or −1"
pub sign_range_is : (w : ℕ) → w < 4294967296 → sign_range w ≡ (eq_z (to_z w32 w) (pos 1) || eq_z (to_z w32 w) (negsuc 0))
sign_range_is w l = go (ltb w 2147483648) refl
  where
    go : (b : Bool) → ltb w 2147483648 ≡ b → sign_range w ≡ (eq_z (to_z w32 w) (pos 1) || eq_z (to_z w32 w) (negsuc 0))
    go true e =
        let h : w < 2147483648 = ltb-true w 2147483648 e in
        rw (to_z_pos w32 w h, ne_eqb w 4294967295 (λ q. omega arith))
        (ap (λ (b : Bool). b || false) (eq_leb w 1 w 1 (λ q. omega arith) (λ q. omega arith) (λ q. q)))
    go false e =
        let h : 2147483648 ≤ w = ltb-false w 2147483648 e in
        rw (upper w h, ne_eqb w 1 (λ q. omega arith)) (eq_leb w 4294967295 0 (4294967296 - suc w) (λ q. omega arith) (λ q. omega arith) (λ q. omega arith))
