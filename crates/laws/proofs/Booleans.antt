-- Tests as facts: `T b` says that the test b passes.
use mathlib.Core.Path.{◌≡◌, refl, sym, subst}
use mathlib.Core.Bool.{Bool, true, false, cond, not, ◌&&◌, ◌||◌}
use Prim.Native.Nat.{ℕ}
use native.Mathlib.Omega.{arith}
use lib.Dec.{T}

pub T_eq : (a b : Bool) → (T a → T b) → (T b → T a) → a ≡ b
T_eq true true f g = refl
T_eq true false f g = absurd (f tt)
T_eq false true f g = absurd (g tt)
T_eq false false f g = refl

pub T_true : {a : Bool} → T a → a ≡ true
T_true {a = true} t = refl
T_true {a = false} t = absurd t

pub T_false : {a : Bool} → T (not a) → a ≡ false
T_false {a = true} t = absurd t
T_false {a = false} t = refl

pub true_T : {a : Bool} → a ≡ true → T a
true_T e = subst T (sym e) tt

pub false_T : {a : Bool} → a ≡ false → T (not a)
false_T e = subst (λ (b : Bool). T (not b)) (sym e) tt

pub &&_left : (a b : Bool) → T (a && b) → T a
&&_left true b t = tt
&&_left false b t = t

pub &&_right : (a b : Bool) → T (a && b) → T b
&&_right true b t = t
&&_right false b t = absurd t

pub &&_both : (a b : Bool) → T a → T b → T (a && b)
&&_both true b s t = t
&&_both false b s t = s

-- contraposition
pub T_contra : (a b : Bool) → (T a → T b) → T (not b) → T (not a)
T_contra true b f t = absurd (T_clash b t (f tt))
  where
    T_clash : (b : Bool) → T (not b) → T b → ⊥
    T_clash true s t = s
    T_clash false s t = t
T_contra false b f t = tt

-- a test that cannot pass is false
pub never : (b : Bool) → (T b → ⊥) → false ≡ b
never true f = absurd (f tt)
never false f = refl

-- ---- the same with equations

pub clash : {A : Type 0} → false ≡ true → A
clash e = absurd (let z : ◌≡◌ {A = ℕ} 0 1 = cc in omega arith)

pub and_left : (a b : Bool) → a && b ≡ true → a ≡ true
and_left true b h = refl
and_left false b h = h

pub and_right : (a b : Bool) → a && b ≡ true → b ≡ true
and_right true b h = h
and_right false b h = clash h

pub and_both : (a b : Bool) → a ≡ true → b ≡ true → a && b ≡ true
and_both a b p q = rw (p, q)

pub and_true : (a : Bool) → (a && true) ≡ a
and_true true = refl
and_true false = refl

pub or_false : (a : Bool) → (a || false) ≡ a
or_false true = refl
or_false false = refl

pub or_right : (a b : Bool) → b ≡ true → (a || b) ≡ true
or_right true b h = refl
or_right false b h = h

pub or_or : (a b c : Bool) → (a || b || c) ≡ (a || (b || c))
or_or true b c = refl
or_or false b c = refl

-- one test and then another
pub cond_left : (a b : Bool) → cond a b false ≡ true → a ≡ true
cond_left true b h = refl
cond_left false b h = h

pub cond_right : (a b : Bool) → cond a b false ≡ true → b ≡ true
cond_right true b h = h
cond_right false b h = clash h
