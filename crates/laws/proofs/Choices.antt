-- A test that came out one way.
use mathlib.Core.Path.{◌≡◌, sym, ap}
use mathlib.Core.Bool.{Bool, true, false, cond}

pub pick_true : {A : Type 0} (q : Bool) (x y : A) → q ≡ true → x ≡ cond q x y
pick_true q x y e = sym (ap (λ (b : Bool). cond b x y) e)

pub pick_false : {A : Type 0} (q : Bool) (x y : A) → q ≡ false → y ≡ cond q x y
pick_false q x y e = sym (ap (λ (b : Bool). cond b x y) e)
