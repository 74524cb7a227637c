-- Elements that stand in a table below a limit.
use mathlib.Core.Path.{◌≡◌, refl, sym, ap₂, subst, ◌∙◌}
use mathlib.Core.Bool.{Bool, true, false, cond}
use mathlib.Core.List.{List, [], ◌∷◌, ◌++◌, map}
use Prim.Native.Nat.{ℕ, zero, suc, ◌+◌, ◌*◌, ◌/◌, ◌≤◌, ◌<◌}
use native.Mathlib.Omega.{arith}
use native.Mathlib.Nat.{add-zero}
use lib.Dec.{ltb}
use lib.ListN.{length, get_or, take, set}
use lib.Seq.{get_or-set_other}
use borrow.Author.Tests.{lt-ltb}
use Rattle.stream.specs.declared.Words.{Words}
use Rattle.stream.specs.Table.{words_at, words_from, put_at}
use Rattle.stream.proofs.Table.{put_same, length_put}
use Rattle.cells.specs.Elements.{Element}
use Rattle.evaluate.specs.Words.{words_of}
use Rattle.writing.specs.code.Numbers.{put_below}

-- ---- one entry

-- an entry leaves the others
put_other : (t : List ℕ) (i j : ℕ) (w : Words) → (i ≡ j → ⊥) → words_at (put_at t j w) i ≡ words_at t i
put_other t i j w h =
    λ d.
    record {
      kind = at (i * 4) 0 (omega arith) (omega arith) d;
      p = at (i * 4 + 1) 1 (omega arith) (omega arith) d;
      q = at (i * 4 + 2) 2 (omega arith) (omega arith) d;
      r = at (i * 4 + 3) 3 (omega arith) (omega arith) d;
    }
  where
    differ : (k x y : ℕ) → k ≡ i * 4 + x → x < 4 → y < 4 → k ≡ j * 4 + y → ⊥
    differ k x y e a b f = h (omega arith)

    t₁ : List ℕ
    t₁ = set t (j * 4) w.kind

    t₂ : List ℕ
    t₂ = set t₁ (j * 4 + 1) w.p

    t₃ : List ℕ
    t₃ = set t₂ (j * 4 + 2) w.q

    at : (k x : ℕ) → k ≡ i * 4 + x → x < 4 → get_or (put_at t j w) k 0 ≡ get_or t k 0
    at k x e a =
        get_or-set_other t₃ (j * 4 + 3) k w.r 0 (λ f. differ k x 3 e a (omega arith) f)
        ∙ (get_or-set_other t₂ (j * 4 + 2) k w.q 0 (λ f. differ k x 2 e a (omega arith) f)
        ∙ (get_or-set_other t₁ (j * 4 + 1) k w.p 0 (λ f. differ k x 1 e a (omega arith) f)
        ∙ get_or-set_other t (j * 4) k w.kind 0 (λ f. differ k x 0 e a (omega arith) (f ∙ sym (add-zero (j * 4))))))

pub below_other : (t : List ℕ) (i at : ℕ) (w : Words) → (i ≡ at → ⊥) → words_at (put_below t at w) i ≡ words_at t i
unfolding put_below
below_other t i at w h = go (ltb at (length t / 4))
  where
    go : (b : Bool) → words_at (cond b (put_at t at w) t) i ≡ words_at t i
    go true = put_other t i at w h
    go false = refl

pub below_length : (t : List ℕ) (at : ℕ) (w : Words) → length (put_below t at w) ≡ length t
unfolding put_below
below_length t at w = go (ltb at (length t / 4))
  where
    go : (b : Bool) → length (cond b (put_at t at w) t) ≡ length t
    go true = length_put t at w
    go false = refl

module _ (limit : ℕ) where
  pub below_here : (t : List ℕ) (at : ℕ) (w : Words) → limit * 4 ≤ length t → at < limit → words_at (put_below t at w) at ≡ w
  unfolding put_below
  below_here t at w r h =
      let l : at < length t / 4 = omega arith in
      rw (lt-ltb at (length t / 4) l) (put_same t at w (omega arith))

  -- ---- elements from entry `at` on, as far as they stand below the limit
  abbrev pub Agree : List ℕ → ℕ → List Element → Type 0
  Agree t at [] = Unit {0}
  Agree t at (r ∷ rs) = (at < limit → words_at t at ≡ words_of r) × Agree t (at + 1) rs

  pub agree_append : (t : List ℕ) (at : ℕ) (x y : List Element) → Agree t at x → Agree t (at + length x) y → Agree t at (x ++ y)
  agree_append t at [] y a b = subst (λ (n : ℕ). Agree t n y) (add-zero at) b
  agree_append t at (r ∷ x) y a b =
      let e : at + suc (length x) ≡ at + 1 + length x = omega arith in
      (a.0, agree_append t (at + 1) x y a.1 (subst (λ (n : ℕ). Agree t n y) e b))

  pub agree_take : (t : List ℕ) (at p : ℕ) (x : List Element) → Agree t at x → Agree t at (take p x)
  agree_take t at zero x a = tt
  agree_take t at (suc p) [] a = tt
  agree_take t at (suc p) (r ∷ x) a = (a.0, agree_take t (at + 1) p x a.1)

  -- an entry behind them, or before them, leaves them
  pub agree_behind : (t : List ℕ) (at : ℕ) (x : List Element) (p : ℕ) (w : Words) → at + length x ≤ p → Agree t at x → Agree (put_below t p w) at x
  agree_behind t at [] p w h a = tt
  agree_behind t at (r ∷ x) p w h a = (λ l. below_other t at p w (λ e. omega arith) ∙ a.0 l, agree_behind t (at + 1) x p w (omega arith) a.1)

  pub agree_before : (t : List ℕ) (at : ℕ) (x : List Element) (p : ℕ) (w : Words) → p < at → Agree t at x → Agree (put_below t p w) at x
  agree_before t at [] p w h a = tt
  agree_before t at (r ∷ x) p w h a = (λ l. below_other t at p w (λ e. omega arith) ∙ a.0 l, agree_before t (at + 1) x p w (omega arith) a.1)

  -- one element more
  pub agree_more : (t : List ℕ) (at : ℕ) (x : List Element) (r : Element)
      → limit * 4 ≤ length t
      → Agree t at x
      → Agree (put_below t (at + length x) (words_of r)) at (x ++ (r ∷ []))
  agree_more t at x r h a =
      agree_append (put_below t (at + length x) (words_of r)) at x (r ∷ [])
      (agree_behind t at x (at + length x) (words_of r) (omega arith) a) (λ l. below_here t (at + length x) (words_of r) h l, tt)

  -- elements up to the limit
  pub agree_all : (t : List ℕ) (at : ℕ) (x : List Element) → at + length x ≤ limit → Agree t at x → words_from t at (length x) ≡ map words_of x
  unfolding words_from
  agree_all t at [] h a = refl
  agree_all t at (r ∷ x) h a = ap₂ (λ (w : Words) ws. w ∷ ws) (a.0 (omega arith)) (agree_all t (at + 1) x (omega arith) a.1)
