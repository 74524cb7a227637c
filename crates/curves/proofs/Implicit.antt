-- The quick test's form is that of document 000's (9), (k s)² − ℓ s above 0, with affine functions k and ℓ of the sample s.
use mathlib.Core.Path.{◌≡◌, sym, ap, ap₂, ◌∙◌}
use Prim.Native.Nat.{ℕ, suc, ◌+◌, ◌*◌}
use native.Mathlib.Omega.{arith}
use lib.IntN.{ℤ, pos, negsuc, neg_ℤ, sub_ℕ, ◌-ℤ◌, ◌*ℤ◌}
use Rattle.laws.proofs.Differences.{sub_eq, pos_sub, negsuc_sub, neg_sub, sub_sub, mul_sub}
use Rattle.curves.specs.Lines.{product}
use Rattle.curves.specs.Curves.{implicit}
use Rattle.curves.proofs.Products.{plus, minus, product_is}
use Rattle.curves.proofs.Sides.{form_p, form_n}
use Rattle.curves.proofs.Tests.{implicit_is}

-- ---- affine functions of a position: whole coefficients of x, of y, and a number, each given as a difference

pub record Affine (f : ℕ → ℕ → ℤ) : Type 0 where
  pub xp : ℕ
  pub xn : ℕ
  pub yp : ℕ
  pub yn : ℕ
  pub p : ℕ
  pub n : ℕ
  pub is : (x y : ℕ) → f x y ≡ sub_ℕ (xp * x + yp * y + p) (xn * x + yn * y + n)

product_affine : (a b c d : ℕ) → Affine (product a b c d)
product_affine a b c d =
    record {
      xp = b;
      xn = d;
      yp = c;
      yn = a;
      p = a * d + b * a;
      n = a * b + b * c;
      is = λ x y. product_is a b c d x y
          ∙ sub_eq (plus a b c d x y) (minus a b c d x y) (b * x + c * y + (a * d + b * a)) (d * x + a * y + (a * b + b * c)) (omega arith);
    }

minus_affine : {f g : ℕ → ℕ → ℤ} → Affine f → Affine g → Affine (λ x y. f x y -ℤ g x y)
minus_affine a b =
    record {
      xp = a.xp + b.xn;
      xn = a.xn + b.xp;
      yp = a.yp + b.yn;
      yn = a.yn + b.yp;
      p = a.p + b.n;
      n = a.n + b.p;
      is = λ x y. ap₂ ◌-ℤ◌ (a.is x y) (b.is x y)
          ∙ (sub_sub (a.xp * x + a.yp * y + a.p) (a.xn * x + a.yn * y + a.n) (b.xp * x + b.yp * y + b.p) (b.xn * x + b.yn * y + b.n)
          ∙ sub_eq ((a.xp * x + a.yp * y + a.p) + (b.xn * x + b.yn * y + b.n)) ((a.xn * x + a.yn * y + a.n) + (b.xp * x + b.yp * y + b.p))
          ((a.xp + b.xn) * x + (a.yp + b.yn) * y + (a.p + b.n)) ((a.xn + b.xp) * x + (a.yn + b.yp) * y + (a.n + b.p)) (omega arith));
    }

times_sub : (u v : ℕ) {f : ℕ → ℕ → ℤ} → Affine f → Affine (λ x y. sub_ℕ u v *ℤ f x y)
times_sub u v a =
    record {
      xp = u * a.xp + v * a.xn;
      xn = u * a.xn + v * a.xp;
      yp = u * a.yp + v * a.yn;
      yn = u * a.yn + v * a.yp;
      p = u * a.p + v * a.n;
      n = u * a.n + v * a.p;
      is = λ x y. ap (λ z. sub_ℕ u v *ℤ z) (a.is x y)
          ∙ (mul_sub u v (a.xp * x + a.yp * y + a.p) (a.xn * x + a.yn * y + a.n)
          ∙ sub_eq (u * (a.xp * x + a.yp * y + a.p) + v * (a.xn * x + a.yn * y + a.n))
          (u * (a.xn * x + a.yn * y + a.n) + v * (a.xp * x + a.yp * y + a.p))
          ((u * a.xp + v * a.xn) * x + (u * a.yp + v * a.yn) * y + (u * a.p + v * a.n))
          ((u * a.xn + v * a.xp) * x + (u * a.yn + v * a.yp) * y + (u * a.n + v * a.p)) (omega arith));
    }

times_affine : (z : ℤ) {f : ℕ → ℕ → ℤ} → Affine f → Affine (λ x y. z *ℤ f x y)
times_affine (pos n) a = rw (pos_sub n) (times_sub n 0 a)
times_affine (negsuc n) a = rw (negsuc_sub n) (times_sub 0 (suc n) a)

-- ---- the form, where the chord's product is the two legs' and the bend's together

module _ (cp cn fp fn sp sn ep en : ℕ) (whole : cp + fn + sn + en ≡ cn + fp + sp + ep) where
  abbrev k : ℤ
  k = pos 2 *ℤ sub_ℕ fp fn -ℤ sub_ℕ cp cn

  abbrev l : ℤ
  l = neg_ℤ (pos 4 *ℤ sub_ℕ ep en) *ℤ sub_ℕ fp fn

  k_is : k ≡ sub_ℕ (2 * fp + cn) (2 * fn + cp)
  k_is =
      ap (λ z. z -ℤ sub_ℕ cp cn) (ap (λ z. z *ℤ sub_ℕ fp fn) (pos_sub 2) ∙ mul_sub 2 0 fp fn)
      ∙ (sub_sub (2 * fp + 0 * fn) (2 * fn + 0 * fp) cp cn
      ∙ sub_eq (2 * fp + 0 * fn + cn) (2 * fn + 0 * fp + cp) (2 * fp + cn) (2 * fn + cp) (omega arith))

  l_is : l ≡ sub_ℕ (4 * (ep * fn + en * fp)) (4 * (ep * fp + en * fn))
  l_is =
      ap (λ z. neg_ℤ z *ℤ sub_ℕ fp fn) (ap (λ z. z *ℤ sub_ℕ ep en) (pos_sub 4) ∙ mul_sub 4 0 ep en)
      ∙ (ap (λ z. z *ℤ sub_ℕ fp fn) (neg_sub (4 * ep + 0 * en) (4 * en + 0 * ep))
      ∙ (mul_sub (4 * en + 0 * ep) (4 * ep + 0 * en) fp fn
      ∙ sub_eq ((4 * en + 0 * ep) * fp + (4 * ep + 0 * en) * fn) ((4 * en + 0 * ep) * fn + (4 * ep + 0 * en) * fp)
      (4 * (ep * fn + en * fp)) (4 * (ep * fp + en * fn)) (omega arith)))

  same : form_p cp cn fp fn sp sn
      + ((2 * fp + cn) * (2 * fn + cp) + (2 * fn + cp) * (2 * fp + cn) + 4 * (ep * fn + en * fp))
      ≡ ((2 * fp + cn) * (2 * fp + cn) + (2 * fn + cp) * (2 * fn + cp) + 4 * (ep * fp + en * fn)) + form_n cp cn fp fn sp sn
  same =
      let u : fp * (cp + fn + sn + en) ≡ fp * (cn + fp + sp + ep) = ap (λ z. fp * z) whole in
      let v : fn * (cp + fn + sn + en) ≡ fn * (cn + fp + sp + ep) = ap (λ z. fn * z) whole in
      omega (arith, u, v)

  form_is : implicit (sub_ℕ cp cn) (sub_ℕ fp fn) (sub_ℕ sp sn) ≡ k *ℤ k -ℤ l
  form_is =
      implicit_is cp cn fp fn sp sn
      ∙ (sub_eq (form_p cp cn fp fn sp sn) (form_n cp cn fp fn sp sn)
      ((2 * fp + cn) * (2 * fp + cn) + (2 * fn + cp) * (2 * fn + cp) + 4 * (ep * fp + en * fn))
      ((2 * fp + cn) * (2 * fn + cp) + (2 * fn + cp) * (2 * fp + cn) + 4 * (ep * fn + en * fp)) same
      ∙ sym
      (ap₂ ◌-ℤ◌ (ap₂ ◌*ℤ◌ k_is k_is ∙ mul_sub (2 * fp + cn) (2 * fn + cp) (2 * fp + cn) (2 * fn + cp)) l_is
      ∙ sub_sub ((2 * fp + cn) * (2 * fp + cn) + (2 * fn + cp) * (2 * fn + cp)) ((2 * fp + cn) * (2 * fn + cp) + (2 * fn + cp) * (2 * fp + cn))
      (4 * (ep * fn + en * fp)) (4 * (ep * fp + en * fn))))

-- ---- for a curve

pub record ImplicitForm (x0 y0 x1 y1 x2 y2 : ℕ) : Type 0 where
  pub k : ℕ → ℕ → ℤ
  pub l : ℕ → ℕ → ℤ
  pub affine_k : Affine k
  pub affine_l : Affine l
  pub form : (x y : ℕ)
      → implicit (product x0 y0 x2 y2 x y) (product x0 y0 x1 y1 x y) (product x1 y1 x2 y2 x y) ≡ k x y *ℤ k x y -ℤ l x y

pub implicit_affine : (x0 y0 x1 y1 x2 y2 : ℕ) → ImplicitForm x0 y0 x1 y1 x2 y2
implicit_affine x0 y0 x1 y1 x2 y2 =
    record {
      k = λ x y. pos 2 *ℤ product x0 y0 x1 y1 x y -ℤ product x0 y0 x2 y2 x y;
      l = λ x y. neg_ℤ (pos 4 *ℤ product x0 y0 x2 y2 x1 y1) *ℤ product x0 y0 x1 y1 x y;
      affine_k = minus_affine (times_affine (pos 2) (product_affine x0 y0 x1 y1)) (product_affine x0 y0 x2 y2);
      affine_l = times_affine (neg_ℤ (pos 4 *ℤ product x0 y0 x2 y2 x1 y1)) (product_affine x0 y0 x1 y1);
      form = λ x y. rw (product_is x0 y0 x2 y2 x y, product_is x0 y0 x1 y1 x y, product_is x1 y1 x2 y2 x y, product_is x0 y0 x2 y2 x1 y1)
          (form_is (plus x0 y0 x2 y2 x y) (minus x0 y0 x2 y2 x y) (plus x0 y0 x1 y1 x y) (minus x0 y0 x1 y1 x y) (plus x1 y1 x2 y2 x y)
          (minus x1 y1 x2 y2 x y) (plus x0 y0 x2 y2 x1 y1) (minus x0 y0 x2 y2 x1 y1) (omega arith));
    }
