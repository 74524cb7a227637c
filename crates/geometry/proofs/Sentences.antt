-- A drawn curve that a drawing may have counts where document 02's sentence says, taken from its lower end.
use mathlib.Core.Path.{◌≡◌, subst, sym, ◌∙◌}
use mathlib.Core.Bool.{true}
use Prim.Native.Nat.{ℕ, ◌≤◌, ◌<◌}
use native.Mathlib.Omega.{arith}
use native.Mathlib.Decide.{dec_le}
use lib.Dec.{T}
use borrow.Author.Tests.{lt-leb, le-leb}
use Rattle.curves.specs.Curves.{CountsBy, curve_fits, curve_counts}
use Rattle.curves.proofs.Sentences.{order_up, rise_of, sentence}
use Rattle.curves.proofs.Boxes.{fits_says, fits_turn}
use Rattle.geometry.specs.Edges.{counts}
use Rattle.geometry.specs.code.Reach.{CurveIn}
use Rattle.std.specs.Prelude.{Some}
use Rattle.curves.specs.declared.Point.{Point}
use Rattle.geometry.specs.declared.edge.Edge.{Edge}

-- document 02: "Taken from its lower end"
pub record BentBy (e : Edge) (c : Point) (x y : ℕ) : Type 0 where
  pub upward : e.from.y ≤ e.to.y → CountsBy e.from.x e.from.y c.x c.y e.to.x e.to.y x y
  pub downward : e.to.y < e.from.y → CountsBy e.to.x e.to.y c.x c.y e.from.x e.from.y x y

-- a curve from its lower end
from_lower : (x0 y0 x1 y1 x2 y2 x y : ℕ) → curve_fits x0 y0 x1 y1 x2 y2 ≡ true → y0 ≤ y2
    → (T (curve_counts x0 y0 x1 y1 x2 y2 x y) → CountsBy x0 y0 x1 y1 x2 y2 x y) × (CountsBy x0 y0 x1 y1 x2 y2 x y → T (curve_counts x0 y0 x1 y1 x2 y2 x y))
from_lower x0 y0 x1 y1 x2 y2 x y f h =
    let k = fits_says x0 y0 x1 y1 x2 y2 f in
    let u = order_up y0 y1 y2 k.upward h in
    sentence x0 y0 x1 y1 x2 y2 x y (rise_of y0 y1 y2 u.0 u.1) k.across

module _ (e : Edge) (c : Point) (b : e.control ≡ Some c) (k : CurveIn e) (x y : ℕ) where
  fits : curve_fits e.from.x e.from.y c.x c.y e.to.x e.to.y ≡ true
  fits = rw b at k

  bent_up : e.from.y ≤ e.to.y → counts e x y ≡ curve_counts e.from.x e.from.y c.x c.y e.to.x e.to.y x y
  unfolding counts
  bent_up h = rw (b, le-leb e.from.y e.to.y h)

  bent_down : e.to.y < e.from.y → counts e x y ≡ curve_counts e.to.x e.to.y c.x c.y e.from.x e.from.y x y
  unfolding counts
  bent_down h = rw (b, lt-leb e.from.y e.to.y h)

  pub bent_sentence : (T (counts e x y) → BentBy e c x y) × (BentBy e c x y → T (counts e x y))
  bent_sentence = go (dec_le e.from.y e.to.y)
    where
      go : Dec (e.from.y ≤ e.to.y) → (T (counts e x y) → BentBy e c x y) × (BentBy e c x y → T (counts e x y))
      go (yes h) =
          let s = from_lower e.from.x e.from.y c.x c.y e.to.x e.to.y x y fits h in (
            (λ t. record { upward = λ p. s.0 (subst T (bent_up h) t); downward = λ p. absurd (omega arith) }),
            (λ t. subst T (sym (bent_up h)) (s.1 (t.upward h))),
          )
      go (no h) =
          let l : e.to.y < e.from.y = omega arith in
          let s = from_lower e.to.x e.to.y c.x c.y e.from.x e.from.y x y
          (sym (fits_turn e.from.x e.from.y c.x c.y e.to.x e.to.y) ∙ fits) (omega arith) in (
            (λ t. record { upward = λ p. absurd (omega arith); downward = λ p. s.0 (subst T (bent_down l) t) }),
            (λ t. subst T (sym (bent_down l)) (s.1 (t.downward l))),
          )
