-- A curve that a drawing may have, taken from its lower end, and its box: right of the box it counts nowhere, left of it in every row; within it no two
-- numbers are far apart.
use mathlib.Core.Path.{◌≡◌, sym}
use mathlib.Core.Bool.{Bool, true, false, ◌&&◌, and_comm, or_comm}
use Prim.Native.Nat.{ℕ, ◌+◌, ◌*◌, ◌≤◌, ◌<◌, min, max}
use native.Mathlib.Nat.{mul-le-mul_right}
use native.Mathlib.Omega.{arith}
use native.Mathlib.Decide.{dec_le}
use lib.Dec.{T, leb, leb→le}
use Rattle.laws.proofs.Booleans.{T_true, true_T, &&_left, &&_right, never}
use Rattle.curves.specs.Lines.{is_row}
use Rattle.curves.specs.Curves.{rises, in_order, span_fits, curve_fits, square, weighed, CountsBy, side, curve_counts}
use Rattle.curves.specs.code.Reach.{EndsIn, PositionIn, BoxIn}
use Rattle.curves.proofs.Sentences.{row_of, rise_of, order_up, order_down, by_under, by_above, sentence}
use Rattle.curves.proofs.Shapes.{curve_segment}

-- the curve is nowhere further right than its corners
weighed_most : (p0 p1 p2 n k x : ℕ) → p0 ≤ x → p1 ≤ x → p2 ≤ x → weighed p0 p1 p2 n k ≤ x * square n k
weighed_most p0 p1 p2 n k x a b c = omega (arith, mul-le-mul_right (k * k) a, mul-le-mul_right (2 * (k * n)) b, mul-le-mul_right (n * n) c)

module _ (x0 y0 x1 y1 x2 y2 : ℕ) where
  -- ---- what `curve_fits` says

  abbrev orders : Bool
  orders = in_order x0 x1 x2 && in_order y0 y1 y2

  abbrev spans : Bool
  spans = span_fits x0 x2 && span_fits y0 y2

  pub record Fits : Type 0 where
    pub across : T (in_order x0 x1 x2)
    pub upward : T (in_order y0 y1 y2)
    pub east : x0 ≤ x2 + 4096
    pub west : x2 ≤ x0 + 4096
    pub north : y0 ≤ y2 + 4096
    pub south : y2 ≤ y0 + 4096

  pub fits_says : curve_fits x0 y0 x1 y1 x2 y2 ≡ true → Fits
  unfolding curve_fits
  fits_says e =
      let t = true_T {a = orders && spans} e in
      let o = &&_left orders spans t in
      let s = &&_right orders spans t in
      let sx = &&_left (span_fits x0 x2) (span_fits y0 y2) s in
      let sy = &&_right (span_fits x0 x2) (span_fits y0 y2) s in
      record {
        across = &&_left (in_order x0 x1 x2) (in_order y0 y1 y2) o;
        upward = &&_right (in_order x0 x1 x2) (in_order y0 y1 y2) o;
        east = leb→le x0 (x2 + 4096) (&&_left (leb x0 (x2 + 4096)) (leb x2 (x0 + 4096)) sx);
        west = leb→le x2 (x0 + 4096) (&&_right (leb x0 (x2 + 4096)) (leb x2 (x0 + 4096)) sx);
        north = leb→le y0 (y2 + 4096) (&&_left (leb y0 (y2 + 4096)) (leb y2 (y0 + 4096)) sy);
        south = leb→le y2 (y0 + 4096) (&&_right (leb y0 (y2 + 4096)) (leb y2 (y0 + 4096)) sy);
      }

  -- the same of the curve drawn the other way
  pub fits_turn : curve_fits x0 y0 x1 y1 x2 y2 ≡ curve_fits x2 y2 x1 y1 x0 y0
  unfolding curve_fits
  fits_turn =
      rw (
        or_comm (rises x0 x1 x2) (rises x2 x1 x0),
        or_comm (rises y0 y1 y2) (rises y2 y1 y0),
        and_comm (leb x0 (x2 + 4096)) (leb x2 (x0 + 4096)),
        and_comm (leb y0 (y2 + 4096)) (leb y2 (y0 + 4096)),
      )

  -- ---- rows

  pub off_row : (x y : ℕ) → ((y0 ≤ y) × (y < y2) → ⊥) → false ≡ curve_counts x0 y0 x1 y1 x2 y2 x y
  off_row x y h = never (curve_counts x0 y0 x1 y1 x2 y2 x y) (λ t. h ((curve_segment x0 y0 x1 y1 x2 y2).rows x y t))

  -- ---- from the lower end

  module _ (fits : Fits) (up : y0 ≤ y2) where
    rise : T (rises y0 y1 y2)
    rise = let o = order_up y0 y1 y2 fits.upward up in rise_of y0 y1 y2 o.0 o.1

    -- the control corner lies in the box of the ends
    pub record Between : Type 0 where
      pub left : min x0 x2 ≤ x1
      pub right : x1 ≤ max x0 x2
      pub low : y0 ≤ y1
      pub high : y1 ≤ y2

    pub between : Between
    between = go (dec_le x0 x2)
      where
        v : (y0 ≤ y1) × (y1 ≤ y2)
        v = order_up y0 y1 y2 fits.upward up

        go : Dec (x0 ≤ x2) → Between
        go (yes h) =
            let o = order_up x0 x1 x2 fits.across h in
            record { left = omega (arith, o); right = omega (arith, o); low = v.0; high = v.1 }
        go (no h) =
            let o = order_down x0 x1 x2 fits.across (omega arith) in
            record { left = omega (arith, o); right = omega (arith, o); low = v.0; high = v.1 }

    pub right_of_box : (x y : ℕ) → max x0 x2 ≤ x → false ≡ curve_counts x0 y0 x1 y1 x2 y2 x y
    right_of_box x y h = never (curve_counts x0 y0 x1 y1 x2 y2 x y) (λ t. none ((sentence x0 y0 x1 y1 x2 y2 x y rise fits.across).0 t))
      where
        most : (n k : ℕ) → weighed x0 x1 x2 n k ≤ x * square n k
        most n k = weighed_most x0 x1 x2 n k x (omega arith) (omega (arith, between.right)) (omega arith)

        none : CountsBy x0 y0 x1 y1 x2 y2 x y → ⊥
        none b = go (dec_le x0 x2)
          where
            go : Dec (x0 ≤ x2) → ⊥
            go (yes p) = let u = b.not_falling p in omega (arith, u.right, most u.n u.k)
            go (no p) = let u = b.falling (omega arith) in omega (arith, u.right, most u.n u.k)

    -- at t = 0 where its x do not fall, at t = 1 where they fall
    pub left_of_box : (x y : ℕ) → y0 ≤ y → y < y2 → x < min x0 x2 → true ≡ curve_counts x0 y0 x1 y1 x2 y2 x y
    left_of_box x y p q h = sym (T_true ((sentence x0 y0 x1 y1 x2 y2 x y rise fits.across).1 (go (dec_le x0 x2))))
      where
        go : Dec (x0 ≤ x2) → CountsBy x0 y0 x1 y1 x2 y2 x y
        go (yes a) =
            by_under x0 y0 x1 y1 x2 y2 x y a (row_of y0 y2 y p q)
            (record { n = 0; k = 1; some = omega arith; right = omega arith; low = omega arith })
        go (no a) =
            by_above x0 y0 x1 y1 x2 y2 x y (omega arith) (row_of y0 y2 y p q)
            (record { n = 1; k = 0; some = omega arith; right = omega arith; high = omega arith })

    pub on_row : (x y : ℕ) → y0 ≤ y → y < y2 → side x0 y0 x1 y1 x2 y2 x y ≡ curve_counts x0 y0 x1 y1 x2 y2 x y
    unfolding curve_counts
    on_row x y p q =
        simp (T_true {a = rises y0 y1 y2} rise, T_true {a = in_order x0 x1 x2} fits.across, T_true {a = is_row y0 y2 y} (row_of y0 y2 y p q))

    pub in_box : (x y : ℕ) → y0 ≤ y → y < y2 → min x0 x2 ≤ x → x < max x0 x2 → BoxIn x0 y0 x1 y1 x2 y2 x y
    in_box x y p q l r =
        let b = between in
        record {
          l = min x0 x2;
          b = y0;
          first = record { west = omega arith; east = omega (arith, fits); south = omega arith; north = omega arith };
          control = record { west = b.left; east = omega (arith, fits, b); south = b.low; north = omega (arith, fits, b) };
          second = record { west = omega arith; east = omega (arith, fits); south = up; north = omega (arith, fits) };
          position = record { west = l; east = omega (arith, fits); south = p; north = omega (arith, fits) };
        }

    pub control_in : EndsIn x0 y0 x2 y2 → PositionIn x1 y1
    control_in e = let b = between in record { position_x = omega (arith, b, e); position_y = omega (arith, b, e) }
