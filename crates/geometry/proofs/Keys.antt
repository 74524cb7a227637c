-- Bounds of a key, a key by halves, each bit of it, and the keys of a cell.
use mathlib.Core.Path.{◌≡◌, refl, sym, ap, ap₂, ◌∙◌}
use Prim.Native.Nat.{ℕ, zero, suc, ◌+◌, ◌*◌, ◌-◌, ◌/◌, ◌%◌, ◌^◌, ◌≤◌, ◌<◌}
use native.Mathlib.Nat.{pow-suc, pow-succ', suc-add, one-le-pow, div-div-eq-div-mul}
use native.Mathlib.Numerals.{add-one}
use native.Mathlib.Omega.{arith}
use Rattle.geometry.specs.Keys.{spread, key_of}

pub spread_bound : (n x : ℕ) → 3 * spread n x + 1 ≤ 4 ^ n
unfolding spread
spread_bound zero x = omega arith
spread_bound (suc n) x = let h = spread_bound n (x / 2) in omega arith

-- x in two parts, the low one of m bits
pub spread_split : (m n lo hi : ℕ) → lo < 2 ^ m → spread (m + n) (lo + 2 ^ m * hi) ≡ spread m lo + 4 ^ m * spread n hi
unfolding spread
spread_split zero n lo hi h =
    ap₂ spread zero_is (start lo hi h) ∙ whole (spread n hi)
  where
    zero_is : 0 + n ≡ n
    zero_is = omega arith

    start : (lo hi : ℕ) → lo < 2 ^ 0 → lo + 2 ^ 0 * hi ≡ hi
    start lo hi h = omega arith

    whole : (k : ℕ) → k ≡ 0 + 4 ^ 0 * k
    whole k = omega arith
spread_split (suc m) n lo hi h =
    ap₂ spread (suc-add m n) (twice (2 ^ m * hi) refl)
    ∙ joined (2 ^ m * hi) (spread_split m n (lo / 2) hi (half h))
  where
    twice : (p : ℕ) → p ≡ 2 ^ m * hi → lo + 2 ^ suc m * hi ≡ lo + 2 * p
    twice p e = rw (pow-succ' 2 m, e) (omega arith)

    half : lo < 2 ^ suc m → lo / 2 < 2 ^ m
    half h = omega arith

    joined : (p : ℕ)
        → spread (m + n) (lo / 2 + p) ≡ spread m (lo / 2) + 4 ^ m * spread n hi
        → spread (suc (m + n)) (lo + 2 * p) ≡ spread (suc m) lo + 4 ^ suc m * spread n hi
    joined p ih = let e : (lo + 2 * p) / 2 ≡ lo / 2 + p = omega arith in rw (e, pow-succ' 4 m) (omega arith)

-- a number below 2^16 by its two bytes
pub spread_halves : (x : ℕ) → spread 8 (x % 256) + 65536 * spread 8 (x / 256) ≡ spread 16 x
spread_halves x = sym (ap (spread 16) (bytes x) ∙ spread_split 8 8 (x % 256) (x / 256) (omega arith))
  where
    bytes : (x : ℕ) → x ≡ x % 256 + 256 * (x / 256)
    bytes x = omega arith

-- ---- which bit stands where

-- digit i of a key, to the base 4, is bit i of x and twice bit i of y
digit : (n i x y : ℕ) → i < n → (spread n x + 2 * spread n y) / 4 ^ i % 4 ≡ x / 2 ^ i % 2 + 2 * (y / 2 ^ i % 2)
unfolding spread
digit zero i x y h = absurd (none i h)
  where
    none : (i : ℕ) → i < 0 → ⊥
    none i h = omega arith
digit (suc n) zero x y h = omega arith
digit (suc n) (suc i) x y h =
    rw (
      pow-succ' 4 i,
      pow-succ' 2 i,
      ← div-div-eq-div-mul (x % 2 + 4 * spread n (x / 2) + 2 * (y % 2 + 4 * spread n (y / 2))) 4 (4 ^ i),
      ← div-div-eq-div-mul x 2 (2 ^ i),
      ← div-div-eq-div-mul y 2 (2 ^ i),
      quarter (spread n (x / 2)) (spread n (y / 2)),
    )
    (digit n i (x / 2) (y / 2) (omega arith))
  where
    quarter : (p q : ℕ) → (x % 2 + 4 * p + 2 * (y % 2 + 4 * q)) / 4 ≡ p + 2 * q
    quarter p q = omega arith

four_power : (i : ℕ) → 2 ^ (2 * i) ≡ 4 ^ i
four_power zero = refl
four_power (suc i) =
    ap (λ k. 2 ^ k) (twice i)
    ∙ (pow-suc 2 (suc (2 * i)) ∙ (ap (λ k. k * 2) (pow-suc 2 (2 * i)) ∙ quadruple (2 ^ (2 * i)) (4 ^ i) (four_power i) ∙ sym (pow-suc 4 i)))
  where
    twice : (i : ℕ) → 2 * suc i ≡ suc (suc (2 * i))
    twice i = omega arith

    quadruple : (p q : ℕ) → p ≡ q → p * 2 * 2 ≡ q * 4
    quadruple p q e = omega arith

-- bit i of x stands at 2i
pub key_x_bit : (i x y : ℕ) → i < 16 → key_of x y / 2 ^ (2 * i) % 2 ≡ x / 2 ^ i % 2
unfolding key_of
key_x_bit i x y h = rw (four_power i) (omega (arith, digit 16 i x y h))

-- bit i of y stands at 2i + 1
pub key_y_bit : (i x y : ℕ) → i < 16 → key_of x y / 2 ^ (2 * i + 1) % 2 ≡ y / 2 ^ i % 2
unfolding key_of
key_y_bit i x y h =
    rw (add-one (2 * i), pow-suc 2 (2 * i), ← div-div-eq-div-mul (spread 16 x + 2 * spread 16 y) (2 ^ (2 * i)) 2, four_power i)
    (omega (arith, digit 16 i x y h))

-- ---- the keys of a cell are consecutive from its low corner's

-- the key within a cell of side 2^m
abbrev pub key_in : (m x y : ℕ) → ℕ
key_in m x y = spread m x + 2 * spread m y

spread_zero : (m : ℕ) → spread m 0 ≡ 0
unfolding spread
spread_zero zero = refl
spread_zero (suc m) = ap (λ k. 0 + 4 * k) (spread_zero m)

-- a position's key is the low corner's and the key within the cell, which is below 4^m
pub cell_key : (m x y hx hy : ℕ)
    → m ≤ 16
    → x < 2 ^ m
    → y < 2 ^ m
    → key_of (x + 2 ^ m * hx) (y + 2 ^ m * hy) ≡ key_of (0 + 2 ^ m * hx) (0 + 2 ^ m * hy) + key_in m x y
unfolding key_of
cell_key m x y hx hy h p q = go (16 - m) (omega arith)
  where
    go : (n : ℕ)
        → m + n ≡ 16
        → spread 16 (x + 2 ^ m * hx) + 2 * spread 16 (y + 2 ^ m * hy)
        ≡ spread 16 (0 + 2 ^ m * hx) + 2 * spread 16 (0 + 2 ^ m * hy) + key_in m x y
    go n e =
        let z : 0 < 2 ^ m = one-le-pow m 2 (omega arith) in
        rw (← e, spread_split m n x hx p, spread_split m n y hy q, spread_split m n 0 hx z, spread_split m n 0 hy z, spread_zero m) (omega arith)

pub key_in_below : (m x y : ℕ) → key_in m x y < 4 ^ m
key_in_below m x y = omega (arith, spread_bound m x, spread_bound m y)

-- and each number below 4^m is the key within the cell of some position
pub key_in_all : (m k : ℕ) → k < 4 ^ m → (x : ℕ) × (y : ℕ) × (x < 2 ^ m) × (y < 2 ^ m) × (key_in m x y ≡ k)
unfolding spread
key_in_all zero k h = (0, 0, omega arith, omega arith, omega arith)
key_in_all (suc m) k h =
    let r = key_in_all m (k / 4) (omega (arith, pow-suc 4 m)) in
    (2 * r.0 + k % 2, 2 * r.1 + k / 2 % 2, omega (arith, pow-suc 2 m), omega (arith, pow-suc 2 m), joined r.0 r.1 r.4)
  where
    joined : (x y : ℕ) → key_in m x y ≡ k / 4 → key_in (suc m) (2 * x + k % 2) (2 * y + k / 2 % 2) ≡ k
    joined x y e =
        let p : (2 * x + k % 2) / 2 ≡ x = omega arith in
        let q : (2 * y + k / 2 % 2) / 2 ≡ y = omega arith in
        rw (p, q) (omega arith)
