-- A record's bytes and back.
use Prim.Native.Nat.{ℕ, ◌+◌, ◌*◌, ◌/◌, ◌%◌, ◌≤◌, ◌<◌}
use mathlib.Core.Path.{◌≡◌, refl, sym, ap, ap₂, ◌∙◌}
use mathlib.Core.Bool.{Bool, true, false, cond}
use mathlib.Core.List.{List, [], ◌∷◌, ◌++◌, append_assoc}
use native.Mathlib.Omega.{arith}
use lib.ListN.{length, set, get_or, take, drop}
use lib.Seq.{paste, sets, sets-eq}
use Rattle.std.proofs.lemmas.List.Edits.{paste_all, paste_more}
use Rattle.std.proofs.lemmas.List.{take-append-drop}
use Rattle.std.proofs.lemmas.Slice.{take-put_mid, drop-put_mid}
use borrow.Rule.Slice.PartMut.{put_mid}
use lib.Dec.{eqb, leb}
use borrow.Author.Tests.{leb-true, eqb-true}
use Rattle.laws.proofs.Booleans.{clash, and_left, and_right}
use Rattle.records.specs.Bytes.{Raw}
use Rattle.records.proofs.Kindlaws.{numbers}
use Rattle.records.specs.declared.Fields.{Fields}
use Rattle.refusals.specs.declared.Refusal.TheVariants.{Kind, Field}
use Rattle.records.specs.declared.Record.{Record}
use Rattle.records.specs.declared.Record.TheVariants.{Area, First, Next, Open, Bar, Close, Control}
use Rattle.std.specs.Prelude.{Ok, Err}
use Rattle.records.specs.Record.{all_zero, paint_range, clip_range, area_range, corner_range, in_range, ranged, corner_of, delimiter_of}
use Rattle.records.specs.Bytes.{number4, unnamed_zero, fields_of, named, decoded_raw, raw_area, raw_corner, raw_delimiter, raw_of}

abbrev Zeros : ℕ → List ℕ → Type 0
Zeros b [] = b ≡ 0
Zeros b (c ∷ cs) = (b ≡ 0) × Zeros c cs

zeros : (b : ℕ) (cs : List ℕ) → all_zero b cs ≡ true → Zeros b cs
zeros b [] h = eqb-true _ _ h
zeros b (c ∷ cs) h = (eqb-true _ _ (and_left (eqb b 0) (all_zero c cs) h), zeros c cs (and_right (eqb b 0) (all_zero c cs) h))

-- a kind is one of seven
pub kinds : (P : ℕ → Type 0) → P 1 → P 2 → P 3 → P 4 → P 5 → P 6 → P 7 → (k : ℕ) → leb 1 k ≡ true → leb k 7 ≡ true → P k
kinds P a b d e f g j =
    numbers (λ k. leb 1 k ≡ true → leb k 7 ≡ true → P k) (λ l h. clash l) (λ l h. a) (λ l h. b) (λ l h. d) (λ l h. e) (λ l h. f) (λ l h. g) (λ l h. j)
    (λ k m l h. absurd (omega (arith, leb-true k 7 h)))

-- ---- what a range says
pub record AreaFacts (f : Fields) : Type 0 where
  pub role : f.role ≤ 1
  pub rule : f.rule ≤ 1
  pub alpha : f.alpha ≤ 255
  pub red : f.red ≤ 255
  pub green : f.green ≤ 255
  pub blue : f.blue ≤ 255
  pub material : f.material ≤ 65535

pub area_facts : (f : Fields) → area_range f ≡ true → AreaFacts f
unfolding area_range
area_facts f = go (leb f.rule 1) (eqb f.role 0) (eqb f.role 1) refl refl refl
  where
    go : (a b d : Bool)
        → leb f.rule 1 ≡ a
        → eqb f.role 0 ≡ b
        → eqb f.role 1 ≡ d
        → cond a (cond b (paint_range f) (cond d (clip_range f) false)) false ≡ true
        → AreaFacts f
    go false b d p q r h = clash h
    go true false false p q r h = clash h
    go true true d p q r h =
        let h1 = and_right (leb f.alpha 255) _ h in
        let h2 = and_right (leb f.red 255) _ h1 in
        let h3 = and_right (leb f.green 255) _ h2 in
        let h4 = and_right (leb f.blue 255) _ h3 in
        let h5 = and_right (leb 1 f.material) _ h4 in
        record {
          role = omega (arith, eqb-true f.role 0 q);
          rule = leb-true _ _ p;
          alpha = leb-true _ _ (and_left (leb f.alpha 255) _ h);
          red = leb-true _ _ (and_left (leb f.red 255) _ h1);
          green = leb-true _ _ (and_left (leb f.green 255) _ h2);
          blue = leb-true _ _ (and_left (leb f.blue 255) _ h3);
          material = leb-true _ _ h5;
        }
    go true false true p q r h =
        let z = zeros f.alpha (f.red ∷ f.green ∷ f.blue ∷ f.material ∷ []) h in
        record {
          role = omega (arith, eqb-true f.role 1 r);
          rule = leb-true _ _ p;
          alpha = omega (arith, z.0);
          red = omega (arith, z.1.0);
          green = omega (arith, z.1.1.0);
          blue = omega (arith, z.1.1.1.0);
          material = omega (arith, z.1.1.1.1);
        }

pub corner_x_law : (x y : ℕ) → corner_range x y ≡ true → x ≤ 65536
corner_x_law x y h = leb-true _ _ (and_left (leb x 65536) (leb y 65536) h)

pub corner_y_law : (x y : ℕ) → corner_range x y ≡ true → y ≤ 65536
corner_y_law x y h = leb-true _ _ (and_right (leb x 65536) (leb y 65536) h)

-- ---- a record in range, written as bytes, is read back
again_area : (f : Fields) → AreaFacts f → fields_of (raw_area f) ≡ f
unfolding fields_of
again_area f a = λ d. record { role = r d; rule = u d; alpha = p d; red = e d; green = g d; blue = b d; material = m d }
  where
    r : f.role % 256 ≡ f.role
    r = omega arith

    u : f.rule % 256 ≡ f.rule
    u = omega arith

    p : f.alpha % 256 ≡ f.alpha
    p = omega arith

    e : f.red % 256 ≡ f.red
    e = omega arith

    g : f.green % 256 ≡ f.green
    g = omega arith

    b : f.blue % 256 ≡ f.blue
    b = omega arith

    m : f.material % 256 + 256 * (f.material / 256 % 256) ≡ f.material
    m = omega arith

four : (x : ℕ) → x ≤ 65536 → number4 (x % 256) (x / 256 % 256) (x / 65536 % 256) (x / 16777216 % 256) ≡ x
four x h = omega arith

pub raw_again : (t : Record) → in_range t ≡ true → decoded_raw (raw_of t) ≡ Ok t
unfolding decoded_raw unnamed_zero named corner_of delimiter_of
raw_again (Area f) h = rw (again_area f (area_facts f h), h)
raw_again (First x y) h = rw (four x (corner_x_law x y h), four y (corner_y_law x y h), h)
raw_again (Next x y) h = rw (four x (corner_x_law x y h), four y (corner_y_law x y h), h)
raw_again Open h = refl
raw_again Bar h = refl
raw_again Close h = refl
raw_again (Control x y) h = rw (four x (corner_x_law x y h), four y (corner_y_law x y h), h)

-- ---- what was read can be written back
pub record Told (r : Raw) (t : Record) : Type 0 where
  pub low : leb 1 r.b0 ≡ true
  pub high : leb r.b0 7 ≡ true
  pub zero : unnamed_zero r ≡ true
  pub is : named r ≡ t
  pub range : in_range t ≡ true

-- also for any other place that ranges a record
pub ranged_told : (r t : Record) → ranged r ≡ Ok t → (r ≡ t) × (in_range t ≡ true)
ranged_told r t = go (in_range r) refl
  where
    go : (b : Bool) → in_range r ≡ b → cond b (Ok r) (Err Field) ≡ Ok t → (r ≡ t) × (in_range t ≡ true)
    go true p e = let q : r ≡ t = cc in (q, rw q at p)
    go false p e = absurd cc

pub told : (r : Raw) (t : Record) → decoded_raw r ≡ Ok t → Told r t
unfolding decoded_raw
told r t = go (leb 1 r.b0) (leb r.b0 7) (unnamed_zero r) refl refl refl
  where
    go : (a b d : Bool)
        → leb 1 r.b0 ≡ a
        → leb r.b0 7 ≡ b
        → unnamed_zero r ≡ d
        → cond a (cond b (cond d (ranged (named r)) (Err Field)) (Err Kind)) (Err Kind) ≡ Ok t
        → Told r t
    go false b d p q u e = absurd cc
    go true false d p q u e = absurd cc
    go true true false p q u e = absurd cc
    go true true true p q u e = let s = ranged_told (named r) t e in record { low = p; high = q; zero = u; is = s.0; range = s.1 }

abbrev raw : ℕ → ℕ → ℕ → ℕ → ℕ → ℕ → ℕ → ℕ → ℕ → ℕ → ℕ → ℕ → ℕ → ℕ → ℕ → ℕ → Raw
raw a0 a1 a2 a3 a4 a5 a6 a7 a8 a9 a10 a11 a12 a13 a14 a15 =
    record {
      b0 = a0;
      b1 = a1;
      b2 = a2;
      b3 = a3;
      b4 = a4;
      b5 = a5;
      b6 = a6;
      b7 = a7;
      b8 = a8;
      b9 = a9;
      b10 = a10;
      b11 = a11;
      b12 = a12;
      b13 = a13;
      b14 = a14;
      b15 = a15;
    }

-- bytes, as a slice of bytes holds them
pub record Small (r : Raw) : Type 0 where
  pub s1 : r.b1 < 256
  pub s2 : r.b2 < 256
  pub s3 : r.b3 < 256
  pub s4 : r.b4 < 256
  pub s5 : r.b5 < 256
  pub s6 : r.b6 < 256
  pub s7 : r.b7 < 256
  pub s8 : r.b8 < 256
  pub s9 : r.b9 < 256
  pub s10 : r.b10 < 256
  pub s11 : r.b11 < 256

module _ (a1 a2 a3 a4 a5 a6 a7 a8 a9 a10 a11 a12 a13 a14 a15 : ℕ) where
  abbrev here : ℕ → Raw
  here k = raw k a1 a2 a3 a4 a5 a6 a7 a8 a9 a10 a11 a12 a13 a14 a15

  back_area : Small (here 1) → unnamed_zero (here 1) ≡ true → raw_of (named (here 1)) ≡ here 1
  unfolding unnamed_zero named fields_of
  back_area s h =
      let z = zeros a7 (a10 ∷ a11 ∷ a12 ∷ a13 ∷ a14 ∷ a15 ∷ []) h in
      λ d. record {
        b0 = 1;
        b1 = e1 d;
        b2 = e2 d;
        b3 = e3 d;
        b4 = e4 d;
        b5 = e5 d;
        b6 = e6 d;
        b7 = sym z.0 d;
        b8 = e8 d;
        b9 = e9 d;
        b10 = sym z.1.0 d;
        b11 = sym z.1.1.0 d;
        b12 = sym z.1.1.1.0 d;
        b13 = sym z.1.1.1.1.0 d;
        b14 = sym z.1.1.1.1.1.0 d;
        b15 = sym z.1.1.1.1.1.1 d;
      }
    where
      e1 : a1 % 256 ≡ a1
      e1 = omega arith

      e2 : a2 % 256 ≡ a2
      e2 = omega arith

      e3 : a3 % 256 ≡ a3
      e3 = omega arith

      e4 : a4 % 256 ≡ a4
      e4 = omega arith

      e5 : a5 % 256 ≡ a5
      e5 = omega arith

      e6 : a6 % 256 ≡ a6
      e6 = omega arith

      e8 : (a8 + 256 * a9) % 256 ≡ a8
      e8 = omega arith

      e9 : (a8 + 256 * a9) / 256 % 256 ≡ a9
      e9 = omega arith

  back_corner : (k : ℕ)
      → Small (here k)
      → all_zero a1 (a2 ∷ a3 ∷ a12 ∷ a13 ∷ a14 ∷ a15 ∷ []) ≡ true
      → raw_corner k (number4 a4 a5 a6 a7) (number4 a8 a9 a10 a11) ≡ here k
  back_corner k s h =
      let z = zeros a1 (a2 ∷ a3 ∷ a12 ∷ a13 ∷ a14 ∷ a15 ∷ []) h in
      λ d. record {
        b0 = k;
        b1 = sym z.0 d;
        b2 = sym z.1.0 d;
        b3 = sym z.1.1.0 d;
        b4 = (low a4 a5 a6 a7 s.s4 s.s5 s.s6 s.s7).0 d;
        b5 = (low a4 a5 a6 a7 s.s4 s.s5 s.s6 s.s7).1.0 d;
        b6 = (low a4 a5 a6 a7 s.s4 s.s5 s.s6 s.s7).1.1.0 d;
        b7 = (low a4 a5 a6 a7 s.s4 s.s5 s.s6 s.s7).1.1.1 d;
        b8 = (low a8 a9 a10 a11 s.s8 s.s9 s.s10 s.s11).0 d;
        b9 = (low a8 a9 a10 a11 s.s8 s.s9 s.s10 s.s11).1.0 d;
        b10 = (low a8 a9 a10 a11 s.s8 s.s9 s.s10 s.s11).1.1.0 d;
        b11 = (low a8 a9 a10 a11 s.s8 s.s9 s.s10 s.s11).1.1.1 d;
        b12 = sym z.1.1.1.0 d;
        b13 = sym z.1.1.1.1.0 d;
        b14 = sym z.1.1.1.1.1.0 d;
        b15 = sym z.1.1.1.1.1.1 d;
      }
    where
      low : (a b e f : ℕ)
          → a < 256
          → b < 256
          → e < 256
          → f < 256
          → (number4 a b e f % 256 ≡ a)
          × ((number4 a b e f / 256 % 256 ≡ b) × ((number4 a b e f / 65536 % 256 ≡ e) × (number4 a b e f / 16777216 % 256 ≡ f)))
      low a b e f p q r t = (omega arith, (omega arith, (omega arith, omega arith)))

  back_delimiter : (k : ℕ) → all_zero a1 (a2 ∷ a3 ∷ a4 ∷ a5 ∷ a6 ∷ a7 ∷ a8 ∷ a9 ∷ a10 ∷ a11 ∷ a12 ∷ a13 ∷ a14 ∷ a15 ∷ []) ≡ true → raw_delimiter k ≡ here k
  back_delimiter k h =
      let z = zeros a1 (a2 ∷ a3 ∷ a4 ∷ a5 ∷ a6 ∷ a7 ∷ a8 ∷ a9 ∷ a10 ∷ a11 ∷ a12 ∷ a13 ∷ a14 ∷ a15 ∷ []) h in
      λ d. record {
        b0 = k;
        b1 = sym z.0 d;
        b2 = sym z.1.0 d;
        b3 = sym z.1.1.0 d;
        b4 = sym z.1.1.1.0 d;
        b5 = sym z.1.1.1.1.0 d;
        b6 = sym z.1.1.1.1.1.0 d;
        b7 = sym z.1.1.1.1.1.1.0 d;
        b8 = sym z.1.1.1.1.1.1.1.0 d;
        b9 = sym z.1.1.1.1.1.1.1.1.0 d;
        b10 = sym z.1.1.1.1.1.1.1.1.1.0 d;
        b11 = sym z.1.1.1.1.1.1.1.1.1.1.0 d;
        b12 = sym z.1.1.1.1.1.1.1.1.1.1.1.0 d;
        b13 = sym z.1.1.1.1.1.1.1.1.1.1.1.1.0 d;
        b14 = sym z.1.1.1.1.1.1.1.1.1.1.1.1.1.0 d;
        b15 = sym z.1.1.1.1.1.1.1.1.1.1.1.1.1.1 d;
      }

  back : (k : ℕ) → leb 1 k ≡ true → leb k 7 ≡ true → Small (here k) → unnamed_zero (here k) ≡ true → raw_of (named (here k)) ≡ here k
  unfolding unnamed_zero named corner_of delimiter_of
  back =
      kinds (λ k. Small (here k) → unnamed_zero (here k) ≡ true → raw_of (named (here k)) ≡ here k)
      back_area
      (back_corner 2)
      (back_corner 3)
      (λ s. back_delimiter 4)
      (λ s. back_delimiter 5)
      (λ s. back_delimiter 6)
      (back_corner 7)

pub raw_back : (r : Raw) (t : Record) → Small r → decoded_raw r ≡ Ok t → raw_of t ≡ r
raw_back r t s e =
    let q = told r t e in
    ap raw_of (sym q.is)
    ∙ back r.b1 r.b2 r.b3 r.b4 r.b5 r.b6 r.b7 r.b8 r.b9 r.b10 r.b11 r.b12 r.b13 r.b14 r.b15
    r.b0 q.low q.high s q.zero

-- ---- a part of a slice, written as a whole
pub part_sets : (a k : ℕ) (xs ys zs : List ℕ) → ys ≡ zs → length ys ≡ k → a + k ≤ length xs → put_mid a k xs ys ≡ sets xs a zs
part_sets a k xs ys zs s e h =
    let n : ℕ = a + length ys in
    sym (take-append-drop n (put_mid a k xs ys))
    ∙ ap₂ ◌++◌ (take-put_mid a k xs ys n refl (omega arith)) (drop-put_mid a k xs ys n (omega arith) (omega arith) e)
    ∙ (sym (sets-eq ys xs a (omega arith)) ∙ ap (sets xs a) s)

-- a loop that copies the whole of s, a turn and the end of it
module _ {A : Type 0} (d s : List A) (at : ℕ) (h : at + length s ≤ length d) where
  pub copied_more : (t : List A) (k : ℕ) (z : A) → k < length s → t ≡ paste d at s k → set t (at + k) (get_or s k z) ≡ paste d at s (k + 1)
  copied_more t k z l e = rw e (paste_more d at s k z (omega arith) l)

  pub copied_all : (t : List A) (k : ℕ) → k ≤ length s → length s ≤ k → t ≡ paste d at s k → t ≡ sets d at s
  copied_all t k a b e =
      let n : k ≡ length s = omega arith in
      let p : paste d at s k ≡ take at d ++ (s ++ drop (at + length s) d) =
      paste_all d at s k n ∙ ap (λ (m : ℕ). take at d ++ (s ++ drop (at + m) d)) n in
      e ∙ p ∙ sym (sets-eq s d at h ∙ append_assoc (take at d) s (drop (at + length s) d))
