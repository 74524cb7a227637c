-- One record in the tables, and in a file.
use Prim.Native.Nat.{ℕ, suc, ◌+◌, ◌*◌, ◌≤◌, ◌<◌}
use mathlib.Core.Path.{◌≡◌, refl, sym, ap, ◌∙◌}
use mathlib.Core.Bool.{Bool, true, false, cond}
use mathlib.Core.List.{List, [], ◌∷◌}
use native.Mathlib.Omega.{arith}
use native.Mathlib.Numerals.{towards_suc}
use lib.ListN.{length, get_or}
use lib.Dec.{eqb, ltb}
use borrow.Author.Tests.{ltb-true, lt-ltb, eqb-true}
use Rattle.records.specs.Bytes.{Raw}
use Rattle.records.specs.declared.Fields.{Fields}
use Rattle.refusals.specs.declared.Refusal.{Refusal}
use Rattle.refusals.specs.declared.Refusal.TheVariants.{Field}
use Rattle.records.specs.declared.Kind.{Kind}
use Rattle.records.specs.declared.Kind.TheVariants as Kinds
use Rattle.records.specs.declared.Record.{Record}
use Rattle.records.specs.declared.Record.TheVariants.{Area, First, Next, Open, Bar, Close, Control}
use Rattle.records.specs.Record.{Decoded}
use Rattle.std.specs.Prelude.{Result, Ok, Err}
use Rattle.records.specs.Record.{in_range, ranged, corner_of, delimiter_of, kind_of}
use Rattle.records.specs.Bytes.{raw_at, raw_bytes, raw_of, decoded_raw, bytes_of}
use Rattle.records.specs.Kinds.{kind_number, kind_at}
use Rattle.records.proofs.Kindlaws.{kind_is, kind_first, of_kind}
use Rattle.records.proofs.Laws.{ranged_told, Small, raw_back, raw_again}
use Rattle.grammar.specs.declared.Counts.{Counts}
use Rattle.grammar.specs.Lists.{area_one, corner_one}
use Rattle.drawing.specs.declared.Cursor.{Cursor}
use Rattle.read.specs.Words.{words_of_fields, words_of_area, words_of_x, words_of_y, words_from, Has}
use Rattle.drawing.specs.Tables.{Tables, fields_at, area_row, corner_row, kind_row, record_at}
use Rattle.drawing.proofs.Has.{has_first}

-- ---- a file's sixteen bytes
raw_words : (b : List ℕ) (i : ℕ) → words_from b (i * 16) 16 ≡ raw_bytes (raw_at b i)
raw_words b i =
    let e1 : i * 16 + 1 ≡ suc (i * 16) = omega arith in
    let e2 : i * 16 + 2 ≡ suc (suc (i * 16)) = omega arith in
    let e3 : i * 16 + 3 ≡ suc (suc (suc (i * 16))) = omega arith in
    let e4 : i * 16 + 4 ≡ suc (suc (suc (suc (i * 16)))) = omega arith in
    let e5 : i * 16 + 5 ≡ suc (suc (suc (suc (suc (i * 16))))) = omega arith in
    let e6 : i * 16 + 6 ≡ suc (suc (suc (suc (suc (suc (i * 16)))))) = omega arith in
    let e7 : i * 16 + 7 ≡ suc (suc (suc (suc (suc (suc (suc (i * 16))))))) = omega arith in
    let e8 : i * 16 + 8 ≡ suc (suc (suc (suc (suc (suc (suc (suc (i * 16)))))))) = omega arith in
    let e9 : i * 16 + 9 ≡ suc (suc (suc (suc (suc (suc (suc (suc (suc (i * 16))))))))) = omega arith in
    let e10 : i * 16 + 10 ≡ suc (suc (suc (suc (suc (suc (suc (suc (suc (suc (i * 16)))))))))) = omega arith in
    let e11 : i * 16 + 11 ≡ suc (suc (suc (suc (suc (suc (suc (suc (suc (suc (suc (i * 16))))))))))) = omega arith in
    let e12 : i * 16 + 12 ≡ suc (suc (suc (suc (suc (suc (suc (suc (suc (suc (suc (suc (i * 16)))))))))))) = omega arith in
    let e13 : i * 16 + 13 ≡ suc (suc (suc (suc (suc (suc (suc (suc (suc (suc (suc (suc (suc (i * 16))))))))))))) = omega arith in
    let e14 : i * 16 + 14 ≡ suc (suc (suc (suc (suc (suc (suc (suc (suc (suc (suc (suc (suc (suc (i * 16)))))))))))))) = omega arith in
    let e15 : i * 16 + 15 ≡ suc (suc (suc (suc (suc (suc (suc (suc (suc (suc (suc (suc (suc (suc (suc (i * 16))))))))))))))) = omega arith in
    rw (e1, e2, e3, e4, e5, e6, e7, e8, e9, e10, e11, e12, e13, e14, e15)

-- sixteen bytes that are equal as lists are equal
raw_same : (r s : Raw) → raw_bytes r ≡ raw_bytes s → r ≡ s
raw_same r s e =
    λ d. record {
      b0 = p0 d;
      b1 = p1 d;
      b2 = p2 d;
      b3 = p3 d;
      b4 = p4 d;
      b5 = p5 d;
      b6 = p6 d;
      b7 = p7 d;
      b8 = p8 d;
      b9 = p9 d;
      b10 = p10 d;
      b11 = p11 d;
      b12 = p12 d;
      b13 = p13 d;
      b14 = p14 d;
      b15 = p15 d;
    }
  where
    p0 : r.b0 ≡ s.b0
    p0 = ap (λ (l : List ℕ). get_or l 0 0) e

    p1 : r.b1 ≡ s.b1
    p1 = ap (λ (l : List ℕ). get_or l 1 0) e

    p2 : r.b2 ≡ s.b2
    p2 = ap (λ (l : List ℕ). get_or l 2 0) e

    p3 : r.b3 ≡ s.b3
    p3 = ap (λ (l : List ℕ). get_or l 3 0) e

    p4 : r.b4 ≡ s.b4
    p4 = ap (λ (l : List ℕ). get_or l 4 0) e

    p5 : r.b5 ≡ s.b5
    p5 = ap (λ (l : List ℕ). get_or l 5 0) e

    p6 : r.b6 ≡ s.b6
    p6 = ap (λ (l : List ℕ). get_or l 6 0) e

    p7 : r.b7 ≡ s.b7
    p7 = ap (λ (l : List ℕ). get_or l 7 0) e

    p8 : r.b8 ≡ s.b8
    p8 = ap (λ (l : List ℕ). get_or l 8 0) e

    p9 : r.b9 ≡ s.b9
    p9 = ap (λ (l : List ℕ). get_or l 9 0) e

    p10 : r.b10 ≡ s.b10
    p10 = ap (λ (l : List ℕ). get_or l 10 0) e

    p11 : r.b11 ≡ s.b11
    p11 = ap (λ (l : List ℕ). get_or l 11 0) e

    p12 : r.b12 ≡ s.b12
    p12 = ap (λ (l : List ℕ). get_or l 12 0) e

    p13 : r.b13 ≡ s.b13
    p13 = ap (λ (l : List ℕ). get_or l 13 0) e

    p14 : r.b14 ≡ s.b14
    p14 = ap (λ (l : List ℕ). get_or l 14 0) e

    p15 : r.b15 ≡ s.b15
    p15 = ap (λ (l : List ℕ). get_or l 15 0) e

pub byte_read : (b : List ℕ) (i : ℕ) (r : Record) → in_range r ≡ true → Has b (i * 16) (bytes_of r) → decoded_raw (raw_at b i) ≡ Ok r
byte_read b i r g h = ap decoded_raw (raw_same (raw_at b i) (raw_of r) (sym (raw_words b i) ∙ h.same)) ∙ raw_again r g

pub byte_told : (b : List ℕ) (i : ℕ) (r : Record)
    → ((k : ℕ) → get_or b k 0 < 256)
    → i * 16 + 16 ≤ length b
    → decoded_raw (raw_at b i) ≡ Ok r
    → Has b (i * 16) (bytes_of r)
byte_told b i r s h e = record { room = h; same = raw_words b i ∙ ap raw_bytes (sym (raw_back (raw_at b i) r small e)) }
  where
    small : Small (raw_at b i)
    small =
        record {
          s1 = s (i * 16 + 1);
          s2 = s (i * 16 + 2);
          s3 = s (i * 16 + 3);
          s4 = s (i * 16 + 4);
          s5 = s (i * 16 + 5);
          s6 = s (i * 16 + 6);
          s7 = s (i * 16 + 7);
          s8 = s (i * 16 + 8);
          s9 = s (i * 16 + 9);
          s10 = s (i * 16 + 10);
          s11 = s (i * 16 + 11);
        }

-- ---- an area's eight words
area_words_law : (t : List ℕ) (i : ℕ)
    → words_from t (i * 8) 8
    ≡ get_or t (i * 8) 0
    ∷ get_or t (i * 8 + 1) 0
    ∷ get_or t (i * 8 + 2) 0
    ∷ get_or t (i * 8 + 3) 0
    ∷ get_or t (i * 8 + 4) 0
    ∷ get_or t (i * 8 + 5) 0
    ∷ get_or t (i * 8 + 6) 0
    ∷ get_or t (i * 8 + 7) 0
    ∷ []
area_words_law t i = simp towards_suc

pub row_fields : (t : List ℕ) (i : ℕ) (f : Fields) → words_from t (i * 8) 8 ≡ words_of_fields f → fields_at t i ≡ f
row_fields t i f e₀ = λ d. record { role = at 0 d; rule = at 1 d; alpha = at 2 d; red = at 3 d; green = at 4 d; blue = at 5 d; material = at 6 d }
  where
    at : (k : ℕ)
        → get_or
        (get_or t (i * 8) 0
        ∷ get_or t (i * 8 + 1) 0
        ∷ get_or t (i * 8 + 2) 0
        ∷ get_or t (i * 8 + 3) 0
        ∷ get_or t (i * 8 + 4) 0
        ∷ get_or t (i * 8 + 5) 0
        ∷ get_or t (i * 8 + 6) 0
        ∷ get_or t (i * 8 + 7) 0
        ∷ [])
        k 0
        ≡ get_or (words_of_fields f) k 0
    at k = ap (λ (l : List ℕ). get_or l k 0) (sym (area_words_law t i) ∙ e₀)

row_last : (t : List ℕ) (i : ℕ) (f : Fields) → words_from t (i * 8) 8 ≡ words_of_fields f → get_or t (i * 8 + 7) 0 ≡ 0
row_last t i f e = ap (λ (l : List ℕ). get_or l 7 0) (sym (area_words_law t i) ∙ e)

-- ---- what is in the tables is read as it is
module _ (t : Tables) (u : Counts) (i : ℕ) (c : Cursor) where
  pub area_read : (f : Fields)
      → in_range (Area f) ≡ true
      → Has t.areas (c.area * 8) (words_of_fields f)
      → c.area < u.areas
      → area_row t.areas u.areas c.area ≡ Ok (Area f)
  unfolding area_row
  area_read f g h l = rw (lt-ltb _ _ l, row_last t.areas c.area f h.same, row_fields t.areas c.area f h.same, g)

  corner_read : (k x y : ℕ) (r : Record)
      → corner_of k x y ≡ r
      → in_range r ≡ true
      → get_or t.xs c.corner 0 ≡ x
      → get_or t.ys c.corner 0 ≡ y
      → c.corner < u.corners
      → corner_row t.xs t.ys u.corners k c.corner ≡ Ok r
  unfolding corner_row
  corner_read k x y r q g a b l = rw (lt-ltb _ _ l, a, b, q, g)

  pub row_read : (r : Record)
      → in_range r ≡ true
      → get_or t.plan (i + 3) 0 ≡ kind_of r
      → Has t.areas (c.area * 8) (words_of_area r)
      → Has t.xs c.corner (words_of_x r)
      → Has t.ys c.corner (words_of_y r)
      → c.area + area_one r ≤ u.areas
      → c.corner + corner_one r ≤ u.corners
      → record_at t u i c ≡ Ok r
  unfolding record_at kind_row corner_of delimiter_of
  row_read (Area f) g k a x y p q = rw k (area_read f g a (omega arith))
  row_read (First m n) g k a x y p q = rw k (corner_read 2 m n (First m n) refl g (has_first _ _ m [] x) (has_first _ _ n [] y) (omega arith))
  row_read (Next m n) g k a x y p q = rw k (corner_read 3 m n (Next m n) refl g (has_first _ _ m [] x) (has_first _ _ n [] y) (omega arith))
  row_read Open g k a x y p q = rw k
  row_read Bar g k a x y p q = rw k
  row_read Close g k a x y p q = rw k
  row_read (Control m n) g k a x y p q = rw k (corner_read 7 m n (Control m n) refl g (has_first _ _ m [] x) (has_first _ _ n [] y) (omega arith))

-- ---- a row by its kind
module _ (t : Tables) (u : Counts) (c : Cursor) where
  abbrev row_by : Result Kind Refusal → Decoded
  row_by (Ok Kinds.Area) = area_row t.areas u.areas c.area
  row_by (Ok Kinds.First) = corner_row t.xs t.ys u.corners 2 c.corner
  row_by (Ok Kinds.Next) = corner_row t.xs t.ys u.corners 3 c.corner
  row_by (Ok Kinds.Open) = Ok Open
  row_by (Ok Kinds.Bar) = Ok Bar
  row_by (Ok Kinds.Close) = Ok Close
  row_by (Ok Kinds.Control) = corner_row t.xs t.ys u.corners 7 c.corner
  row_by (Err e) = Err e

  row_of : (k : Kind) → kind_row t.areas t.xs t.ys u (kind_number k) c ≡ row_by (Ok k)
  unfolding kind_row delimiter_of
  row_of Kinds.Area = refl
  row_of Kinds.First = refl
  row_of Kinds.Next = refl
  row_of Kinds.Open = refl
  row_of Kinds.Bar = refl
  row_of Kinds.Close = refl
  row_of Kinds.Control = refl

  pub row_is : (i : ℕ) → record_at t u i c ≡ row_by (kind_at (get_or t.plan (i + 3) 0))
  unfolding record_at
  row_is i = kind_first (kind_row t.areas t.xs t.ys u n c) n ∙ go (kind_at n) refl
    where
      n : ℕ
      n = get_or t.plan (i + 3) 0

      go : (k : Result Kind Refusal) → kind_at n ≡ k → of_kind k (kind_row t.areas t.xs t.ys u n c) ≡ row_by k
      go (Ok k) e = rw (← kind_is n k e) (row_of k)
      go (Err x) e = refl

-- ---- and what is read is there
pub record RowTold (t : Tables) (u : Counts) (k : ℕ) (c : Cursor) (r : Record) : Type 0 where
  pub kind : k ≡ kind_of r
  pub areas : words_from t.areas (c.area * 8) (length (words_of_area r)) ≡ words_of_area r
  pub xs : words_from t.xs c.corner (length (words_of_x r)) ≡ words_of_x r
  pub ys : words_from t.ys c.corner (length (words_of_y r)) ≡ words_of_y r
  pub few : c.area ≤ u.areas → c.area + area_one r ≤ u.areas
  pub many : c.corner ≤ u.corners → c.corner + corner_one r ≤ u.corners
  pub range : in_range r ≡ true

good_is : (r s : Record) → ◌≡◌ {A = Decoded} (Ok r) (Ok s) → r ≡ s
good_is r s e = cc

module _ (t : Tables) (u : Counts) (c : Cursor) (r : Record) where
  told_area : area_row t.areas u.areas c.area ≡ Ok r → RowTold t u 1 c r
  unfolding area_row
  told_area e₀ = go (ltb c.area u.areas) (eqb (get_or t.areas (c.area * 8 + 7) 0) 0) refl refl e₀
    where
      f : Fields
      f = fields_at t.areas c.area

      told_row : c.area < u.areas → get_or t.areas (c.area * 8 + 7) 0 ≡ 0 → in_range (Area f) ≡ true → RowTold t u 1 c (Area f)
      told_row l z g =
          record {
            kind = refl;
            areas = area_words_law t.areas c.area ∙ rw z;
            xs = refl;
            ys = refl;
            few = λ h. omega arith;
            many = λ h. omega arith;
            range = g;
          }

      go : (a b : Bool)
          → ltb c.area u.areas ≡ a
          → eqb (get_or t.areas (c.area * 8 + 7) 0) 0 ≡ b
          → cond a (cond b (ranged (Area f)) (Err Field)) (Err Field) ≡ Ok r
          → RowTold t u 1 c r
      go false b p q e = absurd cc
      go true false p q e = absurd cc
      go true true p q e =
          let s = ranged_told (Area f) r e in
          rw (← s.0) (told_row (ltb-true _ _ p) (eqb-true _ _ q) (rw (← s.0) at s.1))

  -- a corner of kind k, which is the record m
  told_corner : (k : ℕ) (m : Record)
      → corner_of k (get_or t.xs c.corner 0) (get_or t.ys c.corner 0) ≡ m
      → (c.corner < u.corners → in_range m ≡ true → RowTold t u k c m)
      → corner_row t.xs t.ys u.corners k c.corner ≡ Ok r
      → RowTold t u k c r
  unfolding corner_row
  told_corner k m is told_row e₀ = go (ltb c.corner u.corners) refl (rw is at e₀)
    where
      go : (a : Bool) → ltb c.corner u.corners ≡ a → cond a (ranged m) (Err Field) ≡ Ok r → RowTold t u k c r
      go false p e = absurd cc
      go true p e =
          let s = ranged_told m r e in
          rw (← s.0) (told_row (ltb-true _ _ p) (rw (← s.0) at s.1))

  told_first : corner_row t.xs t.ys u.corners 2 c.corner ≡ Ok r → RowTold t u 2 c r
  unfolding corner_of
  told_first =
      told_corner 2 (First (get_or t.xs c.corner 0) (get_or t.ys c.corner 0)) refl
      (λ l g. record { kind = refl; areas = refl; xs = refl; ys = refl; few = λ h. omega arith; many = λ h. omega arith; range = g })

  told_next : corner_row t.xs t.ys u.corners 3 c.corner ≡ Ok r → RowTold t u 3 c r
  unfolding corner_of
  told_next =
      told_corner 3 (Next (get_or t.xs c.corner 0) (get_or t.ys c.corner 0)) refl
      (λ l g. record { kind = refl; areas = refl; xs = refl; ys = refl; few = λ h. omega arith; many = λ h. omega arith; range = g })

  told_control : corner_row t.xs t.ys u.corners 7 c.corner ≡ Ok r → RowTold t u 7 c r
  unfolding corner_of
  told_control =
      told_corner 7 (Control (get_or t.xs c.corner 0) (get_or t.ys c.corner 0)) refl
      (λ l g. record { kind = refl; areas = refl; xs = refl; ys = refl; few = λ h. omega arith; many = λ h. omega arith; range = g })

  told_open : ◌≡◌ {A = Decoded} (Ok Open) (Ok r) → RowTold t u 4 c r
  told_open e =
      rw (← good_is Open r e)
      (record { kind = refl; areas = refl; xs = refl; ys = refl; few = λ h. omega arith; many = λ h. omega arith; range = refl })

  told_bar : ◌≡◌ {A = Decoded} (Ok Bar) (Ok r) → RowTold t u 5 c r
  told_bar e =
      rw (← good_is Bar r e)
      (record { kind = refl; areas = refl; xs = refl; ys = refl; few = λ h. omega arith; many = λ h. omega arith; range = refl })

  told_close : ◌≡◌ {A = Decoded} (Ok Close) (Ok r) → RowTold t u 6 c r
  told_close e =
      rw (← good_is Close r e)
      (record { kind = refl; areas = refl; xs = refl; ys = refl; few = λ h. omega arith; many = λ h. omega arith; range = refl })

  pub row_told : (i : ℕ) → record_at t u i c ≡ Ok r → RowTold t u (get_or t.plan (i + 3) 0) c r
  row_told i e₀ = go (kind_at n) refl (sym (row_is t u c i) ∙ e₀)
    where
      n : ℕ
      n = get_or t.plan (i + 3) 0

      go : (k : Result Kind Refusal) → kind_at n ≡ k → row_by t u c k ≡ Ok r → RowTold t u n c r
      go (Ok Kinds.Area) q e = rw (← kind_is n Kinds.Area q) (told_area e)
      go (Ok Kinds.First) q e = rw (← kind_is n Kinds.First q) (told_first e)
      go (Ok Kinds.Next) q e = rw (← kind_is n Kinds.Next q) (told_next e)
      go (Ok Kinds.Open) q e = rw (← kind_is n Kinds.Open q) (told_open e)
      go (Ok Kinds.Bar) q e = rw (← kind_is n Kinds.Bar q) (told_bar e)
      go (Ok Kinds.Close) q e = rw (← kind_is n Kinds.Close q) (told_close e)
      go (Ok Kinds.Control) q e = rw (← kind_is n Kinds.Control q) (told_control e)
      go (Err x) q e = absurd cc
