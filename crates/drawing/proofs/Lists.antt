-- Lists of records in a file and in tables: what is written is read, and what is read is there.
use Prim.Native.Nat.{ℕ, zero, suc, ◌+◌, ◌*◌, ◌≤◌, ◌<◌}
use mathlib.Core.Path.{◌≡◌, refl, sym, ap, subst}
use mathlib.Core.Bool.{true}
use mathlib.Core.List.{List, [], ◌∷◌, map}
use native.Mathlib.Omega.{arith}
use lib.ListN.{length, get_or}
use Rattle.records.specs.declared.Record.{Record}
use Rattle.records.specs.declared.Record.TheVariants.{Area, First, Next, Open, Bar, Close, Control}
use Rattle.records.specs.Record.{Decoded}
use Rattle.std.specs.Prelude.{Ok}
use Rattle.records.specs.Record.{in_range, kind_of}
use Rattle.records.specs.Bytes.{raw_at, decoded_raw, bytes_of}
use Rattle.laws.proofs.Booleans.{and_left, and_right, and_both}
use Rattle.records.proofs.Laws.{told}
use Rattle.grammar.specs.declared.Counts.{Counts}
use Rattle.grammar.specs.Lists.{good_records, area_one, corner_one, areas_in, corners_in}
use Rattle.drawing.specs.declared.Cursor.{Cursor}
use Rattle.read.specs.Words.{words_of_kind, words_of_area, words_of_x, words_of_y, joined, Has, all_range, file_of}
use Rattle.read.specs.Reading.{decoded_from}
use Rattle.drawing.specs.Tables.{Tables, record_at, past_record, past_of, rebuilt}
use Rattle.drawing.proofs.Has.{has_left, has_right, has_join, has_nil, has_at, has_first, has_one_law}
use Rattle.drawing.proofs.Rowlaws.{byte_read, byte_told, row_read, row_told, RowTold}

pub goods_map : (rs : List Record) → good_records (map Ok rs) ≡ rs
goods_map [] = refl
goods_map (r ∷ rs) = ap (λ (l : List Record). r ∷ l) (goods_map rs)

head_is : (d e : Decoded) (ds es : List Decoded) → d ∷ ds ≡ e ∷ es → d ≡ e
head_is d e ds es h = cc

tail_is : (d e : Decoded) (ds es : List Decoded) → d ∷ ds ≡ e ∷ es → ds ≡ es
tail_is d e ds es h = cc

not_nil : {A : Type 0} (d : Decoded) (ds : List Decoded) → [] ≡ d ∷ ds → A
not_nil d ds h = absurd (let z : ◌≡◌ {A = ℕ} 0 1 = cc in omega arith)

not_cons : {A : Type 0} (d : Decoded) (ds : List Decoded) → d ∷ ds ≡ [] → A
not_cons d ds h = absurd (let z : ◌≡◌ {A = ℕ} 0 1 = cc in omega arith)

-- ---- a file
pub file_read : (b : List ℕ) (i : ℕ) (rs : List Record) → all_range rs ≡ true → Has b (i * 16) (file_of rs) → decoded_from b i (length rs) ≡ map Ok rs
unfolding decoded_from joined
file_read b i [] g h = refl
file_read b i (r ∷ rs) g h =
    let n : i * 16 + 16 ≡ (i + 1) * 16 = omega arith in
    λ d.
    byte_read b i r (and_left (in_range r) (all_range rs) g) (has_left b (i * 16) (bytes_of r) (file_of rs) h) d
    ∷ file_read b (i + 1) rs (and_right (in_range r) (all_range rs) g)
    (has_at b (i * 16 + 16) ((i + 1) * 16) (file_of rs) n (has_right b (i * 16) (bytes_of r) (file_of rs) h)) d

pub file_told : (b : List ℕ) (i n : ℕ) (rs : List Record)
    → ((k : ℕ) → get_or b k 0 < 256)
    → (i + n) * 16 ≤ length b
    → decoded_from b i n ≡ map Ok rs
    → Has b (i * 16) (file_of rs)
unfolding decoded_from joined
file_told b i zero [] s h e = has_nil b (i * 16) (omega arith)
file_told b i zero (r ∷ rs) s h e = not_nil (Ok r) (map Ok rs) e
file_told b i (suc n) [] s h e = not_cons (decoded_raw (raw_at b i)) (decoded_from b (i + 1) n) e
file_told b i (suc n) (r ∷ rs) s h e =
    let m : (i + 1) * 16 ≡ i * 16 + 16 = omega arith in
    has_join b (i * 16) (bytes_of r) (file_of rs)
    (byte_told b i r s (omega arith) (head_is (decoded_raw (raw_at b i)) (Ok r) (decoded_from b (i + 1) n) (map Ok rs) e))
    (has_at b ((i + 1) * 16) (i * 16 + 16) (file_of rs) m
    (file_told b (i + 1) n rs s (omega arith) (tail_is (decoded_raw (raw_at b i)) (Ok r) (decoded_from b (i + 1) n) (map Ok rs) e)))

pub file_range : (b : List ℕ) (i n : ℕ) (rs : List Record) → decoded_from b i n ≡ map Ok rs → all_range rs ≡ true
unfolding decoded_from
file_range b i zero [] e = refl
file_range b i zero (r ∷ rs) e = not_nil (Ok r) (map Ok rs) e
file_range b i (suc n) [] e = refl
file_range b i (suc n) (r ∷ rs) e =
    and_both (in_range r) (all_range rs) (told (raw_at b i) r (head_is (decoded_raw (raw_at b i)) (Ok r) (decoded_from b (i + 1) n) (map Ok rs) e)).range
    (file_range b (i + 1) n rs (tail_is (decoded_raw (raw_at b i)) (Ok r) (decoded_from b (i + 1) n) (map Ok rs) e))

-- ---- tables
area_long : (r : Record) (n : ℕ) → n * 8 + length (words_of_area r) ≡ (n + area_one r) * 8
area_long (Area f) n = omega arith
area_long (First x y) n = omega arith
area_long (Next x y) n = omega arith
area_long Open n = omega arith
area_long Bar n = omega arith
area_long Close n = omega arith
area_long (Control x y) n = omega arith

x_long : (r : Record) (n : ℕ) → n + length (words_of_x r) ≡ n + corner_one r
x_long (Area f) n = refl
x_long (First x y) n = refl
x_long (Next x y) n = refl
x_long Open n = refl
x_long Bar n = refl
x_long Close n = refl
x_long (Control x y) n = refl

y_long : (r : Record) (n : ℕ) → n + length (words_of_y r) ≡ n + corner_one r
y_long (Area f) n = refl
y_long (First x y) n = refl
y_long (Next x y) n = refl
y_long Open n = refl
y_long Bar n = refl
y_long Close n = refl
y_long (Control x y) n = refl

-- the four tables hold the words of these records, from record i and the cursor on
pub record From (t : Tables) (i : ℕ) (c : Cursor) (rs : List Record) : Type 0 where
  pub plan : Has t.plan (i + 3) (joined words_of_kind rs)
  pub areas : Has t.areas (c.area * 8) (joined words_of_area rs)
  pub xs : Has t.xs c.corner (joined words_of_x rs)
  pub ys : Has t.ys c.corner (joined words_of_y rs)

from_rest : (t : Tables) (i : ℕ) (c : Cursor) (r : Record) (rs : List Record) → From t i c (r ∷ rs) → From t (i + 1) (past_record c r) rs
unfolding joined
from_rest t i c r rs h =
    let n : i + 3 + 1 ≡ i + 1 + 3 = omega arith in
    record {
      plan = has_at t.plan (i + 3 + 1) (i + 1 + 3) (joined words_of_kind rs) n (has_right t.plan (i + 3) (words_of_kind r) (joined words_of_kind rs) h.plan);
      areas =
          has_at t.areas _ _ (joined words_of_area rs) (area_long r c.area)
          (has_right t.areas (c.area * 8) (words_of_area r) (joined words_of_area rs) h.areas);
      xs = has_at t.xs _ _ (joined words_of_x rs) (x_long r c.corner) (has_right t.xs c.corner (words_of_x r) (joined words_of_x rs) h.xs);
      ys = has_at t.ys _ _ (joined words_of_y rs) (y_long r c.corner) (has_right t.ys c.corner (words_of_y r) (joined words_of_y rs) h.ys);
    }

pub tables_read : (t : Tables) (u : Counts) (i : ℕ) (c : Cursor) (rs : List Record)
    → all_range rs ≡ true
    → From t i c rs
    → c.area + areas_in rs ≤ u.areas
    → c.corner + corners_in rs ≤ u.corners
    → rebuilt t u i c (length rs) ≡ map Ok rs
unfolding rebuilt joined
tables_read t u i c [] g h p q = refl
tables_read t u i c (r ∷ rs) g h p q =
    rw here
    (ap (λ (l : List Decoded). Ok r ∷ l)
    (tables_read t u (i + 1) (past_record c r) rs (and_right (in_range r) (all_range rs) g) (from_rest t i c r rs h) (omega arith)
    (omega arith)))
  where
    here : record_at t u i c ≡ Ok r
    here =
        row_read t u i c r (and_left (in_range r) (all_range rs) g) (has_first t.plan (i + 3) (kind_of r) (joined words_of_kind rs) h.plan)
        (has_left t.areas (c.area * 8) (words_of_area r) (joined words_of_area rs) h.areas)
        (has_left t.xs c.corner (words_of_x r) (joined words_of_x rs) h.xs) (has_left t.ys c.corner (words_of_y r) (joined words_of_y rs) h.ys)
        (omega arith) (omega arith)

-- lengths of the tables against the counts in use
pub record Wide (t : Tables) (u : Counts) : Type 0 where
  pub plan : u.records + 3 ≤ length t.plan
  pub areas : u.areas * 8 ≤ length t.areas
  pub xs : u.corners ≤ length t.xs
  pub ys : u.corners ≤ length t.ys

pub record TablesTold (t : Tables) (u : Counts) (i : ℕ) (c : Cursor) (rs : List Record) : Type 0 where
  pub there : From t i c rs
  pub range : all_range rs ≡ true

area_room : (r : Record) (n m l : ℕ) → n + area_one r ≤ m → m * 8 ≤ l → n * 8 + length (words_of_area r) ≤ l
area_room r n m l p q = rw (area_long r n) (omega arith)

x_room : (r : Record) (n m l : ℕ) → n + corner_one r ≤ m → m ≤ l → n + length (words_of_x r) ≤ l
x_room r n m l p q = rw (x_long r n) (omega arith)

y_room : (r : Record) (n m l : ℕ) → n + corner_one r ≤ m → m ≤ l → n + length (words_of_y r) ≤ l
y_room r n m l p q = rw (y_long r n) (omega arith)

told_more : (t : Tables) (u : Counts) (i : ℕ) (c : Cursor) (r : Record) (rs : List Record)
    → Wide t u
    → i < u.records
    → c.area ≤ u.areas
    → c.corner ≤ u.corners
    → RowTold t u (get_or t.plan (i + 3) 0) c r
    → TablesTold t u (i + 1) (past_record c r) rs
    → TablesTold t u i c (r ∷ rs)
unfolding joined
told_more t u i c r rs w l la lc k h =
    let n : i + 1 + 3 ≡ i + 3 + 1 = omega arith in
    record {
      there = record {
        plan = has_join t.plan (i + 3) (words_of_kind r) (joined words_of_kind rs)
            (has_one_law t.plan (i + 3) (kind_of r) (omega (arith, w.plan)) k.kind)
            (has_at t.plan (i + 1 + 3) (i + 3 + 1) (joined words_of_kind rs) n h.there.plan);
        areas = has_join t.areas (c.area * 8) (words_of_area r) (joined words_of_area rs)
            (record { room = area_room r c.area u.areas _ (k.few la) w.areas; same = k.areas })
            (has_at t.areas _ _ (joined words_of_area rs) (sym (area_long r c.area)) h.there.areas);
        xs = has_join t.xs c.corner (words_of_x r) (joined words_of_x rs)
            (record { room = x_room r c.corner u.corners _ (k.many lc) w.xs; same = k.xs })
            (has_at t.xs _ _ (joined words_of_x rs) (sym (x_long r c.corner)) h.there.xs);
        ys = has_join t.ys c.corner (words_of_y r) (joined words_of_y rs)
            (record { room = y_room r c.corner u.corners _ (k.many lc) w.ys; same = k.ys })
            (has_at t.ys _ _ (joined words_of_y rs) (sym (y_long r c.corner)) h.there.ys);
      };
      range = and_both (in_range r) (all_range rs) k.range h.range;
    }

pub tables_told : (t : Tables) (u : Counts) (i : ℕ) (c : Cursor) (n : ℕ) (rs : List Record)
    → Wide t u
    → i + n ≤ u.records
    → c.area ≤ u.areas
    → c.corner ≤ u.corners
    → rebuilt t u i c n ≡ map Ok rs
    → TablesTold t u i c rs
unfolding rebuilt joined
tables_told t u i c zero [] w l la lc e =
    record {
      there = record {
        plan = has_nil t.plan (i + 3) (omega (arith, w.plan));
        areas = has_nil t.areas (c.area * 8) (omega (arith, w.areas));
        xs = has_nil t.xs c.corner (omega (arith, w.xs));
        ys = has_nil t.ys c.corner (omega (arith, w.ys));
      };
      range = refl;
    }
tables_told t u i c zero (r ∷ rs) w l la lc e = not_nil (Ok r) (map Ok rs) e
tables_told t u i c (suc n) [] w l la lc e = not_cons (record_at t u i c) (rebuilt t u (i + 1) (past_of c (record_at t u i c)) n) e
tables_told t u i c (suc n) (r ∷ rs) w l la lc e =
    let q : record_at t u i c ≡ Ok r = head_is (record_at t u i c) (Ok r) (rebuilt t u (i + 1) (past_of c (record_at t u i c)) n) (map Ok rs) e in
    let k : RowTold t u (get_or t.plan (i + 3) 0) c r = row_told t u c r i q in
    let f : rebuilt t u (i + 1) (past_record c r) n ≡ map Ok rs = subst (λ (d : Decoded). rebuilt t u (i + 1) (past_of c d) n ≡ map Ok rs)
    q (tail_is (record_at t u i c) (Ok r) (rebuilt t u (i + 1) (past_of c (record_at t u i c)) n) (map Ok rs) e) in
    told_more t u i c r rs w (omega arith) la lc k
    (tables_told t u (i + 1) (past_record c r) n rs w (omega arith) (k.few la) (k.many lc) f)
