-- Reading and writing undo each other; lent tables pass exactly where they are what reading an accepted file leaves.
use Rattle.std.specs.Prelude.{Ok, Err}
use Rattle.refusals.specs.Refusals.{at_place}
use Prim.Native.Nat.{ℕ, zero, suc, ◌+◌, ◌-◌, ◌/◌, ◌%◌, ◌≤◌, ◌<◌}
use mathlib.Core.Path.{◌≡◌, refl, sym, ap, ◌∙◌, subst}
use mathlib.Core.Bool.{Bool, true, false, cond}
use mathlib.Core.List.{List, [], ◌∷◌, ◌++◌, map, append-nil}
use native.Mathlib.Omega.{arith}
use lib.ListN.{length, get_or, drop, length-map}
use lib.Seq.{sets, sets-eq, length-sets, drop-length}
use lib.Dec.{eqb}
use borrow.Author.Tests.{eq-eqb, le-leb, eqb-true}
use Rattle.refusals.specs.declared.Refusal.TheVariants.{Argument, Room}
use Rattle.records.specs.declared.Fields.{Fields}
use Rattle.records.specs.declared.Record.{Record}
use Rattle.records.specs.declared.Record.TheVariants.{Area, First, Next, Open, Bar, Close, Control}
use Rattle.records.specs.Bytes.{raw_bytes, raw_area, raw_corner, raw_delimiter, bytes_of}
use Rattle.grammar.specs.declared.Counts.{Counts}
use Rattle.grammar.specs.Grammar.{Verdict}
use Rattle.grammar.specs.Grammar.{checked, counts}
use Rattle.grammar.specs.Lists.{good_records, areas_in, corners_in}
use Rattle.grammar.proofs.Laws.{sound}
use Rattle.read.specs.Words.{joined, plan_words, area_words, x_words, y_words, file_of, Has, all_range}
use Rattle.read.specs.Reading.{decoded_from, decoded_in, records_in, verdict_of, holds, if_room, read_answer, left_by}
use Rattle.drawing.specs.Tables.{Tables, tables, cursor, rebuilt, used_of, rebuilt_in, drawn_in, agreed, counts_judged, drawing_verdict, written_of}
use Rattle.drawing.specs.Tables.{write_answer}
use Rattle.drawing.specs.code.Held.{Acceptable, Holding}
use Rattle.read.proofs.Files.{filed, filed_checked, length_good, kinds_length, areas_length, xs_length, ys_length, file_length, Holds, held}
use Rattle.drawing.proofs.Rows.{drawn}
use Rattle.drawing.proofs.Has.{has_sets, has_same, has_first, has_rest, has_cons, has_whole}
use Rattle.drawing.proofs.Lists.{goods_map, file_read, file_told, file_range, From, tables_read, Wide, tables_told}

-- ---- files
pub file_accepts : (b : List ℕ) (k : Counts) → verdict_of b ≡ Ok k → Acceptable (records_in b) k
file_accepts b k e =
    let s = sound (decoded_in b) k (filed_checked b k e) in
    let f = filed b k e in
    record {
      range = file_range b 0 (length b / 16) (records_in b) s.good;
      below = omega (arith, f.below, f.records);
      fold = ap checked (sym s.good) ∙ filed_checked b k e;
    }

-- the records of an accepted file, written as bytes, are the file
pub file_back : (b : List ℕ) (k : Counts) → ((i : ℕ) → get_or b i 0 < 256) → verdict_of b ≡ Ok k → file_of (records_in b) ≡ b
file_back b k small e =
    let s = sound (decoded_in b) k (filed_checked b k e) in
    let f = filed b k e in
    has_whole b (file_of (records_in b)) (file_told b 0 (length b / 16) (records_in b) small (omega (arith, f.whole, f.parts)) s.good)
    (omega (arith, file_length (records_in b), f.records, f.whole))

has_self : (w : List ℕ) → Has w 0 w
has_self w = subst (λ (t : List ℕ). Has t 0 w) same (has_sets w 0 w (omega arith))
  where
    same : sets w 0 w ≡ w
    same =
        let n : 0 + length w ≡ length w = omega arith in
        sets-eq w w 0 (omega arith) ∙ ap (λ (x : List ℕ). w ++ x) (ap (λ (m : ℕ). drop m w) n ∙ drop-length w) ∙ append-nil w

whole_file : (rs : List Record) → length (file_of rs) / 16 ≡ length rs
whole_file rs = omega (arith, file_length rs)

again_decoded : (rs : List Record) → all_range rs ≡ true → decoded_in (file_of rs) ≡ map Ok rs
again_decoded rs g = ap (decoded_from (file_of rs) 0) (whole_file rs) ∙ file_read (file_of rs) 0 rs g (has_self (file_of rs))

-- acceptable records, written as bytes, are read as they were
pub file_again : (rs : List Record) (k : Counts) → Acceptable rs k → verdict_of (file_of rs) ≡ Ok k
unfolding verdict_of
file_again rs k a =
    rw (
      eq-eqb (length (file_of rs) % 16) 0 (omega (arith, file_length rs)),
      le-leb (length (file_of rs) / 16) 4096 (omega (arith, file_length rs, a.below)),
      again_decoded rs a.range,
    )
    a.fold

pub file_records : (rs : List Record) (k : Counts) → Acceptable rs k → records_in (file_of rs) ≡ rs
file_records rs k a = ap good_records (again_decoded rs a.range) ∙ goods_map rs

-- ---- tables
counted : (rs : List Record) (k : Counts) → Acceptable rs k → k ≡ counts (length rs) (areas_in rs) (corners_in rs)
counted rs k a =
    let s = sound (map Ok rs) k a.fold in
    λ i. record {
      records = (s.records ∙ length-map rs Ok) i;
      areas = (s.areas ∙ ap areas_in (goods_map rs)) i;
      corners = (s.corners ∙ ap corners_in (goods_map rs)) i;
    }

used_is : (t : Tables) (rs : List Record) → Holding t rs → used_of t.plan ≡ counts (length rs) (areas_in rs) (corners_in rs)
used_is t rs h =
    let h1 = has_rest t.plan 0 (length rs) _ h.plan in
    let h2 = has_rest t.plan 1 (areas_in rs) _ h1 in
    λ i. record {
      records = has_first t.plan 0 (length rs) _ h.plan i;
      areas = has_first t.plan 1 (areas_in rs) _ h1 i;
      corners = has_first t.plan 2 (corners_in rs) _ h2 i;
    }

from_start : (t : Tables) (rs : List Record) → Holding t rs → From t 0 (cursor 0 0) rs
from_start t rs h =
    let h1 = has_rest t.plan 0 (length rs) _ h.plan in
    let h2 = has_rest t.plan 1 (areas_in rs) _ h1 in
    record { plan = has_rest t.plan 2 (corners_in rs) _ h2; areas = h.areas; xs = h.xs; ys = h.ys }

-- decode (encode rs) is rs
pub decoded_encoded : (t : Tables) (rs : List Record) → all_range rs ≡ true → Holding t rs → rebuilt_in t ≡ map Ok rs
decoded_encoded t rs g h =
    let u : Counts = counts (length rs) (areas_in rs) (corners_in rs) in
    ap (λ (v : Counts). rebuilt t v 0 (cursor 0 0) v.records) (used_is t rs h)
    ∙ tables_read t (counts (length rs) (areas_in rs) (corners_in rs)) 0 (cursor 0 0) rs g (from_start t rs h) (omega arith) (omega arith)

pub drawn_records : (t : Tables) (rs : List Record) → all_range rs ≡ true → Holding t rs → drawn_in t ≡ rs
drawn_records t rs g h = ap good_records (decoded_encoded t rs g h) ∙ goods_map rs

room_for : (p a d : ℕ) (k : Counts) → 3 ≤ p → k.records ≤ p - 3 → k.areas ≤ a / 8 → k.corners ≤ d → holds p a d k ≡ true
unfolding holds
room_for p a d k h r s t = rw (le-leb _ _ h, le-leb _ _ r, le-leb _ _ s, le-leb _ _ t)

agreed_same : (k : Counts) → agreed (Ok k) k ≡ Ok k
agreed_same k = rw (eq-eqb k.areas k.areas refl, eq-eqb k.corners k.corners refl)

counts_pass : (t : Tables) (k : Counts)
    → k.records ≤ 4096
    → holds (length t.plan) (length t.areas) (length t.xs) k ≡ true
    → checked (rebuilt t k 0 (cursor 0 0) k.records) ≡ Ok k
    → counts_judged t k ≡ Ok k
unfolding counts_judged
counts_pass t k b r f = rw (le-leb k.records 4096 b, r, f) (agreed_same k)

-- tables that hold acceptable records pass
pub holding_passes : (t : Tables) (rs : List Record) (k : Counts) → Acceptable rs k → Holding t rs → drawing_verdict t ≡ Ok k
unfolding drawing_verdict
holding_passes t rs k a h =
    let c : k ≡ counts (length rs) (areas_in rs) (corners_in rs) = counted rs k a in
    let n : k.records ≡ length rs = ap (λ (x : Counts). x.records) c in
    let m : k.areas ≡ areas_in rs = ap (λ (x : Counts). x.areas) c in
    let o : k.corners ≡ corners_in rs = ap (λ (x : Counts). x.corners) c in
    let u : used_of t.plan ≡ k = used_is t rs h ∙ sym c in
    let f : checked (rebuilt t k 0 (cursor 0 0) k.records) ≡ Ok k =
    ap checked (ap (λ (v : Counts). rebuilt t v 0 (cursor 0 0) v.records) (sym u) ∙ decoded_encoded t rs a.range h) ∙ a.fold in
    let l : 3 ≤ length t.plan = omega (arith, h.plan.room) in
    let r : holds (length t.plan) (length t.areas) (length t.xs) k ≡ true = room_for (length t.plan) (length t.areas)
    (length t.xs) k l (omega (arith, h.plan.room, kinds_length rs)) (omega (arith, h.areas.room, areas_length rs))
    (omega (arith, h.xs.room, xs_length rs)) in
    rw (eq-eqb _ _ h.pair, le-leb _ _ l) (ap (counts_judged t) u ∙ counts_pass t k (omega (arith, a.below)) r f)

-- tables that pass hold acceptable records
pub passes_holding : (t : Tables) (k : Counts) → drawing_verdict t ≡ Ok k → Acceptable (drawn_in t) k × Holding t (drawn_in t)
passes_holding t k e =
    let d = drawn t k e in
    let s = sound (rebuilt_in t) k d.fold in
    let n : (used_of t.plan).records ≡ k.records = ap (λ (x : Counts). x.records) (sym d.used) in
    let m : (used_of t.plan).areas ≡ k.areas = ap (λ (x : Counts). x.areas) (sym d.used) in
    let o : (used_of t.plan).corners ≡ k.corners = ap (λ (x : Counts). x.corners) (sym d.used) in
    let w : Wide t (used_of t.plan) = record {
      plan = omega (arith, d.room.plan);
      areas = omega (arith, d.room.areas);
      xs = omega (arith, d.room.corners);
      ys = omega (arith, d.room.corners, d.same);
    } in
    let g = tables_told t (used_of t.plan) 0 (cursor 0 0) (used_of t.plan).records (drawn_in t) w (omega arith) (omega arith) (omega arith) s.good in
    let q : k.records ≡ length (drawn_in t) = s.records ∙ length_good (rebuilt_in t) s.good in (
      record { range = g.range; below = omega (arith, d.below); fold = ap checked (sym s.good) ∙ d.fold },
      record {
        plan = has_cons t.plan 0 (length (drawn_in t)) _ (n ∙ q)
            (has_cons t.plan 1 (areas_in (drawn_in t)) _ (m ∙ s.areas)
            (has_cons t.plan 2 (corners_in (drawn_in t)) _ (o ∙ s.corners) g.there.plan));
        areas = g.there.areas;
        xs = g.there.xs;
        ys = g.there.ys;
        pair = d.same;
      },
    )

-- ---- reading, then writing
pub record Taken (b p a x y : List ℕ) (k : Counts) : Type 0 where
  pub pair : length x ≡ length y
  pub verdict : verdict_of b ≡ Ok k
  pub room : Holds (length p) (length a) (length x) k

room_told : (v : Verdict) (p a d : ℕ) (k : Counts) → if_room v p a d ≡ Ok k → (v ≡ Ok k) × Holds p a d k
room_told (Err x) p a d k e = absurd cc
room_told (Ok j) p a d k e₀ = go (holds p a d j) refl e₀
  where
    is : ◌≡◌ {A = Verdict} (Ok j) (Ok k) → j ≡ k
    is x = cc

    go : (t : Bool) → holds p a d j ≡ t → cond t (Ok j) (Err (at_place Room 0)) ≡ Ok k → (◌≡◌ {A = Verdict} (Ok j) (Ok k)) × Holds p a d k
    go false q e = absurd cc
    go true q e = (e, rw (← is e) (held p a d j q))

pub taken : (b p a x y : List ℕ) (k : Counts) → read_answer b p a x y ≡ Ok k → Taken b p a x y k
unfolding read_answer
taken b p a x y k e₀ = go (eqb (length x) (length y)) refl e₀
  where
    go : (t : Bool)
        → eqb (length x) (length y) ≡ t
        → cond t (if_room (verdict_of b) (length p) (length a) (length x)) (Err (at_place Argument 0)) ≡ Ok k
        → Taken b p a x y k
    go false q e = absurd cc
    go true q e =
        let s = room_told (verdict_of b) (length p) (length a) (length x) k e in
        record { pair = eqb-true _ _ q; verdict = s.0; room = s.1 }

-- the four tables as `read` leaves them
abbrev pub after : Verdict → List ℕ → List ℕ → List ℕ → List ℕ → List ℕ → Tables
after v b p a x y =
    tables (left_by v p (plan_words (records_in b))) (left_by v a (area_words (records_in b))) (left_by v x (x_words (records_in b)))
    (left_by v y (y_words (records_in b)))

-- what an accepted reading leaves holds the file's records
pub read_leaves : (b p a x y : List ℕ) (k : Counts) → read_answer b p a x y ≡ Ok k → Holding (after (Ok k) b p a x y) (records_in b)
read_leaves b p a x y k e =
    let t = taken b p a x y k e in
    let f = filed b k t.verdict in
    let rs : List Record = records_in b in
    record {
      plan = has_sets p 0 (plan_words (records_in b)) (omega (arith, t.room.plan, f.records, kinds_length (records_in b)));
      areas = has_sets a 0 (area_words (records_in b)) (omega (arith, t.room.areas, f.areas, areas_length (records_in b)));
      xs = has_sets x 0 (x_words (records_in b)) (omega (arith, t.room.corners, f.corners, xs_length (records_in b)));
      ys = has_sets y 0 (y_words (records_in b)) (omega (arith, t.room.corners, t.pair, f.corners, ys_length (records_in b)));
      pair = length-sets x 0 (x_words (records_in b)) ∙ t.pair ∙ sym (length-sets y 0 (y_words (records_in b)));
    }

pub record Written-back (b : List ℕ) (t : Tables) (k : Counts) : Type 0 where
  pub passes : drawing_verdict t ≡ Ok k
  pub bytes : file_of (drawn_in t) ≡ b
  pub answer : (out : List ℕ) → write_answer t out ≡ written_of (Ok k) (length out)

-- an accepted file, read into any tables and written out, gives the same bytes
pub read_write : (b p a x y : List ℕ) (k : Counts)
    → ((i : ℕ) → get_or b i 0 < 256)
    → read_answer b p a x y ≡ Ok k
    → Written-back b (after (Ok k) b p a x y) k
unfolding write_answer
read_write b p a x y k small e =
    let t = taken b p a x y k e in
    let c = file_accepts b k t.verdict in
    let h = read_leaves b p a x y k e in
    let q = holding_passes (after (Ok k) b p a x y) (records_in b) k c h in
    record {
      passes = q;
      bytes = ap file_of (drawn_records (after (Ok k) b p a x y) (records_in b) c.range h) ∙ file_back b k small t.verdict;
      answer = λ out. ap (λ (v : Verdict). written_of v (length out)) q;
    }

-- ---- writing, then reading
pub record Read-back (t : Tables) (k : Counts) : Type 0 where
  pub verdict : verdict_of (file_of (drawn_in t)) ≡ Ok k
  pub records : records_in (file_of (drawn_in t)) ≡ drawn_in t
  -- the words in use are those that reading leaves, in any tables
  pub words : Holding t (records_in (file_of (drawn_in t)))
  -- and read into the same tables, everything is as it was
  pub answer : read_answer (file_of (drawn_in t)) t.plan t.areas t.xs t.ys ≡ Ok k
  pub same : after (Ok k) (file_of (drawn_in t)) t.plan t.areas t.xs t.ys ≡ t

-- a lent drawing that passes, written out and read
pub write_read : (t : Tables) (k : Counts) → drawing_verdict t ≡ Ok k → Read-back t k
unfolding read_answer holds
write_read t k e =
    let d = drawn t k e in
    let q = passes_holding t k e in
    let v : verdict_of (file_of (drawn_in t)) ≡ Ok k = file_again (drawn_in t) k q.0 in
    let r : records_in (file_of (drawn_in t)) ≡ drawn_in t = file_records (drawn_in t) k q.0 in
    let h : Holding t (records_in (file_of (drawn_in t))) = subst (λ (rs : List Record). Holding t rs) (sym r) q.1 in
    let l : holds (length t.plan) (length t.areas) (length t.xs) k ≡ true = room_for (length t.plan) (length t.areas)
    (length t.xs) k d.room.header (omega (arith, d.room.plan)) (omega (arith, d.room.areas)) d.room.corners in
    record {
      verdict = v;
      records = r;
      words = h;
      answer = rw (eq-eqb _ _ d.same, v, l);
      same = λ i.
          record {
            plan = has_same t.plan 0 _ h.plan i;
            areas = has_same t.areas 0 _ h.areas i;
            xs = has_same t.xs 0 _ h.xs i;
            ys = has_same t.ys 0 _ h.ys i;
          };
    }

-- ---- exactly
data Bytes : List ℕ → Type 0 where
  none : Bytes []
  one : {a : ℕ} {xs : List ℕ} → a < 256 → Bytes xs → Bytes (a ∷ xs)

bytes_join : (xs ys : List ℕ) → Bytes xs → Bytes ys → Bytes (xs ++ ys)
bytes_join [] ys p q = q
bytes_join (x ∷ xs) ys (one h p) q = one h (bytes_join xs ys p q)

bytes_at : (xs : List ℕ) → Bytes xs → (i : ℕ) → get_or xs i 0 < 256
bytes_at [] p i = omega arith
bytes_at (x ∷ xs) (one h p) zero = h
bytes_at (x ∷ xs) (one h p) (suc i) = bytes_at xs p i

rest : (x : ℕ) → x % 256 < 256
rest x = omega arith

small0 : 0 < 256
small0 = omega arith

small1 : 1 < 256
small1 = omega arith

area_bytes : (f : Fields) → Bytes (raw_bytes (raw_area f))
area_bytes f =
    one (small1)
    (one (rest f.role)
    (one (rest f.rule)
    (one (rest f.alpha)
    (one (rest f.red)
    (one (rest f.green)
    (one (rest f.blue)
    (one (small0)
    (one (rest f.material)
    (one (rest (f.material / 256)) (one (small0) (one (small0) (one (small0) (one (small0) (one (small0) (one (small0) none)))))))))))))))

corner_bytes : (k x y : ℕ) → k < 256 → Bytes (raw_bytes (raw_corner k x y))
corner_bytes k x y h =
    one (h)
    (one (small0)
    (one (small0)
    (one (small0)
    (one (rest (x))
    (one (rest (x / 256))
    (one (rest (x / 65536))
    (one (rest (x / 16777216))
    (one (rest (y))
    (one (rest (y / 256))
    (one (rest (y / 65536)) (one (rest (y / 16777216)) (one (small0) (one (small0) (one (small0) (one (small0) none)))))))))))))))

delimiter_bytes : (k : ℕ) → k < 256 → Bytes (raw_bytes (raw_delimiter k))
delimiter_bytes k h =
    one (h)
    (one (small0)
    (one (small0)
    (one (small0)
    (one (small0)
    (one (small0)
    (one (small0)
    (one (small0)
    (one (small0) (one (small0) (one (small0) (one (small0) (one (small0) (one (small0) (one (small0) (one (small0) none)))))))))))))))

record_bytes : (r : Record) → Bytes (bytes_of r)
record_bytes (Area f) = area_bytes f
record_bytes (First x y) = corner_bytes 2 x y (omega arith)
record_bytes (Next x y) = corner_bytes 3 x y (omega arith)
record_bytes Open = delimiter_bytes 4 (omega arith)
record_bytes Bar = delimiter_bytes 5 (omega arith)
record_bytes Close = delimiter_bytes 6 (omega arith)
record_bytes (Control x y) = corner_bytes 7 x y (omega arith)

file_bytes : (rs : List Record) → Bytes (file_of rs)
unfolding joined
file_bytes [] = none
file_bytes (r ∷ rs) = bytes_join (bytes_of r) (file_of rs) (record_bytes r) (file_bytes rs)

-- these tables are what reading some accepted file left
pub record Left (t : Tables) (k : Counts) : Type 0 where
  pub file : List ℕ
  pub bytes : (i : ℕ) → get_or file i 0 < 256
  -- what the tables held before
  pub before : Tables
  pub accepted : read_answer file before.plan before.areas before.xs before.ys ≡ Ok k
  pub is : after (Ok k) file before.plan before.areas before.xs before.ys ≡ t

pub passes_left : (t : Tables) (k : Counts) → drawing_verdict t ≡ Ok k → Left t k
passes_left t k e =
    let r = write_read t k e in
    record { file = file_of (drawn_in t); bytes = bytes_at (file_of (drawn_in t)) (file_bytes (drawn_in t)); before = t; accepted = r.answer; is = r.same }

pub left_passes : (t : Tables) (k : Counts) → Left t k → drawing_verdict t ≡ Ok k
left_passes t k l =
    subst (λ (x : Tables). drawing_verdict x ≡ Ok k) l.is
    (read_write l.file l.before.plan l.before.areas l.before.xs l.before.ys k l.bytes l.accepted).passes
