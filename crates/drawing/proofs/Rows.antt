-- The loops over a drawing's tables, as plain laws.
use Rattle.std.specs.Result.{is_err}
use Rattle.std.specs.Prelude.{Ok, Err}
use Rattle.refusals.specs.declared.Refused.{Refused}
use Rattle.refusals.specs.Refusals.{at_place}
use Prim.Native.Nat.{ℕ, zero, suc, ◌+◌, ◌*◌, ◌-◌, ◌≤◌, ◌<◌}
use mathlib.Core.Path.{◌≡◌, refl, sym, ap, ap₂, ◌∙◌, subst}
use mathlib.Core.Bool.{Bool, true, false, cond}
use mathlib.Core.List.{List, [], ◌∷◌}
use native.Mathlib.Omega.{arith}
use native.Mathlib.Nat.{add-zero, le_refl}
use lib.ListN.{length}
use lib.Seq.{sets, length-sets}
use lib.Dec.{eqb, leb}
use borrow.Author.Tests.{leb-true, eqb-true}
use Rattle.laws.proofs.Booleans.{clash, and_left, and_right}
use Rattle.refusals.specs.declared.Refusal.TheVariants.{Unfit, Short, Limit, Argument, Broken, Curve}
use Rattle.records.specs.declared.Record.{Record}
use Rattle.records.specs.declared.Record.TheVariants.{Area, First, Next, Open, Bar, Close, Control}
use Rattle.records.specs.Record.{Decoded}
use Rattle.records.specs.Bytes.{bytes_of}
use Rattle.grammar.specs.declared.Counts.{Counts}
use Rattle.grammar.specs.declared.State.{State}
use Rattle.grammar.specs.code.Machine.{Step}
use Rattle.grammar.specs.code.Machine.{Scan}
use Rattle.grammar.specs.Grammar.{Verdict}
use Rattle.grammar.specs.Grammar.{checked}
use Rattle.grammar.proofs.Meaning.{checked_is}
use Rattle.grammar.specs.code.Machine.{breaks_n, fits_n, ends_short_n, in_limit_n, after_n, settled_n, advance_n, scan_n, start_n, ended_n}
use Rattle.grammar.specs.Lists.{good_records, area_one, corner_one}
use Rattle.grammar.proofs.Laws.{sound, stopped_stays}
use Rattle.drawing.specs.declared.Cursor.{Cursor}
use Rattle.read.specs.Words.{joined, on_good, file_of}
use Rattle.records.specs.Record.{is_good}
use Rattle.read.specs.Reading.{holds, all_good}
use Rattle.drawing.specs.Tables.{Tables, Ready, cursor, record_at, past_record, past_of, rebuilt, used_of, rebuilt_in, agreed, counts_judged, drawing_verdict}
use Rattle.read.proofs.Writes.{length_on, turn_table}
use Rattle.read.proofs.Files.{file_length, Holds, held, all_good_law}

pub re_step : (t : Tables) (u : Counts) (i e : ℕ) (c : Cursor)
    → i < e
    → rebuilt t u i c (e - i) ≡ record_at t u i c ∷ rebuilt t u (i + 1) (past_of c (record_at t u i c)) (e - (i + 1))
unfolding rebuilt
re_step t u i e c h =
    let q : e - i ≡ suc (e - (i + 1)) = omega arith in
    rw q

pub re_none : (t : Tables) (u : Counts) (i e : ℕ) (c : Cursor) → e ≤ i → rebuilt t u i c (e - i) ≡ []
unfolding rebuilt
re_none t u i e c h =
    let q : e - i ≡ 0 = omega arith in
    rw q

pub re_zero : (t : Tables) (u : Counts) (c : Cursor) (n : ℕ) → rebuilt t u 0 c (n - 0) ≡ rebuilt t u 0 c n
re_zero t u c n = ap (rebuilt t u 0 c) (omega arith)

pub re_length : (t : Tables) (u : Counts) (i : ℕ) (c : Cursor) (n : ℕ) → length (rebuilt t u i c n) ≡ n
unfolding rebuilt
re_length t u i c zero = refl
re_length t u i c (suc n) = ap suc (re_length t u (i + 1) (past_of c (record_at t u i c)) n)

area_one_law : (r : Record) → area_one r ≤ 1
area_one_law (Area f) = omega arith
area_one_law (First x y) = omega arith
area_one_law (Next x y) = omega arith
area_one_law Open = omega arith
area_one_law Bar = omega arith
area_one_law Close = omega arith
area_one_law (Control x y) = omega arith

corner_one_law : (r : Record) → corner_one r ≤ 1
corner_one_law (Area f) = omega arith
corner_one_law (First x y) = omega arith
corner_one_law (Next x y) = omega arith
corner_one_law Open = omega arith
corner_one_law Bar = omega arith
corner_one_law Close = omega arith
corner_one_law (Control x y) = omega arith

pub past_area : (i : ℕ) (c c' : Cursor) (d : Decoded) → c.area ≤ i → c' ≡ past_of c d → c'.area ≤ i + 1
past_area i c c' (Ok r) h e = rw e (omega (arith, area_one_law r))
past_area i c c' (Err x) h e = rw e (omega arith)

pub past_corner : (i : ℕ) (c c' : Cursor) (d : Decoded) → c.corner ≤ i → c' ≡ past_of c d → c'.corner ≤ i + 1
past_corner i c c' (Ok r) h e = rw e (omega (arith, corner_one_law r))
past_corner i c c' (Err x) h e = rw e (omega arith)

-- ---- the check: the cursor is told by the scan
abbrev cursor_n : Scan → Cursor
cursor_n (Ok s) = cursor s.areas s.corners
cursor_n (Err e) = cursor 0 0

after_cursor : (s : State) (r : Record) → cursor_n (Ok (after_n s r)) ≡ past_record (cursor_n (Ok s)) r
after_cursor s (Area f) = ap (cursor (s.areas + 1)) (sym (add-zero s.corners))
after_cursor s (First x y) = ap (λ (a : ℕ). cursor a (s.corners + 1)) (sym (add-zero s.areas))
after_cursor s (Next x y) = ap (λ (a : ℕ). cursor a (s.corners + 1)) (sym (add-zero s.areas))
after_cursor s Open = ap₂ cursor (sym (add-zero s.areas)) (sym (add-zero s.corners))
after_cursor s Bar = ap₂ cursor (sym (add-zero s.areas)) (sym (add-zero s.corners))
after_cursor s Close = ap₂ cursor (sym (add-zero s.areas)) (sym (add-zero s.corners))
after_cursor s (Control x y) = ap (λ (a : ℕ). cursor a (s.corners + 1)) (sym (add-zero s.areas))

scan_cursor : (s : Scan) (d : Decoded) (i : ℕ) → is_err (advance_n s d i) ≡ false → cursor_n (advance_n s d i) ≡ past_of (cursor_n s) d
scan_cursor (Err e) d i h = clash (sym h)
scan_cursor (Ok s) (Err x) i h = clash (sym h)
scan_cursor (Ok s) (Ok r) i h = go (breaks_n s r) (fits_n s r) (ends_short_n s r) (in_limit_n s r) h
  where
    step : (w a b d : Bool) → Step
    step w a b d = cond w (Err Curve) (cond a (cond b (Err Short) (cond d (Ok (after_n s r)) (Err Limit))) (Err Unfit))

    go : (w a b d : Bool) → is_err (settled_n (step w a b d) i) ≡ false → cursor_n (settled_n (step w a b d) i) ≡ past_record (cursor_n (Ok s)) r
    go true a b d e = clash (sym e)
    go false false b d e = clash (sym e)
    go false true true d e = clash (sym e)
    go false true false false e = clash (sym e)
    go false true false true e = after_cursor s r

walk : (t : Tables) (u : Counts) (i e : ℕ) (s s' whole : Scan) (d : Decoded) (c : Cursor)
    → i < e
    → d ≡ record_at t u i c
    → s' ≡ advance_n s d i
    → c ≡ cursor_n s
    → scan_n s i (rebuilt t u i (cursor_n s) (e - i)) ≡ whole
    → scan_n s' (i + 1) (rebuilt t u (i + 1) (past_of c d) (e - (i + 1))) ≡ whole
unfolding scan_n
walk t u i e s s' whole d c h p q k inv = rw (q, p, k) (rw (re_step t u i e (cursor_n s) h) at inv)

pub walk_turn : (t : Tables) (u : Counts) (i e : ℕ) (s s' : State) (whole : Scan) (d : Decoded) (c : Cursor)
    → i < e
    → c ≡ cursor s.areas s.corners
    → d ≡ record_at t u i c
    → Ok s' ≡ advance_n (Ok s) d i
    → scan_n (Ok s) i (rebuilt t u i (cursor s.areas s.corners) (e - i)) ≡ whole
    → scan_n (Ok s') (i + 1) (rebuilt t u (i + 1) (cursor s'.areas s'.corners) (e - (i + 1))) ≡ whole
walk_turn t u i e s s' whole d c h k p q inv =
    let n : cursor_n (Ok s') ≡ past_of c d =
    ap cursor_n q ∙ (scan_cursor (Ok s) d i (sym (ap is_err q)) ∙ ap (λ (x : Cursor). past_of x d) (sym k)) in
    ap (λ (x : Cursor). scan_n (Ok s') (i + 1) (rebuilt t u (i + 1) x (e - (i + 1)))) n ∙ walk t u i e (Ok s) (Ok s') whole d c h p q k inv

pub walk_stops : (t : Tables) (u : Counts) (i e : ℕ) (s : State) (whole : Scan) (d : Decoded) (c : Cursor) (f : Refused)
    → i < e
    → c ≡ cursor s.areas s.corners
    → d ≡ record_at t u i c
    → Err f ≡ advance_n (Ok s) d i
    → scan_n (Ok s) i (rebuilt t u i (cursor s.areas s.corners) (e - i)) ≡ whole
    → Err f ≡ whole
walk_stops t u i e s whole d c f h k p q inv =
    sym (stopped_stays (Err f) (i + 1) (rebuilt t u (i + 1) (past_of c d) (e - (i + 1))) refl) ∙ walk t u i e (Ok s) (Err f) whole d c h p q k inv

pub walk_done : (t : Tables) (u : Counts) (i e : ℕ) (s : State) (whole : Scan)
    → e ≤ i
    → scan_n (Ok s) i (rebuilt t u i (cursor s.areas s.corners) (e - i)) ≡ whole
    → Ok s ≡ whole
unfolding scan_n
walk_done t u i e s whole h inv = rw (re_none t u i e (cursor s.areas s.corners) h) at inv

pub walk_ends : (t : Tables) (u : Counts) (n : ℕ) (s : Scan)
    → s ≡ scan_n start_n 0 (rebuilt t u 0 (cursor 0 0) n)
    → ended_n s n ≡ checked (rebuilt t u 0 (cursor 0 0) n)
walk_ends t u n s h = ap (λ (v : Scan). ended_n v n) h ∙ checked_is (rebuilt t u 0 (cursor 0 0) n) n (sym (re_length t u 0 (cursor 0 0) n))

-- ---- the bytes: the buffer is b and was b₀; the records from i to n are to come, and their bytes go to `at`
pub record Copying (t : Tables) (u : Counts) (n : ℕ) (b₀ b : List ℕ) (i at : ℕ) (c : Cursor) : Type 0 where
  pub size : length b ≡ length b₀
  pub room : at + length (joined bytes_of (good_records (rebuilt t u i c (n - i)))) ≤ length b
  pub good : all_good (rebuilt t u i c (n - i)) ≡ true
  pub rest : sets b at (joined bytes_of (good_records (rebuilt t u i c (n - i)))) ≡ sets b₀ 0 (joined bytes_of (good_records (rebuilt t u 0 (cursor 0 0) n)))

goods_length : (ds : List Decoded) → length (good_records ds) ≤ length ds
goods_length [] = le_refl _
goods_length (Ok r ∷ ds) = omega (arith, goods_length ds)
goods_length (Err x ∷ ds) = omega (arith, goods_length ds)

pub copy_begin : (t : Tables) (u : Counts) (n : ℕ) (b : List ℕ)
    → n * 16 ≤ length b
    → all_good (rebuilt t u 0 (cursor 0 0) n) ≡ true
    → Copying t u n b b 0 0 (cursor 0 0)
copy_begin t u n b h g =
    let ds : List Decoded = rebuilt t u 0 (cursor 0 0) n in
    record {
      size = refl;
      room = rw (re_zero t u (cursor 0 0) n) (omega (arith, file_length (good_records ds), goods_length ds, re_length t u 0 (cursor 0 0) n));
      good = rw (re_zero t u (cursor 0 0) n) g;
      rest = rw (re_zero t u (cursor 0 0) n);
    }

abbrev coming : Tables → Counts → ℕ → ℕ → Cursor → Decoded → List Decoded
coming t u n i c d = rebuilt t u (i + 1) (past_of c d) (n - (i + 1))

now_room : (t : Tables) (u : Counts) (n : ℕ) (b₀ b : List ℕ) (i at : ℕ) (c : Cursor) (d : Decoded)
    → i < n
    → d ≡ record_at t u i c
    → Copying t u n b₀ b i at c
    → at + length (joined bytes_of (good_records (d ∷ coming t u n i c d))) ≤ length b
now_room t u n b₀ b i at c d h p k =
    subst (λ (x : Decoded). at + length (joined bytes_of (good_records (x ∷ coming t u n i c x))) ≤ length b) (sym p)
    (rw (re_step t u i n c h) at k.room)

now_rest : (t : Tables) (u : Counts) (n : ℕ) (b₀ b : List ℕ) (i at : ℕ) (c : Cursor) (d : Decoded) → i < n → d ≡ record_at t u i c → Copying t u n b₀ b i at c
    → sets b at (joined bytes_of (good_records (d ∷ coming t u n i c d))) ≡ sets b₀ 0 (joined bytes_of (good_records (rebuilt t u 0 (cursor 0 0) n)))
now_rest t u n b₀ b i at c d h p k =
    subst
    (λ (x : Decoded).
    sets b at (joined bytes_of (good_records (x ∷ coming t u n i c x))) ≡ sets b₀ 0 (joined bytes_of (good_records (rebuilt t u 0 (cursor 0 0) n))))
    (sym p) (rw (re_step t u i n c h) at k.rest)

now_good : (t : Tables) (u : Counts) (n : ℕ) (b₀ b : List ℕ) (i at : ℕ) (c : Cursor) (d : Decoded) → i < n → d ≡ record_at t u i c → Copying t u n b₀ b i at c
    → all_good (d ∷ coming t u n i c d) ≡ true
now_good t u n b₀ b i at c d h p k =
    subst (λ (x : Decoded). all_good (x ∷ coming t u n i c x) ≡ true) (sym p) (rw (re_step t u i n c h) at k.good)

pub copy_good : (t : Tables) (u : Counts) (n : ℕ) (b₀ b : List ℕ) (i at : ℕ) (c : Cursor)
    → i < n
    → Copying t u n b₀ b i at c
    → is_good (record_at t u i c) ≡ true
copy_good t u n b₀ b i at c h k = and_left (is_good (record_at t u i c)) _ (now_good t u n b₀ b i at c (record_at t u i c) h refl k)

pub copy_room : (t : Tables) (u : Counts) (n : ℕ) (b₀ b : List ℕ) (i at : ℕ) (c : Cursor) (d : Decoded)
    → i < n
    → d ≡ record_at t u i c
    → Copying t u n b₀ b i at c
    → at + length (on_good bytes_of d) ≤ length b
copy_room t u n b₀ b i at c d h p k = omega (arith, now_room t u n b₀ b i at c d h p k, length_on bytes_of d (coming t u n i c d))

pub copy_turn : (t : Tables) (u : Counts) (n : ℕ) (b₀ b b' : List ℕ) (i at at' : ℕ) (c c' : Cursor) (d : Decoded)
    → i < n
    → d ≡ record_at t u i c
    → at' ≡ at + length (on_good bytes_of d)
    → b' ≡ sets b at (on_good bytes_of d)
    → c' ≡ past_of c d
    → Copying t u n b₀ b i at c
    → Copying t u n b₀ b' (i + 1) at' c'
copy_turn t u n b₀ b b' i at at' c c' d h p q r s k =
    let ds : List Decoded = coming t u n i c d in
    let l : length b' ≡ length b = ap length r ∙ length-sets b at (on_good bytes_of d) in
    rw s
    (record {
      size = l ∙ k.size;
      room = omega (arith, now_room t u n b₀ b i at c d h p k, length_on bytes_of d ds);
      good = and_right (is_good d) (all_good ds) (now_good t u n b₀ b i at c d h p k);
      rest = turn_table bytes_of b b' at at' d ds r q ∙ now_rest t u n b₀ b i at c d h p k;
    })

pub copy_done : (t : Tables) (u : Counts) (n : ℕ) (b₀ b : List ℕ) (i at : ℕ) (c : Cursor)
    → n ≤ i
    → Copying t u n b₀ b i at c
    → b ≡ sets b₀ 0 (joined bytes_of (good_records (rebuilt t u 0 (cursor 0 0) n)))
unfolding joined
copy_done t u n b₀ b i at c h k = rw (re_none t u i n c h) at k.rest

-- ---- one record's bytes
pub bytes_table : (t t' : List ℕ) (at : ℕ) (r : Record) (w : List ℕ) → w ≡ bytes_of r → t' ≡ sets t at w → t' ≡ sets t at (bytes_of r)
bytes_table t t' at r w e h = h ∙ ap (sets t at) e

-- ---- what a drawing that passes has
pub record Drawn (t : Tables) (k : Counts) : Type 0 where
  pub used : k ≡ used_of t.plan
  pub same : length t.xs ≡ length t.ys
  pub below : k.records ≤ 4096
  pub room : Holds (length t.plan) (length t.areas) (length t.xs) k
  pub fold : checked (rebuilt_in t) ≡ Ok k

agreed_is : (v : Verdict) (u k : Counts) (ds : List Decoded)
    → checked ds ≡ v
    → length ds ≡ u.records
    → agreed v u ≡ Ok k
    → (k ≡ u) × (checked ds ≡ Ok k)
agreed_is (Err x) u k ds e l h = absurd cc
agreed_is (Ok j) u k ds e l h = go (eqb j.areas u.areas) (eqb j.corners u.corners) refl refl h
  where
    same : j.areas ≡ u.areas → j.corners ≡ u.corners → j ≡ u
    same p q = λ i. record { records = ((sound ds j e).records ∙ l) i; areas = p i; corners = q i }

    is : ◌≡◌ {A = Verdict} (Ok j) (Ok k) → j ≡ k
    is x = cc

    go : (a b : Bool)
        → eqb j.areas u.areas ≡ a
        → eqb j.corners u.corners ≡ b
        → cond a (cond b (Ok j) (Err (at_place Broken 0))) (Err (at_place Broken 0)) ≡ Ok k
        → (k ≡ u) × (checked ds ≡ Ok k)
    go false b p q x = absurd cc
    go true false p q x = absurd cc
    go true true p q x = (sym (is x) ∙ same (eqb-true _ _ p) (eqb-true _ _ q), e ∙ x)

counts_drawn : (t : Tables) (u k : Counts)
    → counts_judged t u ≡ Ok k
    → (k ≡ u)
    × (u.records ≤ 4096)
    × Holds (length t.plan) (length t.areas) (length t.xs) u
    × (checked (rebuilt t u 0 (cursor 0 0) u.records) ≡ Ok k)
unfolding counts_judged
counts_drawn t u k h₀ = go (leb u.records 4096) (holds (length t.plan) (length t.areas) (length t.xs) u) refl refl h₀
  where
    ds : List Decoded
    ds = rebuilt t u 0 (cursor 0 0) u.records

    go : (a b : Bool)
        → leb u.records 4096 ≡ a
        → holds (length t.plan) (length t.areas) (length t.xs) u ≡ b
        → cond a (cond b (agreed (checked ds) u) (Err (at_place Broken 0))) (Err (at_place Broken 0)) ≡ Ok k
        → (k ≡ u) × (u.records ≤ 4096) × Holds (length t.plan) (length t.areas) (length t.xs) u × (checked ds ≡ Ok k)
    go false b p q x = absurd cc
    go true false p q x = absurd cc
    go true true p q x =
        let g = agreed_is (checked ds) u k ds refl (re_length t u 0 (cursor 0 0) u.records) x in
        (g.0, leb-true _ _ p, held _ _ _ u q, g.1)

pub drawn : (t : Tables) (k : Counts) → drawing_verdict t ≡ Ok k → Drawn t k
unfolding drawing_verdict
drawn t k h₀ = go (eqb (length t.xs) (length t.ys)) (leb 3 (length t.plan)) refl refl h₀
  where
    u : Counts
    u = used_of t.plan

    go : (a b : Bool)
        → eqb (length t.xs) (length t.ys) ≡ a
        → leb 3 (length t.plan) ≡ b
        → cond a (cond b (counts_judged t (used_of t.plan)) (Err (at_place Broken 0))) (Err (at_place Argument 0)) ≡ Ok k
        → Drawn t k
    go false b p q x = absurd cc
    go true false p q x = absurd cc
    go true true p q x =
        let g = counts_drawn t (used_of t.plan) k x in
        record { used = g.0; same = eqb-true _ _ p; below = rw g.0 g.1; room = rw g.0 g.2; fold = g.3 }

pub ready : (t : Tables) (k : Counts) → Drawn t k → Ready t.plan t.areas t.xs t.ys k
ready t k d = record { records = d.room.plan; areas = d.room.areas; xs = d.room.corners; ys = omega (arith, d.room.corners, d.same); few = d.below }

pub holds_ready : (p a x y : List ℕ) (u : Counts) → u.records ≤ 4096 → holds (length p) (length a) (length x) u ≡ true → length x ≡ length y → Ready p a x y u
holds_ready p a x y u f h e =
    let g = held (length p) (length a) (length x) u h in
    record { records = g.plan; areas = g.areas; xs = g.corners; ys = omega (arith, g.corners); few = f }

-- each of its rows is good
pub drawn_good : (t : Tables) (k : Counts) → Drawn t k → all_good (rebuilt t k 0 (cursor 0 0) k.records) ≡ true
drawn_good t k d =
    ap (λ (u : Counts). all_good (rebuilt t u 0 (cursor 0 0) u.records)) d.used
    ∙ all_good_law (rebuilt_in t) (sound (rebuilt_in t) k d.fold).good

pub drawn_left : (t : Tables) (k : Counts)
    → drawing_verdict t ≡ Ok k
    → (o o' : List ℕ)
    → o' ≡ sets o 0 (file_of (good_records (rebuilt t k 0 (cursor 0 0) k.records)))
    → o' ≡ sets o 0 (file_of (good_records (rebuilt_in t)))
drawn_left t k e o o' h = h ∙ ap (λ (u : Counts). sets o 0 (file_of (good_records (rebuilt t u 0 (cursor 0 0) u.records)))) (drawn t k e).used
