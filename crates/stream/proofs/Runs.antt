-- Lines, curves and shortcuts in a row: how many there are, and that a scan of the run is a scan of its entries.
use mathlib.Core.Path.{◌≡◌, refl, sym, ap, ap₂, ◌∙◌}
use mathlib.Core.Bool.{Bool, true, false, cond, ◌&&◌, ◌||◌}
use mathlib.Core.List.{List, [], ◌∷◌}
use Prim.Native.Nat.{ℕ, zero, suc, ◌+◌, ◌-◌, ◌≤◌, ◌<◌}
use native.Mathlib.Omega.{arith}
use Rattle.std.proofs.Common.{Option, None, Some, MatchOption}
use lib.Dec.{eqb, ltb, leb}
use borrow.Author.Tests.{eq-eqb, ne_eqb, ltb-true, ltb-false, leb-true, leb-false}
use Rattle.laws.proofs.Booleans.{clash, and_left, and_right}
use Rattle.stream.specs.declared.Words.{Words}
use Rattle.stream.specs.declared.Bounds.{Bounds}
use Rattle.stream.specs.declared.Run.{Run}
use Rattle.stream.specs.declared.Scan.{Scan}
use Rattle.stream.specs.Table.{words_at, words_from}
use Rattle.stream.specs.Grammar.{Env}
use Rattle.stream.specs.Entry.{is_segment, lines_in}
use Rattle.stream.specs.code.Machine.{mk, after_open_n, after_bar_n, after_close_n, with_area_n, area_fits_n, step_n, scan_n, segment_fits, run_to}
use Rattle.stream.specs.code.Machine.{run_length, run_fits, each_fits, other_n, with_line_n, after_passes_n, Apart, Ran, Onward}
use Rattle.stream.proofs.Counts.{alive_lines}
use Rattle.stream.proofs.Entries.{segment_ne}
use Rattle.stream.proofs.Table.{words_step, words_none}

-- ---- how many stand in front

module _ (t : List ℕ) (i e : ℕ) (w : Words) (q : w ≡ words_at t i) (l : i < e) where
  pub words_first : words_from t i (e - i) ≡ w ∷ words_from t (i + 1) (e - (i + 1))
  words_first = words_step t i e l ∙ ap (λ u. u ∷ words_from t (i + 1) (e - (i + 1))) (sym q)

  pub count_more : is_segment w.kind ≡ true → run_length (words_from t i (e - i)) ≡ suc (run_length (words_from t (i + 1) (e - (i + 1))))
  unfolding run_length
  count_more s = ap run_length words_first ∙ ap (λ b. cond b (suc (run_length (words_from t (i + 1) (e - (i + 1))))) 0) s

  pub count_stop : is_segment w.kind ≡ false → run_length (words_from t i (e - i)) ≡ 0
  unfolding run_length
  count_stop s = ap run_length words_first ∙ ap (λ b. cond b (suc (run_length (words_from t (i + 1) (e - (i + 1))))) 0) s

pub count_last : (t : List ℕ) (i e : ℕ) → e ≤ i → run_length (words_from t i (e - i)) ≡ 0
unfolding run_length
count_last t i e h = ap run_length (words_none t i e h)

pub few_segments : (t : List ℕ) (n i : ℕ) → run_length (words_from t i n) ≤ n
unfolding run_length words_from
few_segments t zero i = omega arith
few_segments t (suc n) i = go (is_segment (words_at t i).kind) (few_segments t n (i + 1))
  where
    go : (b : Bool) → run_length (words_from t (i + 1) n) ≤ n → cond b (suc (run_length (words_from t (i + 1) n))) 0 ≤ suc n
    go true h = omega arith
    go false h = omega arith

-- ---- whether they fit

module _ (xs ys : List ℕ) (b : Bounds) where
  module _ (t : List ℕ) (i e : ℕ) (w : Words) (q : w ≡ words_at t i) (l : i < e) where
    pub fits_more : is_segment w.kind ≡ true
        → each_fits xs ys b (words_from t i (e - i)) ≡ (segment_fits xs ys b w && each_fits xs ys b (words_from t (i + 1) (e - (i + 1))))
    unfolding each_fits
    fits_more s =
        ap (each_fits xs ys b) (words_first t i e w q l)
        ∙ ap (λ c. cond c (segment_fits xs ys b w && each_fits xs ys b (words_from t (i + 1) (e - (i + 1)))) true) s

    pub fits_stop : is_segment w.kind ≡ false → each_fits xs ys b (words_from t i (e - i)) ≡ true
    unfolding each_fits
    fits_stop s =
        ap (each_fits xs ys b) (words_first t i e w q l)
        ∙ ap (λ c. cond c (segment_fits xs ys b w && each_fits xs ys b (words_from t (i + 1) (e - (i + 1)))) true) s

  pub fits_last : (t : List ℕ) (i e : ℕ) → e ≤ i → each_fits xs ys b (words_from t i (e - i)) ≡ true
  unfolding each_fits
  fits_last t i e h = ap (each_fits xs ys b) (words_none t i e h)

  -- a run fits where each of it does, and with those before it makes no more than 2,048
  pub fits_whole : (t : List ℕ) (k i n : ℕ)
      → run_fits xs ys b n (words_from t i k)
      ≡ (each_fits xs ys b (words_from t i k) && (eqb (run_length (words_from t i k)) 0 || leb (n + run_length (words_from t i k)) 2048))
  unfolding run_fits each_fits run_length words_from
  fits_whole t zero i n = refl
  fits_whole t (suc k) i n = go (is_segment (words_at t i).kind) (fits_whole t k (i + 1) (n + 1))
    where
      ws : List Words
      ws = words_from t (i + 1) k

      f : Bool
      f = segment_fits xs ys b (words_at t i)

      both : (a c x y z : Bool) → (c && y) ≡ z → ((a && c) && (x && y)) ≡ ((a && x) && z)
      both true true x y z h = ap (λ v. x && v) h
      both true false true y z h = h
      both true false false y z h = refl
      both false c x y z h = refl

      limit : (m : ℕ) → (ltb n 2048 && (eqb m 0 || leb (n + 1 + m) 2048)) ≡ (eqb (suc m) 0 || leb (n + suc m) 2048)
      limit zero = same (ltb n 2048) (leb (n + 1) 2048) refl refl
        where
          same : (a c : Bool) → ltb n 2048 ≡ a → leb (n + 1) 2048 ≡ c → (a && true) ≡ c
          same true true p q = refl
          same true false p q = absurd (omega (arith, ltb-true n 2048 p, leb-false (n + 1) 2048 q))
          same false true p q = absurd (omega (arith, ltb-false n 2048 p, leb-true (n + 1) 2048 q))
          same false false p q = refl
      limit (suc m) =
          rw (ne_eqb (suc m) 0 (λ z. omega (arith, z)), ne_eqb (suc (suc m)) 0 (λ z. omega (arith, z)))
          (same (ltb n 2048) (leb (n + 1 + suc m) 2048) (leb (n + suc (suc m)) 2048) refl refl refl)
        where
          same : (a c d : Bool) → ltb n 2048 ≡ a → leb (n + 1 + suc m) 2048 ≡ c → leb (n + suc (suc m)) 2048 ≡ d → (a && c) ≡ d
          same true true true p q r = refl
          same true true false p q r = absurd (omega (arith, leb-true (n + 1 + suc m) 2048 q, leb-false (n + suc (suc m)) 2048 r))
          same true false true p q r = absurd (omega (arith, leb-false (n + 1 + suc m) 2048 q, leb-true (n + suc (suc m)) 2048 r))
          same true false false p q r = refl
          same false c true p q r = absurd (omega (arith, ltb-false n 2048 p, leb-true (n + suc (suc m)) 2048 r))
          same false c false p q r = refl

      go : (c : Bool)
          → run_fits xs ys b (n + 1) ws ≡ (each_fits xs ys b ws && (eqb (run_length ws) 0 || leb (n + 1 + run_length ws) 2048))
          → cond c ((f && ltb n 2048) && run_fits xs ys b (n + 1) ws) true
          ≡ (cond c (f && each_fits xs ys b ws) true && (eqb (cond c (suc (run_length ws)) 0) 0 || leb (n + cond c (suc (run_length ws)) 0) 2048))
      go true h =
          ap (λ v. (f && ltb n 2048) && v) h
          ∙ both f (ltb n 2048) (each_fits xs ys b ws) (eqb (run_length ws) 0 || leb (n + 1 + run_length ws) 2048)
          (eqb (suc (run_length ws)) 0 || leb (n + suc (run_length ws)) 2048) (limit (run_length ws))
      go false h = refl

  -- a run that fits makes no more than 2,048
  pub fits_few : (t : List ℕ) (k i n : ℕ) → run_fits xs ys b n (words_from t i k) ≡ true → n < 4294967296 → n + run_length (words_from t i k) < 4294967296
  unfolding run_fits run_length words_from
  fits_few t zero i n h l = omega arith
  fits_few t (suc k) i n h l = go (is_segment (words_at t i).kind) h (fits_few t k (i + 1) (n + 1))
    where
      f : Bool
      f = segment_fits xs ys b (words_at t i)

      r : Bool
      r = run_fits xs ys b (n + 1) (words_from t (i + 1) k)

      go : (c : Bool) → cond c ((f && ltb n 2048) && r) true ≡ true → (r ≡ true → n + 1 < 4294967296 → n + 1 + run_length (words_from t (i + 1) k) < 4294967296)
          → n + cond c (suc (run_length (words_from t (i + 1) k))) 0 < 4294967296
      go true e ih =
          let p = and_left (f && ltb n 2048) r e in
          let m = ltb-true n 2048 (and_right f (ltb n 2048) p) in
          let u = ih (and_right (f && ltb n 2048) r e) (omega arith) in
          omega (arith, u)
      go false e ih = omega arith

-- where a run ends: with those before it has at most 2,048, or it has none
module _ (v : Env) (t : List ℕ) (from e before i lines : ℕ) where
  abbrev whole : List Words
  whole = words_from t from (e - from)

  -- the test of the code
  abbrev few_enough : Bool
  few_enough = eqb i from || leb (before + (i - from)) 2048

  module _ (p : each_fits v.xs v.ys v.used (words_from t i (e - i)) ≡ each_fits v.xs v.ys v.used whole)
      (q : each_fits v.xs v.ys v.used (words_from t i (e - i)) ≡ true)
      (n : i + run_length (words_from t i (e - i)) ≡ from + run_length whole)
      (z : run_length (words_from t i (e - i)) ≡ 0) where
    is : i ≡ from + run_length whole
    is = omega (arith, n, z)

    none : eqb i from ≡ eqb (run_length whole) 0
    none = go (run_length whole) refl
      where
        go : (k : ℕ) → run_length whole ≡ k → eqb i from ≡ eqb k 0
        go zero y = eq-eqb i from (omega (arith, is, y))
        go (suc k) y = ne_eqb i from (λ j. omega (arith, is, y, j)) ∙ sym (ne_eqb (suc k) 0 (λ z. omega (arith, z)))

    fits_is : few_enough ≡ run_fits v.xs v.ys v.used before whole
    fits_is =
        let m : i - from ≡ run_length whole = omega (arith, is) in
        ap₂ ◌||◌ none (ap (λ k. leb (before + k) 2048) m)
        ∙ (ap (λ b. b && (eqb (run_length whole) 0 || leb (before + run_length whole) 2048)) (sym q ∙ p)
        ∙ sym (fits_whole v.xs v.ys v.used t (e - from) from before))

    pub run_ended : (i < e → is_segment (words_at t i).kind ≡ false)
        → from + lines ≤ i
        → lines + lines_in (words_from t i (e - i)) ≡ lines_in whole
        → MatchOption (run_to lines before from i) (run_fits v.xs v.ys v.used before whole ≡ false) (λ r. Ran v t from e before r)
    run_ended o f l = go few_enough refl
      where
        go : (b : Bool) → few_enough ≡ b
            → MatchOption (cond b (Some (record { segments = before + (i - from); lines = lines; next = i })) None)
            (run_fits v.xs v.ys v.used before whole ≡ false)
            (λ r. Ran v t from e before r)
        go true y = record {
          fits = sym fits_is ∙ y;
          segments = omega (arith, is);
          next = is;
          behind = o;
          few = f;
          lines = l;
        }
        go false y = sym fits_is ∙ y

-- a line, a curve or a shortcut that is out of range stops the run
pub run_broken : (v : Env) (t : List ℕ) (from e before i : ℕ) (w : Words)
    → w ≡ words_at t i
    → i < e
    → is_segment w.kind ≡ true
    → segment_fits v.xs v.ys v.used w ≡ false
    → each_fits v.xs v.ys v.used (words_from t i (e - i)) ≡ each_fits v.xs v.ys v.used (words_from t from (e - from))
    → run_fits v.xs v.ys v.used before (words_from t from (e - from)) ≡ false
run_broken v t from e before i w q l s f p =
    fits_whole v.xs v.ys v.used t (e - from) from before
    ∙ ap (λ b. b && (eqb (run_length (words_from t from (e - from))) 0 || leb (before + run_length (words_from t from (e - from))) 2048))
    (sym p
    ∙ (fits_more v.xs v.ys v.used t i e w q l s
    ∙ ap (λ b. b && each_fits v.xs v.ys v.used (words_from t (i + 1) (e - (i + 1)))) f))

-- ---- the scan of a run

both_fit : (f g : Bool) (x y : Option Scan) → cond f (cond g x y) y ≡ cond (f && g) x y
both_fit true g x y = refl
both_fit false g x y = refl

pub scan_off : (v : Env) (ws : List Words) → scan_n v None ws ≡ None
unfolding scan_n
scan_off v [] = refl
scan_off v (w ∷ ws) = refl

module _ (v : Env) (t : List ℕ) (n a : ℕ) where
  -- a line, a curve or a shortcut, with l before it
  segment_step : (l : ℕ) (w : Words)
      → is_segment w.kind ≡ true
      → step_n v (mk n true a l) w ≡ cond (segment_fits v.xs v.ys v.used w && ltb l 2048) (Some (mk n true a (l + 1))) None
  segment_step l w s =
      rw (
        segment_ne w.kind 1 s refl,
        segment_ne w.kind 2 s refl,
        segment_ne w.kind 3 s refl,
        segment_ne w.kind 4 s refl,
        s,
      )
      (both_fit (segment_fits v.xs v.ys v.used w) (ltb l 2048) (Some (mk n true a (l + 1))) None)

  pub run_step : (k i l : ℕ)
      → scan_n v (cond (run_fits v.xs v.ys v.used l (words_from t i k)) (Some (mk n true a (l + run_length (words_from t i k)))) None)
      (words_from t (i + run_length (words_from t i k)) (k - run_length (words_from t i k)))
      ≡ scan_n v (Some (mk n true a l)) (words_from t i k)
  unfolding run_fits run_length words_from scan_n
  run_step zero i l = let e : l + 0 ≡ l = omega arith in ap (λ m. Some (mk n true a m)) e
  run_step (suc k) i l = go (is_segment (words_at t i).kind) refl (run_step k (i + 1) (l + 1))
    where
      ws : List Words
      ws = words_from t (i + 1) k

      m : ℕ
      m = run_length ws

      r : Bool
      r = run_fits v.xs v.ys v.used (l + 1) ws

      fit : Bool
      fit = segment_fits v.xs v.ys v.used (words_at t i) && ltb l 2048

      more : (d : Bool) → scan_n v (cond r (Some (mk n true a (l + 1 + m))) None) (words_from t (i + 1 + m) (k - m)) ≡ scan_n v (Some (mk n true a (l + 1))) ws
          → scan_n v (cond (d && r) (Some (mk n true a (l + suc m))) None) (words_from t (i + suc m) (suc k - suc m))
          ≡ scan_n v (cond d (Some (mk n true a (l + 1))) None) ws
      more true ih =
          let x : l + suc m ≡ l + 1 + m = omega arith in
          let y : i + suc m ≡ i + 1 + m = omega arith in
          let z : suc k - suc m ≡ k - m = omega arith in
          ap (λ u. scan_n v (cond r (Some (mk n true a u)) None) (words_from t (i + suc m) (suc k - suc m))) x
          ∙ (ap₂ (λ p q. scan_n v (cond r (Some (mk n true a (l + 1 + m))) None) (words_from t p q)) y z ∙ ih)
      more false ih = scan_off v (words_from t (i + suc m) (suc k - suc m)) ∙ sym (scan_off v ws)

      go : (c : Bool)
          → is_segment (words_at t i).kind ≡ c
          → scan_n v (cond r (Some (mk n true a (l + 1 + m))) None) (words_from t (i + 1 + m) (k - m)) ≡ scan_n v (Some (mk n true a (l + 1))) ws
          → scan_n v (cond (cond c (fit && r) true) (Some (mk n true a (l + cond c (suc m) 0))) None)
          (words_from t (i + cond c (suc m) 0) (suc k - cond c (suc m) 0))
          ≡ scan_n v (Some (mk n true a l)) (words_at t i ∷ ws)
      go true e ih = more fit ih ∙ sym (ap (λ u. scan_n v u ws) (segment_step l (words_at t i) e))
      go false e ih =
          let x : l + 0 ≡ l = omega arith in
          let y : i + 0 ≡ i = omega arith in
          let z : suc k - 0 ≡ suc k = omega arith in
          ap (λ u. scan_n v (Some (mk n true a u)) (words_from t (i + 0) (suc k - 0))) x ∙ ap₂ (λ p q. scan_n v (Some (mk n true a l)) (words_from t p q)) y z

-- ---- one entry, with the run behind it

-- a line, a curve or a shortcut that nothing holds does not fit
other_step : (v : Env) (s : Scan) (w : Words) → (s.held ≡ true → is_segment w.kind ≡ false) → other_n v.areas v.used.areas s w ≡ step_n v s w
other_step v s w apart = ap front (last (is_segment w.kind) refl)
  where
    fit : Bool
    fit = segment_fits v.xs v.ys v.used w

    -- the cases of other kinds in front of x
    front : Option Scan → Option Scan
    front x =
        cond (eqb w.kind 1) (after_open_n s)
        (cond (eqb w.kind 2) (after_bar_n s)
        (cond (eqb w.kind 3) (after_close_n s)
        (cond (eqb w.kind 4) (with_area_n s (area_fits_n v.areas v.used.areas s.groups.number w)) x)))

    unheld : (f h : Bool) → s.held ≡ h → is_segment w.kind ≡ true → None ≡ with_line_n s f
    unheld f true e k = clash (sym (apart e) ∙ k)
    unheld true false e k = rw e
    unheld false false e k = refl

    last : (c : Bool) → is_segment w.kind ≡ c
        → cond (eqb w.kind 7) (after_passes_n s) None ≡ cond c (with_line_n s fit) (cond (eqb w.kind 7) (after_passes_n s) None)
    last true k = rw (segment_ne w.kind 7 k refl) (unheld fit s.held refl k)
    last false k = refl

module _ (v : Env) (t : List ℕ) (i e : ℕ) (s : Scan) (w : Words) (q : w ≡ words_at t i) (l : i < e) (alone : Apart t i e s) where
  abbrev rest : List Words
  rest = words_from t (i + 1) (e - (i + 1))

  stepped : other_n v.areas v.used.areas s w ≡ step_n v s w
  stepped = other_step v s w (λ held. ap (λ (u : Words). is_segment u.kind) q ∙ alone l held)

  scan_step : scan_n v (step_n v s w) rest ≡ scan_n v (Some s) (words_from t i (e - i))
  unfolding scan_n
  scan_step = sym (ap (scan_n v (Some s)) (words_first t i e w q l))

  -- what the scan of the whole gives, from what the entry gives
  from_step : (x : Option Scan) → other_n v.areas v.used.areas s w ≡ x → scan_n v x rest ≡ scan_n v (Some s) (words_from t i (e - i))
  from_step x g = ap (λ (u : Option Scan). scan_n v u rest) (sym g ∙ stepped) ∙ scan_step

  -- the entry does not fit
  pub none_onward : other_n v.areas v.used.areas s w ≡ None → scan_n v (Some s) (words_from t i (e - i)) ≡ None
  none_onward g = sym (from_step None g) ∙ scan_off v rest

  module _ (n : Scan) (g : other_n v.areas v.used.areas s w ≡ Some n) where
    -- nothing stands behind it
    pub one_onward : n.held ≡ false → Onward v t i e s (record { scan = n; lines = 0; next = i + 1 })
    one_onward free =
        record {
          later = omega arith;
          inside = omega (arith, l);
          apart = λ _ h. clash (sym free ∙ h);
          same = from_step (Some n) g;
          few = omega arith;
          lines = omega (arith, alive_lines v.areas v.used.areas s n w g t i e q l);
        }

    module _ (held : n.held ≡ true) where
      -- the scan of the run behind it
      run_same : scan_n v (cond (run_fits v.xs v.ys v.used n.segments rest) (Some (mk n.groups.number true n.areas (n.segments + run_length rest))) None)
          (words_from t (i + 1 + run_length rest) (e - (i + 1) - run_length rest))
          ≡ scan_n v (Some s) (words_from t i (e - i))
      run_same =
          run_step v t n.groups.number n.areas (e - (i + 1)) (i + 1) n.segments
          ∙ (ap (λ b. scan_n v (Some (mk n.groups.number b n.areas n.segments)) rest) (sym held) ∙ from_step (Some n) g)

      -- a run behind it that does not fit
      pub run_none : run_fits v.xs v.ys v.used n.segments rest ≡ false → scan_n v (Some s) (words_from t i (e - i)) ≡ None
      run_none f =
          sym run_same
          ∙ (ap
          (λ b.
          scan_n v (cond b (Some (mk n.groups.number true n.areas (n.segments + run_length rest))) None)
          (words_from t (i + 1 + run_length rest) (e - (i + 1) - run_length rest)))
          f
          ∙ scan_off v (words_from t (i + 1 + run_length rest) (e - (i + 1) - run_length rest)))

      -- one that does
      pub run_onward : (r : Run)
          → Ran v t (i + 1) e n.segments r
          → Onward v t i e s (record { scan = mk n.groups.number n.held n.areas r.segments; lines = r.lines; next = r.next })
      run_onward r ran =
          let z : e - (i + 1 + run_length rest) ≡ e - (i + 1) - run_length rest = omega arith in
          record {
            later = omega (arith, ran.next);
            inside = omega (arith, ran.next, few_segments t (e - (i + 1)) (i + 1), l);
            apart = λ p _. ran.behind p;
            same = ap (λ b. scan_n v (Some (mk n.groups.number b n.areas r.segments)) (words_from t r.next (e - r.next))) held
                ∙ (ap₂ (λ m j. scan_n v (Some (mk n.groups.number true n.areas m)) (words_from t j (e - j))) ran.segments ran.next
                ∙ (ap (λ j. scan_n v (Some (mk n.groups.number true n.areas (n.segments + run_length rest))) (words_from t (i + 1 + run_length rest) j)) z
                ∙ (ap
                (λ b.
                scan_n v (cond b (Some (mk n.groups.number true n.areas (n.segments + run_length rest))) None)
                (words_from t (i + 1 + run_length rest) (e - (i + 1) - run_length rest)))
                (sym ran.fits)
                ∙ run_same)));
            few = omega (arith, ran.few);
            lines = ran.lines ∙ alive_lines v.areas v.used.areas s n w g t i e q l;
          }
