-- How many lines, curves and shortcuts a stream that passes holds; and when it is uniform, both ways.
use mathlib.Core.Path.{◌≡◌, refl, sym, ap, ap₂, ◌∙◌}
use mathlib.Core.Bool.{Bool, true, false, cond}
use mathlib.Core.List.{List, [], ◌∷◌}
use Prim.Native.Nat.{ℕ, ◌+◌}
use native.Mathlib.Omega.{arith}
use Rattle.std.proofs.Common.{None, Some}
use lib.Dec.{eqb}
use borrow.Author.Tests.{ne_eqb}
use Rattle.laws.proofs.Booleans.{clash}
use Rattle.stream.specs.declared.Words.{Words}
use Rattle.stream.specs.declared.Scan.{Scan}
use Rattle.stream.specs.declared.Checked.{Checked}
use Rattle.stream.specs.Entry.{Entry, opens, bar, closes, area, line, curve, shortcut, passes, bad, decode}
use Rattle.stream.specs.Entry.{is_curve, is_line, is_segment, lines_in, segments_in, HoldsSegment, here, behind, is_uniform}
use Rattle.stream.specs.Table.{words_from}
use Rattle.stream.specs.Grammar.{Env, Place, place, Course, at, off, in_range, fits, in_limit, after, next, course, begin, accepts, check_stream}
use Rattle.stream.specs.code.Machine.{start_n, scan_n}
use Rattle.stream.specs.code.Checks.{fit, unfit, told, told_at, checked}
use Rattle.stream.proofs.Counts.{one_more_law}
use Rattle.stream.proofs.Entries.{decode_is, decode_segment, by_tests}
use Rattle.stream.proofs.Meaning.{held_at, enc, ends, course_is, accepts_is}

-- ---- an entry is a line, a curve or a shortcut, or it is none
abbrev size_of : Entry → ℕ
size_of opens = 0
size_of bar = 0
size_of closes = 0
size_of (area n q) = 0
size_of (line a b) = 1
size_of (curve a) = 1
size_of (shortcut s a b) = 1
size_of passes = 0
size_of bad = 0

size_decoded : (w : Words) → size_of (decode w) ≡ cond (is_segment w.kind) 1 0
size_decoded w = go (is_segment w.kind) refl
  where
    segment : (l c : Bool) → size_of (cond l (cond c (curve w.p) (line w.p w.q)) (shortcut w.p w.q w.r)) ≡ 1
    segment true true = refl
    segment true false = refl
    segment false c = refl

    other : (o b c n p : Bool) → size_of (by_tests o b c n false p w) ≡ 0
    other true b c n p = refl
    other false true c n p = refl
    other false false true n p = refl
    other false false false true p = refl
    other false false false false true = refl
    other false false false false false = refl

    go : (s : Bool) → is_segment w.kind ≡ s → size_of (decode w) ≡ cond s 1 0
    go true e = ap size_of (decode_segment w e) ∙ segment (is_line w.kind) (is_curve w.kind)
    go false e =
        ap size_of
        (decode_is w
        ∙ ap (λ s. by_tests (eqb w.kind 1) (eqb w.kind 2) (eqb w.kind 3) (eqb w.kind 4) s (eqb w.kind 7) w) e)
        ∙ other (eqb w.kind 1) (eqb w.kind 2) (eqb w.kind 3) (eqb w.kind 4) (eqb w.kind 7)

-- ---- the count of a stream that passes
after_size : (p : Place) (e : Entry) → (after p e).segments ≡ p.segments + size_of e
after_size p opens = omega arith
after_size p bar = omega arith
after_size p closes = omega arith
after_size p (area n q) = omega arith
after_size p (line a b) = omega arith
after_size p (curve a) = omega arith
after_size p (shortcut s a b) = omega arith
after_size p passes = omega arith
after_size p bad = omega arith

next_is : (a b c : Bool) (x q : Place) → cond a (cond b (cond c (at x) off) off) off ≡ at q → x ≡ q
next_is true true true x q h = cc
next_is true true false x q h = cc
next_is true false c x q h = cc
next_is false b c x q h = cc

course_off : (v : Env) (ws : List Words) → course v off ws ≡ off
unfolding course
course_off v [] = refl
course_off v (w ∷ ws) = course_off v ws

course_size : (v : Env) (p q : Place) (ws : List Words) → course v (at p) ws ≡ at q → q.segments ≡ p.segments + segments_in ws
unfolding course
course_size v p q [] h = let e : p ≡ q = cc in omega (arith, ap (λ (x : Place). x.segments) e)
course_size v p q (w ∷ ws) h = go (next v p (decode w)) refl (λ x. course_size v x q ws) h
  where
    go : (c : Course)
        → next v p (decode w) ≡ c
        → ((x : Place) → course v (at x) ws ≡ at q → q.segments ≡ x.segments + segments_in ws)
        → course v c ws ≡ at q
        → q.segments ≡ p.segments + cond (is_segment w.kind) (1 + segments_in ws) (segments_in ws)
    go (at x) e ih k =
        let y = ap (λ (z : Place). z.segments)
        (next_is (in_range v (decode w)) (fits v p (decode w)) (in_limit p (decode w)) (after p (decode w)) x e) in
        omega (arith, ih x k, y, after_size p (decode w), size_decoded w, one_more_law (is_segment w.kind) (segments_in ws))
    go off e ih k = let z : off ≡ at q = sym (course_off v ws) ∙ k in cc

scan_size : (v : Env) (ws : List Words) (s : Scan) → Some s ≡ scan_n v (Some start_n) ws → s.segments ≡ segments_in ws
scan_size v ws s h = go (course v begin ws) refl
  where
    go : (c : Course) → course v begin ws ≡ c → s.segments ≡ segments_in ws
    go (at q) e =
        let k : Some s ≡ enc (at q) = h ∙ (course_is v begin ws ∙ ap enc e) in
        let m : s ≡ held_at q = cc in
        omega (arith, ap (λ (x : Scan). x.segments) m, course_size v (place [] false 0 0) q ws e)
    go off e =
        let k : Some s ≡ None = h ∙ (course_is v begin ws ∙ ap enc e) in
        cc

-- what the code says at the end of a stream is what the check says of its words
pub told_is : (v : Env) (ws : List Words) (s : Scan) (l : ℕ)
    → Some s ≡ scan_n v (Some start_n) ws
    → l ≡ lines_in ws
    → told_at s l ≡ told (accepts v ws) ws
told_is v ws s l e h =
    ap₂ (λ m n. cond (eqb s.groups.number 1) (fit m n) unfit) h (scan_size v ws s e)
    ∙ ap (λ b. told b ws) (ap ends e ∙ accepts_is v ws)

-- a stream that stops the code does not pass
pub told_none : (v : Env) (ws : List Words) → scan_n v (Some start_n) ws ≡ None → None ≡ told (accepts v ws) ws
told_none v ws e = ap (λ b. told b ws) (sym (ap ends e) ∙ accepts_is v ws)

-- ---- the check, part by part
module _ (t : List ℕ) (first count used : ℕ) (v : Env) where
  abbrev accepted : Bool
  accepted = check_stream t first count used v

  -- it says nothing of a stream that does not pass
  pub unfit_is : None ≡ checked t first count used v → accepted ≡ false
  unfit_is e = go accepted refl
    where
      go : (b : Bool) → accepted ≡ b → b ≡ false
      go true q = let z : None ≡ fit (lines_in (words_from t first count)) (segments_in (words_from t first count))
          = e ∙ ap (λ b. told b (words_from t first count)) q in cc
      go false q = refl

  module _ (r : Checked) (e : Some r ≡ checked t first count used v) where
    parts : (b : Bool) → accepted ≡ b → (b ≡ true)
        × ((r.lines ≡ lines_in (words_from t first count)) × (r.segments ≡ segments_in (words_from t first count)))
    parts true q =
        let k : Some r ≡ fit (lines_in (words_from t first count)) (segments_in (words_from t first count))
        = e ∙ ap (λ b. told b (words_from t first count)) q in
        let m : r ≡ record { lines = lines_in (words_from t first count); segments = segments_in (words_from t first count) } = cc in
        (refl, (ap (λ (x : Checked). x.lines) m, ap (λ (x : Checked). x.segments) m))
    parts false q = let k : Some r ≡ None = e ∙ ap (λ b. told b (words_from t first count)) q in cc

    pub fits_is : accepted ≡ true
    fits_is = (parts accepted refl).0

    pub lines_is : r.lines ≡ lines_in (words_from t first count)
    lines_is = (parts accepted refl).1.0

    pub uniform_is : eqb r.segments 0 ≡ is_uniform (words_from t first count)
    uniform_is = ap (λ n. eqb n 0) (parts accepted refl).1.1

-- ---- uniform, both ways

-- "no" comes with a line, a curve or a shortcut
pub no_holds : (ws : List Words) → is_uniform ws ≡ false → HoldsSegment ws
no_holds [] h = clash (sym h)
no_holds (w ∷ ws) h = go (is_segment w.kind) refl (no_holds ws) h
  where
    go : (b : Bool)
        → is_segment w.kind ≡ b
        → (is_uniform ws ≡ false → HoldsSegment ws)
        → eqb (cond b (1 + segments_in ws) (segments_in ws)) 0 ≡ false
        → HoldsSegment (w ∷ ws)
    go true e ih q = here w ws e
    go false e ih q = behind w ws (ih q)

-- a line, a curve or a shortcut makes it "no"
pub holds_no : {ws : List Words} → HoldsSegment ws → is_uniform ws ≡ false
holds_no (here w ws e) = rw e (ne_eqb (1 + segments_in ws) 0 (λ z. omega (arith, z)))
holds_no (behind w ws h) = go (is_segment w.kind) (holds_no h)
  where
    go : (b : Bool) → eqb (segments_in ws) 0 ≡ false → eqb (cond b (1 + segments_in ws) (segments_in ws)) 0 ≡ false
    go true q = ne_eqb (1 + segments_in ws) 0 (λ z. omega (arith, z))
    go false q = q
