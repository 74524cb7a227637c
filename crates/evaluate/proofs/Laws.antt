-- Signs and start numbers as words; lines, curves and shortcuts as elements, and what their ranges say.
use mathlib.Core.Path.{◌≡◌, refl, sym, ap, ◌∙◌}
use mathlib.Core.Bool.{Bool, true, false, cond, ◌&&◌, ◌||◌, true≢false}
use mathlib.Core.List.{List, ◌∷◌}
use Prim.Native.Nat.{ℕ, ◌+◌, ◌*◌, ◌≤◌, ◌<◌}
use native.Mathlib.Omega.{arith}
use lib.Dec.{eqb, ltb, leb}
use lib.ListN.{length, get_or}
use lib.IntN.{ℤ, pos, nat_abs}
use mir.Syntax.{w32, w64}
use mir.Val.{to_z, of_z}
use mir.ValLaws.{to_z_pos}
use borrow.Author.Tests.{ne_eqb, eq-eqb, eqb-true, lt-leb, leb-true, leb-false, ltb-true}
use Rattle.laws.proofs.Differences.{mag_abs}
use Rattle.laws.proofs.Signed.{read_back}
use Rattle.laws.proofs.Booleans.{clash}
use Rattle.curves.specs.Curves.{curve_fits}
use Rattle.geometry.specs.code.Reach.{LineBelow}
use Rattle.geometry.specs.Windings.{Line, line, curve}
use Rattle.cells.specs.Segments.{drawn, shortcut}
use Rattle.cells.specs.Elements.{Element, segment}
use Rattle.records.specs.Record.{corner_range, ranged, is_good}
use Rattle.records.specs.declared.Record.TheVariants.{Area}
use Rattle.std.specs.Prelude.{Err}
use Rattle.refusals.specs.declared.Refusal.TheVariants.{Field}
use Rattle.drawing.specs.Tables.{fields_at, area_row}
use Rattle.stream.specs.declared.Words.{Words}
use Rattle.stream.specs.Grammar.{Env, corner_met, in_range}
use Rattle.stream.specs.Entry.{decode, is_curve, is_line, is_segment, start_range, sign_range}
use Rattle.stream.specs.Entry as Entry
use Rattle.stream.proofs.Entries.{segment_entry, decode_segment, segment_range_law}
use Rattle.stream.proofs.Signed.{upper}
use Rattle.evaluate.specs.Reading.{element_for}
use Rattle.evaluate.specs.code.Numbers.{line_of, line_met, segment_of, segment_range}

-- a sign that is not 1 is −1
pub other_sign : (p : ℕ) → sign_range p ≡ true → (p ≡ 1 → ⊥) → p ≡ 4294967295
other_sign p h g = eqb-true p 4294967295 (sym (ap (λ b. b || eqb p 4294967295) (ne_eqb p 1 g)) ∙ h)

-- ---- start numbers as words

-- a start number above 2,048 is one below 0
start_other : (q : ℕ) → start_range q ≡ true → 2048 < q → 4294965248 ≤ q
start_other q h g = leb-true 4294965248 q (sym (ap (λ b. b || leb 4294965248 q) (lt-leb q 2048 g)) ∙ h)

-- ---- sums that are small

pub small_back : (s : ℤ) → nat_abs s ≤ 8192 → to_z w64 (of_z w64 s) ≡ s
small_back s h = read_back s (mag_abs s (omega arith))

-- ---- corners in range

pub both : (a b : Bool) → (a && b) ≡ true → (a ≡ true) × (b ≡ true)
both true b h = (refl, h)
both false b h = clash h

met_in : (xs ys : List ℕ) (used n : ℕ) → corner_met xs ys used n ≡ true → (n < used) × (get_or xs n 0 ≤ 65536) × (get_or ys n 0 ≤ 65536)
met_in xs ys used n h = go (ltb n used) refl h
  where
    go : (b : Bool)
        → ltb n used ≡ b
        → cond b (corner_range (get_or xs n 0) (get_or ys n 0)) false ≡ true
        → (n < used) × (get_or xs n 0 ≤ 65536) × (get_or ys n 0 ≤ 65536)
    go true e t =
        let p = both (leb (get_or xs n 0) 65536) (leb (get_or ys n 0) 65536) t in
        (ltb-true n used e, leb-true (get_or xs n 0) 65536 p.0, leb-true (get_or ys n 0) 65536 p.1)
    go false e t = clash t

-- a line or a curve
module _ (xs ys : List ℕ) (used : ℕ) where
  -- the three corners of a curve, and that a drawing may have it
  curve_parts : (a : ℕ) → line_met xs ys used (curve a) ≡ true
      → (corner_met xs ys used a ≡ true)
      × (corner_met xs ys used (a + 2) ≡ true)
      × (curve_fits (get_or xs a 0) (get_or ys a 0) (get_or xs (a + 1) 0) (get_or ys (a + 1) 0) (get_or xs (a + 2) 0) (get_or ys (a + 2) 0) ≡ true)
  curve_parts a h =
      let p = both (corner_met xs ys used a && (corner_met xs ys used (a + 1) && corner_met xs ys used (a + 2))) _ h in
      let q = both (corner_met xs ys used a) (corner_met xs ys used (a + 1) && corner_met xs ys used (a + 2)) p.0 in
      (q.0, (both (corner_met xs ys used (a + 1)) (corner_met xs ys used (a + 2)) q.1).1, p.1)

  pub line_used : (l : Line) → line_met xs ys used l ≡ true → LineBelow used l
  line_used (line a b) h =
      let p = both (corner_met xs ys used a) (corner_met xs ys used b) h in
      ((met_in xs ys used a p.0).0, (met_in xs ys used b p.1).0)
  line_used (curve a) h = (met_in xs ys used (a + 2) (curve_parts a h).1).0

below_more : (m n : ℕ) (l : Line) → LineBelow m l → m ≤ n → LineBelow n l
below_more m n (line a b) h k = (omega arith, omega arith)
below_more m n (curve a) h k = omega arith

-- the line or the curve that an entry names
module _ (xs ys : List ℕ) (used : ℕ) (w : Words) (h : segment_range xs ys used w ≡ true) (l : is_line w.kind ≡ true) where
  in_line : line_met xs ys used (line_of w) ≡ true
  in_line = rw l at h

  pub line_below : (used ≤ length xs) × (used ≤ length ys) → LineBelow (length xs) (line_of w) × LineBelow (length ys) (line_of w)
  line_below k =
      let u = line_used xs ys used (line_of w) in_line in
      (below_more used (length xs) (line_of w) u k.0, below_more used (length ys) (line_of w) u k.1)

-- ---- an entry that is a line, a curve or a shortcut

-- its element
pub entry_element : (w : Words) (ws : List Element) → element_for (segment_entry w) ws ≡ segment (segment_of w) ∷ ws
entry_element w ws = go (is_line w.kind) (is_curve w.kind)
  where
    go : (l c : Bool)
        → element_for (cond l (cond c (Entry.curve w.p) (Entry.line w.p w.q)) (Entry.shortcut w.p w.q w.r)) ws
        ≡ segment (cond l (drawn (cond c (curve w.p) (line w.p w.q))) (shortcut (to_z w32 w.p) w.q w.r)) ∷ ws
    go true true = refl
    go true false = refl
    go false c = refl

pub element_segment : (w : Words) (ws : List Element) → is_segment w.kind ≡ true → element_for (decode w) ws ≡ segment (segment_of w) ∷ ws
element_segment w ws s = ap (λ e. element_for e ws) (decode_segment w s) ∙ entry_element w ws

-- what its range says
pub in_segment : (v : Env) (w : Words) → is_segment w.kind ≡ true → in_range v (decode w) ≡ true → segment_range v.xs v.ys v.used.corners w ≡ true
in_segment v w s h = go (is_line w.kind) (is_curve w.kind) (sym (segment_range_law v w) ∙ (ap (in_range v) (sym (decode_segment w s)) ∙ h))
  where
    inside : Bool
    inside = leb v.used.low w.q && (ltb w.q w.r && leb w.r (v.used.low + v.used.side))

    met : Line → Bool
    met = line_met v.xs v.ys v.used.corners

    go : (l c : Bool)
        → cond l (cond c (met (curve w.p)) (met (line w.p w.q))) (sign_range w.p && inside) ≡ true
        → cond l (met (cond c (curve w.p) (line w.p w.q))) (sign_range w.p) ≡ true
    go true true e = e
    go true false e = e
    go false c e = (both (sign_range w.p) inside e).0

-- ---- a shortcut adds at most 1 either way

sign_small : (p : ℕ) → sign_range p ≡ true → nat_abs (to_z w32 p) ≤ 1
sign_small p h = go (eqb p 1) refl
  where
    go : (b : Bool) → eqb p 1 ≡ b → nat_abs (to_z w32 p) ≤ 1
    go true e = let q : p ≡ 1 = eqb-true p 1 e in rw q (omega arith)
    go false e = let q : p ≡ 4294967295 = other_sign p h (λ t. true≢false (sym (eq-eqb p 1 t) ∙ e)) in rw q (omega arith)

pub shortcut_small : (p : ℕ) (b : Bool) → sign_range p ≡ true → nat_abs (cond b (to_z w32 p) (pos 0)) ≤ 1
shortcut_small p true h = sign_small p h
shortcut_small p false h = omega arith

-- ---- what the range of an area says

pub start_small : (q : ℕ) → start_range q ≡ true → q < 4294967296 → nat_abs (to_z w32 q) ≤ 2048
start_small q h k = go (leb q 2048) refl
  where
    go : (b : Bool) → leb q 2048 ≡ b → nat_abs (to_z w32 q) ≤ 2048
    go true e = let l : q ≤ 2048 = leb-true q 2048 e in rw (to_z_pos w32 q (omega arith)) (omega arith)
    go false e =
        let l : 2048 < q = leb-false q 2048 e in
        let m : 4294965248 ≤ q = start_other q h l in
        rw (upper q (omega arith)) (omega arith)

pub area_below : (areas : List ℕ) (used n : ℕ) → is_good (area_row areas used n) ≡ true → n < used
unfolding area_row
area_below areas used n h = go (ltb n used) refl h
  where
    go : (b : Bool)
        → ltb n used ≡ b
        → is_good (cond b (cond (eqb (get_or areas (n * 8 + 7) 0) 0) (ranged (Area (fields_at areas n))) (Err Field)) (Err Field)) ≡ true
        → n < used
    go true e t = ltb-true n used e
    go false e t = clash t
