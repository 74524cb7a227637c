-- A set that is read from a stream that passes names areas in use alone, with all their fields in range.
use mathlib.Core.Path.{◌≡◌, refl, sym, subst, ◌∙◌}
use mathlib.Core.Bool.{Bool, true, false, cond, ◌&&◌, ◌||◌}
use mathlib.Core.List.{List, [], ◌∷◌}
use Prim.Native.Nat.{ℕ, zero, suc, pred, ◌+◌, ◌*◌, ◌≤◌, ◌<◌}
use native.Mathlib.Omega.{arith}
use native.Mathlib.Nat.{add-zero}
use lib.Dec.{eqb, ltb, leb}
use lib.IntN.{ℤ}
use lib.ListN.{get_or}
use borrow.Author.Tests.{eqb-true, leb-true}
use Rattle.laws.proofs.Booleans.{clash}
use Rattle.paint.specs.Sets.{has, with_area}
use Rattle.paint.specs.Areas.{PaintIn, Painted, paint_at}
use Rattle.paint.proofs.Sets.{has_with, has_none}
use Rattle.pruning.specs.Sides.{Kind, paint, clip}
use Rattle.pruning.specs.Registers.{P, S, SA, Registers, reg, halted, out_of, on_item, on_push, on_activate, on_pop}
use Rattle.records.specs.declared.Fields.{Fields}
use Rattle.records.specs.declared.Record.TheVariants.{Area}
use Rattle.std.specs.Prelude.{Ok, Err}
use Rattle.records.specs.Record.{area_range, paint_range, clip_range, is_good}
use Rattle.refusals.specs.declared.Refusal.TheVariants.{Field}
use Rattle.drawing.specs.Tables.{fields_at, area_row}
use Rattle.cells.specs.Cells.{at}
use Rattle.cells.specs.Segments.{Segment, adds_at}
use Rattle.cells.specs.Elements.{
  Element,
  opens,
  bar,
  closes,
  bare,
  named,
  segment,
  State,
  state,
  settled,
  waits,
  settle,
  add_to,
  on_element,
  on_elements,
  read_elements,
}
use Rattle.stream.specs.Entry.{Entry, decode}
use Rattle.stream.specs.Entry as Entry
use Rattle.stream.specs.Table.{words_at, words_from}
use Rattle.stream.specs.Grammar.{Env, in_range, Passed}
use Rattle.stream.proofs.Passed.{in_range_law}
use Rattle.evaluate.specs.Reading.{element_for, elements_in, role_at, pass_at, opaque_at, set_at}
use Rattle.evaluate.proofs.Laws.{both, area_below}

-- ---- what the fields of an area in range say

zero_is : (n : ℕ) → eqb n 0 ≡ true → n ≤ 255
zero_is n h = omega (arith, eqb-true n 0 h)

fields_in_law : (f : Fields) → area_range f ≡ true → (f.alpha ≤ 255) × (f.red ≤ 255) × (f.green ≤ 255) × (f.blue ≤ 255)
unfolding area_range
fields_in_law f h = go (leb f.rule 1) (eqb f.role 0) (eqb f.role 1) h
  where
    paint_in : paint_range f ≡ true → (f.alpha ≤ 255) × (f.red ≤ 255) × (f.green ≤ 255) × (f.blue ≤ 255)
    paint_in h =
        let a = both (leb f.alpha 255)
        (leb f.red 255 && (leb f.green 255 && (leb f.blue 255 && (leb 1 f.material && leb f.material 65535)))) h in
        let b = both (leb f.red 255) (leb f.green 255 && (leb f.blue 255 && (leb 1 f.material && leb f.material 65535))) a.1 in
        let c = both (leb f.green 255) (leb f.blue 255 && (leb 1 f.material && leb f.material 65535)) b.1 in
        let d = both (leb f.blue 255) (leb 1 f.material && leb f.material 65535) c.1 in
        (leb-true f.alpha 255 a.0, leb-true f.red 255 b.0, leb-true f.green 255 c.0, leb-true f.blue 255 d.0)

    clip_in : clip_range f ≡ true → (f.alpha ≤ 255) × (f.red ≤ 255) × (f.green ≤ 255) × (f.blue ≤ 255)
    clip_in h =
        let a = both (eqb f.alpha 0) (eqb f.red 0 && (eqb f.green 0 && (eqb f.blue 0 && eqb f.material 0))) h in
        let b = both (eqb f.red 0) (eqb f.green 0 && (eqb f.blue 0 && eqb f.material 0)) a.1 in
        let c = both (eqb f.green 0) (eqb f.blue 0 && eqb f.material 0) b.1 in
        let d = both (eqb f.blue 0) (eqb f.material 0) c.1 in
        (zero_is f.alpha a.0, zero_is f.red b.0, zero_is f.green c.0, zero_is f.blue d.0)

    go : (r p c : Bool)
        → cond r (cond p (paint_range f) (cond c (clip_range f) false)) false ≡ true
        → (f.alpha ≤ 255) × (f.red ≤ 255) × (f.green ≤ 255) × (f.blue ≤ 255)
    go true true c h = paint_in h
    go true false true h = clip_in h
    go true false false h = clash h
    go false p c h = clash h

area_fields : (areas : List ℕ) (used n : ℕ) → is_good (area_row areas used n) ≡ true → area_range (fields_at areas n) ≡ true
unfolding area_row
area_fields areas used n h = go (ltb n used) (eqb (get_or areas (n * 8 + 7) 0) 0) (area_range (fields_at areas n)) h
  where
    go : (a b r : Bool) → is_good (cond a (cond b (cond r (Ok (Area (fields_at areas n))) (Err Field)) (Err Field)) (Err Field)) ≡ true → r ≡ true
    go true true true h = refl
    go true true false h = clash h
    go true false r h = clash h
    go false b r h = clash h

-- ---- the areas that are shown are named by elements

-- each area of a set is in use and in range
module _ (areas : List ℕ) (used : ℕ) where
  abbrev pub Known : ℕ → Type 0
  Known n = is_good (area_row areas used n) ≡ true

  abbrev pub AllKnown : ℕ → Type 0
  AllKnown set = (n : ℕ) → has set n ≡ true → Known n

  known_with : (set n : ℕ) → AllKnown set → Known n → AllKnown (with_area set n)
  known_with set n h k m e = go (has set m) (eqb n m) refl refl (sym (has_with set n m) ∙ e)
    where
      go : (a b : Bool) → has set m ≡ a → eqb n m ≡ b → (a || b) ≡ true → Known m
      go true b p q t = h m p
      go false true p q t = subst Known (eqb-true n m q) k
      go false false p q t = clash t

  -- a move of the machine shows what is shown, or with it the area that it is moved by
  item_known : (k : Kind) (p q : Bool) (n : ℕ) (r : Registers ℕ) → AllKnown (out_of r) → Known n → AllKnown (out_of (on_item k p q (λ set. with_area set n) r))
  item_known paint true true n (reg P d s o) h g = known_with o n h g
  item_known paint true false n (reg P d s o) h g = known_with o n h g
  item_known clip true q n (reg P d s o) h g = h
  item_known paint false q n (reg P d s o) h g = h
  item_known clip false q n (reg P d s o) h g = h
  item_known k p q n (reg S d s o) h g = h
  item_known k p q n (reg SA d s o) h g = h
  item_known k p q n (halted o) h g = h

  -- each area that elements name is in use and in range
  abbrev pub EachKnown : List Element → Type 0
  EachKnown [] = Unit {0}
  EachKnown (opens ∷ ws) = EachKnown ws
  EachKnown (bar ∷ ws) = EachKnown ws
  EachKnown (closes ∷ ws) = EachKnown ws
  EachKnown (bare ∷ ws) = EachKnown ws
  EachKnown (named n z ∷ ws) = Known n × EachKnown ws
  EachKnown (segment g ∷ ws) = EachKnown ws

  push_out : (r : Registers ℕ) → out_of (on_push r) ≡ out_of r
  push_out (reg c d s o) = refl
  push_out (halted o) = refl

  pick_out : (b : Bool) (u v : Registers ℕ) (o : ℕ) → out_of u ≡ o → out_of v ≡ o → out_of (cond b u v) ≡ o
  pick_out true u v o p q = p
  pick_out false u v o p q = q

  activate_out : (r : Registers ℕ) → out_of (on_activate r) ≡ out_of r
  activate_out (reg P d s o) = refl
  activate_out (reg S d s o) = pick_out (leb d s) (reg P d s o) (reg S d s o) o refl refl
  activate_out (reg SA d s o) = refl
  activate_out (halted o) = refl

  pop_out : (r : Registers ℕ) → out_of (on_pop r) ≡ out_of r
  pop_out (reg P d s o) = refl
  pop_out (reg S d s o) = pick_out (leb d s) (reg S (pred d) (pred d) o) (reg S (pred d) s o) o refl refl
  pop_out (reg SA d s o) = pick_out (leb d s) (reg P (pred d) s o) (reg SA (pred d) s o) o refl refl
  pop_out (halted o) = refl

  bare_out : (r : Registers ℕ) → out_of (on_item clip true true (λ set. set) r) ≡ out_of r
  bare_out (reg P d s o) = refl
  bare_out (reg S d s o) = refl
  bare_out (reg SA d s o) = refl
  bare_out (halted o) = refl

  -- what is shown so far, and the area that waits
  abbrev StateKnown : State → Type 0
  StateKnown (state r settled) = AllKnown (out_of r)
  StateKnown (state r (waits n z)) = AllKnown (out_of r) × Known n

  module _ (role : ℕ → Kind) (pass : ℕ → ℤ → Bool) (opaque : ℕ → Bool) (adds : Segment → ℤ) where
    settle_known : (st : State) → StateKnown st → AllKnown (out_of (settle role pass opaque adds st))
    settle_known (state r settled) h = h
    settle_known (state r (waits n z)) h = item_known (role n) (pass n z) (opaque n) n r h.0 h.1

    add_known : (g : Segment) (st : State) → StateKnown st → StateKnown (add_to role pass opaque adds g st)
    add_known g (state r settled) h = h
    add_known g (state r (waits n z)) h = h

    elements_known : (ws : List Element) (st : State) → EachKnown ws → StateKnown st → StateKnown (on_elements role pass opaque adds ws st)
    elements_known [] st e h = h
    elements_known (opens ∷ ws) st e h =
        elements_known ws (on_element role pass opaque adds opens st) e
        (subst AllKnown (sym (push_out (settle role pass opaque adds st))) (settle_known st h))
    elements_known (bar ∷ ws) st e h =
        elements_known ws (on_element role pass opaque adds bar st) e
        (subst AllKnown (sym (activate_out (settle role pass opaque adds st))) (settle_known st h))
    elements_known (closes ∷ ws) st e h =
        elements_known ws (on_element role pass opaque adds closes st) e
        (subst AllKnown (sym (pop_out (settle role pass opaque adds st))) (settle_known st h))
    elements_known (bare ∷ ws) st e h =
        elements_known ws (on_element role pass opaque adds bare st) e
        (subst AllKnown (sym (bare_out (settle role pass opaque adds st))) (settle_known st h))
    elements_known (named n z ∷ ws) st e h = elements_known ws (on_element role pass opaque adds (named n z) st) e.1 (settle_known st h, e.0)
    elements_known (segment g ∷ ws) st e h = elements_known ws (on_element role pass opaque adds (segment g) st) e (add_known g st h)

    none_known : AllKnown 0
    none_known n e = clash (sym (has_none n) ∙ e)

    read_known : (ws : List Element) → EachKnown ws → AllKnown (read_elements role pass opaque adds ws)
    read_known ws e =
        settle_known (on_elements role pass opaque adds ws (state (reg P 0 0 0) settled))
        (elements_known ws (state (reg P 0 0 0) settled) e none_known)

-- ---- the elements of a stream that passes

module _ (v : Env) where
  one_known : (e : Entry) (ws : List Element) → in_range v e ≡ true → EachKnown v.areas v.used.areas ws
      → EachKnown v.areas v.used.areas (element_for e ws)
  one_known Entry.opens ws h k = k
  one_known Entry.bar ws h k = k
  one_known Entry.closes ws h k = k
  one_known (Entry.area n q) ws h k = ((both (is_good (area_row v.areas v.used.areas n)) (Entry.start_range q) h).0, k)
  one_known (Entry.line a b) ws h k = k
  one_known (Entry.curve a) ws h k = k
  one_known (Entry.shortcut s a b) ws h k = k
  one_known Entry.passes ws h k = k
  one_known Entry.bad ws h k = k

  words_known : (t : List ℕ) (i n : ℕ)
      → ((k : ℕ) → k < n → in_range v (decode (words_at t (i + k))) ≡ true)
      → EachKnown v.areas v.used.areas (elements_in (words_from t i n))
  unfolding words_from elements_in
  words_known t i zero h = tt
  words_known t i (suc n) h =
      one_known (decode (words_at t i)) (elements_in (words_from t (i + 1) n))
      (subst (λ (j : ℕ). in_range v (decode (words_at t j)) ≡ true) (add-zero i) (h 0 (omega arith)))
      (words_known t (i + 1) n (λ k l. subst (λ (j : ℕ). in_range v (decode (words_at t j)) ≡ true) (next i k) (h (suc k) (omega arith))))
    where
      next : (i k : ℕ) → i + suc k ≡ i + 1 + k
      next i k = omega arith

-- the set at (x, y) of a stream that passes
pub set_painted : (t : List ℕ) (first count : ℕ) (v : Env) (x y : ℕ)
    → Passed t first count v
    → Painted v.areas (set_at v.areas v.xs v.ys x y (words_from t first count))
unfolding set_at
set_painted t first count v x y p =
    record {
      row = λ n e. let l = area_below v.areas v.used.areas n (known n e) in omega (arith, l, p.ready.areas);
      bytes = λ n e. painted n (fields_in_law (fields_at v.areas n) (area_fields v.areas v.used.areas n (known n e)));
    }
  where
    known : AllKnown v.areas v.used.areas (set_at v.areas v.xs v.ys x y (words_from t first count))
    known =
        read_known v.areas v.used.areas (role_at v.areas) (pass_at v.areas) (opaque_at v.areas)
        (adds_at v.xs v.ys (at x y)) (elements_in (words_from t first count))
        (words_known v t first count (λ k l. in_range_law v t first count k p.grammar l))

    painted : (n : ℕ)
        → ((fields_at v.areas n).alpha ≤ 255)
        × ((fields_at v.areas n).red ≤ 255)
        × ((fields_at v.areas n).green ≤ 255)
        × ((fields_at v.areas n).blue ≤ 255)
        → PaintIn (paint_at v.areas n)
    painted n f = record { alpha_byte = f.0; red_byte = f.1; green_byte = f.2; blue_byte = f.3 }
