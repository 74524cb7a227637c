-- Tables that hold an accepted list of records hold the areas and corners of its drawing.
use Prim.Native.Nat.{ℕ, zero, suc, ◌+◌, ◌*◌, ◌≤◌, ◌<◌}
use mathlib.Core.Path.{◌≡◌, refl, sym, ap, ◌∙◌, subst}
use mathlib.Core.Bool.{true}
use mathlib.Core.List.{List, [], ◌∷◌}
use native.Mathlib.Omega.{arith}
use lib.ListN.{length, get_or, take}
use Rattle.laws.proofs.Booleans.{and_left, and_right}
use Rattle.records.specs.declared.Fields.{Fields}
use Rattle.records.specs.declared.Record.{Record}
use Rattle.records.specs.declared.Record.TheVariants.{Area, First, Next, Control, Open, Bar, Close}
use Rattle.std.specs.Prelude.{Ok}
use Rattle.records.specs.Record.{in_range}
use Rattle.grammar.specs.declared.Counts.{Counts}
use Rattle.grammar.specs.Lists.{areas_in, corners_in}
use Rattle.read.specs.Words.{Has, words_of_fields, joined, all_range, area_words, x_words, y_words}
use Rattle.read.proofs.Files.{areas_length, xs_length, ys_length}
use Rattle.drawing.specs.Tables.{Tables, cursor, area_row}
use Rattle.drawing.specs.code.Held.{Acceptable, Holding}
use Rattle.drawing.proofs.Has.{has_left, has_right, has_at, has_same, has_take}
use Rattle.drawing.proofs.Rowlaws.{row_fields, area_read}
use Rattle.stream.specs.declared.Bounds.{Bounds}
use Rattle.cells.specs.Drawings.{no_fields}
use Rattle.ranges.specs.Held.{fields_from, Held}
use Rattle.plans.specs.Plans.{fields_in, drawing_from}
use Rattle.plans.proofs.Runs.{counted}
use Rattle.plans.proofs.Numbers.{fields_length}

-- ---- the areas

area_rest : (t : List ℕ) (f : Fields) (rs : List Record) (i : ℕ) → Has t (i * 8) (area_words (Area f ∷ rs)) → Has t ((i + 1) * 8) (area_words rs)
unfolding joined
area_rest t f rs i h = has_at t (i * 8 + 8) ((i + 1) * 8) (area_words rs) (omega arith) (has_right t (i * 8) (words_of_fields f) (area_words rs) h)

area_here : (t : List ℕ) (f : Fields) (rs : List Record) (i : ℕ) → Has t (i * 8) (area_words (Area f ∷ rs)) → Has t (i * 8) (words_of_fields f)
unfolding joined
area_here t f rs i h = has_left t (i * 8) (words_of_fields f) (area_words rs) h

fields_held : (t : List ℕ) (rs : List Record) (i n : ℕ) → n ≡ areas_in rs → Has t (i * 8) (area_words rs) → fields_from t i n ≡ fields_in rs
unfolding joined
fields_held t [] i n e h = ap (fields_from t i) e
fields_held t (Area f ∷ rs) i n e h =
    let s : n ≡ suc (areas_in rs) = omega arith in
    ap (fields_from t i) s ∙ (λ d. row_fields t i f (area_here t f rs i h).same d ∷ fields_held t rs (i + 1) (areas_in rs) refl (area_rest t f rs i h) d)
fields_held t (First x y ∷ rs) i n e h = fields_held t rs i n (omega arith) h
fields_held t (Next x y ∷ rs) i n e h = fields_held t rs i n (omega arith) h
fields_held t (Control x y ∷ rs) i n e h = fields_held t rs i n (omega arith) h
fields_held t (Open ∷ rs) i n e h = fields_held t rs i n (omega arith) h
fields_held t (Bar ∷ rs) i n e h = fields_held t rs i n (omega arith) h
fields_held t (Close ∷ rs) i n e h = fields_held t rs i n (omega arith) h

module _ (t : Tables) (u : Counts) where
  abbrev Reads : ℕ → Fields → Type 0
  Reads i f = area_row t.areas u.areas i ≡ Ok (Area f)

  rows_held : (rs : List Record) (i n : ℕ)
      → all_range rs ≡ true
      → Has t.areas (i * 8) (area_words rs)
      → i + areas_in rs ≤ u.areas
      → n < areas_in rs
      → Reads (i + n) (get_or (fields_in rs) n no_fields)
  unfolding joined
  rows_held [] i n g h l m = absurd (omega arith)
  rows_held (Area f ∷ rs) i zero g h l m =
      subst (λ (j : ℕ). Reads j f) (omega arith)
      (area_read t u 0 (cursor i 0) f (and_left (in_range (Area f)) (all_range rs) g) (area_here t.areas f rs i h) (omega arith))
  rows_held (Area f ∷ rs) i (suc n) g h l m =
      subst (λ (j : ℕ). Reads j (get_or (fields_in rs) n no_fields)) (omega arith)
      (rows_held rs (i + 1) n (and_right (in_range (Area f)) (all_range rs) g) (area_rest t.areas f rs i h) (omega arith) (omega arith))
  rows_held (First x y ∷ rs) i n g h l m = rows_held rs i n (and_right (in_range (First x y)) (all_range rs) g) h (omega arith) (omega arith)
  rows_held (Next x y ∷ rs) i n g h l m = rows_held rs i n (and_right (in_range (Next x y)) (all_range rs) g) h (omega arith) (omega arith)
  rows_held (Control x y ∷ rs) i n g h l m = rows_held rs i n (and_right (in_range (Control x y)) (all_range rs) g) h (omega arith) (omega arith)
  rows_held (Open ∷ rs) i n g h l m = rows_held rs i n g h (omega arith) (omega arith)
  rows_held (Bar ∷ rs) i n g h l m = rows_held rs i n g h (omega arith) (omega arith)
  rows_held (Close ∷ rs) i n g h l m = rows_held rs i n g h (omega arith) (omega arith)

-- ---- the corners

words_taken : (t ws : List ℕ) (n : ℕ) → n ≡ length ws → Has t 0 ws → take n t ≡ ws
words_taken t ws n e h =
    ap (λ (m : ℕ). take m t) e ∙ (ap (take (length ws)) (sym (has_same t 0 ws h)) ∙ has_take t ws (omega (arith, h.room)))

-- ---- both

pub accepted_held : (t : Tables) (rs : List Record) (k : Counts) → Acceptable rs k → Holding t rs → (b : Bounds) → b.areas ≡ k.areas → b.corners ≡ k.corners
    → Held t.areas t.xs t.ys b (drawing_from rs)
accepted_held t rs k a h b ea ec =
    let c = counted rs k a in
    let na : b.areas ≡ areas_in rs = ea ∙ c.areas in
    let nc : b.corners ≡ corners_in rs = ec ∙ c.corners in
    record {
      ready =
          record {
            areas = omega (arith, h.areas.room, areas_length rs);
            xs = omega (arith, h.xs.room, xs_length rs);
            ys = omega (arith, h.ys.room, ys_length rs);
          };
      areas_used = na ∙ sym (fields_length rs);
      corners_used = nc ∙ sym (xs_length rs);
      fields_same = fields_held t.areas rs 0 b.areas na h.areas;
      xs_same = words_taken t.xs (x_words rs) b.corners (nc ∙ sym (xs_length rs)) h.xs;
      ys_same = words_taken t.ys (y_words rs) b.corners (nc ∙ sym (ys_length rs)) h.ys;
      rows = λ n l.
          subst (λ (m : ℕ). area_row t.areas m n ≡ Ok (Area (get_or (fields_in rs) n no_fields))) (sym ea)
          (subst (λ (j : ℕ). area_row t.areas k.areas j ≡ Ok (Area (get_or (fields_in rs) n no_fields))) (omega arith)
          (rows_held t k rs 0 n a.range h.areas (omega (arith, c.areas)) (omega arith)));
    }
