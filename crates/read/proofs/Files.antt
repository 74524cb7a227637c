-- What is known of an accepted file, and how many words its tables want.
use Rattle.std.specs.Prelude.{Ok, Err}
use Rattle.refusals.specs.Refusals.{at_place}
use Prim.Native.Nat.{ℕ, zero, suc, ◌+◌, ◌*◌, ◌-◌, ◌/◌, ◌%◌, ◌≤◌}
use mathlib.Core.Path.{◌≡◌, refl, sym, ap, ◌∙◌}
use mathlib.Core.Bool.{Bool, true, false, cond, ◌&&◌}
use mathlib.Core.List.{List, [], ◌∷◌, map}
use native.Mathlib.Omega.{arith}
use lib.ListN.{length, set, length-map}
use lib.Seq.{sets}
use lib.Dec.{eqb, leb}
use borrow.Author.Tests.{leb-true, eqb-true}
use Rattle.refusals.specs.declared.Refusal.TheVariants.{Length}
use Rattle.records.specs.declared.Record.{Record}
use Rattle.records.specs.declared.Record.TheVariants.{Area, First, Next, Open, Bar, Close, Control}
use Rattle.records.specs.Record.{Decoded}
use Rattle.records.specs.Bytes.{bytes_of}
use Rattle.laws.proofs.Booleans.{and_left, and_right, clash}
use Rattle.grammar.specs.declared.Counts.{Counts}
use Rattle.grammar.specs.Grammar.{checked}
use Rattle.grammar.specs.Lists.{good_records, areas_in, corners_in}
use Rattle.grammar.proofs.Laws.{sound}
use Rattle.read.specs.Words.{words_of_kind, words_of_area, words_of_x, words_of_y, joined, plan_words}
use Rattle.read.specs.Reading.{decoded_from, decoded_in, records_in, verdict_of, holds, all_good, Filed}

pub length_from : (b : List ℕ) (i n : ℕ) → length (decoded_from b i n) ≡ n
unfolding decoded_from
length_from b i zero = refl
length_from b i (suc n) = ap suc (length_from b (i + 1) n)

pub length_good : (ds : List Decoded) → ds ≡ map Ok (good_records ds) → length ds ≡ length (good_records ds)
length_good ds e = ap length e ∙ length-map (good_records ds) Ok

good_map : (rs : List Record) → all_good (map Ok rs) ≡ true
good_map [] = refl
good_map (r ∷ rs) = good_map rs

pub all_good_law : (ds : List Decoded) → ds ≡ map Ok (good_records ds) → all_good ds ≡ true
all_good_law ds e = ap all_good e ∙ good_map (good_records ds)

pub filed_checked : (b : List ℕ) (k : Counts) → verdict_of b ≡ Ok k → checked (decoded_in b) ≡ Ok k
unfolding verdict_of
filed_checked b k = go (eqb (length b % 16) 0) (leb (length b / 16) 4096)
  where
    go : (a d : Bool) → cond a (cond d (checked (decoded_in b)) (Err (at_place Length 0))) (Err (at_place Length 0)) ≡ Ok k → checked (decoded_in b) ≡ Ok k
    go false d e = absurd cc
    go true false e = absurd cc
    go true true e = e

pub filed : (b : List ℕ) (k : Counts) → verdict_of b ≡ Ok k → Filed b k
unfolding verdict_of
filed b k = go (eqb (length b % 16) 0) (leb (length b / 16) 4096) refl refl
  where
    go : (a d : Bool)
        → eqb (length b % 16) 0 ≡ a
        → leb (length b / 16) 4096 ≡ d
        → cond a (cond d (checked (decoded_in b)) (Err (at_place Length 0))) (Err (at_place Length 0)) ≡ Ok k
        → Filed b k
    go false d p q e = absurd cc
    go true false p q e = absurd cc
    go true true p q e =
        let s = sound (decoded_in b) k e in
        let n : k.records ≡ length b / 16 = s.records ∙ length_from b 0 (length b / 16) in
        record {
          whole = omega (arith, eqb-true (length b % 16) 0 p);
          parts = n;
          good = all_good_law (decoded_in b) s.good;
          records = s.records ∙ length_good (decoded_in b) s.good;
          areas = s.areas;
          corners = s.corners;
          below = omega (arith, leb-true (length b / 16) 4096 q);
          few = s.few;
          many = s.many;
        }

-- a whole file's records are those from record 0
pub good_from : (b : List ℕ) (k : Counts) → Filed b k → all_good (decoded_from b 0 k.records) ≡ true
good_from b k f = ap (λ (n : ℕ). all_good (decoded_from b 0 n)) f.parts ∙ f.good

-- ---- how many words
pub kinds_length : (rs : List Record) → length (joined words_of_kind rs) ≡ length rs
unfolding joined
kinds_length [] = refl
kinds_length (r ∷ rs) = ap suc (kinds_length rs)

pub areas_length : (rs : List Record) → length (joined words_of_area rs) ≡ areas_in rs * 8
unfolding joined
areas_length [] = refl
areas_length (Area f ∷ rs) = omega (arith, areas_length rs)
areas_length (First x y ∷ rs) = omega (arith, areas_length rs)
areas_length (Next x y ∷ rs) = omega (arith, areas_length rs)
areas_length (Open ∷ rs) = omega (arith, areas_length rs)
areas_length (Bar ∷ rs) = omega (arith, areas_length rs)
areas_length (Close ∷ rs) = omega (arith, areas_length rs)
areas_length (Control x y ∷ rs) = omega (arith, areas_length rs)

pub xs_length : (rs : List Record) → length (joined words_of_x rs) ≡ corners_in rs
unfolding joined
xs_length [] = refl
xs_length (Area f ∷ rs) = omega (arith, xs_length rs)
xs_length (First x y ∷ rs) = omega (arith, xs_length rs)
xs_length (Next x y ∷ rs) = omega (arith, xs_length rs)
xs_length (Open ∷ rs) = omega (arith, xs_length rs)
xs_length (Bar ∷ rs) = omega (arith, xs_length rs)
xs_length (Close ∷ rs) = omega (arith, xs_length rs)
xs_length (Control x y ∷ rs) = omega (arith, xs_length rs)

pub ys_length : (rs : List Record) → length (joined words_of_y rs) ≡ corners_in rs
unfolding joined
ys_length [] = refl
ys_length (Area f ∷ rs) = omega (arith, ys_length rs)
ys_length (First x y ∷ rs) = omega (arith, ys_length rs)
ys_length (Next x y ∷ rs) = omega (arith, ys_length rs)
ys_length (Open ∷ rs) = omega (arith, ys_length rs)
ys_length (Bar ∷ rs) = omega (arith, ys_length rs)
ys_length (Close ∷ rs) = omega (arith, ys_length rs)
ys_length (Control x y ∷ rs) = omega (arith, ys_length rs)

pub file_length : (rs : List Record) → length (joined bytes_of rs) ≡ length rs * 16
unfolding joined
file_length [] = refl
file_length (r ∷ rs) = omega (arith, file_length rs)

module _ (b : List ℕ) (k : Counts) (c : Filed b k) where
  same_part : records_in b ≡ good_records (decoded_from b 0 k.records)
  same_part = ap (λ (n : ℕ). good_records (decoded_from b 0 n)) (sym c.parts)

  pub room_0 : (m : ℕ) → k.records + 3 ≤ m → 3 + length (joined words_of_kind (good_records (decoded_from b 0 k.records))) ≤ m
  room_0 m h = rw (← same_part, kinds_length (records_in b)) (omega (arith, c.records))

  pub room_1 : (m : ℕ) → k.areas * 8 ≤ m → 0 + length (joined words_of_area (good_records (decoded_from b 0 k.records))) ≤ m
  room_1 m h = rw (← same_part, areas_length (records_in b)) (omega (arith, c.areas))

  pub room_2 : (m : ℕ) → k.corners ≤ m → 0 + length (joined words_of_x (good_records (decoded_from b 0 k.records))) ≤ m
  room_2 m h = rw (← same_part, xs_length (records_in b)) (omega (arith, c.corners))

  pub room_3 : (m : ℕ) → k.corners ≤ m → 0 + length (joined words_of_y (good_records (decoded_from b 0 k.records))) ≤ m
  room_3 m h = rw (← same_part, ys_length (records_in b)) (omega (arith, c.corners))

  pub left_0 : (t t₁ t₂ : List ℕ)
      → t₁ ≡ set (set (set t 0 k.records) 1 k.areas) 2 k.corners
      → t₂ ≡ sets t₁ 3 (joined words_of_kind (good_records (decoded_from b 0 k.records)))
      → t₂ ≡ sets t 0 (plan_words (records_in b))
  left_0 t t₁ t₂ p q = q ∙ rw (p, ← same_part, c.records, c.areas, c.corners)

  pub left_1 : (t t₁ : List ℕ) → t₁ ≡ sets t 0 (joined words_of_area (good_records (decoded_from b 0 k.records)))
      → t₁ ≡ sets t 0 (joined words_of_area (records_in b))
  left_1 t t₁ q = q ∙ rw (← same_part)

  pub left_2 : (t t₁ : List ℕ) → t₁ ≡ sets t 0 (joined words_of_x (good_records (decoded_from b 0 k.records))) → t₁
      ≡ sets t 0 (joined words_of_x (records_in b))
  left_2 t t₁ q = q ∙ rw (← same_part)

  pub left_3 : (t t₁ : List ℕ) → t₁ ≡ sets t 0 (joined words_of_y (good_records (decoded_from b 0 k.records))) → t₁
      ≡ sets t 0 (joined words_of_y (records_in b))
  left_3 t t₁ q = q ∙ rw (← same_part)

-- ---- the room test
pub record Holds (p a d : ℕ) (k : Counts) : Type 0 where
  pub header : 3 ≤ p
  pub plan : k.records + 3 ≤ p
  pub areas : k.areas * 8 ≤ a
  pub corners : k.corners ≤ d

pub held : (p a d : ℕ) (k : Counts) → holds p a d k ≡ true → Holds p a d k
unfolding holds
held p a d k = go (leb 3 p) refl
  where
    go : (t : Bool) → leb 3 p ≡ t → cond t (leb k.records (p - 3) && (leb k.areas (a / 8) && leb k.corners d)) false ≡ true → Holds p a d k
    go false q e = clash e
    go true q e =
        let e2 = and_right (leb k.records (p - 3)) _ e in
        let h0 : 3 ≤ p = leb-true _ _ q in
        let h1 : k.records ≤ p - 3 = leb-true _ _ (and_left (leb k.records (p - 3)) _ e) in
        let h2 : k.areas ≤ a / 8 = leb-true _ _ (and_left (leb k.areas (a / 8)) _ e2) in
        record { header = h0; plan = omega arith; areas = omega arith; corners = leb-true _ _ (and_right (leb k.areas (a / 8)) _ e2) }
