-- The kinds and their numbers: each law goes through the numbers to 7, and those above.
use Prim.Native.Nat.{ℕ, zero, suc, ◌≤◌, ◌<◌}
use mathlib.Core.Path.{◌≡◌, refl, sym, ap, ◌∙◌}
use mathlib.Core.Bool.{false, cond}
use native.Mathlib.Omega.{arith}
use lib.Dec.{eqb, leb}
use borrow.Author.Tests.{ne_eqb, le-leb, lt-leb, le-ltb}
use Rattle.std.specs.Prelude.{Result, Ok, Err}
use Rattle.refusals.specs.declared.Refusal.{Refusal}
use Rattle.refusals.specs.declared.Refusal.TheVariants as Refusals
use Rattle.records.specs.declared.Fields.{Fields}
use Rattle.records.specs.declared.Kind.{Kind}
use Rattle.records.specs.declared.Kind.TheVariants as Kinds
use Rattle.records.specs.declared.Record.{Record}
use Rattle.records.specs.declared.Record.TheVariants.{Area, First, Next, Open, Bar, Close, Control}
use Rattle.records.specs.Record.{Decoded, is_corner, corner_of, delimiter_of, ranged}
use Rattle.records.specs.Bytes.{Raw, number4, unnamed_zero, fields_of, named, decoded_raw}
use Rattle.records.specs.Kinds.{kind_number, kind_at}

pub numbers : (P : ℕ → Type 0) → P 0 → P 1 → P 2 → P 3 → P 4 → P 5 → P 6 → P 7 → ((n : ℕ) → 7 < n → P n) → (n : ℕ) → P n
numbers P z a b d e f g j m zero = z
numbers P z a b d e f g j m (suc zero) = a
numbers P z a b d e f g j m (suc (suc zero)) = b
numbers P z a b d e f g j m (suc (suc (suc zero))) = d
numbers P z a b d e f g j m (suc (suc (suc (suc zero)))) = e
numbers P z a b d e f g j m (suc (suc (suc (suc (suc zero))))) = f
numbers P z a b d e f g j m (suc (suc (suc (suc (suc (suc zero)))))) = g
numbers P z a b d e f g j m (suc (suc (suc (suc (suc (suc (suc zero))))))) = j
numbers P z a b d e f g j m (suc (suc (suc (suc (suc (suc (suc (suc n)))))))) = m (suc (suc (suc (suc (suc (suc (suc (suc n)))))))) (omega arith)

none : (n m : ℕ) → m ≤ 7 → 7 < n → eqb n m ≡ false
none n m g h = ne_eqb n m (λ e. omega arith)

kind_none : (n : ℕ) → 7 < n → kind_at n ≡ Err Refusals.Kind
unfolding kind_at
kind_none n h =
    rw (
      none n 1 (omega arith) h,
      none n 2 (omega arith) h,
      none n 3 (omega arith) h,
      none n 4 (omega arith) h,
      none n 5 (omega arith) h,
      none n 6 (omega arith) h,
      none n 7 (omega arith) h,
    )

-- the number of a kind, and of none any number
abbrev number_or : Result Kind Refusal → ℕ → ℕ
number_or (Ok k) n = kind_number k
number_or (Err e) n = n

number_same : (n : ℕ) → number_or (kind_at n) n ≡ n
unfolding kind_at
number_same = numbers (λ n. number_or (kind_at n) n ≡ n) refl refl refl refl refl refl refl refl (λ n h. rw (kind_none n h))

pub kind_is : (n : ℕ) (k : Kind) → kind_at n ≡ Ok k → kind_number k ≡ n
kind_is n k e = ap (λ z. number_or z n) (sym e) ∙ number_same n

-- what a kind is tried for first: a number under 1 or over 7 is none
abbrev pub of_kind : Result Kind Refusal → Decoded → Decoded
of_kind (Ok k) d = d
of_kind (Err e) d = Err e

pub kind_first : (d : Decoded) (n : ℕ) → cond (leb 1 n) (cond (leb n 7) d (Err Refusals.Kind)) (Err Refusals.Kind) ≡ of_kind (kind_at n) d
unfolding kind_at
kind_first d =
    numbers (λ n. cond (leb 1 n) (cond (leb n 7) d (Err Refusals.Kind)) (Err Refusals.Kind) ≡ of_kind (kind_at n) d) refl refl refl refl refl refl refl refl
    (λ n h. rw (kind_none n h, le-leb 1 n (omega arith), lt-leb n 7 h))

pub decoded_is : (r : Raw) → decoded_raw r ≡ of_kind (kind_at r.b0) (cond (unnamed_zero r) (ranged (named r)) (Err Refusals.Field))
unfolding decoded_raw
decoded_is r = kind_first _ r.b0

module _ (f : Fields) (x y : ℕ) where
  -- a record of a kind; of a number n of no kind a control corner or a close
  abbrev record_by : ℕ → Result Kind Refusal → Record
  record_by n (Ok Kinds.Area) = Area f
  record_by n (Ok Kinds.First) = First x y
  record_by n (Ok Kinds.Next) = Next x y
  record_by n (Ok Kinds.Open) = Open
  record_by n (Ok Kinds.Bar) = Bar
  record_by n (Ok Kinds.Close) = Close
  record_by n (Ok Kinds.Control) = Control x y
  record_by n (Err e) = cond (eqb n 0) (Control x y) Close

  record_is : (n : ℕ) → cond (eqb n 1) (Area f) (cond (is_corner n) (corner_of n x y) (delimiter_of n)) ≡ record_by n (kind_at n)
  unfolding kind_at corner_of delimiter_of
  record_is =
      numbers (λ n. cond (eqb n 1) (Area f) (cond (is_corner n) (corner_of n x y) (delimiter_of n)) ≡ record_by n (kind_at n))
      refl refl refl refl refl refl refl refl
      (λ n h.
      rw (
        kind_none n h,
        none n 1 (omega arith) h,
        none n 4 (omega arith) h,
        none n 5 (omega arith) h,
        none n 7 (omega arith) h,
        none n 0 (omega arith) h,
        le-ltb n 4 (omega arith),
      ))

pub named_is : (r : Raw) → named r ≡ record_by (fields_of r) (number4 r.b4 r.b5 r.b6 r.b7) (number4 r.b8 r.b9 r.b10 r.b11) r.b0 (kind_at r.b0)
unfolding named
named_is r = record_is _ _ _ r.b0
