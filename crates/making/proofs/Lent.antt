-- Lent tables say of their areas and corners what the drawing of lent tables says.
use mathlib.Core.Path.{◌≡◌, refl, sym, ap, ◌∙◌}
use mathlib.Core.List.{List}
use Prim.Native.Nat.{ℕ, zero, suc, ◌+◌, ◌<◌}
use native.Mathlib.Omega.{arith}
use native.Mathlib.Nat.{zero-add}
use lib.Dec.{eqb}
use lib.ListN.{length, take}
use lib.Seq.{get_or-take}
use Rattle.geometry.specs.FillRules as FillRules
use Rattle.geometry.specs.Windings.{Line, edge_of}
use Rattle.geometry.specs.code.Reach.{LineBelow}
use Rattle.records.specs.declared.Fields.{Fields}
use Rattle.drawing.specs.Tables.{fields_at}
use Rattle.cells.specs.Drawings.{fields_of, kind_of, rule_of}
use Rattle.stream.specs.declared.Bounds.{Bounds}
use Rattle.stream.specs.Grammar.{env}
use Rattle.evaluate.specs.Words.{Agrees}
use Rattle.ranges.specs.Held.{fields_from, lent}
use Rattle.ranges.proofs.Numbers.{edges_agree}
use Rattle.ranges.proofs.Reading.{fields_at_law}
use Rattle.making.proofs.Standing.{Reads}

fields_length : (t : List ℕ) (i n : ℕ) → length (fields_from t i n) ≡ n
fields_length t i zero = refl
fields_length t i (suc n) = ap suc (fields_length t (i + 1) n)

module _ (areas xs ys : List ℕ) (b : Bounds) where
  fields_are : (n : ℕ) → n < b.areas → fields_at areas n ≡ fields_of (lent areas xs ys b) n
  fields_are n l = sym (fields_at_law areas 0 b.areas n l ∙ ap (fields_at areas) (zero-add n))

  lent_agrees : (n : ℕ) → n < length (lent areas xs ys b).fields → Agrees areas (lent areas xs ys b) n
  lent_agrees n l =
      let e = fields_are n (omega (arith, fields_length areas 0 b.areas)) in
      record {
        role = ap (λ (f : Fields). kind_of f.role) e;
        pass = λ z. ap (λ (f : Fields). FillRules.passes (rule_of f.rule) z) e;
        opaque = ap (λ (f : Fields). eqb f.alpha 255) e;
      }

  lent_edges : (l : Line) → LineBelow b.corners l → edge_of (take b.corners xs) (take b.corners ys) l ≡ edge_of xs ys l
  lent_edges =
      edges_agree b.corners (take b.corners xs) (take b.corners ys) xs ys (λ k. get_or-take b.corners xs k 0)
      (λ k. get_or-take b.corners ys k 0)

  pub lent_reads : Reads (env areas xs ys b) (lent areas xs ys b)
  lent_reads = record { fields = fields_length areas 0 b.areas; agrees = lent_agrees; edges = lent_edges }
