-- The tables that opening and growing leave are those of the tree that is listed.
use mathlib.Core.Path.{◌≡◌, sym, ap, ap₂, ◌∙◌}
use mathlib.Core.List.{List}
use Prim.Native.Nat.{ℕ}
use lib.ListN.{length}
use Rattle.std.specs.Prelude.{Result, Ok, Err}
use Rattle.refusals.specs.declared.Refusal.{Refusal}
use Rattle.drawing.specs.Tables.{Tables}
use Rattle.tables.specs.Tables.{Tree, tree}
use Rattle.open.specs.Open.{drawing_tables, open_answer, head_opened, cells_opened, entries_opened, open_tree}
use Rattle.grow.specs.declared.Growth.{Growth}
use Rattle.listing.specs.Listed.{listed}
use Rattle.listing.specs.Numbers.{written}
use Rattle.demand.proofs.Growing.{tables_grown}
use Rattle.lister.specs.Printed.{Outcome, grows, grown_tree, outcome_of, outcome_grown, rows_grown, outcome_opened, outcome, rows_opened, rows_after}

-- ---- growing
pub handed_grown : (u : Tree) (head cells entries : List ℕ) → head ≡ (grown_tree u).head → cells ≡ (grown_tree u).cells → entries ≡ (grown_tree u).entries
    → tree u.plan u.areas u.xs u.ys head cells entries ≡ grown_tree u
handed_grown u head cells entries p q r =
    let same : drawing_tables u ≡ drawing_tables (grown_tree u) = sym (tables_grown u 0 4) in
    λ d.
    record {
      plan = ap (λ (x : Tables). x.plan) same d;
      areas = ap (λ (x : Tables). x.areas) same d;
      xs = ap (λ (x : Tables). x.xs) same d;
      ys = ap (λ (x : Tables). x.ys) same d;
      head = p d;
      cells = q d;
      entries = r d;
    }

module _ (u v : Tree) (g : v ≡ grown_tree u) where
  pub grown_outcome : (a : Result Growth Refusal) (n : ℕ) (o : Outcome) → a ≡ grows u → n ≡ length (listed v) → o ≡ outcome_of a n → o ≡ outcome_grown u
  grown_outcome a n o e f h = h ∙ ap₂ outcome_of e (f ∙ ap (λ (x : Tree). length (listed x)) g)

  pub grown_rows : (rows after : List ℕ) → after ≡ written rows 0 (listed v) → after ≡ rows_grown u rows
  grown_rows rows after h = h ∙ ap (λ (x : Tree). written rows 0 (listed x)) g

-- ---- opening
pub handed_opened : (t : Tree) (a : Result ℕ Refusal) (head cells entries : List ℕ)
    → a ≡ open_answer t → head ≡ head_opened t a → cells ≡ cells_opened t a → entries ≡ entries_opened t a
    → tree t.plan t.areas t.xs t.ys head cells entries ≡ open_tree t
handed_opened t a head cells entries w p q r =
    λ d.
    record {
      plan = t.plan;
      areas = t.areas;
      xs = t.xs;
      ys = t.ys;
      head = (p ∙ ap (head_opened t) w) d;
      cells = (q ∙ ap (cells_opened t) w) d;
      entries = (r ∙ ap (entries_opened t) w) d;
    }

module _ (t : Tree) (a : Result ℕ Refusal) (w : a ≡ open_answer t) where
  pub opened_outcome : (n : ℕ) (u : Tree) (o : Outcome) → a ≡ Ok n → u ≡ open_tree t → o ≡ outcome_grown u → o ≡ outcome t
  opened_outcome n u o e g h = h ∙ (ap outcome_grown g ∙ ap (outcome_opened t) (sym e ∙ w))

  pub opened_rows : (n : ℕ) (u : Tree) (rows after : List ℕ) → a ≡ Ok n → u ≡ open_tree t → after ≡ rows_grown u rows → after ≡ rows_after t rows
  opened_rows n u rows after e g h = h ∙ (ap (λ (x : Tree). rows_grown x rows) g ∙ ap (λ (b : Result ℕ Refusal). rows_opened t b rows) (sym e ∙ w))

  pub refused_outcome : (r : Refusal) → a ≡ Err r → Err r ≡ outcome t
  refused_outcome r e = ap (outcome_opened t) (sym e ∙ w)

  pub refused_rows : (r : Refusal) (rows : List ℕ) → a ≡ Err r → rows ≡ rows_after t rows
  refused_rows r rows e = ap (λ (b : Result ℕ Refusal). rows_opened t b rows) (sym e ∙ w)
