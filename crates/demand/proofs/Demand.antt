-- Demand 3: after one accepted opening, at every call of every list.
use mathlib.Core.Path.{◌≡◌, refl, sym, ap, ◌∙◌, subst}
use mathlib.Core.List.{List, [], ◌∷◌}
use Prim.Native.Nat.{ℕ}
use lib.ListN.{length}
use Rattle.std.specs.Prelude.{Ok}
use Rattle.laws.proofs.Booleans.{clash}
use Rattle.cells.specs.Drawings.{Drawing}
use Rattle.tables.specs.Tables.{Tree}
use Rattle.open.specs.Open.{drawing_tables, open_answer, open_tree}
use Rattle.root_stream.specs.Opened.{drawing_in}
use Rattle.pixel_row.specs.Rows.{Filled, row_filled}
use Rattle.zone_log.specs.Logs.{log_answer}
use Rattle.demand.specs.History.{Node, begun}
use Rattle.demand.specs.Stands.{drawing_of}
use Rattle.demand.specs.Calls.{opens, splits, grows, finds, reads, rows, logs, rowing, logging, gives}
use Rattle.demand.specs.Lists.{Listed, own, other, Allowed, tables_after, nodes_after}
use Rattle.demand.specs.Demand.{RightListed, Unmet, Throughout, Demand3}
use Rattle.demand.proofs.Sound.{Sound, sound_stands}
use Rattle.demand.proofs.Opened.{open_sound}
use Rattle.demand.proofs.Splits.{tables_split}
use Rattle.demand.proofs.Growing.{tables_grown}
use Rattle.demand.proofs.Answers.{split_done, grow_done, find_given, find_unmet, position_given_law, position_unmet, row_unmet, log_unmet}
use Rattle.demand.proofs.Lists.{opening_same}
use Rattle.demand.proofs.Rows.{row_right}
use Rattle.demand.proofs.Logs.{log_right, log_out}

-- ---- one call on sound tables
record Called (c : Listed) (t : Tree) (H : List Node) : Type 0 where
  sound : Sound (tables_after c t) (nodes_after c t H)
  right : RightListed (drawing_of t) c t H
  unmet : Unmet c t
  unchanged : drawing_tables (tables_after c t) ≡ drawing_tables t

called : (c : Listed) (t : Tree) (H : List Node) → Sound t H → Allowed c t → Called c t H
called (own opens) t H s a =
    let e = opening_same t (open_answer t) (a refl) in
    record { sound = subst (λ (u : Tree). Sound u H) (sym e) s; right = tt; unmet = λ f. clash (sym f); unchanged = ap drawing_tables e }
called (own (splits i)) t H s a =
    let r = split_done t H i s in
    record { sound = r.sound; right = r.right; unmet = λ e. r.unmet; unchanged = tables_split t i }
called (own (grows n l)) t H s a =
    let r = grow_done t H n l s in
    record { sound = r.sound; right = r.right; unmet = λ e. r.unmet; unchanged = tables_grown t n l }
called (own (finds x y out)) t H s a = record { sound = s; right = find_given t H s x y out; unmet = λ e. find_unmet t H s x y out; unchanged = refl }
called (own (reads x y out)) t H s a =
    record { sound = s; right = position_given_law t H s x y out; unmet = λ e. position_unmet t H s x y out; unchanged = refl }
called (own (rows row first out)) t H s a =
    let q = row_right t H s row first out in
    record {
      sound = s;
      right = ap (λ (f : Filled). gives (rowing f.answer) f.bytes) q;
      unmet = λ e. row_unmet (drawing_of t) row first out (row_filled t row first out) q;
      unchanged = refl;
    }
called (own (logs px py out)) t H s a =
    let q = log_right t H s px py out in
    record {
      sound = s;
      right = λ d. gives (logging (q d)) (log_out t H s px py out d);
      unmet = λ e. log_unmet (drawing_of t) px py (length out) (log_answer t px py (length out)) q;
      unchanged = refl;
    }
called (other u c) t H s a = record { sound = s; right = tt; unmet = tt; unchanged = refl }

-- ---- the list
module _ (D : Drawing) where
  claimed : (cs : List Listed) (t : Tree) (H : List Node) → Sound t H → drawing_of t ≡ D → Throughout D cs t H
  claimed [] t H s e = sound_stands D t H s e
  claimed (c ∷ cs) t H s e = λ a.
      let r = called c t H s a in
      let f = ap drawing_in r.unchanged ∙ e in (
        record {
          before = sound_stands D t H s e;
          after = sound_stands D (tables_after c t) (nodes_after c t H) r.sound f;
          unchanged = r.unchanged;
          right = subst (λ (E : Drawing). RightListed E c t H) e r.right;
          unmet = r.unmet;
        },
        claimed cs (tables_after c t) (nodes_after c t H) r.sound f,
      )

-- over any drawing that the tables of the opening hold
pub demand_over : (D : Drawing) (t : Tree) (n : ℕ) → drawing_of t ≡ D → open_answer t ≡ Ok n → (cs : List Listed)
    → Throughout D cs (open_tree t) begun
demand_over D t n d e cs = claimed D cs (open_tree t) begun (open_sound t n e) d

pub demand_3 : Demand3
demand_3 t n e cs = demand_over (drawing_of t) t n refl e cs
