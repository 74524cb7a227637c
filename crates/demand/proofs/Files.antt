-- From the file to the answer: the drawing of demand 3 is the file's, and what an accepted reading gives is what the records of the file show.
use Rattle.std.proofs.Common.{Result, Ok, Err}
use Rattle.refusals.specs.declared.Refused.{Refused}
use Rattle.refusals.specs.Refusals.{at_place}
use Rattle.refusals.specs.declared.Refusal.{Refusal}
use mathlib.Core.Path.{◌≡◌, refl, sym, ap, ◌∙◌}
use mathlib.Core.Bool.{Bool, true, false, cond, ◌&&◌}
use mathlib.Core.List.{List, [], ◌∷◌, ◌++◌}
use Prim.Native.Nat.{ℕ, ◌+◌, ◌/◌, ◌%◌}
use native.Mathlib.Omega.{arith}
use lib.Dec.{eqb, ltb, leb}
use lib.ListN.{length}
use Rattle.laws.proofs.Booleans.{clash}
use Rattle.refusals.specs.declared.Refusal.TheVariants as Refusals
use Rattle.grammar.specs.declared.Counts.{Counts}
use Rattle.grammar.specs.Grammar.{Verdict}
use Rattle.read.specs.Reading.{records_in, read_answer}
use Rattle.drawing.proofs.Theorems.{taken, file_accepts, read_leaves, drawn_records, after}
use Rattle.cells.specs.Cells.{at}
use Rattle.cells.specs.Drawings.{Drawing}
use Rattle.plans.specs.Plans.{drawing_from}
use Rattle.root_stream.specs.Opened.{drawing_in}
use Rattle.tables.specs.Tables.{Tree}
use Rattle.open.specs.Open.{drawing_tables}
use Rattle.find_leaf.specs.Leaf.{position_range}
use Rattle.position.specs.declared.Spot.{Spot}
use Rattle.pixel_row.specs.Rows.{Filled, filled}
use Rattle.zone_log.specs.Logs.{outside_from, each_word}
use Rattle.answers.specs.Answers.{packed}
use Rattle.answers.specs.Readings.{spot_number, out_spot, low_half, row_number, log_number}
use Rattle.demand.specs.History.{Node, begun}
use Rattle.demand.specs.Stands.{drawing_of}
use Rattle.demand.specs.Shown.{fill_shown, row_given, log_shown, log_out_shown, log_given}
use Rattle.demand.specs.Calls.{reading, rowing, logging, number_by, refusal, answer_to, Given, given}
use Rattle.demand.specs.Lists.{own, Allowed, tables_after_all, nodes_after_all}
use Rattle.demand.specs.Demand.{spot_there, position_given, Right}
use Rattle.demand.specs.Files.{
  read_by,
  read_tree,
  FileOpened,
  file_tree,
  drawing_of_file,
  FileDemand3,
  Shows,
  position,
  pixels,
  run,
  call_of,
  InLeaf,
  number_shown,
  output_shown,
  GivesShown,
  FromFile,
}
use Rattle.demand.proofs.Demand.{demand_over}
use Rattle.demand.proofs.Lists.{list_goes_on}

-- ---- the drawing of an accepted file
pub file_drawing : (b p a x y : List ℕ) (k : Counts) → read_answer b p a x y ≡ Ok k → drawing_in (after (Ok k) b p a x y)
    ≡ drawing_from (records_in b)
file_drawing b p a x y k e =
    ap drawing_from
    (drawn_records (after (Ok k) b p a x y) (records_in b) (file_accepts b k (taken b p a x y k e).verdict).range
    (read_leaves b p a x y k e))

file_held : (file : List ℕ) (t : Tree) → FileOpened file t → drawing_of (read_tree file t) ≡ drawing_of_file file
file_held file t o =
    ap (λ (v : Verdict). drawing_in (drawing_tables (read_by v file t))) o.read ∙ file_drawing file t.plan t.areas t.xs t.ys o.counts o.read

pub file_demand : FileDemand3
file_demand file t o cs = demand_over (drawing_of_file file) (read_tree file t) o.entries (file_held file t o) o.opened cs

-- ---- an accepted reading
-- its number and its output are those of what it gives
number_is : (n : ℕ) → packed 0 n ≡ n
number_is n = omega arith

module _ (D : Drawing) where
  -- at a position
  spot_roomed : (b : Bool) (s : Spot)
      → refusal (reading (cond b (Ok s) (Err Refusals.Room))) ≡ 0
      → cond b (Ok s) (Err Refusals.Room) ≡ Ok s
  spot_roomed true s e = refl
  spot_roomed false s e = absurd (omega arith)

  -- in a row
  row_accepted : (a b c : Bool) (bytes out : List ℕ)
      → let f : Filled = cond a
      (cond b (cond c (filled (Ok tt) bytes) (filled (Err (at_place Refusals.Argument 0)) out)) (filled (Err (at_place Refusals.Argument 0)) out))
      (filled (Err (at_place Refusals.Argument 0)) out) in
      refusal (rowing f.answer) ≡ 0 → f ≡ filled (Ok tt) bytes
  row_accepted true true true bytes out e = refl
  row_accepted true true false bytes out e = absurd (omega arith)
  row_accepted true false c bytes out e = absurd (omega arith)
  row_accepted false b c bytes out e = absurd (omega arith)

  -- along a run
  log_accepted : (a b c : Bool) (place n : ℕ)
      → refusal
      (logging
      (cond a (cond b (Err (at_place Refusals.Argument place)) (cond c (Ok n) (Err (at_place Refusals.Room 0))))
      (Err (at_place Refusals.Argument 0))))
      ≡ 0
      → cond a (cond b (Err (at_place Refusals.Argument place)) (cond c (Ok n) (Err (at_place Refusals.Room 0))))
      (Err (at_place Refusals.Argument 0))
      ≡ Ok n
  log_accepted true true c place n e = absurd (omega arith)
  log_accepted true false true place n e = refl
  log_accepted true false false place n e = absurd (omega arith)
  log_accepted false b c place n e = absurd (omega arith)

  -- what is given is what is shown
  shows_accepted : (H : List Node) (r : Shows) (t : Tree) (g : Given) (i : ℕ)
      → given (call_of r) t ≡ g
      → InLeaf H r i
      → number_by g.answer ≡ number_shown D r
      → g.output ≡ output_shown D H i r
      → GivesShown D H r t
  shows_accepted H r t g i e l n o =
      record { number = ap (λ (h : Given). number_by h.answer) e ∙ n; leaf = i; holds = l; output = ap (λ (h : Given). h.output) e ∙ o }

  pub accepted_shows : (r : Shows) (t : Tree) (H : List Node) → Right D (call_of r) t H → refusal (answer_to (call_of r) t) ≡ 0 → GivesShown D H r t
  accepted_shows (position x y out) t H q h = go (position_range x y) refl
    where
      go : (b : Bool) → position_range x y ≡ b → GivesShown D H (position x y out) t
      go true e =
          let w = q.inside e in
          let s = spot_there D H w.0 (at x y) in
          let a = spot_roomed (leb 10 (length out)) s (sym (ap (λ (g : Given). refusal g.answer) w.2) ∙ h) in
          shows_accepted H (position x y out) t (position_given (Ok s) out) w.0 w.2 w.1 (ap spot_number a ∙ number_is s.material)
          (ap (λ (r : Result Spot Refusal). out_spot r out) a)
      go false e =
          let z : ◌≡◌ {A = ℕ} 7 0 = sym (ap (λ (g : Given). refusal g.answer) (q.outside e)) ∙ h in
          absurd (omega arith)
  accepted_shows (pixels row first out) t H q h =
      let a = row_accepted (leb row 4095) (eqb (length out % 3) 0) (leb (first + length out / 3) 4096)
      (fill_shown D row first 0 (length out / 3) out) out (sym (ap (λ (g : Given). refusal g.answer) q) ∙ h) in
      shows_accepted H (pixels row first out) t (row_given D row first out) 0 q tt (ap (λ (f : Filled). row_number f.answer) a)
      (ap (λ (f : Filled). f.bytes) a)
  accepted_shows (run px py out) t H q h =
      let l = log_shown D px py in
      let a = log_accepted (eqb (length px) (length py)) (ltb (outside_from px py 0 (length px)) (length px))
      (leb (length l) (length out) && each_word l) (outside_from px py 0 (length px)) (length l)
      (sym (ap (λ (g : Given). refusal g.answer) q) ∙ h) in
      shows_accepted H (run px py out) t (log_given D px py out) 0 q tt (ap log_number a ∙ number_is (low_half (length l)))
      (ap (λ (w : Result ℕ Refused). log_out_shown D px py w out) a)

  allowed : (r : Shows) (t : Tree) → Allowed (own (call_of r)) t
  allowed (position x y out) t = λ e. clash e
  allowed (pixels row first out) t = λ e. clash e
  allowed (run px py out) t = λ e. clash e

pub from_file : FromFile
from_file file t o cs a r h =
    let D = drawing_of_file file in
    let u = tables_after_all cs (file_tree file t) in
    let K = nodes_after_all cs (file_tree file t) begun in
    let s = list_goes_on D cs (own (call_of r) ∷ []) (file_tree file t) begun (file_demand file t o (cs ++ (own (call_of r) ∷ []))) a in
    accepted_shows D r u K (s (allowed D r u)).0.right h
