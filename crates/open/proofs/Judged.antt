-- What an opening answers, by what the check of its drawing says.
use mathlib.Core.Path.{◌≡◌, refl, sym, ap, ◌∙◌}
use mathlib.Core.Bool.{Bool, true, false}
use Prim.Native.Nat.{ℕ}
use native.Mathlib.Omega.{arith}
use lib.Dec.{leb, eqb}
use lib.ListN.{length}
use Rattle.std.specs.Prelude.{Ok, Err, Result, cond}
use Rattle.std.specs.Result.{is_err}
use Rattle.refusals.specs.declared.Refusal.{Refusal}
use Rattle.refusals.specs.declared.Refused.{Refused}
use Rattle.refusals.specs.declared.Refusal.TheVariants.{Argument, Broken}
use Rattle.refusals.specs.Refusals.{at_place}
use Rattle.grammar.specs.declared.Counts.{Counts}
use Rattle.grammar.specs.Grammar.{Verdict, checked}
use Rattle.read.specs.Reading.{holds}
use Rattle.drawing.specs.Tables.{Tables, agreed, counts_judged, drawing_verdict, rebuilt, cursor, used_of}
use Rattle.tables.specs.Tables.{Tree}
use Rattle.open.specs.Open.{drawing_tables, drawing_answer, room_answer, open_answer}

clash : {A : Type 0} → false ≡ true → A
clash e = absurd (let z : ◌≡◌ {A = ℕ} 0 1 = cc in omega arith)

-- of a verdict that is no refusal, as of most that are, 12
abbrev why : Verdict → Refusal
why (Ok k) = Broken
why (Err e) = e.refusal

agreed_why : (v : Verdict) (u : Counts) → why (agreed v u) ≡ Broken
agreed_why (Ok k) u = go (eqb k.areas u.areas) (eqb k.corners u.corners)
  where
    go : (a b : Bool) → why (cond a (cond b (Ok k) (Err (at_place Broken 0))) (Err (at_place Broken 0))) ≡ Broken
    go true true = refl
    go true false = refl
    go false b = refl
agreed_why (Err e) u = refl

counts_why : (t : Tables) (u : Counts) → why (counts_judged t u) ≡ Broken
unfolding counts_judged
counts_why t u =
    go (leb u.records 4096) (holds (length t.plan) (length t.areas) (length t.xs) u) (agreed (checked (rebuilt t u 0 (cursor 0 0) u.records)) u)
    (agreed_why (checked (rebuilt t u 0 (cursor 0 0) u.records)) u)
  where
    go : (a b : Bool) (v : Verdict) → why v ≡ Broken → why (cond a (cond b v (Err (at_place Broken 0))) (Err (at_place Broken 0))) ≡ Broken
    go true true v h = h
    go true false v h = refl
    go false b v h = refl

-- behind 7
behind_why : (a : Bool) (t : Tables) (u : Counts) → why (cond a (counts_judged t u) (Err (at_place Broken 0))) ≡ Broken
behind_why true t u = counts_why t u
behind_why false t u = refl

module _ (t : Tree) where
  pub judged_err : (f : Refused) → drawing_verdict (drawing_tables t) ≡ Err f → open_answer t ≡ Err f.refusal
  unfolding drawing_verdict
  judged_err f h =
      go (eqb (length t.xs) (length t.ys)) (cond (leb 3 (length t.plan)) (counts_judged (drawing_tables t) (used_of t.plan)) (Err (at_place Broken 0)))
      (behind_why (leb 3 (length t.plan)) (drawing_tables t) (used_of t.plan)) h
    where
      err : Refusal → Result ℕ Refusal
      err r = Err r

      go : (a : Bool) (v : Verdict)
          → why v ≡ Broken
          → cond a v (Err (at_place Argument 0)) ≡ Err f
          → cond a (drawing_answer t (cond a v (Err (at_place Argument 0)))) (Err Argument) ≡ Err f.refusal
      go true (Ok k) w p = clash (ap is_err p)
      go true (Err e) w p = let q = sym w ∙ ap why p in rw q
      go false v w p = let q = ap why p in rw q

  pub judged_ok : (k : Counts) → drawing_verdict (drawing_tables t) ≡ Ok k → open_answer t ≡ room_answer t
  unfolding drawing_verdict
  judged_ok k h =
      go (eqb (length t.xs) (length t.ys)) (cond (leb 3 (length t.plan)) (counts_judged (drawing_tables t) (used_of t.plan)) (Err (at_place Broken 0))) h
    where
      go : (a : Bool) (v : Verdict)
          → cond a v (Err (at_place Argument 0)) ≡ Ok k
          → cond a (drawing_answer t (cond a v (Err (at_place Argument 0)))) (Err Argument) ≡ room_answer t
      go true (Ok k') p = refl
      go true (Err e) p = clash (ap is_err (sym p))
      go false v p = clash (ap is_err (sym p))
