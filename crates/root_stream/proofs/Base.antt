-- What is known before the first record, where lent tables hold an accepted drawing.
use mathlib.Core.Path.{◌≡◌, refl, ap, subst, ◌∙◌}
use mathlib.Core.Bool.{true}
use mathlib.Core.List.{List, map}
use Prim.Native.Nat.{ℕ, ◌+◌, ◌≤◌}
use native.Mathlib.Omega.{arith}
use lib.ListN.{length, length-map}
use Rattle.records.specs.declared.Record.{Record}
use Rattle.std.specs.Prelude.{Ok}
use Rattle.grammar.specs.Lists.{areas_in, corners_in}
use Rattle.grammar.proofs.Laws.{sound}
use Rattle.read.specs.Words.{Has, words_of_kind, joined}
use Rattle.read.proofs.Files.{kinds_length}
use Rattle.drawing.specs.Tables.{Tables, drawn_in}
use Rattle.drawing.proofs.Has.{has_rest}
use Rattle.cells.specs.Cells.{root}
use Rattle.cells.specs.Drawings.{Drawing}
use Rattle.cells.specs.Elements.{Element}
use Rattle.stream.specs.declared.Words.{Words}
use Rattle.stream.specs.declared.Bounds.{Bounds}
use Rattle.stream.specs.Grammar.{Env, env, accepts, Ready}
use Rattle.evaluate.specs.Words.{words_of}
use Rattle.ranges.specs.code.Valid.{Valid}
use Rattle.ranges.specs.Held.{Held}
use Rattle.making.specs.Made.{elements_made}
use Rattle.making.proofs.Standing.{Reads}
use Rattle.plans.specs.code.Source.{source_of}
use Rattle.plans.proofs.Runs.{runs, counted}
use Rattle.plans.proofs.Bent.{bent_start}
use Rattle.plans.proofs.Valid.{accepted_valid}
use Rattle.plans.proofs.Held.{accepted_held}
use Rattle.plans.proofs.Source.{source_elements}
use Rattle.root_stream.specs.code.Numbers.{source_at, Opened}
use Rattle.root_stream.specs.Opened.{drawing_in, elements_opened}
use Rattle.root_stream.proofs.Ahead.{Ahead}
use Rattle.root_stream.proofs.Whole.{held_reads, source_passes, source_made}

-- the words `all` of what cell 0's stream is made from are said by the plan, and pass the check of streams
pub record Base (v : Env) (D : Drawing) (plan : List ℕ) (records : ℕ) (all : List Words) : Type 0 where
  pub reads : Reads v D
  pub grammar : accepts v all ≡ true
  pub ready : Ready v.areas v.xs v.ys v.used
  pub few : records ≤ 4096
  pub long : records + 3 ≤ length plan
  pub begin : Ahead plan records 0 (source_at 0 0 0) all

abbrev pub words_in : Tables → List Words
words_in t = map words_of (source_of (drawn_in t))

module _ (t : Tables) (records : ℕ) (b : Bounds) (o : Opened t records b) where
  records_are : records ≡ length (drawn_in t)
  records_are = o.records_used ∙ ((sound (map Ok (drawn_in t)) o.used o.accepted.fold).records ∙ length-map (drawn_in t) Ok)

  pub valid : Valid (drawing_in t)
  valid = accepted_valid (drawn_in t) o.used o.accepted

  pub held : Held t.areas t.xs t.ys b (drawing_in t)
  held =
      accepted_held t (drawn_in t) o.used o.accepted o.holding b (ap (λ (x : Bounds). x.areas) o.bounds_used)
      (ap (λ (x : Bounds). x.corners) o.bounds_used)

  kinds : Has t.plan 3 (joined words_of_kind (drawn_in t))
  kinds =
      let rs : List Record = drawn_in t in
      has_rest t.plan 2 (corners_in rs) (joined words_of_kind rs) (has_rest t.plan 1 (areas_in rs) _ (has_rest t.plan 0 (length rs) _ o.holding.plan))

  passes : accepts (env t.areas t.xs t.ys b) (words_in t) ≡ true
  passes =
      subst (λ (x : List Element). accepts (env t.areas t.xs t.ys b) (map words_of x) ≡ true)
      (source_elements (drawn_in t) o.used o.accepted)
      (source_passes (drawing_in t) t.areas t.xs t.ys b held valid (ap (λ (x : Bounds). x.low) o.bounds_used)
      (ap (λ (x : Bounds). x.side) o.bounds_used))

  pub base : Base (env t.areas t.xs t.ys b) (drawing_in t) t.plan records (words_in t)
  base =
      let c = counted (drawn_in t) o.used o.accepted in
      record {
        reads = held_reads (drawing_in t) t.areas t.xs t.ys b held;
        grammar = passes;
        ready = held.ready;
        few = omega (arith, records_are, o.accepted.below);
        long = omega (arith, records_are, kinds.room, kinds_length (drawn_in t));
        begin = record {
          rest = drawn_in t;
          kinds = kinds;
          whole = omega (arith, records_are);
          few_areas = omega (arith, c.few_areas);
          few_corners = omega (arith, c.few_corners);
          bends = bent_start (drawn_in t) (runs (drawn_in t) o.used o.accepted.fold);
          words = refl;
        };
      }

  pub base_made : elements_made (drawing_in t) root (words_in t) ≡ elements_opened t
  unfolding elements_opened
  base_made = source_made (drawn_in t) o.used o.accepted valid root
