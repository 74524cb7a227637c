-- The drawing of an accepted list of records: every number is in range, every role fits its side, nothing is over its limit.
use mathlib.Core.Path.{◌≡◌, sym, ◌∙◌}
use mathlib.Core.List.{List}
use native.Mathlib.Omega.{arith}
use lib.ListN.{length}
use Rattle.records.specs.declared.Record.{Record}
use Rattle.grammar.specs.declared.Counts.{Counts}
use Rattle.read.specs.Words.{x_words, y_words}
use Rattle.read.proofs.Files.{xs_length, ys_length}
use Rattle.drawing.specs.code.Held.{Acceptable}
use Rattle.pruning.specs.Sides.{paint, flat}
use Rattle.pruning.specs.Grammar.{tree}
use Rattle.ranges.specs.code.Valid.{Valid}
use Rattle.plans.specs.Plans.{entries_from, drawing_from}
use Rattle.plans.proofs.Runs.{Runs, start, runs, counted}
use Rattle.plans.proofs.Bent.{neither, bent_start}
use Rattle.plans.proofs.Fits.{entries_flat}
use Rattle.plans.proofs.Depths.{plan_depth}
use Rattle.plans.proofs.Numbers.{fields_length, fields_range, corners_range, follows_all, plan_roles, plan_numbers, below_each}
use Rattle.plans.proofs.Curves.{each_curves}
use Rattle.plans.proofs.Weights.{each_few, plan_records, plan_areas, plan_lines}

pub accepted_valid : (rs : List Record) (k : Counts) → Acceptable rs k → Valid (drawing_from rs)
accepted_valid rs k a =
    let h : Runs start rs = runs rs k a.fold in
    let n = counted rs k a in
    let e : entries_from 0 rs ≡ flat paint (tree (entries_from 0 rs)) = entries_flat rs h in
    record {
      roles = plan_roles rs (tree (entries_from 0 rs)) e;
      numbers = plan_numbers rs (tree (entries_from 0 rs)) e;
      fields = fields_range rs a.range;
      pairs = xs_length rs ∙ sym (ys_length rs);
      coordinates = corners_range rs a.range;
      corners = below_each (length (x_words rs)) rs 0 (omega (arith, xs_length rs));
      curves =
          each_curves (x_words rs) (y_words rs) rs start neither 0 h (bent_start rs h)
          (follows_all (x_words rs) 0, follows_all (y_words rs) 0);
      few_records = omega (arith, plan_records rs (tree (entries_from 0 rs)) e, a.below);
      few_areas = omega (arith, plan_areas rs (tree (entries_from 0 rs)) e, n.few_areas);
      few_fields = omega (arith, fields_length rs, n.few_areas);
      few_lines = omega (arith, plan_lines rs (tree (entries_from 0 rs)) e, n.few_corners);
      few_each = λ i. omega (arith, each_few rs 0 i, n.few_corners);
      few_corners = omega (arith, xs_length rs, n.few_corners);
      few_groups = plan_depth rs h;
    }
