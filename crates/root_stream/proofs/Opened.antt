-- What a caller has where a lent drawing is accepted: the entries of the plan are the elements of the records, and what is written passes as the stream
-- of cell 0.
use Rattle.std.specs.Prelude.{Ok}
use mathlib.Core.Path.{◌≡◌, refl, ap, subst, ◌∙◌}
use mathlib.Core.Bool.{true}
use mathlib.Core.List.{List, map}
use Prim.Native.Nat.{ℕ, ◌*◌, ◌%◌, ◌≤◌}
use native.Mathlib.Omega.{arith}
use lib.ListN.{length, length-map}
use Rattle.grammar.specs.declared.Counts.{Counts}
use Rattle.drawing.specs.Tables.{Tables, drawn_in, drawing_verdict}
use Rattle.drawing.proofs.Theorems.{passes_holding}
use Rattle.pruning.specs.code.Weights.{total}
use Rattle.cells.specs.Cells.{root}
use Rattle.cells.specs.code.Making.{element_size}
use Rattle.stream.specs.declared.Words.{Words}
use Rattle.stream.specs.declared.Bounds.{Bounds}
use Rattle.stream.specs.Table.{words_from, written}
use Rattle.stream.specs.Grammar.{env, bounds, accepts, Passed}
use Rattle.stream.proofs.Table.{length_written, written_read}
use Rattle.evaluate.specs.Words.{words_of}
use Rattle.ranges.proofs.Weights.{made_short}
use Rattle.ranges.proofs.Streams.{made_passes}
use Rattle.writing.proofs.Places.{place_is}
use Rattle.plans.specs.code.Source.{source_of}
use Rattle.root_stream.specs.code.Numbers.{source_at, entries_n, Opened}
use Rattle.root_stream.specs.Opened.{drawing_in, elements_opened, words_opened}
use Rattle.root_stream.proofs.Ahead.{entries_ahead}
use Rattle.root_stream.proofs.Base.{base, valid, held}

-- a lent drawing that the check accepts
pub accepted_opened : (t : Tables) (k : Counts) → drawing_verdict t ≡ Ok k → Opened t k.records (bounds k.areas k.corners 0 65536)
accepted_opened t k e = let p = passes_holding t k e in record { used = k; accepted = p.0; holding = p.1; records_used = refl; bounds_used = refl }

module _ (t : Tables) (records : ℕ) (b : Bounds) (o : Opened t records b) where
  -- the entries of the plan are the words of the elements
  pub entries_source : entries_n t.plan records 0 (source_at 0 0 0) records ≡ map words_of (source_of (drawn_in t))
  entries_source = entries_ahead t.plan records records 0 (source_at 0 0 0) (map words_of (source_of (drawn_in t))) (base t records b o).begin (omega arith)

  pub opened_short : length (elements_opened t) ≤ 4096
  unfolding elements_opened
  opened_short = made_short (drawing_in t) (valid t records b o) root

  -- the number of entries is the low part of what the counting answers
  pub opened_count : total element_size (elements_opened t) % 65536 ≡ length (elements_opened t)
  opened_count = place_is (elements_opened t) (omega (arith, opened_short))

  opened_grammar : accepts (env t.areas t.xs t.ys b) (words_opened t) ≡ true
  unfolding elements_opened words_opened
  opened_grammar =
      made_passes (drawing_in t) (valid t records b o) t.areas t.xs t.ys b (held t records b o) root
      (ap (λ (x : Bounds). x.low) o.bounds_used) (ap (λ (x : Bounds). x.side) o.bounds_used)

  opened_length : length (words_opened t) ≡ length (elements_opened t)
  unfolding words_opened
  opened_length = length-map {B = Words} (elements_opened t) words_of

  -- the table, once written, has a stream that passes
  pub opened_passed : (entries : List ℕ)
      → length (elements_opened t) * 4 ≤ length entries
      → Passed (written entries 0 (words_opened t)) 0 (length (elements_opened t)) (env t.areas t.xs t.ys b)
  opened_passed entries h =
      let same : words_from (written entries 0 (words_opened t)) 0 (length (elements_opened t)) ≡ words_opened t = subst
      (λ (n : ℕ). words_from (written entries 0 (words_opened t)) 0 n ≡ words_opened t) opened_length
      (written_read entries 0 (words_opened t) (omega (arith, opened_length))) in
      record {
        within = omega (arith, length_written entries 0 (words_opened t));
        few = opened_short;
        few_areas = omega (arith, (held t records b o).areas_used, (valid t records b o).few_fields);
        ready = (held t records b o).ready;
        grammar = ap (accepts (env t.areas t.xs t.ys b)) same ∙ opened_grammar;
      }
