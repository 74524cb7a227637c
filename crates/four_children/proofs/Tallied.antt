-- The tally of a child in document 01's words, and those of the children after each pass.
use mathlib.Core.Path.{◌≡◌, refl, ap, ◌∙◌}
use mathlib.Core.List.{List, [], ◌∷◌, ◌++◌, map}
use Prim.Native.Nat.{ℕ, zero, suc, ◌≤◌}
use native.Mathlib.Omega.{arith}
use lib.ListN.{length, get_or, length-map}
use lib.IntN.{ℤ, pos}
use Rattle.geometry.specs.Windings.{line, curve}
use Rattle.pruning.specs.Sides.{Kind, paint, clip, Side, end, leaf, group, Entry, item, push, activate, pop, flat}
use Rattle.pruning.specs.code.Weights.{total}
use Rattle.pruning.proofs.Weights.{total_append}
use Rattle.cells.specs.Cells.{Cell}
use Rattle.cells.specs.Segments.{Segment, drawn, shortcut}
use Rattle.cells.specs.Drawings.{Drawing}
use Rattle.cells.specs.Streams.{Item, always, area}
use Rattle.cells.specs.Elements.{Element, opens, bar, closes, bare, named, segment, item_elements, elements_of}
use Rattle.stream.specs.declared.Words.{Words}
use Rattle.stream.specs.Entry.{lines_in}
use Rattle.stream.specs.Table.{words_from}
use Rattle.stream.specs.Grammar.{env}
use Rattle.evaluate.specs.Words.{words_of}
use Rattle.ranges.specs.Held.{lent}
use Rattle.ranges.specs.code.Valid.{weigh, elements}
use Rattle.ranges.proofs.Weights.{elements_append, elements_length}
use Rattle.making.specs.Made.{elements_made, words_made}
use Rattle.making.proofs.Lent.{lent_reads}
use Rattle.child_stream.specs.code.Starts.{starts_of}
use Rattle.child_stream.proofs.Clear.{filled_at}
use Rattle.child_stream.proofs.Few.{few_starts}
use Rattle.four_children.specs.Children.{cell_of_child, elements_of_child, words_of_child}
use Rattle.four_children.specs.Worked.{lines_among, item_lines, Started, areas_named, no_area, Tallied, stream_of_child, EachPass}
use Rattle.four_children.specs.code.Numbers.{line_one, tally}
use Rattle.four_children.proofs.Worked.{worked_done, worked_rest}

segment_lines : (gs : List Segment) → total line_one (map segment gs) ≡ lines_among gs
segment_lines [] = refl
segment_lines (drawn l ∷ gs) = omega (arith, segment_lines gs)
segment_lines (shortcut z lo hi ∷ gs) = omega (arith, segment_lines gs)

item_lines_law : (a : Item) → total line_one (item_elements a) ≡ item_lines a
item_lines_law always = refl
item_lines_law (area n z gs) = omega (arith, segment_lines gs)

lines_is : (k : Kind) (y : Side Item) → total line_one (elements_of (flat k y)) ≡ weigh item_lines 0 y
lines_is k end = refl
lines_is k (leaf a t) = omega (arith, total_append line_one (item_elements a) (elements_of (flat k t)), item_lines_law a, lines_is k t)
lines_is k (group l r t) =
    rw (elements_append (flat clip l) (activate ∷ (flat k r ++ (pop ∷ flat k t))), elements_append (flat k r) (pop ∷ flat k t))
    (omega (
      arith,
      total_append line_one (elements_of (flat clip l)) (bar ∷ (elements_of (flat k r) ++ (closes ∷ elements_of (flat k t)))),
      total_append line_one (elements_of (flat k r)) (closes ∷ elements_of (flat k t)),
      lines_is clip l,
      lines_is k r,
      lines_is k t,
    ))

segments_starts : (gs : List Segment) (rs : List Element) → starts_of (map segment gs ++ rs) ≡ starts_of rs
segments_starts [] rs = refl
segments_starts (g ∷ gs) rs = segments_starts gs rs

abbrev start_of : Started → ℤ
start_of a = a.start

starts_is : (es : List (Entry Item)) → starts_of (elements_of es) ≡ map start_of (areas_named es)
starts_is [] = refl
starts_is (item k always ∷ es) = starts_is es
starts_is (item k (area n z gs) ∷ es) = ap (λ (zs : List ℤ). z ∷ zs) (segments_starts gs (elements_of es) ∙ starts_is es)
starts_is (push ∷ es) = starts_is es
starts_is (activate ∷ es) = starts_is es
starts_is (pop ∷ es) = starts_is es

start_at : (j : ℕ) (ns : List Started) → get_or (map start_of ns) j (pos 0) ≡ (get_or ns j no_area).start
start_at j [] = refl
start_at zero (n ∷ ns) = refl
start_at (suc j) (n ∷ ns) = start_at j ns

-- the areas of a stream are as many as its start numbers
areas_count : (es : List (Entry Item)) → length (starts_of (elements_of es)) ≡ length (areas_named es)
areas_count es = ap length (starts_is es) ∙ length-map {B = ℤ} (areas_named es) start_of

-- of a stream that the array of start numbers holds
tallied : (y : Side Item) → length (starts_of (elements_of (flat paint y))) ≤ 64 → Tallied y (tally (elements_of (flat paint y)))
tallied y few =
    let es = flat paint y in
    record {
      entries = elements_length paint y;
      lines = lines_is paint y;
      areas = areas_count es;
      starts = λ j h.
          filled_at 64 (starts_of (elements_of es)) j (omega (arith, areas_count es))
          ∙ (ap (λ (zs : List ℤ). get_or zs j (pos 0)) (starts_is es) ∙ start_at j (areas_named es));
    }

-- ---- what is written for a child has these numbers too
pub words_lines : (rs : List Element) → lines_in (map words_of rs) ≡ total line_one rs
words_lines [] = refl
words_lines (opens ∷ rs) = omega (arith, words_lines rs)
words_lines (bar ∷ rs) = omega (arith, words_lines rs)
words_lines (closes ∷ rs) = omega (arith, words_lines rs)
words_lines (bare ∷ rs) = omega (arith, words_lines rs)
words_lines (named n z ∷ rs) = omega (arith, words_lines rs)
words_lines (segment (drawn (line a b)) ∷ rs) = omega (arith, words_lines rs)
words_lines (segment (drawn (curve a)) ∷ rs) = omega (arith, words_lines rs)
words_lines (segment (shortcut z lo hi) ∷ rs) = omega (arith, words_lines rs)

module _ (D : Drawing) (c : Cell) (ws : List Words) (k : ℕ) where
  pub entries_written : length (words_of_child D c ws k) ≡ weigh elements 1 (stream_of_child D c ws k)
  unfolding elements_made words_made
  entries_written = length-map {B = Words} (elements_of_child D c ws k) words_of ∙ elements_length paint (stream_of_child D c ws k)

  pub lines_written : lines_in (words_of_child D c ws k) ≡ weigh item_lines 0 (stream_of_child D c ws k)
  unfolding elements_made words_made
  lines_written = words_lines (elements_of_child D c ws k) ∙ lines_is paint (stream_of_child D c ws k)

-- ---- after each child's pass
pub worked_right : EachPass
unfolding elements_made
worked_right t areas xs ys b first count c q p m =
    let D = lent areas xs ys b in
    let ws = words_from t first count in
    record {
      passed = λ k h.
          rw (worked_done D c ws q k m h)
          (tallied (stream_of_child D c ws k) (few_starts (env areas xs ys b) D (cell_of_child D c ws k) (lent_reads areas xs ys b) ws p.grammar));
      to_come = worked_rest D c ws q;
    }
