-- "Tables that pass 12 but were written by others are read for what they say": the shown set of a stream that passes, whoever wrote it, is by "Winding and
-- meaning" over that stream.
use mathlib.Core.Path.{◌≡◌, refl, sym, ap, ◌∙◌}
use mathlib.Core.Bool.{true, false, cond}
use mathlib.Core.List.{List, [], ◌∷◌}
use Prim.Native.Nat.{ℕ, ◌<◌}
use native.Mathlib.Omega.{arith}
use lib.IntN.{pos}
use Rattle.laws.proofs.Booleans.{clash}
use Rattle.geometry.specs.Edges.{counts, sign}
use Rattle.geometry.specs.declared.edge.Edge.{Edge}
use Rattle.paint.specs.Sets.{set_of}
use Rattle.cells.specs.Cells as Cells
use Rattle.cells.specs.Segments.{Segment, drawn, shortcut, adds_at}
use Rattle.cells.specs.Drawings.{Drawing}
use Rattle.cells.specs.Streams.{shown_in}
use Rattle.cells.specs.Elements.{Element, stream_of, role_in}
use Rattle.cells.proofs.Elements.{side_read}
use Rattle.stream.specs.declared.Words.{Words}
use Rattle.stream.specs.declared.Bounds.{Bounds}
use Rattle.stream.specs.Entry as Entries
use Rattle.stream.specs.Entry.{start_range}
use Rattle.stream.specs.Grammar as Stream
use Rattle.records.specs.Record.{is_good}
use Rattle.stream.specs.Grammar.{Env, env, Place, at, area_met, after, course, is_whole, accepts}
use Rattle.evaluate.specs.Reading.{element_for, elements_in, role_at, pass_at, opaque_at, set_at}
use Rattle.evaluate.specs.Words.{EachAgrees}
use Rattle.evaluate.specs.code.Numbers.{segment_of}
use Rattle.evaluate.proofs.Laws.{both, area_below, element_segment, in_segment}
use Rattle.evaluate.proofs.Words.{agreed_read}
use Rattle.ranges.specs.Held.{lent}
use Rattle.ranges.proofs.Reading.{SameOn, read_same}
use Rattle.making.proofs.Laws.{by_kind, SegmentBelow, range_below}
use Rattle.making.proofs.Grammar.{one_passes, entries_flat}
use Rattle.making.proofs.Standing.{Reads}
use Rattle.making.proofs.Lent.{lent_reads}

module _ (v : Env) (D : Drawing) (R : Reads v D) (x y : ℕ) where
  -- the tables and the drawing agree on the areas, lines, curves and shortcuts of elements
  abbrev Same : List Element → Type 0
  Same ws =
      EachAgrees v.areas D ws
      × SameOn (role_at v.areas) (pass_at v.areas) (opaque_at v.areas) (adds_at v.xs v.ys (Cells.at x y))
      (adds_at D.xs D.ys (Cells.at x y)) ws

  adds_same : (g : Segment) → SegmentBelow v.used.corners g → adds_at v.xs v.ys (Cells.at x y) g ≡ adds_at D.xs D.ys (Cells.at x y) g
  adds_same (drawn l) h = ap (λ (e : Edge). cond (counts e x y) (sign e) (pos 0)) (sym (R.edges l h))
  adds_same (shortcut z lo hi) h = refl

  one_same : (w : Words) (ws : List Element) → Stream.in_range v (Entries.decode w) ≡ true → Same ws → Same (element_for (Entries.decode w) ws)
  one_same w ws =
      by_kind w (λ e. Stream.in_range v e ≡ true → Same ws → Same (element_for e ws)) (λ e h s. s) (λ e h s. s) (λ e h s. s)
      (λ e h s. ((R.agrees w.p (omega (arith, R.fields, below h)), s.0), s.1))
      (λ k h s. rw (element_segment w ws k)
      (s.0, (adds_same (segment_of w) (range_below v.xs v.ys v.used.corners w (in_segment v w k h)), s.1)))
      (λ e h s. s) (λ h s. clash h)
    where
      below : Stream.in_range v (Entries.area w.p w.q) ≡ true → w.p < v.used.areas
      below h = area_below v.areas v.used.areas w.p (both (is_good (area_met v w.p)) (start_range w.q) h).0

  all_same : (ws : List Words) (p : Place) → is_whole (course v (at p) ws) ≡ true → Same (elements_in ws)
  unfolding course elements_in
  all_same [] p h = (tt, tt)
  all_same (w ∷ ws) p h =
      let q = one_passes v p w ws h in
      one_same w (elements_in ws) q.range (all_same ws (after p (Entries.decode w)) q.rest)

  -- of tables that say of their areas and corners what a drawing says
  pub accepted_meaning : (ws : List Words)
      → accepts v ws ≡ true
      → set_at v.areas v.xs v.ys x y ws ≡ set_of (shown_in D (Cells.at x y) (stream_of (role_in D) (elements_in ws)))
  unfolding accepts set_at
  accepted_meaning ws h =
      let s = all_same ws (Stream.place [] false 0 0) h in
      read_same (role_at v.areas) (pass_at v.areas) (opaque_at v.areas) (adds_at v.xs v.ys (Cells.at x y))
      (adds_at D.xs D.ys (Cells.at x y)) (elements_in ws) s.1
      ∙ (agreed_read v.areas D (Cells.at x y) (elements_in ws) s.0
      ∙ side_read D (Cells.at x y) (elements_in ws) (stream_of (role_in D) (elements_in ws))
      (entries_flat v (role_in D) (λ n l. (R.agrees n (omega (arith, R.fields))).role) ws h))

-- the drawing is that of the lent tables: the areas and corners in use
pub lent_meaning : (areas xs ys : List ℕ) (b : Bounds) (x y : ℕ) (ws : List Words) → accepts (env areas xs ys b) ws ≡ true
    → set_at areas xs ys x y ws ≡ set_of (shown_in (lent areas xs ys b) (Cells.at x y) (stream_of (role_in (lent areas xs ys b)) (elements_in ws)))
lent_meaning areas xs ys b x y ws h = accepted_meaning (env areas xs ys b) (lent areas xs ys b) (lent_reads areas xs ys b) x y ws h
