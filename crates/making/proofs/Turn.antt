-- One entry more of a stream that passes the check: what the code asks holds, and the making stands one entry further.
use mathlib.Core.Path.{◌≡◌, refl, sym, ap, ◌∙◌}
use mathlib.Core.Bool.{true}
use mathlib.Core.List.{List, [], ◌∷◌, map}
use Prim.Native.Nat.{ℕ, ◌+◌, ◌*◌, ◌≤◌, ◌<◌}
use native.Mathlib.Omega.{arith}
use lib.ListN.{length, take, take-append-drop, drop, length-map}
use lib.IntN.{nat_abs}
use mir.Syntax.{w32}
use mir.Val.{to_z}
use borrow.Author.Tests.{ltb-true}
use Rattle.laws.proofs.Booleans.{clash}
use Rattle.groups.specs.Sides.{Frame, paint_left, paint_right, clip_left, clip_right, to_right, to_outer}
use Rattle.pruning.specs.Sides.{clip, Entry, item, push, activate, pop}
use Rattle.pruning.specs.Items as Items
use Rattle.pruning.specs.code.Pruner as Pruning
use Rattle.pruning.specs.code.Pruner.{st, going, shut}
use Rattle.pruning.specs.code.Counters.{Count, ct, length_of, opened, count_step}
use Rattle.pruning.specs.code.Effects.{out_of}
use Rattle.pruning.specs.code.Weights.{total, before, weighed, sized, sized_items, size_of}
use Rattle.pruning.proofs.Counters.{Fit, count}
use Rattle.pruning.proofs.Bounded.{Tracks, frames, tracks_length, tracks_opened}
use Rattle.pruning.proofs.Weights.{total_append, as_sized, sized_step}
use Rattle.cells.specs.Cells.{Cell, square_of}
use Rattle.cells.specs.Segments.{Segment, sign_of, class_on, class_in}
use Rattle.cells.specs.Drawings.{Drawing}
use Rattle.cells.specs.Streams.{Item, always, items}
use Rattle.cells.specs.Elements.{Element, segment, entry_elements}
use Rattle.cells.specs.code.Making.{Waiting, nothing, held, Making, making, prune, settle, add_to, on_elements, element_size}
use Rattle.stream.specs.declared.Words.{Words}
use Rattle.stream.specs.Entry as Entries
use Rattle.stream.specs.Entry.{decode, is_segment, start_range}
use Rattle.records.specs.Record.{is_good}
use Rattle.stream.specs.Grammar.{Env, after, in_range, area_met}
use Rattle.pruner.specs.declared.Pruner.{Pruner}
use Rattle.std.specs.Prelude.{Option, Some, None}
use Rattle.pruner.specs.code.Numbers.{counted, base_of, skip_of, skip_number, skip_in}
use Rattle.pruner.proofs.Near.{counted_weight, counted_base, counted_skip, counted_depth}
use Rattle.evaluate.specs.Reading.{element_for, elements_in}
use Rattle.evaluate.specs.code.Numbers.{segment_of}
use Rattle.evaluate.proofs.Laws.{both, area_below, start_small, element_segment, in_segment}
use Rattle.ranges.proofs.Groups.{opens, opens_length}
use Rattle.making.specs.declared.Waiting as Declared
use Rattle.making.specs.code.Numbers.{left_sign, left_class, left_range, waiting, resting, with_left, waiting_n, start_in, weight_in, settled_n}
use Rattle.making.specs.code.Numbers.{pruned_n, Room, Inside}
use Rattle.cells.proofs.Making.{entry_some}
use Rattle.making.proofs.Laws.{by_kind, after_segment, SegmentBelow, range_below, range_sign, left_small}
use Rattle.making.proofs.Follows.{
  state_of,
  waiting_of,
  waiting_for,
  elements_for,
  WaitsIn,
  element_some,
  Follows,
  total_most,
  settle_fits,
  mark_follows,
  area_follows,
  segment_follows,
}
use Rattle.making.proofs.Grammar.{Passes, one_passes}
use Rattle.making.proofs.Standing.{
  Reads,
  sign_same,
  class_same,
  Standing,
  one_then,
  settle_tracks,
  item_tracks,
  open_tracks,
  bar_tracks,
  close_tracks,
}

-- ---- how large the numbers are

pub before_most : (out : List Element) (b : ℕ) → before element_size out b ≤ total element_size out
before_most out b = omega (arith, total_append element_size (take b out) (drop b out), ap (total element_size) (take-append-drop b out))

base_most : (x : Pruning.State Element) → base_of (weighed element_size x) ≤ total element_size (out_of x)
base_most (st out b w fs) = before_most out b

-- the length of what is weighed is the weight of the elements
pub weight_is : (x : Pruning.State Element) → length_of (weighed element_size x) ≡ total element_size (out_of x)
weight_is (st out b w fs) = refl

skip_most : (c : Count) → skip_in c ≤ opened c + 1
skip_most (ct n b going fs) = omega arith
skip_most (ct n b (shut m) fs) = omega arith

segments_length : (gs : List Segment) → total element_size (map segment gs) ≤ length gs * 4294967297
segments_length gs = omega (arith, total_most (map segment gs), length-map {B = Element} gs segment)

waiting_most : (w : Waiting) → weight_in (waiting_for w) ≤ elements_for w * 4294967297
waiting_most nothing = omega arith
waiting_most (held n z gs) = omega (arith, segments_length gs)

right_length : (fs : List Frame) → length (to_right fs) ≤ length fs
right_length [] = omega arith
right_length (paint_left ∷ fs) = omega arith
right_length (paint_right ∷ fs) = omega arith
right_length (clip_left ∷ fs) = omega arith
right_length (clip_right ∷ fs) = omega arith

outer_length : (fs : List Frame) → length (to_outer fs) ≤ length fs
outer_length [] = omega arith
outer_length (f ∷ fs) = omega arith

-- ---- what the code asks
pub waits_small : (words : ℕ) (a : Option Declared.Waiting) → Inside words a → nat_abs (start_in a) ≤ 8192
waits_small words None h = omega arith
waits_small words (Some a) h = h.small

module _ (v : Env) (D : Drawing) (c : Cell) (R : Reads v D) (k : ℕ) (p : Pruner) (a : Option Declared.Waiting) (whole : Making) where
  pub standing_weight : (ws : List Words) → Standing v D c k p a ws whole → p.weight + weight_in a ≤ k * 4294967297
  standing_weight ws s =
      let f = s.follows in
      omega (
        arith,
        counted_weight p,
        ap length_of f.counts,
        weight_is (state_of s.elements),
        total_most (out_of (state_of s.elements)),
        ap weight_in f.waits,
        waiting_most (waiting_of s.elements),
        f.short,
      )

  pub standing_base : (ws : List Words) → Standing v D c k p a ws whole → p.base ≤ k * 4294967297
  standing_base ws s =
      let f = s.follows in
      omega (arith, counted_base p, ap base_of f.counts, base_most (state_of s.elements), total_most (out_of (state_of s.elements)), f.short)

  pub standing_depth : (ws : List Words) (s : Standing v D c k p a ws whole) → p.depth ≤ length s.place.groups
  standing_depth ws s =
      omega (
        arith,
        counted_depth p,
        ap frames s.follows.counts,
        tracks_length (weighed element_size (state_of s.elements)) (opens s.place.groups) s.tracks,
        opens_length s.place.groups,
      )

  pub standing_skip : (ws : List Words) → Standing v D c k p a ws whole → skip_number (skip_of p.skip) ≤ 9
  standing_skip ws s =
      omega (
        arith,
        counted_skip p,
        ap skip_in s.follows.counts,
        skip_most (weighed element_size (state_of s.elements)),
        tracks_opened (weighed element_size (state_of s.elements)) (opens s.place.groups) s.tracks,
        opens_length s.place.groups,
        s.few,
      )

  pub standing_inside : (ws : List Words) → k ≤ 4096 → v.used.areas * 8 ≤ length v.areas → Standing v D c k p a ws whole → Inside (length v.areas) a
  standing_inside ws l r s = go (waiting_of s.elements) s.follows.waits s.follows.named_in
    where
      go : (w : Waiting) → a ≡ waiting_for w → WaitsIn (length D.fields) k w → Inside (length v.areas) a
      go nothing e h = rw e tt
      go (held n z gs) e h = rw e (record { small = omega (arith, h.1); inside = omega (arith, h.0, R.fields) })

  -- with entry w to come
  module _ (w : Words) (ws : List Words) (s : Standing v D c k p a (w ∷ ws) whole) where
    passes : Passes v s.place (decode w) ws
    passes = one_passes v s.place w ws s.rest

    pub standing_room : k ≤ 4096 → Room p a w.kind
    standing_room l =
        record {
          weight = omega (arith, standing_weight (w ∷ ws) s);
          base = omega (arith, standing_base (w ∷ ws) s);
          skip = omega (arith, standing_skip (w ∷ ws) s);
          depth = omega (arith, standing_depth (w ∷ ws) s, s.few);
          deep = λ e z. omega (arith, standing_depth (w ∷ ws) s, ltb-true (length s.place.groups) 8 (rw e at passes.room));
        }

    pub standing_left : left_range v.xs v.ys v.used.corners w ≡ true
    standing_left =
        by_kind w (λ e. in_range v e ≡ true → left_range v.xs v.ys v.used.corners w ≡ true)
        (λ e r. rw e) (λ e r. rw e) (λ e r. rw e) (λ e r. rw e) (λ e r. rw e (in_segment v w e r)) (λ e r. rw e) (λ r. clash r)
        passes.range

    pub standing_sign : nat_abs (left_sign v.xs v.ys w) ≤ 1
    standing_sign = left_small v.xs v.ys v.used.corners w standing_left

    -- ---- one entry further
    abbrev pub next : Entries.Entry → Making
    next e = on_elements D c (element_for e []) s.elements

    abbrev Next : Pruner → Option Declared.Waiting → Entries.Entry → Type 0
    Next p' a' e =
        Follows D (k + 1) p' a' (next e)
        × Tracks (weighed element_size (state_of (next e))) (opens (after s.place e).groups)
        × (length (after s.place e).groups ≤ 8)

    fitted : Fit (count (items D) Element entry_elements entry_some (settle D c s.elements))
    fitted = settle_fits v.areas D c R.agrees k p a s.elements s.follows

    tracked : Tracks (weighed element_size (settle D c s.elements)) (opens s.place.groups)
    tracked = settle_tracks D c s.elements s.place.groups s.follows.fit s.tracks

    marked : (p' : Pruner) (e : Entry Item)
        → length (entry_elements e) ≡ 1
        → counted p' ≡ count_step (items D) (λ e. total element_size (entry_elements e)) (settled_n v.areas (counted p) a) e
        → Follows D (k + 1) p' resting (making (prune D c (settle D c s.elements) e) nothing)
    marked p' e l h = mark_follows v.areas D c R.agrees k p p' a s.elements e l s.follows h

    sized_is : (k : Count) (e : Entry Item)
        → count_step sized_items size_of k (as_sized element_size element_some (items D) entry_elements entry_some e)
        ≡ count_step (items D) (λ e. total element_size (entry_elements e)) k e
    sized_is k e = sym (sized_step element_size element_some (items D) entry_elements entry_some refl refl refl refl k e)

    module _ (p' : Pruner) (a' : Option Declared.Waiting) (hp : counted p' ≡ pruned_n v.areas (counted p) a w.kind)
        (ha : a' ≡ waiting_n a (left_class v.xs v.ys (square_of c) w) (left_sign v.xs v.ys w) w) where
      abbrev settled : Count
      settled = settled_n v.areas (counted p) a

      on_open : w.kind ≡ 1 → Passes v s.place Entries.opens ws → Next p' a' Entries.opens
      on_open e h =
          let a₁ : a' ≡ resting = rw e at ha in
          let p₁ : counted p' ≡ count_step sized_items size_of settled push = rw e at hp in (
            rw a₁ (marked p' push refl (p₁ ∙ sized_is settled push)),
            open_tracks D c (settle D c s.elements) s.place.groups fitted tracked,
            omega (arith, ltb-true (length s.place.groups) 8 h.room),
          )

      on_bar : w.kind ≡ 2 → Passes v s.place Entries.bar ws → Next p' a' Entries.bar
      on_bar e h =
          let a₁ : a' ≡ resting = rw e at ha in
          let p₁ : counted p' ≡ count_step sized_items size_of settled activate = rw e at hp in (
            rw a₁ (marked p' activate refl (p₁ ∙ sized_is settled activate)),
            bar_tracks D c (settle D c s.elements) s.place.groups h.fit fitted tracked,
            omega (arith, s.few, right_length s.place.groups),
          )

      on_close : w.kind ≡ 3 → Passes v s.place Entries.closes ws → Next p' a' Entries.closes
      on_close e h =
          let a₁ : a' ≡ resting = rw e at ha in
          let p₁ : counted p' ≡ count_step sized_items size_of settled pop = rw e at hp in (
            rw a₁ (marked p' pop refl (p₁ ∙ sized_is settled pop)),
            close_tracks D c (settle D c s.elements) s.place.groups h.fit fitted tracked,
            omega (arith, s.few, outer_length s.place.groups),
          )

      on_passes : w.kind ≡ 7 → Passes v s.place Entries.passes ws → Next p' a' Entries.passes
      on_passes e h =
          let a₁ : a' ≡ resting = rw e at ha in
          let p₁ : counted p' ≡ count_step sized_items size_of settled (item clip (sized Items.passes 1)) = rw e at hp in (
            rw a₁ (marked p' (item clip always) refl (p₁ ∙ sized_is settled (item clip always))),
            item_tracks D c (settle D c s.elements) s.place.groups fitted tracked,
            s.few,
          )

      on_area : w.q < 4294967296 → w.kind ≡ 4 → Passes v s.place (Entries.area w.p w.q) ws → Next p' a' (Entries.area w.p w.q)
      on_area l e h =
          let a₁ : a' ≡ waiting w.p (to_z w32 w.q) 4294967297 = rw e at ha in
          let p₁ : counted p' ≡ settled = rw e at hp in
          let r = both (is_good (area_met v w.p)) (start_range w.q) h.range in
          let n : w.p < length D.fields = omega (arith, R.fields, area_below v.areas v.used.areas w.p r.0) in (
            rw a₁
                (area_follows v.areas D c R.agrees k p p' a s.elements w.p (to_z w32 w.q) n (start_small w.q r.1 l)
                s.follows p₁),
            tracked,
            s.few,
          )

      segment_next : (g : Segment)
          → nat_abs (sign_of D.xs D.ys g) ≤ 1
          → counted p' ≡ counted p
          → a' ≡ with_left a (class_in D.xs D.ys c g) (sign_of D.xs D.ys g)
          → Follows D (k + 1) p' a' (add_to D c g s.elements)
          × Tracks (weighed element_size (state_of (add_to D c g s.elements))) (opens s.place.groups)
          × (length s.place.groups ≤ 8)
      segment_next g z x y = (segment_follows v.areas D c R.agrees k p p' a a' s.elements g z s.follows x y, same s.elements s.tracks, s.few)
        where
          same : (m : Making)
              → Tracks (weighed element_size (state_of m)) (opens s.place.groups)
              → Tracks (weighed element_size (state_of (add_to D c g m))) (opens s.place.groups)
          same (making x nothing) t = t
          same (making x (held n z gs)) t = t

      on_segment : is_segment w.kind ≡ true → Passes v s.place (decode w) ws → Next p' a' (decode w)
      on_segment e h =
          let g = segment_of w in
          let r = in_segment v w e h.range in
          let b : SegmentBelow v.used.corners g = range_below v.xs v.ys v.used.corners w r in
          let a₁ : a' ≡ with_left a (class_on v.xs v.ys (square_of c) g) (sign_of v.xs v.ys g) = rw e at ha in
          rw (element_segment w [] e, after_segment s.place w e)
          (segment_next g (range_sign v.xs v.ys v.used.corners w D.xs D.ys r) (rw e at hp)
          (rw (sign_same v D R g b, class_same v D R (square_of c) g b) a₁))

      -- with the elements that it then has
      pub standing_elements : w.q < 4294967296 → (x : Standing v D c (k + 1) p' a' ws whole) × (x.elements ≡ next (decode w))
      unfolding elements_in
      standing_elements l =
          let n = by_kind w (λ e. Passes v s.place e ws → Next p' a' e) on_open on_bar on_close (on_area l) on_segment on_passes
          (λ h. clash h.range) passes in (
            record {
              elements = next (decode w);
              place = after s.place (decode w);
              follows = n.0;
              tracks = n.1;
              few = n.2;
              rest = passes.rest;
              ahead = one_then D c w (elements_in ws) s.elements ∙ s.ahead;
            },
            refl,
          )

      pub standing_next : w.q < 4294967296 → Standing v D c (k + 1) p' a' ws whole
      standing_next l = (standing_elements l).0
