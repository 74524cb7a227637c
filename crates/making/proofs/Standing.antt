-- Where a making stands in a stream that passes the check: the numbers follow the elements, the frames are the open groups, and what is left leads to
-- the whole.
use mathlib.Core.Path.{◌≡◌, refl, sym, ap, subst}
use mathlib.Core.Bool.{Bool, true, false, cond}
use mathlib.Core.List.{List, [], ◌∷◌}
use Prim.Native.Nat.{ℕ, ◌≤◌, ◌<◌}
use lib.ListN.{length}
use Rattle.std.specs.Prelude.{Option}
use Rattle.laws.proofs.Booleans.{clash}
use Rattle.geometry.specs.Edges.{sign}
use Rattle.geometry.specs.Windings.{Line, edge_of}
use Rattle.geometry.specs.Classes.{edge_class}
use Rattle.geometry.specs.code.Reach.{LineBelow}
use Rattle.geometry.specs.declared.class.Square.{Square}
use Rattle.geometry.specs.declared.edge.Edge.{Edge}
use Rattle.groups.specs.Sides.{Frame, paint_left, paint_right, clip_left, clip_right, is_paint, on_left, on_right, opening, to_right, to_outer}
use Rattle.pruning.specs.Sides.{paint, clip, Entry, item, push, activate, pop}
use Rattle.pruning.specs.code.Pruner as Pruning
use Rattle.pruning.specs.code.Counters.{Count, count_step}
use Rattle.pruning.specs.code.Weights.{total, weighed}
use Rattle.pruning.proofs.Counters.{Fit, count}
use Rattle.pruning.proofs.Bounded.{Tracks, tracks_item, tracks_push, tracks_activate, tracks_pop}
use Rattle.pruning.proofs.Weights.{step_weighs}
use Rattle.cells.specs.Cells.{Cell}
use Rattle.cells.specs.Segments.{Segment, drawn, shortcut, sign_of, class_on}
use Rattle.cells.specs.Drawings.{Drawing}
use Rattle.cells.specs.Streams.{Item, always, area, items}
use Rattle.cells.specs.Elements.{Element, entry_elements, role_in}
use Rattle.cells.specs.code.Making.{nothing, held, Making, making, prune, settle, on_elements, element_size}
use Rattle.cells.proofs.Making.{entry_some}
use Rattle.stream.specs.declared.Words.{Words}
use Rattle.stream.specs.Entry.{decode}
use Rattle.stream.specs.Grammar.{Env, Place, at, course, is_whole}
use Rattle.pruner.specs.declared.Pruner.{Pruner}
use Rattle.evaluate.specs.Reading.{element_for, elements_in}
use Rattle.evaluate.specs.Words.{Agrees}
use Rattle.ranges.proofs.Groups.{opens}
use Rattle.evaluate.proofs.Laws.{element_segment}
use Rattle.making.specs.declared.Waiting.{Waiting}
use Rattle.making.proofs.Laws.{by_kind, SegmentBelow}
use Rattle.making.proofs.Follows.{state_of, element_some, Follows}

-- the tables say of their areas and corners what the drawing says
pub record Reads (v : Env) (D : Drawing) : Type 0 where
  pub fields : length D.fields ≡ v.used.areas
  pub agrees : (n : ℕ) → n < length D.fields → Agrees v.areas D n
  pub edges : (l : Line) → LineBelow v.used.corners l → edge_of D.xs D.ys l ≡ edge_of v.xs v.ys l

-- a line, a curve or a shortcut has the same sign and class by both
module _ (v : Env) (D : Drawing) (R : Reads v D) where
  pub sign_same : (g : Segment) → SegmentBelow v.used.corners g → sign_of D.xs D.ys g ≡ sign_of v.xs v.ys g
  sign_same (drawn l) h = ap sign (R.edges l h)
  sign_same (shortcut z lo hi) h = refl

  pub class_same : (s : Square) (g : Segment) → SegmentBelow v.used.corners g → class_on D.xs D.ys s g ≡ class_on v.xs v.ys s g
  class_same s (drawn l) h = ap (λ (e : Edge). edge_class e s) (R.edges l h)
  class_same s (shortcut z lo hi) h = refl

-- after k entries, with ws to come
pub record Standing (v : Env) (D : Drawing) (c : Cell) (k : ℕ) (p : Pruner) (a : Option Waiting) (ws : List Words) (whole : Making) : Type 0 where
  pub elements : Making
  pub place : Place
  pub follows : Follows D k p a elements
  pub tracks : Tracks (weighed element_size (state_of elements)) (opens place.groups)
  pub few : length place.groups ≤ 8
  pub rest : is_whole (course v (at place) ws) ≡ true
  pub ahead : on_elements D c (elements_in ws) elements ≡ whole

-- one entry, then the others
pub one_then : (D : Drawing) (c : Cell) (w : Words) (ws : List Element) (m : Making)
    → on_elements D c ws (on_elements D c (element_for (decode w) []) m) ≡ on_elements D c (element_for (decode w) ws) m
one_then D c w ws m =
    by_kind w (λ e. on_elements D c ws (on_elements D c (element_for e []) m) ≡ on_elements D c (element_for e ws) m) (λ e. refl) (λ e. refl) (λ e. refl)
    (λ e. refl)
    (λ s. rw (element_segment w [] s, element_segment w ws s)) (λ e. refl) refl

-- ---- the frames are the open groups
module _ (D : Drawing) (c : Cell) where
  abbrev Fitted : Pruning.State Element → Type 0
  Fitted x = Fit (count (items D) Element entry_elements entry_some x)

  -- one entry more in the pruner, by its counters
  stepped : (P : Count → Type 0) (x : Pruning.State Element) (e : Entry Item)
      → Fitted x
      → P (count_step (items D) (λ e. total element_size (entry_elements e)) (weighed element_size x) e)
      → P (weighed element_size (prune D c x e))
  stepped P x e f h = subst P (sym (step_weighs element_size element_some (items D) entry_elements entry_some x e f)) h

  pub settle_tracks : (m : Making) (fs : List Frame)
      → Fitted (state_of m)
      → Tracks (weighed element_size (state_of m)) (opens fs)
      → Tracks (weighed element_size (settle D c m)) (opens fs)
  settle_tracks (making x nothing) fs f t = t
  settle_tracks (making x (held n z gs)) fs f t =
      stepped (λ (k : Count). Tracks k (opens fs)) x (item (role_in D n) (area n z gs)) f
      (tracks_item (items D) (λ e. total element_size (entry_elements e)) (weighed element_size x) (role_in D n) (area n z gs) (opens fs) t)

  pub item_tracks : (x : Pruning.State Element) (fs : List Frame)
      → Fitted x
      → Tracks (weighed element_size x) (opens fs)
      → Tracks (weighed element_size (prune D c x (item clip always))) (opens fs)
  item_tracks x fs f t =
      stepped (λ (k : Count). Tracks k (opens fs)) x (item clip always) f
      (tracks_item (items D) (λ e. total element_size (entry_elements e)) (weighed element_size x) clip always (opens fs) t)

  pub open_tracks : (x : Pruning.State Element) (fs : List Frame)
      → Fitted x
      → Tracks (weighed element_size x) (opens fs)
      → Tracks (weighed element_size (prune D c x push)) (opens (opening fs))
  open_tracks x fs f t = go (is_paint fs)
    where
      go : (b : Bool) → Tracks (weighed element_size (prune D c x push)) (opens (cond b paint_left clip_left ∷ fs))
      go true =
          stepped (λ (k : Count). Tracks k (opens (paint_left ∷ fs))) x push f
          (tracks_push (items D) (λ e. total element_size (entry_elements e)) (weighed element_size x) paint (opens fs) t)
      go false =
          stepped (λ (k : Count). Tracks k (opens (clip_left ∷ fs))) x push f
          (tracks_push (items D) (λ e. total element_size (entry_elements e)) (weighed element_size x) clip (opens fs) t)

  pub bar_tracks : (x : Pruning.State Element) (fs : List Frame)
      → on_left fs ≡ true
      → Fitted x
      → Tracks (weighed element_size x) (opens fs)
      → Tracks (weighed element_size (prune D c x activate)) (opens (to_right fs))
  bar_tracks x [] h f t = clash h
  bar_tracks x (paint_left ∷ fs) h f t =
      stepped (λ (k : Count). Tracks k (opens (paint_right ∷ fs))) x activate f
      (tracks_activate (items D) (λ e. total element_size (entry_elements e)) (weighed element_size x) paint (opens fs) t)
  bar_tracks x (paint_right ∷ fs) h f t = clash h
  bar_tracks x (clip_left ∷ fs) h f t =
      stepped (λ (k : Count). Tracks k (opens (clip_right ∷ fs))) x activate f
      (tracks_activate (items D) (λ e. total element_size (entry_elements e)) (weighed element_size x) clip (opens fs) t)
  bar_tracks x (clip_right ∷ fs) h f t = clash h

  pub close_tracks : (x : Pruning.State Element) (fs : List Frame)
      → on_right fs ≡ true
      → Fitted x
      → Tracks (weighed element_size x) (opens fs)
      → Tracks (weighed element_size (prune D c x pop)) (opens (to_outer fs))
  close_tracks x [] h f t = clash h
  close_tracks x (paint_left ∷ fs) h f t = clash h
  close_tracks x (paint_right ∷ fs) h f t =
      stepped (λ (k : Count). Tracks k (opens fs)) x pop f
      (tracks_pop (items D) (λ e. total element_size (entry_elements e)) (weighed element_size x) paint (opens fs) t)
  close_tracks x (clip_left ∷ fs) h f t = clash h
  close_tracks x (clip_right ∷ fs) h f t =
      stepped (λ (k : Count). Tracks k (opens fs)) x pop f
      (tracks_pop (items D) (λ e. total element_size (entry_elements e)) (weighed element_size x) clip (opens fs) t)
