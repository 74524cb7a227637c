-- One entry more of a stream that passes the check is written.
use mathlib.Core.Path.{◌≡◌, refl, sym, ap, subst, ◌∙◌}
use mathlib.Core.Bool.{Bool, true, false, cond}
use mathlib.Core.List.{List, [], ◌∷◌}
use Prim.Native.Nat.{ℕ, ◌+◌, ◌*◌, ◌≤◌, ◌<◌}
use native.Mathlib.Omega.{arith}
use lib.Dec.{eqb, ltb}
use lib.ListN.{length}
use borrow.Author.Tests.{le-ltb}
use lib.IntN.{ℤ}
use mir.Syntax.{w32}
use mir.Val.{to_z}
use Rattle.laws.proofs.Booleans.{clash}
use Rattle.geometry.specs.declared.class.Class.{Class}
use Rattle.geometry.specs.declared.class.Class.TheVariants.{Kept}
use Rattle.pruning.specs.Sides.{clip, item, push, activate, pop}
use Rattle.pruning.specs.code.Pruner as Pruning
use Rattle.pruning.specs.code.Pruner.{st, going, shut}
use Rattle.pruning.specs.code.Counters.{length_of}
use Rattle.pruning.specs.code.Effects.{out_of}
use Rattle.pruning.specs.code.Weights.{total, weighed}
use Rattle.cells.specs.Cells.{Cell, square_of}
use Rattle.cells.specs.Segments.{drawn, shortcut, sign_of, class_on, class_in}
use Rattle.cells.specs.Drawings.{Drawing}
use Rattle.cells.specs.Streams.{always}
use Rattle.cells.specs.Elements as Elements
use Rattle.cells.specs.Elements.{Element}
use Rattle.cells.specs.code.Making.{nothing, Making, making, prune, settle, on_elements, element_size}
use Rattle.stream.specs.declared.Words.{Words}
use Rattle.stream.specs.Entry as Entries
use Rattle.stream.specs.Entry.{decode, is_line, is_segment}
use Rattle.stream.specs.Grammar.{Env}
use Rattle.pruner.specs.code.Numbers.{counted, skip_in, base_of}
use Rattle.pruner.proofs.Near.{counted_weight}
use Rattle.evaluate.specs.Reading.{element_for}
use Rattle.evaluate.specs.Words.{words, words_of}
use Rattle.evaluate.specs.code.Numbers.{line_of, segment_of}
use Rattle.evaluate.proofs.Laws.{element_segment, in_segment}
use Rattle.making.specs.declared.Maker.{Maker}
use Rattle.making.specs.code.Numbers.{left_sign, left_class, waiting_n, settled_n, pruned_n}
use Rattle.making.proofs.Laws.{by_kind, SegmentBelow, range_below}
use Rattle.making.proofs.Follows.{state_of, settle_counts, settle_fits, settle_short, kept_weight}
use Rattle.making.proofs.Grammar.{Passes, one_passes}
use Rattle.making.proofs.Standing.{Reads, sign_same, class_same, Standing}
use Rattle.making.proofs.Turn.{standing_elements, weight_is}
use Rattle.writing.specs.code.Numbers.{put_below, place_of, segment_put, settled_put, one_put}
use Rattle.writing.proofs.Agree.{Agree}
use Rattle.writing.proofs.Same.{same_settled, same_one}
use Rattle.writing.proofs.Places.{Moves, open_moves, bar_moves, close_moves}
use Rattle.writing.proofs.Written.{going_is, Writes, mark_agrees, bare_agrees, settle_agrees, segment_writes}

-- what is made so far stands in the table t, which has as many entries as are made in the end
pub record Writing (v : Env) (D : Drawing) (c : Cell) (k : ℕ) (mk : Maker) (ws : List Words) (whole : Making) (limit : ℕ) (t : List ℕ) : Type 0 where
  pub standing : Standing v D c k mk.pruner mk.waiting ws whole
  pub writes : Writes limit t standing.elements
  pub size : length t ≡ limit * 4

module _ (v : Env) (D : Drawing) (c : Cell) (R : Reads v D) (k : ℕ) (mk : Maker) (whole : Making) (limit : ℕ) (t : List ℕ) (l : k ≤ 4096)
    (w : Words) (ws : List Words) (s : Writing v D c k mk (w ∷ ws) whole limit t) where
  room : limit * 4 ≤ length t
  room = omega (arith, s.size)

  abbrev elements : Making
  elements = s.standing.elements

  abbrev next : Entries.Entry → Making
  next e = on_elements D c (element_for e []) elements

  abbrev areas : List ℕ
  areas = v.areas

  -- what is kept is a line
  kept_line : class_in D.xs D.ys c (segment_of w) ≡ Kept → segment_of w ≡ drawn (line_of w)
  kept_line = go (is_line w.kind)
    where
      go : (b : Bool)
          → class_in D.xs D.ys c (cond b (drawn (line_of w)) (shortcut (to_z w32 w.p) w.q w.r)) ≡ Kept
          → cond b (drawn (line_of w)) (shortcut (to_z w32 w.p) w.q w.r) ≡ drawn (line_of w)
      go true e = refl
      go false e =
          let n : ◌≡◌ {A = ℕ} 1 65537 = kept_weight areas D c R.agrees (shortcut (to_z w32 w.p) w.q w.r) e in absurd (omega arith)

  -- after the area that waits
  abbrev settled : List ℕ
  settled = settled_put areas t mk

  stands : Agree limit settled 0 (out_of (settle D c elements))
  stands = settle_agrees limit areas D c R.agrees k mk elements t l room s.standing.follows s.writes

  roomy : limit * 4 ≤ length settled
  roomy = omega (arith, room, same_settled areas t mk)

  small : length (out_of (settle D c elements)) < 65536
  small = omega (arith, settle_short areas D c R.agrees k mk.pruner mk.waiting elements s.standing.follows, l)

  counts : settled_n areas (counted mk.pruner) mk.waiting ≡ weighed element_size (settle D c elements)
  counts = settle_counts areas D c R.agrees k mk.pruner mk.waiting elements s.standing.follows

  resting : (u : List ℕ) (x : Pruning.State Element) → Agree limit u 0 (out_of x) → Writes limit u (making x nothing)
  resting u x a = record { done = a; behind = λ e. tt }

  marked : (kind n : ℕ) (r : Element) (x : Pruning.State Element) (u : List ℕ)
      → words_of r ≡ words kind 0 0 0
      → element_size r ≡ 1
      → Moves (out_of (settle D c elements)) r (out_of x)
      → n ≡ total element_size (out_of x)
      → u
      ≡ cond (ltb (length_of (settled_n areas (counted mk.pruner) mk.waiting)) n)
      (put_below settled (place_of (length_of (settled_n areas (counted mk.pruner) mk.waiting))) (words kind 0 0 0)) settled
      → Writes limit u (making x nothing)
  marked kind n r x u e z m h g = resting u x (rw (g, counts, h) (mark_agrees limit settled (settle D c elements) r kind (out_of x) e z roomy small m stands))

  module _ (u : List ℕ) (n : ℕ) (f : Class) (z : ℤ) (hf : f ≡ left_class v.xs v.ys (square_of c) w)
      (hz : z ≡ left_sign v.xs v.ys w) (hu : u ≡ one_put areas t mk f z w n) where
    on_open : w.kind ≡ 1 → n ≡ total element_size (out_of (state_of (next Entries.opens))) → Writes limit u (next Entries.opens)
    on_open e h = marked 1 n Elements.opens (prune D c (settle D c elements) push) u refl refl (open_moves D c (settle D c elements)) h (rw e at hu)

    on_bar : w.kind ≡ 2 → n ≡ total element_size (out_of (state_of (next Entries.bar))) → Writes limit u (next Entries.bar)
    on_bar e h = marked 2 n Elements.bar (prune D c (settle D c elements) activate) u refl refl (bar_moves D c (settle D c elements)) h (rw e at hu)

    on_close : w.kind ≡ 3 → n ≡ total element_size (out_of (state_of (next Entries.closes))) → Writes limit u (next Entries.closes)
    on_close e h = marked 3 n Elements.closes (prune D c (settle D c elements) pop) u refl refl (close_moves D c (settle D c elements)) h (rw e at hu)

    on_passes : w.kind ≡ 7 → Writes limit u (next Entries.passes)
    on_passes e =
        let g : u
        ≡ cond (eqb (skip_in (settled_n areas (counted mk.pruner) mk.waiting)) 0)
        (put_below settled (place_of (base_of (settled_n areas (counted mk.pruner) mk.waiting))) (words 7 0 0 0)) settled =
        rw e at hu in
        resting u (prune D c (settle D c elements) (item clip always))
        (rw (g, counts, going_is (settle D c elements))
        (bare_agrees limit settled D c (settle D c elements)
        (settle_fits areas D c R.agrees k mk.pruner mk.waiting elements s.standing.follows) roomy small stands))

    on_area : w.kind ≡ 4 → n ≡ total element_size (out_of (settle D c elements)) → Writes limit u (next (Entries.area w.p w.q))
    on_area e h =
        let g : u
        ≡ cond (ltb (length_of (settled_n areas (counted mk.pruner) mk.waiting)) n)
        (put_below settled (place_of (length_of (settled_n areas (counted mk.pruner) mk.waiting))) (words 4 0 0 0)) settled =
        rw e at hu in
        record {
          done = rw (
            g,
            counts,
            h,
            weight_is (settle D c elements),
            le-ltb (total element_size (out_of (settle D c elements))) (total element_size (out_of (settle D c elements))) (omega arith),
          )
              stands;
          behind = λ q. tt;
        }

    -- a line, a curve or a shortcut
    on_segment : is_segment w.kind ≡ true → Passes v s.standing.place (decode w) ws → Writes limit u (next (decode w))
    on_segment e h =
        let g = segment_of w in
        let b : SegmentBelow v.used.corners g = range_below v.xs v.ys v.used.corners w (in_segment v w e h.range) in
        let x : f ≡ class_on v.xs v.ys (square_of c) g = rw e at hf in
        let y : z ≡ sign_of v.xs v.ys g = rw e at hz in
        let q : u ≡ segment_put t mk f z w = rw e at hu in
        rw (element_segment w [] e, q, x, y, ← sign_same v D R g b, ← class_same v D R (square_of c) g b)
        (segment_writes limit areas D c R.agrees k mk elements t g w l room kept_line s.standing.follows s.writes)

    pub writing_next : (nk : Maker)
        → n ≡ nk.pruner.weight
        → w.q < 4294967296
        → counted nk.pruner ≡ pruned_n areas (counted mk.pruner) mk.waiting w.kind
        → nk.waiting ≡ waiting_n mk.waiting f z w
        → Writing v D c (k + 1) nk ws whole limit u
    writing_next nk hn q hp ha =
        let x = standing_elements v D c R k mk.pruner mk.waiting whole w ws s.standing nk.pruner nk.waiting hp (rw (← hf, ← hz) ha) q in
        let m : n ≡ total element_size (out_of (state_of (next (decode w)))) = hn
        ∙ (sym (counted_weight nk.pruner)
        ∙ (ap length_of x.0.follows.counts
        ∙ (weight_is (state_of x.0.elements) ∙ ap (λ (y : Making). total element_size (out_of (state_of y))) x.1))) in
        let y : Writes limit u (next (decode w)) = by_kind w
        (λ e. Passes v s.standing.place e ws → n ≡ total element_size (out_of (state_of (next e))) → Writes limit u (next e))
        (λ e h a. on_open e a) (λ e h a. on_bar e a) (λ e h a. on_close e a) (λ e h a. on_area e a) (λ e h a. on_segment e h)
        (λ e h a. on_passes e) (λ h a. clash h.range)
        (one_passes v s.standing.place w ws s.standing.rest) m in
        record {
          standing = x.0;
          writes = subst (λ (y : Making). Writes limit u y) (sym x.1) y;
          size = ap length hu ∙ (same_one areas t mk f z w n ∙ s.size);
        }
