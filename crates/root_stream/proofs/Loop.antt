-- The loop over the records of a drawing.
use mathlib.Core.Path.{◌≡◌, ap, ap₂, subst, ◌∙◌}
use mathlib.Core.List.{List, [], ◌∷◌}
use Prim.Native.Nat.{ℕ, ◌+◌, ◌^◌, ◌≤◌, ◌<◌}
use native.Mathlib.Omega.{arith}
use lib.ListN.{length}
use lib.IntN.{ℤ}
use Rattle.geometry.specs.code.Reach.{SquareIn}
use Rattle.geometry.specs.declared.class.Class.{Class}
use Rattle.geometry.specs.declared.class.Square.{Square}
use Rattle.pruning.specs.code.Pruner.{going}
use Rattle.pruning.specs.code.Counters.{ct, length_of}
use Rattle.pruning.specs.code.Weights.{total}
use Rattle.cells.specs.Cells.{root, square_of}
use Rattle.cells.specs.Drawings.{Drawing}
use Rattle.cells.specs.code.Making.{Making, element_size}
use Rattle.stream.specs.declared.Words.{Words}
use Rattle.stream.specs.Grammar.{Env}
use Rattle.pruner.specs.code.Numbers.{counted}
use Rattle.making.specs.declared.Maker.{Maker}
use Rattle.making.specs.Made.{elements_made}
use Rattle.making.proofs.Turn.{waits_small}
use Rattle.making.specs.code.Numbers.{resting, left_sign, left_class, waiting_n, settled_n, pruned_n, Inside, Asks, weight_in}
use Rattle.making.proofs.Standing.{Standing}
use Rattle.making.proofs.Turn.{standing_weight, standing_base, standing_inside, standing_room, standing_left, standing_sign, standing_next}
use Rattle.making.proofs.Whole.{all_of, standing_begin, weight_end}
use Rattle.root_stream.specs.declared.Source.{Source}
use Rattle.root_stream.specs.code.Numbers.{source_at, kind_n, stride_n, entry_n, after_n}
use Rattle.root_stream.proofs.Ahead.{stride_some, Ahead, Goes, ahead_next, ahead_none}
use Rattle.root_stream.proofs.Base.{Base}

-- the square of side 65,536 at (0, 0)
pub root_in : SquareIn (square_of root)
root_in = record { some_side = omega arith; right = omega arith; top = omega arith }

-- the records from record i on are to come
pub record Looping (v : Env) (D : Drawing) (plan : List ℕ) (records : ℕ) (all : List Words) (i : ℕ) (s : Source) (m : Maker) : Type 0 where
  pub ws : List Words
  pub ahead : Ahead plan records i s ws
  -- how many entries came before: at most one for each record
  pub done : ℕ
  pub early : done ≤ i
  pub standing : Standing v D root done m.pruner m.waiting ws (all_of D root all)

-- no area or corner is over its limit
pub source_few : (plan : List ℕ) (records i : ℕ) (s : Source) (ws : List Words) → Ahead plan records i s ws → (s.area ≤ 64) × (s.corner ≤ 2048)
source_few plan records i s ws a = (omega (arith, a.few_areas), omega (arith, a.few_corners))

-- the entry of a record, from the kinds that were read
pub read_entry : (s : Source) {w : Words} {kind behind k b : ℕ} → w ≡ entry_n s kind behind → kind ≡ k → behind ≡ b → w ≡ entry_n s k b
read_entry s e x y = e ∙ ap₂ (entry_n s) x y

module _ (v : Env) (D : Drawing) (plan : List ℕ) (records : ℕ) (all : List Words) (B : Base v D plan records all) where
  pub loop_begin : (s : Source) (m : Maker)
      → s ≡ source_at 0 0 0
      → counted m.pruner ≡ ct 0 0 going []
      → m.waiting ≡ resting
      → Looping v D plan records all 0 s m
  loop_begin s m x e f =
      record {
        ws = all;
        ahead = rw x B.begin;
        done = 0;
        early = omega arith;
        standing = standing_begin v D root B.reads all B.grammar m.pruner m.waiting e f;
      }

  -- where record i is to come
  module _ (i : ℕ) (s : Source) (m : Maker) (l : Looping v D plan records all i s m) (h : i < records) where
    abbrev kind : ℕ
    kind = kind_n plan records i

    abbrev behind : ℕ
    behind = kind_n plan records (i + 1)

    next : Goes plan records i s l.ws
    next = ahead_next plan records i s l.ws l.ahead h

    here : Standing v D root l.done m.pruner m.waiting (entry_n s kind behind ∷ next.0) (all_of D root all)
    here = subst (λ (ws : List Words). Standing v D root l.done m.pruner m.waiting ws (all_of D root all)) next.1 l.standing

    few : l.done ≤ 4096
    few = omega (arith, B.few, l.early)

    -- what the next entry asks of the code
    pub loop_asks : (w : Words) → w ≡ entry_n s kind behind → Asks v m w
    loop_asks w e =
        let all : Making = all_of D root all in
        let s : Standing v D root l.done m.pruner m.waiting (w ∷ next.0) all = rw e here in
        let room = standing_room v D root B.reads l.done m.pruner m.waiting all w next.0 s few in
        let inside = standing_inside v D root B.reads l.done m.pruner m.waiting all (w ∷ next.0) few B.ready.areas s in
        record {
          xs = B.ready.xs;
          ys = B.ready.ys;
          inside = inside;
          room = room;
          left = standing_left v D root B.reads l.done m.pruner m.waiting all w next.0 s;
          sign = standing_sign v D root B.reads l.done m.pruner m.waiting all w next.0 s;
          small = waits_small (length v.areas) m.waiting inside;
          light = omega (arith, room.weight);
        }

    pub loop_turn : (n : Maker) (w : Words) (q : Square) (f : Class) (z : ℤ) (s' : Source) (j : ℕ)
        → w ≡ entry_n s kind behind
        → w.q < 4294967296
        → q ≡ square_of root
        → f ≡ left_class v.xs v.ys q w
        → z ≡ left_sign v.xs v.ys w
        → counted n.pruner ≡ pruned_n v.areas (counted m.pruner) m.waiting w.kind
        → n.waiting ≡ waiting_n m.waiting f z w
        → s' ≡ after_n s kind behind
        → j ≡ i + stride_n behind
        → Looping v D plan records all j s' n
    loop_turn n w q f z s' j e b g x y hp ha hs hj =
        let now : Standing v D root l.done m.pruner m.waiting (w ∷ next.0) (all_of D root all) = rw e here in
        record {
          ws = next.0;
          ahead = rw (hs, hj) next.2;
          done = l.done + 1;
          early = omega (arith, l.early, stride_some behind, hj);
          standing = standing_next v D root B.reads l.done m.pruner m.waiting (all_of D root all) w next.0 now n.pruner
              n.waiting hp
              (ha
              ∙ (ap (λ (d : Class). waiting_n m.waiting d z w) (x ∙ ap (λ (r : Square). left_class v.xs v.ys r w) g)
              ∙ ap (λ (y : ℤ). waiting_n m.waiting (left_class v.xs v.ys (square_of root) w) y w) y))
              b;
        }

  -- where none is left
  module _ (i : ℕ) (s : Source) (m : Maker) (l : Looping v D plan records all i s m) (h : records ≤ i) where
    none : Standing v D root l.done m.pruner m.waiting [] (all_of D root all)
    none =
        subst (λ (ws : List Words). Standing v D root l.done m.pruner m.waiting ws (all_of D root all))
        (ahead_none plan records i s l.ws l.ahead h) l.standing

    few_end : l.done ≤ 4096
    few_end = omega (arith, B.few, l.early, l.ahead.whole)

    pub end_inside : Inside (length v.areas) m.waiting
    end_inside = standing_inside v D root B.reads l.done m.pruner m.waiting (all_of D root all) [] few_end B.ready.areas none

    pub end_room : (m.pruner.weight + weight_in m.waiting < 2 ^ 60) × (m.pruner.base < 2 ^ 60)
    end_room = (
      omega (arith, standing_weight v D root B.reads l.done m.pruner m.waiting (all_of D root all) [] none, few_end),
      omega (arith, standing_base v D root B.reads l.done m.pruner m.waiting (all_of D root all) [] none, few_end),
    )

    pub end_weight : length_of (settled_n v.areas (counted m.pruner) m.waiting) ≡ total element_size (elements_made D root all)
    end_weight = weight_end v D root B.reads all B.grammar l.done m.pruner m.waiting none
