-- The loop that writes cell 0's stream to a table.
use mathlib.Core.Path.{◌≡◌, refl, sym, ap, subst, ◌∙◌}
use mathlib.Core.List.{List, [], ◌∷◌, ◌++◌, map}
use Prim.Native.Nat.{ℕ, ◌+◌, ◌*◌, ◌≤◌, ◌<◌}
use native.Mathlib.Omega.{arith}
use lib.ListN.{length, drop}
use lib.IntN.{ℤ}
use Rattle.geometry.specs.declared.class.Class.{Class}
use Rattle.geometry.specs.declared.class.Square.{Square}
use Rattle.pruning.specs.code.Pruner.{going}
use Rattle.pruning.specs.code.Counters.{ct}
use Rattle.cells.specs.Cells.{root, square_of}
use Rattle.cells.specs.Drawings.{Drawing}
use Rattle.cells.specs.code.Making.{Making, begun}
use Rattle.drawing.specs.Tables.{Tables}
use Rattle.stream.specs.declared.Words.{Words}
use Rattle.stream.specs.Table.{flat, written}
use Rattle.stream.specs.Grammar.{Env}
use Rattle.stream.proofs.Table.{written_eq}
use Rattle.pruner.specs.code.Numbers.{counted}
use Rattle.evaluate.specs.Words.{words_of}
use Rattle.making.specs.declared.Maker.{Maker}
use Rattle.making.specs.Made.{elements_made, words_made}
use Rattle.making.specs.code.Numbers.{resting, left_sign, left_class, waiting_n, pruned_n}
use Rattle.making.proofs.Whole.{all_of, standing_start}
use Rattle.writing.specs.code.Numbers.{settled_put, one_put}
use Rattle.writing.proofs.Written.{Writes}
use Rattle.writing.proofs.Turn.{Writing, writing_next}
use Rattle.writing.proofs.Whole.{written_end}
use Rattle.root_stream.specs.declared.Source.{Source}
use Rattle.root_stream.specs.code.Numbers.{source_at, kind_n, stride_n, entry_n, after_n}
use Rattle.root_stream.specs.Opened.{elements_opened, words_opened}
use Rattle.root_stream.proofs.Ahead.{stride_some, Ahead, ahead_next, ahead_none}
use Rattle.root_stream.proofs.Base.{Base}
use Rattle.root_stream.proofs.Loop.{Looping}

-- what is made so far stands in the table t, which is lent for it
pub record Filling (v : Env) (D : Drawing) (plan : List ℕ) (records : ℕ) (all : List Words) (limit i : ℕ) (s : Source) (m : Maker)
    (t : List ℕ) : Type 0 where
  pub ws : List Words
  pub ahead : Ahead plan records i s ws
  pub done : ℕ
  pub early : done ≤ i
  pub writing : Writing v D root done m ws (all_of D root all) limit t

module _ (v : Env) (D : Drawing) (plan : List ℕ) (records : ℕ) (all : List Words) (B : Base v D plan records all) (limit : ℕ) where
  pub fill_begin : (s : Source) (m : Maker) (t : List ℕ)
      → s ≡ source_at 0 0 0
      → counted m.pruner ≡ ct 0 0 going []
      → m.waiting ≡ resting
      → length t ≡ limit * 4
      → Filling v D plan records all limit 0 s m t
  fill_begin s m t y e f n =
      let x = standing_start v D root B.reads all B.grammar m.pruner m.waiting e f in
      let none : Writes limit t (begun D root) = record { done = tt; behind = λ q. tt } in
      record {
        ws = all;
        ahead = rw y B.begin;
        done = 0;
        early = omega arith;
        writing = record { standing = x.0; writes = subst (λ (z : Making). Writes limit t z) (sym x.1) none; size = n };
      }

  -- where the table is t
  module _ (i : ℕ) (s : Source) (m : Maker) (t : List ℕ) (f : Filling v D plan records all limit i s m t) where
    pub looping : Looping v D plan records all i s m
    looping = record { ws = f.ws; ahead = f.ahead; done = f.done; early = f.early; standing = f.writing.standing }

    few : f.done ≤ 4096
    few = omega (arith, B.few, f.early, f.ahead.whole)

    pub fill_turn : i < records
        → (n : Maker) (w : Words) (q : Square) (g : Class) (z : ℤ) (s' : Source) (j : ℕ) (u : List ℕ)
        → w ≡ entry_n s (kind_n plan records i) (kind_n plan records (i + 1))
        → w.q < 4294967296
        → q ≡ square_of root
        → g ≡ left_class v.xs v.ys q w
        → z ≡ left_sign v.xs v.ys w
        → counted n.pruner ≡ pruned_n v.areas (counted m.pruner) m.waiting w.kind
        → n.waiting ≡ waiting_n m.waiting g z w
        → u ≡ one_put v.areas t m g z w n.pruner.weight
        → s' ≡ after_n s (kind_n plan records i) (kind_n plan records (i + 1))
        → j ≡ i + stride_n (kind_n plan records (i + 1))
        → Filling v D plan records all limit j s' n u
    fill_turn h n w q g z s' j u e b r x y hp ha hu hs hj =
        let next = ahead_next plan records i s f.ws f.ahead h in
        let now : Writing v D root f.done m (w ∷ next.0) (all_of D root all) limit t =
        subst (λ (ws : List Words). Writing v D root f.done m ws (all_of D root all) limit t)
        (next.1 ∙ ap (λ (k : Words). k ∷ next.0) (sym e)) f.writing in
        record {
          ws = next.0;
          ahead = rw (hs, hj) next.2;
          done = f.done + 1;
          early = omega (arith, f.early, stride_some (kind_n plan records (i + 1)), hj);
          writing =
              writing_next v D root B.reads f.done m (all_of D root all) limit t few w next.0 now u n.pruner.weight g z
              (x ∙ ap (λ (a : Square). left_class v.xs v.ys a w) r) y hu n refl b hp ha;
        }

    -- where no record is left
    pub fill_end : records ≤ i → limit ≡ length (elements_made D root all) → (u : List ℕ) → u ≡ settled_put v.areas t m
        → u ≡ flat (words_made D root all)
    fill_end h exact u hu =
        let last : Writing v D root f.done m [] (all_of D root all) limit t = subst
        (λ (ws : List Words). Writing v D root f.done m ws (all_of D root all) limit t) (ahead_none plan records i s f.ws f.ahead h) f.writing in
        hu ∙ written_end v D root B.reads all B.grammar f.done m limit t few exact last

-- what was lent, with the rest of the table behind it
pub front_written : (t : List ℕ) (ws : List Words) (limit : ℕ) → length ws ≡ limit → limit * 4 ≤ length t → flat ws ++ drop (limit * 4) t ≡ written t 0 ws
front_written t ws limit e h =
    let size : 0 + length ws ≡ limit = omega (arith, e) in
    ap (λ (n : ℕ). flat ws ++ drop (n * 4) t) (sym size) ∙ sym (written_eq t 0 ws (omega (arith, e)))

-- the words of the same elements
pub words_opened_law : (t : Tables) (D : Drawing) (all : List Words) → elements_made D root all ≡ elements_opened t → words_made D root all ≡ words_opened t
unfolding words_made words_opened
words_opened_law t D all e = ap (map words_of) e
