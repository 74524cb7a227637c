-- Places and results fit the low half of an answer.
use Rattle.std.specs.Prelude.{Ok, Err}
use Rattle.refusals.specs.Refusals.{at_place}
use mathlib.Core.Path.{◌≡◌, refl}
use mathlib.Core.Bool.{Bool, true, false, cond}
use mathlib.Core.List.{List}
use Prim.Native.Nat.{ℕ, zero, suc, ◌*◌, ◌/◌, ◌%◌, ◌≤◌}
use native.Mathlib.Omega.{arith}
use lib.ListN.{length}
use lib.Dec.{eqb, leb}
use borrow.Author.Tests.{leb-true}
use Rattle.std.specs.Prelude.{Err}
use Rattle.refusals.specs.declared.Refusal.TheVariants.{Length, Argument, Room}
use Rattle.grammar.specs.Grammar.{Verdict}
use Rattle.grammar.specs.Grammar.{checked, Verdict·place}
use Rattle.grammar.proofs.Laws.{place_below}
use Rattle.read.specs.Reading.{decoded_in, verdict_of, holds, if_room, read_answer}
use Rattle.read.proofs.Files.{filed, length_from}
use Rattle.drawing.specs.Tables.{Tables, drawing_verdict, written_of, write_answer}
use Rattle.drawing.proofs.Rows.{drawn}
use Rattle.tables.specs.Tables.{Tree}
use Rattle.split_laws.specs.After.{split_tree}
use Rattle.grow.specs.Grow.{
  Round,
  splits,
  done,
  full,
  broken,
  round,
  go_on,
  growing,
  Ending,
  none_left,
  no_room,
  not_passed,
  grown,
  answer_by,
  answer_of,
  grow_answer,
}
use Rattle.answers.specs.Answers.{read_low, write_low, grow_splits}

verdict_place : (b : List ℕ) → Verdict·place (verdict_of b) ≤ 4096
unfolding verdict_of
verdict_place b = go (eqb (length b % 16) 0) (leb (length b / 16) 4096) refl
  where
    go : (a d : Bool) → leb (length b / 16) 4096 ≡ d → Verdict·place (cond a (cond d (checked (decoded_in b)) (Err (at_place Length 0))) (Err
        (at_place Length 0))) ≤ 4096
    go false d e = omega arith
    go true false e = omega arith
    go true true e = omega (arith, place_below (decoded_in b), length_from b 0 (length b / 16), leb-true (length b / 16) 4096 e)

verdict_low : (b : List ℕ) → read_low (verdict_of b) ≤ 4096
verdict_low b = go (verdict_of b) refl
  where
    go : (v : Verdict) → verdict_of b ≡ v → read_low v ≤ 4096
    go (Ok k) e = (filed b k e).below
    go (Err x) e = rw e at (verdict_place b)

room_low : (v : Verdict) (p a c : ℕ) → read_low v ≤ 4096 → read_low (if_room v p a c) ≤ 4096
room_low (Ok k) p a c h = go (holds p a c k)
  where
    go : (t : Bool) → read_low (cond t (Ok k) (Err (at_place Room 0))) ≤ 4096
    go true = h
    go false = omega arith
room_low (Err x) p a c h = h

pub read_low_law : (b p a x y : List ℕ) → read_low (read_answer b p a x y) ≤ 4096
unfolding read_answer
read_low_law b p a x y = go (eqb (length x) (length y))
  where
    go : (t : Bool) → read_low (cond t (if_room (verdict_of b) (length p) (length a) (length x)) (Err (at_place Argument 0))) ≤ 4096
    go true = room_low (verdict_of b) (length p) (length a) (length x) (verdict_low b)
    go false = omega arith

pub write_low_law : (t : Tables) (out : List ℕ) → write_low (write_answer t out) ≤ 65536
unfolding write_answer
write_low_law t out = go (drawing_verdict t) refl
  where
    room : (b : Bool) (n : ℕ) → n ≤ 4096 → write_low (cond b (Ok (n * 16)) (Err Room)) ≤ 65536
    room true n h = omega arith
    room false n h = omega arith

    go : (v : Verdict) → drawing_verdict t ≡ v → write_low (written_of v (length out)) ≤ 65536
    go (Ok k) e = room (leb k.records (length out / 16)) k.records (drawn t k e).below
    go (Err x) e = omega arith

-- no more splits than rounds
made_by_law : (k n l : ℕ) (t : Tree) → ((u : Tree) → length (growing k n l u).cells ≤ k) → (r : Round) → length (go_on r t (growing k n l)).cells ≤ suc k
made_by_law k n l t f (splits i) = omega (arith, f (split_tree t i))
made_by_law k n l t f done = omega arith
made_by_law k n l t f full = omega arith
made_by_law k n l t f broken = omega arith

splits_made : (k n l : ℕ) (t : Tree) → length (growing k n l t).cells ≤ k
unfolding growing
splits_made zero n l t = omega arith
splits_made (suc k) n l t = made_by_law k n l t (λ u. splits_made k n l u) (round n l t)

pub grow_low : (t : Tree) (n l : ℕ) → grow_splits (grow_answer t n l) ≤ 4096
unfolding grown
grow_low t n l = go (eqb (length t.xs) (length t.ys)) (leb l 16)
  where
    by_ending : (e : Ending) (k : ℕ) → k ≤ 4096 → grow_splits (answer_by e k) ≤ 4096
    by_ending none_left k h = h
    by_ending no_room k h = h
    by_ending not_passed k h = omega arith

    go : (a b : Bool) → grow_splits (cond a (cond b (answer_of (growing 4096 n l t)) (Err Argument)) (Err Argument)) ≤ 4096
    go true true = by_ending (growing 4096 n l t).ending (length (growing 4096 n l t).cells) (splits_made 4096 n l t)
    go true false = omega arith
    go false b = omega arith
