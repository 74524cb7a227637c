-- What an accepted opening says of the tables: the drawing passes, there is room, and what the tree's tables are then.
use mathlib.Core.Path.{◌≡◌, refl, sym, ap, ◌∙◌}
use mathlib.Core.Bool.{Bool, true, false, cond}
use Prim.Native.Nat.{ℕ, ◌*◌, ◌≤◌}
use native.Mathlib.Omega.{arith}
use lib.Dec.{eqb}
use lib.ListN.{length}
use borrow.Author.Tests.{eqb-true}
use Rattle.std.specs.Prelude.{Ok, Err, Result}
use Rattle.refusals.specs.declared.Refusal.{Refusal}
use Rattle.refusals.specs.declared.Refusal.TheVariants.{Argument, Room}
use Rattle.grammar.specs.declared.Counts.{Counts}
use Rattle.grammar.specs.Grammar.{Verdict}
use Rattle.drawing.specs.Tables.{drawing_verdict}
use Rattle.cells.specs.Cells.{root}
use Rattle.four_children.specs.Children.{words_with}
use Rattle.tables.specs.Tables.{Tree}
use Rattle.open.specs.Open.{root_words, room_for, drawing_tables, stream_opened, drawing_answer, open_answer}
use Rattle.open.proofs.Rooms.{room_says, few_words}

-- cell 0 is the leaf on the square of the definition's root, its own parent
pub root_words_law : (n lines : ℕ) → root_words n lines ≡ words_with root 0 n lines 0
root_words_law n lines = refl

module _ (t : Tree) where
  pub record Accepts (n : ℕ) : Type 0 where
    pub counts : Counts
    pub drawing : drawing_verdict (drawing_tables t) ≡ Ok counts
    pub pair : length t.xs ≡ length t.ys
    pub entries : n ≡ length (stream_opened t)
    pub few : n ≤ 4096
    pub head_room : 2 ≤ length t.head
    pub cells_room : 8 ≤ length t.cells
    pub entries_room : n * 4 ≤ length t.entries

  pub open_accepts : (n : ℕ) → open_answer t ≡ Ok n → Accepts n
  open_accepts n e₀ =
      go (eqb (length t.xs) (length t.ys)) (drawing_verdict (drawing_tables t))
      (room_for (length t.head) (length t.cells) (length t.entries) (length (stream_opened t))) refl refl refl e₀
    where
      is : (m : ℕ) → ◌≡◌ {A = Result ℕ Refusal} (Ok m) (Ok n) → m ≡ n
      is m x = cc

      taken : (k : Counts)
          → length t.xs ≡ length t.ys
          → drawing_verdict (drawing_tables t) ≡ Ok k
          → room_for (length t.head) (length t.cells) (length t.entries) (length (stream_opened t)) ≡ true
          → length (stream_opened t) ≡ n
          → Accepts n
      taken k p d q m =
          let r = room_says (length t.head) (length t.cells) (length t.entries) (length (stream_opened t)) q in
          record {
            counts = k;
            drawing = d;
            pair = p;
            entries = sym m;
            few = omega (arith, m, few_words (drawing_tables t) k d);
            head_room = r.0;
            cells_room = r.1;
            entries_room = omega (arith, m, r.2);
          }

      go : (a : Bool) (v : Verdict) (b : Bool)
          → eqb (length t.xs) (length t.ys) ≡ a
          → drawing_verdict (drawing_tables t) ≡ v
          → room_for (length t.head) (length t.cells) (length t.entries) (length (stream_opened t)) ≡ b
          → cond a (drawing_answer t v) (Err Argument) ≡ Ok n
          → Accepts n
      go false v b p d q x = absurd cc
      go true (Err r) b p d q x = absurd cc
      go true (Ok k) false p d q x =
          let e : ◌≡◌ {A = Result ℕ Refusal} (Err Room) (Ok n) = ap (λ (y : Bool). cond y (Ok (length (stream_opened t))) (Err Room)) (sym q) ∙ x in absurd cc
      go true (Ok k) true p d q x =
          taken k (eqb-true (length t.xs) (length t.ys) p) d q
          (is (length (stream_opened t)) (ap (λ (y : Bool). cond y (Ok (length (stream_opened t))) (Err Room)) (sym q) ∙ x))
