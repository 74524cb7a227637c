-- One ascending sweep that reads no cell twice is growing: the same tables, splits and answer as "the lowest numbered leaf ..., again and again".
use mathlib.Core.Path.{◌≡◌, refl, sym, ap, subst, ◌∙◌}
use mathlib.Core.Bool.{Bool, true, false, cond}
use Prim.Native.Nat.{ℕ, ◌+◌, ◌≤◌, ◌<◌}
use native.Mathlib.Omega.{arith}
use native.Mathlib.Decide.{ℕ_discrete}
use lib.Dec.{eqb}
use lib.ListN.{length, get_or}
use Rattle.std.specs.Prelude.{Result, Ok, Err, None, Some}
use Rattle.refusals.specs.Refusals.{number_of}
use Rattle.refusals.specs.declared.Refusal.{Refusal}
use Rattle.refusals.specs.declared.Refusal.TheVariants.{Broken}
use Rattle.tables.specs.Tables.{Tree, cells_used, entries_used, counts_in}
use Rattle.split.specs.Split.{split_answer}
use Rattle.tables.proofs.Heads.{used_is}
use Rattle.split_laws.specs.After.{split_tree}
use Rattle.tables.proofs.Counts.{counts_long}
use Rattle.split_laws.proofs.Trees.{tree_refused, tree_used, tree_length_head, tree_length_cells, tree_length_entries, tree_counts}
use Rattle.grow.specs.declared.Growth.TheVariants.{Done, Full}
use Rattle.grow.specs.declared.Tried.{Tried}
use Rattle.grow.specs.declared.Tried.TheVariants.{Bad, Past, Wanted}
use Rattle.grow.specs.declared.Sweep.{Sweep}
use Rattle.grow.specs.Grow.{tried, Round, done, full, broken, round_at, round, Ending, none_left}
use Rattle.grow.specs.Grow.{no_room, not_passed, Grown, ended, also_split, go_on, grown, answer_by, answer_of}
use Rattle.grow.specs.code.Numbers.{past_n, split_n, stop_if, by_answer, turn_by, tree_by}
use Rattle.grow.proofs.Tries.{past_keeps, past_split}
use Rattle.grow.proofs.Fuel.{grown_step}
use Rattle.grow.proofs.Rounds.{round_wanted, round_bad, round_done}

-- the sweep began with the tables t₀ and stands at s with the tables t: every cell below the next one is passed over, and growing from here
-- gives what growing from the start gives, but for the splits so far
pub record Sweeping (n l : ℕ) (t₀ t : Tree) (s : Sweep) : Type 0 where
  pub counts : counts_in t ≡ true
  pub used : s.used ≡ cells_used t.head
  pub free : s.free ≡ entries_used t.head
  pub low : s.cell ≤ s.used
  pub fewer : s.splits ≤ s.cell
  pub past : (k : ℕ) → k < s.cell → tried t n l k ≡ Past
  pub after : (grown n l t₀).after ≡ (grown n l t).after
  pub ending : (grown n l t₀).ending ≡ (grown n l t).ending
  pub count : length (grown n l t₀).cells ≡ s.splits + length (grown n l t).cells
  pub size_head : length t.head ≡ length t₀.head
  pub size_cells : length t.cells ≡ length t₀.cells
  pub size_entries : length t.entries ≡ length t₀.entries

abbrev start_n : (used free : ℕ) → Sweep
start_n used free = record { cell = 0; used = used; free = free; splits = 0 }

pub sweeping_begin : (n l : ℕ) (t : Tree)
    → counts_in t ≡ true
    → Sweeping n l t t (start_n (get_or t.head 0 0) (get_or t.head 1 0))
sweeping_begin n l t c =
    record {
      counts = c;
      used = sym (used_is t.head (counts_long t c));
      free = refl;
      low = omega arith;
      fewer = omega arith;
      past = λ k h. absurd (omega arith);
      after = refl;
      ending = refl;
      count = omega arith;
      size_head = refl;
      size_cells = refl;
      size_entries = refl;
    }

module _ (n l : ℕ) (t₀ t : Tree) (s : Sweep) (S : Sweeping n l t₀ t s) where
  abbrev i : ℕ
  i = s.cell

  -- ---- a turn that goes on
  module _ (h : s.cell < s.used) where
    in_use : i < cells_used t.head
    in_use = omega (arith, S.used)

    past_more : (u : Tree) → ((k : ℕ) → k < i → tried u n l k ≡ Past) → tried u n l i ≡ Past → (k : ℕ) → k < i + 1 → tried u n l k ≡ Past
    past_more u p e k g = go (ℕ_discrete k i)
      where
        go : Dec (k ≡ i) → tried u n l k ≡ Past
        go (yes q) = rw q e
        go (no q) = p k (omega arith)

    pub sweeping_past : tried t n l s.cell ≡ Past → Sweeping n l t₀ t (past_n s)
    sweeping_past e =
        record {
          counts = S.counts;
          used = S.used;
          free = S.free;
          low = omega arith;
          fewer = omega (arith, S.fewer);
          past = past_more t S.past e;
          after = S.after;
          ending = S.ending;
          count = S.count;
          size_head = S.size_head;
          size_cells = S.size_cells;
          size_entries = S.size_entries;
        }

    module _ (e : tried t n l s.cell ≡ Wanted) where
      rounded : round n l t ≡ round_at i (split_answer t i)
      rounded = round_wanted n l t i S.past S.counts in_use e

      module _ (k : ℕ) (a : split_answer t s.cell ≡ Ok k) where
        grown_split : grown n l t ≡ also_split i (grown n l (split_tree t i))
        grown_split = grown_step n l t ∙ ap (λ (r : Round). go_on r t (grown n l)) (rounded ∙ ap (round_at i) a)

        pub sweeping_split : Sweeping n l t₀ (split_tree t s.cell) (split_n s (entries_used (split_tree t s.cell).head))
        sweeping_split =
            record {
              counts = tree_counts t i k a;
              used = omega (arith, S.used, tree_used t i k a);
              free = refl;
              low = omega arith;
              fewer = omega (arith, S.fewer);
              past = past_more (split_tree t i) (λ j g. past_keeps n l t i k a j (omega (arith, in_use)) (λ q. omega arith) (S.past j g))
                  (past_split n l t i k a);
              after = S.after ∙ ap (λ (g : Grown). g.after) grown_split;
              ending = S.ending ∙ ap (λ (g : Grown). g.ending) grown_split;
              count = S.count ∙ (ap (λ (g : Grown). s.splits + length g.cells) grown_split ∙ omega arith);
              size_head = tree_length_head t i k a ∙ S.size_head;
              size_cells = tree_length_cells t i k a ∙ S.size_cells;
              size_entries = tree_length_entries t i k a ∙ S.size_entries;
            }

  -- ---- the end
  closes : (x : Ending) → grown n l t ≡ ended t x → (answer_by x s.splits ≡ answer_of (grown n l t₀)) × (t ≡ (grown n l t₀).after)
  closes x e =
      let a : (grown n l t₀).ending ≡ x = S.ending ∙ ap (λ (g : Grown). g.ending) e in
      let b : length (grown n l t₀).cells ≡ s.splits = S.count ∙ (ap (λ (g : Grown). s.splits + length g.cells) e ∙ omega arith) in
      (sym (λ d. answer_by (a d) (b d)), sym (S.after ∙ ap (λ (g : Grown). g.after) e))

  by_round : (r : Round) (x : Ending)
      → round n l t ≡ r
      → go_on r t (grown n l) ≡ ended t x
      → (answer_by x s.splits ≡ answer_of (grown n l t₀)) × (t ≡ (grown n l t₀).after)
  by_round r x e f = closes x (grown_step n l t ∙ (ap (λ (q : Round). go_on q t (grown n l)) e ∙ f))

  pub sweep_done : s.used ≤ s.cell → (Ok (Done s.splits) ≡ answer_of (grown n l t₀)) × (t ≡ (grown n l t₀).after)
  sweep_done h = by_round done none_left (round_done n l t i S.past S.counts (omega (arith, S.used)) (omega (arith, S.used, S.low))) refl

  module _ (h : s.cell < s.used) where
    -- a split that is refused ends it, with 11 or with 12
    refused_round : (r : Refusal) → split_answer t i ≡ Err r → tried t n l i ≡ Wanted → round n l t ≡ cond (eqb (number_of r) 11) full broken
    refused_round r a e = rounded h e ∙ ap (round_at i) a

    sweep_full : (r : Refusal) → tried t n l i ≡ Wanted → split_answer t i ≡ Err r → eqb (number_of r) 11 ≡ true
        → (Ok (Full s.splits) ≡ answer_of (grown n l t₀)) × (t ≡ (grown n l t₀).after)
    sweep_full r e a k = by_round full no_room (refused_round r a e ∙ ap (λ (b : Bool). cond b full broken) k) refl

    sweep_broken : (r : Refusal) → tried t n l i ≡ Wanted → split_answer t i ≡ Err r → eqb (number_of r) 11 ≡ false
        → (Err Broken ≡ answer_of (grown n l t₀)) × (t ≡ (grown n l t₀).after)
    sweep_broken r e a k = by_round broken not_passed (refused_round r a e ∙ ap (λ (b : Bool). cond b full broken) k) refl

    sweep_bad : tried t n l s.cell ≡ Bad → (Err Broken ≡ answer_of (grown n l t₀)) × (t ≡ (grown n l t₀).after)
    sweep_bad e = by_round broken not_passed (round_bad n l t i S.past S.counts (in_use h) e) refl

    -- ---- a turn, by what the code gives
    -- a refused split is no turn that goes on
    not_further : (b : Bool) (s' : Sweep) → stop_if b ≡ Ok (Some s') → ⊥
    not_further true s' f = absurd cc
    not_further false s' f = absurd cc

    by_split : (x : Result ℕ Refusal) (s' : Sweep)
        → tried t n l i ≡ Wanted
        → split_answer t i ≡ x
        → by_answer x s (split_tree t i).head ≡ Ok (Some s')
        → Sweeping n l t₀ (split_tree t i) s'
    by_split (Ok k) s' e a f = let z : split_n s (entries_used (split_tree t i).head) ≡ s' = cc in subst (Sweeping n l t₀ (split_tree t i)) z
        (sweeping_split h e k a)
    by_split (Err r) s' e a f = absurd (not_further (eqb (number_of r) 11) s' f)

    pub turn_further : (x : Tried) (s' : Sweep) → tried t n l s.cell ≡ x → turn_by x t s ≡ Ok (Some s') → Sweeping n l t₀ (tree_by x t s.cell) s'
    turn_further Bad s' e f = absurd cc
    turn_further Past s' e f = let z : past_n s ≡ s' = cc in subst (Sweeping n l t₀ t) z (sweeping_past h e)
    turn_further Wanted s' e f = by_split (split_answer t i) s' e refl f

    -- which of the two ends
    is_full_law : (b : Bool) → stop_if b ≡ Ok None → b ≡ true
    is_full_law true f = refl
    is_full_law false f = absurd cc

    is_stopped_law : (b : Bool) → stop_if b ≡ Err Broken → b ≡ false
    is_stopped_law true f = absurd cc
    is_stopped_law false f = refl

    full_by : (x : Result ℕ Refusal)
        → tried t n l i ≡ Wanted
        → split_answer t i ≡ x
        → by_answer x s (split_tree t i).head ≡ Ok None
        → (Ok (Full s.splits) ≡ answer_of (grown n l t₀)) × (split_tree t i ≡ (grown n l t₀).after)
    full_by (Ok k) e a f = absurd cc
    full_by (Err r) e a f = let p = sweep_full r e a (is_full_law (eqb (number_of r) 11) f) in (p.0, tree_refused t i r a ∙ p.1)

    stopped_by : (x : Result ℕ Refusal)
        → tried t n l i ≡ Wanted
        → split_answer t i ≡ x
        → by_answer x s (split_tree t i).head ≡ Err Broken
        → (Err Broken ≡ answer_of (grown n l t₀)) × (split_tree t i ≡ (grown n l t₀).after)
    stopped_by (Ok k) e a f = absurd cc
    stopped_by (Err r) e a f = let p = sweep_broken r e a (is_stopped_law (eqb (number_of r) 11) f) in (p.0, tree_refused t i r a ∙ p.1)

    pub turn_full : (x : Tried)
        → tried t n l s.cell ≡ x
        → turn_by x t s ≡ Ok None
        → (Ok (Full s.splits) ≡ answer_of (grown n l t₀)) × (tree_by x t s.cell ≡ (grown n l t₀).after)
    turn_full Bad e f = absurd cc
    turn_full Past e f = absurd cc
    turn_full Wanted e f = full_by (split_answer t i) e refl f

    pub turn_stopped : (x : Tried)
        → tried t n l s.cell ≡ x
        → turn_by x t s ≡ Err Broken
        → (Err Broken ≡ answer_of (grown n l t₀)) × (tree_by x t s.cell ≡ (grown n l t₀).after)
    turn_stopped Bad e f = sweep_bad e
    turn_stopped Past e f = absurd cc
    turn_stopped Wanted e f = stopped_by (split_answer t i) e refl f

    moves_by : (x : Result ℕ Refusal) (s' : Sweep) → by_answer x s (split_tree t i).head ≡ Ok (Some s') → s'.cell ≡ s.cell + 1
    moves_by (Ok k) s' f = let z : split_n s (entries_used (split_tree t i).head) ≡ s' = cc in sym (ap (λ (q : Sweep). q.cell) z)
    moves_by (Err r) s' f = absurd (not_further (eqb (number_of r) 11) s' f)

    -- the next turn is at the next cell
    pub turn_moves : (x : Tried) (s' : Sweep) → turn_by x t s ≡ Ok (Some s') → s'.cell ≡ s.cell + 1
    turn_moves Bad s' f = absurd cc
    turn_moves Past s' f = let z : past_n s ≡ s' = cc in sym (ap (λ (q : Sweep). q.cell) z)
    turn_moves Wanted s' f = moves_by (split_answer t i) s' f

    -- a sweep that stops is refused with 12
    broken_by : (x : Result ℕ Refusal) (r : Refusal) → by_answer x s (split_tree t i).head ≡ Err r → r ≡ Broken
    broken_by (Ok k) r f = absurd cc
    broken_by (Err q) r f = at_room (eqb (number_of q) 11) f
      where
        at_room : (b : Bool) → stop_if b ≡ Err r → r ≡ Broken
        at_room true g = absurd cc
        at_room false g = cc

    pub turn_broken : (x : Tried) (r : Refusal) → turn_by x t s ≡ Err r → r ≡ Broken
    turn_broken Bad r f = cc
    turn_broken Past r f = absurd cc
    turn_broken Wanted r f = broken_by (split_answer t i) r f
