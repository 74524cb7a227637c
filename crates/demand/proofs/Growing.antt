-- Growing in sound tables: it is never met by 12, leaves them sound with the cells that it split divided in the history, and says "done" and "full" as the
-- history has it.
use mathlib.Core.Path.{◌≡◌, refl, sym, ap, ◌∙◌, subst}
use mathlib.Core.Bool.{Bool, true, false, cond}
use mathlib.Core.List.{List}
use Prim.Native.Nat.{ℕ, zero, suc, ◌+◌, ◌*◌, ◌-◌, ◌≤◌, ◌<◌}
use native.Mathlib.Omega.{arith}
use native.Mathlib.Decide.{ℕ_discrete}
use lib.Dec.{eqb, ltb, leb}
use lib.ListN.{length}
use borrow.Author.Tests.{eqb-true, eqb-false, ltb-true, lt-ltb}
use Rattle.std.specs.Prelude.{Result}
use Rattle.refusals.specs.declared.Refusal.{Refusal}
use Rattle.laws.proofs.Booleans.{and_left, and_right, and_both, clash}
use Rattle.cells.specs.Cells.{level}
use Rattle.cells.specs.Drawings.{Drawing}
use Rattle.stream.specs.Entry.{lines_in}
use Rattle.tables.specs.Tables.{Tree, cells_used}
use Rattle.split.specs.Split.{words, split_answer}
use Rattle.split_laws.specs.After.{split_tree}
use Rattle.tables.proofs.Counts.{used_most}
use Rattle.open.specs.Open.{drawing_tables}
use Rattle.grow.specs.declared.Tried.{Tried}
use Rattle.grow.specs.declared.Tried.TheVariants.{Bad, Past, Wanted}
use Rattle.grow.specs.Grow.{
  depth_at,
  wanted_by,
  tried,
  Lowest,
  none,
  at,
  or_next,
  lowest_from,
  Round,
  splits,
  done,
  full,
  broken,
  round_at,
  round_by,
  round,
  Ending,
  none_left,
  no_room,
  not_passed,
  Grown,
  go_on,
  growing,
  grown,
  grow_tree,
}
use Rattle.demand.specs.History.{Node, cell_in, split_at, after_splits, Leaf}
use Rattle.demand.specs.Stands.{drawing_of, words_of_cell}
use Rattle.demand.specs.Demand as Demand
use Rattle.demand.specs.Demand.{NoneWanted, FullAt}
use Rattle.demand.proofs.History.{one_longer}
use Rattle.demand.proofs.Sound.{Sound}
use Rattle.demand.proofs.Passing.{cell_is, cell_passes}
use Rattle.demand.proofs.Splits.{tables_split, drawing_split}
use Rattle.demand.proofs.Outcomes.{Roomed, fits, short, leaf_roomed}

-- ---- the drawing stays
on_tables : (n l : ℕ) (t : Tree) (f : Tree → Grown)
    → ((u : Tree) → drawing_tables (f u).after ≡ drawing_tables u)
    → (r : Round)
    → drawing_tables (go_on r t f).after ≡ drawing_tables t
on_tables n l t f g (splits i) = g (split_tree t i) ∙ tables_split t i
on_tables n l t f g done = refl
on_tables n l t f g full = refl
on_tables n l t f g broken = refl

tables_growing : (k n l : ℕ) (t : Tree) → drawing_tables (growing k n l t).after ≡ drawing_tables t
unfolding growing
tables_growing zero n l t = refl
tables_growing (suc k) n l t = on_tables n l t (growing k n l) (λ u. tables_growing k n l u) (round n l t)

pub tables_grown : (t : Tree) (n l : ℕ) → drawing_tables (grow_tree t n l) ≡ drawing_tables t
unfolding grown
tables_grown t n l = go (eqb (length t.xs) (length t.ys)) (leb l 16)
  where
    go : (a b : Bool) → drawing_tables (cond a (cond b (grown n l t).after t) t) ≡ drawing_tables t
    go true true = tables_growing 4096 n l t
    go true false = refl
    go false b = refl

module _ (D : Drawing) (n l : ℕ) (few : l ≤ 16) where
  abbrev Wants : List Node → ℕ → Type 0
  Wants H i = Demand.Wanted D n l H i

  -- ---- one cell
  data Sees (H : List Node) (i : ℕ) : Tried → Type 0 where
    past : (Wants H i → ⊥) → Sees H i Past
    wanted : Wants H i → Sees H i Wanted

  module _ (t : Tree) (H : List Node) (s : Sound t H) (same : drawing_of t ≡ D) (i : ℕ) (h : i < length H) where
    abbrev count : ℕ
    count = (words t i).lines

    abbrev wants : Bool
    wants = wanted_by n l (words t i).side count

    lines_are : Leaf H i → count ≡ lines_in (words_of_cell D (cell_in H i))
    lines_are o = s.line_counts i o ∙ ap lines_in (s.streams i o ∙ ap (λ (E : Drawing). words_of_cell E (cell_in H i)) same)

    depth_is : depth_at (words t i).side ≡ 16 - level (cell_in H i)
    depth_is = ap (λ (k : ℕ). 16 - k) (ap level (cell_is t H s i h))

    sees_leaf : Leaf H i → (b : Bool) → wants ≡ b → Sees H i (cond b Wanted Past)
    sees_leaf o true e =
        let a = ltb-true n count (and_left (ltb n count) (ltb (depth_at (words t i).side) l) e) in
        let d = ltb-true (depth_at (words t i).side) l (and_right (ltb n count) (ltb (depth_at (words t i).side) l) e) in
        wanted (record { leaf = o; lines = omega (arith, lines_are o); shallow = omega (arith, depth_is) })
    sees_leaf o false e =
        past
        (λ w. clash
        (sym e
        ∙ and_both (ltb n count) (ltb (depth_at (words t i).side) l) (lt-ltb n count (omega (arith, w.lines, lines_are o)))
        (lt-ltb (depth_at (words t i).side) l (omega (arith, w.shallow, depth_is)))))

    sees_cell : (b : Bool) → eqb (words t i).child 0 ≡ b → Sees H i (cond b (cond wants Wanted Past) Past)
    sees_cell true e =
        let o : Leaf H i = record { in_use = h; undivided = sym (s.firsts i h) ∙ eqb-true (words t i).child 0 e } in
        sees_leaf o wants refl
    sees_cell false e = past (λ w. eqb-false (words t i).child 0 e (s.firsts i h ∙ w.leaf.undivided))

    sees : Sees H i (tried t n l i)
    unfolding tried
    sees =
        subst (Sees H i) (sym (ap (λ (b : Bool). cond b (cond (eqb (words t i).child 0) (cond wants Wanted Past) Past) Bad) (cell_passes t H s i h)))
        (sees_cell (eqb (words t i).child 0) refl)

  -- ---- the lowest wanted leaf, among the cells from i on and below e
  data Picks (H : List Node) (i e : ℕ) : Lowest → Type 0 where
    nothing : ((j : ℕ) → i ≤ j → j < e → Wants H j → ⊥) → Picks H i e none
    one : (k : ℕ) → Wants H k → ((j : ℕ) → i ≤ j → j < k → Wants H j → ⊥) → Picks H i e (at k)

  pass_on : (H : List Node) (i e : ℕ) → (Wants H i → ⊥) → ((j : ℕ) → i + 1 ≤ j → j < e → Wants H j → ⊥) → (j : ℕ) → i ≤ j → j < e → Wants H j → ⊥
  pass_on H i e f g j h k w = go (ℕ_discrete j i)
    where
      go : Dec (j ≡ i) → ⊥
      go (yes q) = f (subst (Wants H) q w)
      go (no q) = g j (omega arith) k w

  or_next_law : (H : List Node) (i e : ℕ) {next : Lowest} {r : Tried} → Sees H i r → Picks H (i + 1) e next → Picks H i e (or_next r i next)
  or_next_law H i e (past f) (nothing g) = nothing (pass_on H i e f g)
  or_next_law H i e (past f) (one k w g) = one k w (pass_on H i k f g)
  or_next_law H i e (wanted w) p = one i w (λ j h k q. omega arith)

  picks : (t : Tree) (H : List Node) → Sound t H → drawing_of t ≡ D → (i m e : ℕ) → i + m ≡ e → e ≤ length H → Picks H i e (lowest_from t n l i m)
  unfolding lowest_from
  picks t H s q i zero e a h = nothing (λ j k g w. omega arith)
  picks t H s q i (suc m) e a h = or_next_law H i e (sees t H s q i (omega arith)) (picks t H s q (i + 1) m e (omega arith) h)

  -- ---- one round
  data Turns (t : Tree) (H : List Node) : Round → Type 0 where
    divides : (i : ℕ) → Sound (split_tree t i) (split_at H i) → Turns t H (splits i)
    ends : NoneWanted D n l H → Turns t H done
    stops : FullAt D n l H t → Turns t H full

  deep : (H : List Node) (i : ℕ) → Wants H i → 0 < level (cell_in H i)
  deep H i w = omega (arith, w.shallow)

  round_at_law : (t : Tree) (H : List Node) (i : ℕ)
      → Wants H i
      → ((j : ℕ) → j < i → Wants H j → ⊥)
      → {r : Result ℕ Refusal}
      → split_answer t i ≡ r
      → Roomed t H i r
      → Turns t H (round_at i r)
  round_at_law t H i w g e (fits m q o) = divides i o
  round_at_law t H i w g e short = stops (record { cell = i; wanted = w; lowest = g; refused = e })

  round_by_law : (t : Tree) (H : List Node) → Sound t H → {r : Lowest} → Picks H 0 (length H) r → Turns t H (round_by t r)
  round_by_law t H s (nothing g) = ends (λ i w. g i (omega arith) w.leaf.in_use w)
  round_by_law t H s (one i w g) = round_at_law t H i w (λ j h v. g j (omega arith) h v) refl (leaf_roomed t H i s w.leaf (deep H i w))

  turns : (t : Tree) (H : List Node) → Sound t H → drawing_of t ≡ D → Turns t H (round n l t)
  unfolding round
  turns t H s q =
      subst (Turns t H) (sym (ap (λ (b : Bool). cond b (round_by t (lowest_from t n l 0 (cells_used t.head))) broken) s.counts))
      (round_by_law t H s (picks t H s q 0 (cells_used t.head) (length H) (omega (arith, s.in_use)) (omega arith)))

  -- ---- again and again
  abbrev pub Ends : List Node → Tree → Ending → Type 0
  Ends K u none_left = NoneWanted D n l K
  Ends K u no_room = FullAt D n l K u
  Ends K u not_passed = ⊥

  pub record Grows (H : List Node) (g : Grown) : Type 0 where
    pub sound : Sound g.after (after_splits H g.cells)
    pub ending : Ends (after_splits H g.cells) g.after g.ending

  go_on_law : (k : ℕ) (t : Tree) (H : List Node)
      → Sound t H
      → drawing_of t ≡ D
      → 4096 - cells_used t.head < 4 * suc k
      → ((u : Tree) (K : List Node) → Sound u K → drawing_of u ≡ D → 4096 - cells_used u.head < 4 * k → Grows K (growing k n l u))
      → {r : Round}
      → Turns t H r
      → Grows H (go_on r t (growing k n l))
  go_on_law k t H s q m next (divides i o) =
      let r = next (split_tree t i) (split_at H i) o (drawing_split t i ∙ q)
      (omega (arith, o.in_use, s.in_use, one_longer H i, used_most (split_tree t i) o.counts)) in
      record { sound = r.sound; ending = r.ending }
  go_on_law k t H s q m next (ends g) = record { sound = s; ending = g }
  go_on_law k t H s q m next (stops g) = record { sound = s; ending = g }

  -- so many rounds are enough
  grows : (k : ℕ) (t : Tree) (H : List Node) → Sound t H → drawing_of t ≡ D → 4096 - cells_used t.head < 4 * k → Grows H (growing k n l t)
  unfolding growing
  grows zero t H s q m = absurd (omega arith)
  grows (suc k) t H s q m = go_on_law k t H s q m (λ u K o p r. grows k u K o p r) (turns t H s q)

  pub grown_sound : (t : Tree) (H : List Node) → Sound t H → drawing_of t ≡ D → Grows H (grown n l t)
  unfolding grown
  grown_sound t H s q = grows 4096 t H s q (omega arith)
