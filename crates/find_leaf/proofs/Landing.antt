-- The way to a leaf, test by test; and what the leaf that is found says: 12 has passed over it, and it holds the position.
use Rattle.std.proofs.Common.{Option, Some, None, Ok, Err}
use mathlib.Core.Path.{◌≡◌, refl, sym, ap, ap₂, subst, ◌∙◌}
use mathlib.Core.Bool.{Bool, true, false, cond}
use Prim.Native.Nat.{ℕ, ◌+◌, ◌≤◌}
use lib.Dec.{eqb, ltb}
use lib.ListN.{get_or}
use borrow.Author.Tests.{ltb-true}
use Rattle.laws.proofs.Booleans.{and_left, and_right}
use Rattle.cells.specs.Cells.{at, OnGrid}
use Rattle.stream.specs.declared.Checked.{Checked}
use Rattle.stream.specs.Grammar.{Env, env, Passed}
use Rattle.stream.specs.code.Checks.{checked}
use Rattle.stream.proofs.Passed.{passed}
use Rattle.stream.proofs.Uniform.{lines_is, uniform_is}
use Rattle.celltable.specs.declared.Leaf.{Leaf}
use Rattle.celltable.specs.Table.{cell_at}
use Rattle.celltable.specs.Descent.{descend_in}
use Rattle.celltable.proofs.Ranges.{passes_range}
use Rattle.celltable.proofs.Grid.{passes_east, passes_north}
use Rattle.celltable.proofs.Landing.{LeafFound, leaf_found, broken_not}
use Rattle.tables.specs.Tables.{Tree, cells_used, entries_used, counts_in, leaf_passes}
use Rattle.laws.proofs.Choices.{pick_true, pick_false}
use Rattle.refusals.specs.declared.Refusal.TheVariants as Refusals
use Rattle.find_leaf.specs.Leaf.{position_range, leaf_bounds, stream_found, leaf_in}
use Rattle.find_leaf.specs.code.Numbers.{read_n, read_by, leaf_read}
use Rattle.tables.proofs.Counts.{counts_fit}
use Rattle.tables.proofs.Leaves.{leaf_some, leaf_none, leaf_stream_law}

pub on_grid : (x y : ℕ) → position_range x y ≡ true → OnGrid (at x y)
on_grid x y h =
    record { x_below = ltb-true x 65536 (and_left (ltb x 65536) (ltb y 65536) h); y_below = ltb-true y 65536 (and_right (ltb x 65536) (ltb y 65536) h) }

module _ (t : Tree) where
  abbrev pub way_in : (x y : ℕ) → Option Leaf
  way_in x y = descend_in t.cells (cells_used t.head) (entries_used t.head) x y

  abbrev pub passes_in : Leaf → Bool
  passes_in l = leaf_passes t.entries l.first l.count l.lines (entries_used t.head) (env t.areas t.xs t.ys (leaf_bounds t l))

  module _ (x y : ℕ) where
    -- ---- the tests
    pub leaf_uncounted : counts_in t ≡ false → None ≡ leaf_in t x y
    unfolding leaf_in
    leaf_uncounted h = pick_false (counts_in t) (stream_found t (way_in x y)) None h

    pub leaf_astray : counts_in t ≡ true → None ≡ way_in x y → None ≡ leaf_in t x y
    unfolding leaf_in
    leaf_astray h w =
        subst (λ (f : Option Leaf). None ≡ stream_found t f) w refl
        ∙ pick_true (counts_in t) (stream_found t (way_in x y)) None h

    pub leaf_unfit : (l : Leaf) → counts_in t ≡ true → Some l ≡ way_in x y → passes_in l ≡ false → None ≡ leaf_in t x y
    unfolding leaf_in
    leaf_unfit l h w p =
        pick_false (passes_in l) (Some l) None p
        ∙ subst (λ (f : Option Leaf). stream_found t (Some l) ≡ stream_found t f) w refl
        ∙ pick_true (counts_in t) (stream_found t (way_in x y)) None h

    pub leaf_met : (l : Leaf) → counts_in t ≡ true → Some l ≡ way_in x y → passes_in l ≡ true → Some l ≡ leaf_in t x y
    unfolding leaf_in
    leaf_met l h w p =
        pick_true (passes_in l) (Some l) None p
        ∙ subst (λ (f : Option Leaf). stream_found t (Some l) ≡ stream_found t f) w refl
        ∙ pick_true (counts_in t) (stream_found t (way_in x y)) None h

    -- ---- the leaf that is found
    pub record Landed (l : Leaf) : Type 0 where
      pub counts : counts_in t ≡ true
      pub way : way_in x y ≡ Some l
      pub stream : passes_in l ≡ true

    pub leaf_landed : (l : Leaf) → leaf_in t x y ≡ Some l → Landed l
    unfolding leaf_in
    leaf_landed l e = go (counts_in t) (way_in x y) refl refl e
      where
        whole : (m : Leaf) (b : Bool) → counts_in t ≡ true → way_in x y ≡ Some m → passes_in m ≡ b → cond b (Some m) None ≡ Some l → Landed l
        whole m true h w p q =
            let r : m ≡ l = cc in
            subst (λ (k : Leaf). Landed k) r (record { counts = h; way = w; stream = p })
        whole m false h w p q = broken_not l q

        go : (a : Bool) (f : Option Leaf) → counts_in t ≡ a → way_in x y ≡ f → cond a (stream_found t f) None ≡ Some l → Landed l
        go true (Some m) h w q = whole m (passes_in m) h w refl q
        go true None h w q = broken_not l q
        go false f h w q = broken_not l q

    -- 12 has passed over the whole leaf
    pub leaf_passed : (l : Leaf) → leaf_in t x y ≡ Some l → Passed t.entries l.first l.count (env t.areas t.xs t.ys (leaf_bounds t l))
    leaf_passed l e =
        passed t.entries l.first l.count (entries_used t.head) (env t.areas t.xs t.ys (leaf_bounds t l))
        (leaf_stream_law t.entries l.first l.count l.lines (entries_used t.head) (env t.areas t.xs t.ys (leaf_bounds t l))
        (leaf_landed l e).stream)

    -- its square holds the position, and its depth is the steps
    pub leaf_holds : (l : Leaf) → position_range x y ≡ true → leaf_in t x y ≡ Some l → LeafFound t.cells (cells_used t.head) (entries_used t.head) (at x y) l
    leaf_holds l g e =
        let m = leaf_landed l e in
        leaf_found t.cells (cells_used t.head) (entries_used t.head) x y l (counts_fit t m.counts).cells_fit.some (on_grid x y g) m.way

    -- its square lies in the grid
    pub leaf_square : (l : Leaf) → position_range x y ≡ true → leaf_in t x y ≡ Some l → (l.x + l.side ≤ 65536) × (l.y + l.side ≤ 65536)
    leaf_square l g e =
        let m = leaf_holds l g e in
        let w = cell_at t.cells l.cell in
        let r = passes_range t.cells l.cell (cells_used t.head) (entries_used t.head) m.passes in
        subst (λ (k : Leaf). (k.x + k.side ≤ 65536) × (k.y + k.side ≤ 65536)) (sym m.words) (passes_east w r, passes_north w r)

    -- ---- with the numbers in use as the code reads them
    pub read_uncounted : counts_in t ≡ false → Err Refusals.Broken ≡ leaf_read t x y
    read_uncounted h = ap (read_by t) (leaf_uncounted h)

    module _ (used free : ℕ) (f : Option Leaf) (h : counts_in t ≡ true) (eu : used ≡ get_or t.head 0 0) (ef : free ≡ get_or t.head 1 0)
        (w : f ≡ descend_in t.cells used free x y) where
      way_is : f ≡ way_in x y
      way_is =
          let u : used ≡ cells_used t.head = eu ∙ (counts_fit t h).cells_are in
          rw (u, ef) at w

      pub read_astray : f ≡ None → Err Refusals.Broken ≡ leaf_read t x y
      read_astray e = ap (read_by t) (leaf_astray h (sym e ∙ way_is))

      pub read_stopped : (l : Leaf) → f ≡ Some l
          → None ≡ checked t.entries l.first l.count free (env t.areas t.xs t.ys (leaf_bounds t l))
          → Err Refusals.Broken ≡ leaf_read t x y
      read_stopped l e q =
          ap (read_by t)
          (leaf_unfit l h (sym e ∙ way_is)
          (leaf_none t.entries l.first l.count l.lines (entries_used t.head) (env t.areas t.xs t.ys (leaf_bounds t l)) (rw ef at q)))

      module _ (l : Leaf) (c : Checked) (e : f ≡ Some l)
          (q : Some c ≡ checked t.entries l.first l.count free (env t.areas t.xs t.ys (leaf_bounds t l))) where
        abbrev v : Env
        v = env t.areas t.xs t.ys (leaf_bounds t l)

        checked_is : Some c ≡ checked t.entries l.first l.count (entries_used t.head) v
        checked_is = rw ef at q

        passes_is : eqb c.lines l.lines ≡ passes_in l
        passes_is = leaf_some t.entries l.first l.count l.lines (entries_used t.head) v c checked_is

        pub read_unfit : eqb c.lines l.lines ≡ false → Err Refusals.Broken ≡ leaf_read t x y
        read_unfit g = ap (read_by t) (leaf_unfit l h (sym e ∙ way_is) (sym passes_is ∙ g))

        pub read_met : eqb c.lines l.lines ≡ true → Ok (read_n l c.lines (eqb c.segments 0)) ≡ leaf_read t x y
        read_met g =
            ap₂ (λ (n : ℕ) (u : Bool). Ok (read_n l n u)) (lines_is t.entries l.first l.count (entries_used t.head) v c checked_is)
            (uniform_is t.entries l.first l.count (entries_used t.head) v c checked_is)
            ∙ ap (read_by t) (leaf_met l h (sym e ∙ way_is) (sym passes_is ∙ g))
