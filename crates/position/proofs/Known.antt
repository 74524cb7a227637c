-- A leaf that is found: what is read there, and which positions it serves.
use Rattle.std.specs.Option.{is_some}
use Rattle.std.proofs.Common.{Option, Some, None, Result, Ok, Err}
use mathlib.Core.Path.{◌≡◌, refl, sym, ap, ◌∙◌}
use mathlib.Core.Bool.{Bool, true, false, cond}
use Prim.Native.Nat.{ℕ, ◌+◌, ◌-◌, ◌≤◌, ◌<◌}
use native.Mathlib.Omega.{arith}
use lib.Dec.{ltb, leb}
use lib.ListN.{length}
use borrow.Author.Tests.{leb-true, ltb-true, eq-eqb}
use Rattle.laws.proofs.Booleans.{clash}
use Rattle.refusals.specs.declared.Refusal.{Refusal}
use Rattle.refusals.specs.declared.Refusal.TheVariants as Refusals
use Rattle.cells.specs.Cells.{at}
use Rattle.stream.specs.Entry.{lines_in, is_uniform}
use Rattle.stream.specs.Grammar.{env, Passed}
use Rattle.celltable.specs.declared.Leaf.{Leaf}
use Rattle.evaluate.specs.Reading.{set_at}
use Rattle.evaluate.proofs.Uniform.{set_uniform}
use Rattle.making.proofs.Meaning.{lent_meaning}
use Rattle.tables.specs.Tables.{Tree}
use Rattle.find_leaf.specs.declared.LeafRead.{LeafRead}
use Rattle.find_leaf.specs.Leaf.{position_range, leaf_stream, leaf_bounds, leaf_in}
use Rattle.find_leaf.specs.code.Numbers.{read_n, read_by, leaf_read}
use Rattle.tables.proofs.Counts.{counts_fit}
use Rattle.find_leaf.proofs.Landing.{leaf_landed, leaf_passed}
use Rattle.find_leaf.proofs.Same.{LeafHolds, leaf_same}
use Rattle.position.specs.declared.Spot.{Spot}
use Rattle.position.specs.declared.Shown.{Shown}
use Rattle.position.specs.declared.Read.{Read}
use Rattle.position.specs.Spots.{is_found, spot_of, set_read, set_by, spot_by, set_meant, known, set_in, spot_in, position_answer}
use Rattle.position.specs.code.Numbers.{between, in_square, shown_n, shown_by, shown_there, with_set, with_set_by, read_there, Readable, LastIn}

-- ---- the square of a leaf

is_in : (low side v : ℕ) → between low side v ≡ true → (low ≤ v) × (v < low + side)
is_in low side v h = go (leb low v) (ltb (v - low) side) refl refl h
  where
    go : (a b : Bool) → leb low v ≡ a → ltb (v - low) side ≡ b → cond a b false ≡ true → (low ≤ v) × (v < low + side)
    go true true p q t = let l = leb-true low v p in let m = ltb-true (v - low) side q in (omega arith, omega arith)
    go true false p q t = clash t
    go false b p q t = clash t

pub inside_holds : (l : Leaf) (x y : ℕ) → in_square l x y ≡ true → LeafHolds l (at x y)
inside_holds l x y h = go (between l.x l.side x) (between l.y l.side y) refl refl h
  where
    go : (a b : Bool) → between l.x l.side x ≡ a → between l.y l.side y ≡ b → cond a b false ≡ true → LeafHolds l (at x y)
    go true true p q t =
        let m = is_in l.x l.side x p in
        let n = is_in l.y l.side y q in
        record { west = m.0; east = m.1; south = n.0; north = n.1 }
    go true false p q t = clash t
    go false b p q t = clash t

module _ (t : Tree) where
  module _ (x y : ℕ) where
    module _ (l : Leaf) (e : leaf_in t x y ≡ Some l) where
      pub leaf_plan : 3 ≤ length t.plan
      leaf_plan = (counts_fit t (leaf_landed t x y l e).counts).plan_long

      pub leaf_stream_law : Passed t.entries l.first l.count (env t.areas t.xs t.ys (leaf_bounds t l))
      leaf_stream_law = leaf_passed t x y l e

      pub leaf_known : known t x y ≡ true
      unfolding known
      leaf_known = ap is_found e

      pub leaf_set : set_at t.areas t.xs t.ys x y (leaf_stream t l) ≡ set_in t x y
      unfolding set_in
      leaf_set = sym (ap (set_by t x y) e)

      -- any leaf that passes 12 is read by "Winding and meaning" over its stream
      pub leaf_meaning : set_in t x y ≡ set_meant t x y l
      leaf_meaning = sym leaf_set ∙ lent_meaning t.areas t.xs t.ys (leaf_bounds t l) x y (leaf_stream t l) leaf_stream_law.grammar

      pub leaf_shown : shown_there t x y ≡ Ok (shown_n l (cond (is_uniform (leaf_stream t l)) (Some (set_read t l x y)) None))
      unfolding shown_there
      leaf_shown = ap (shown_by t x y) e

    -- ---- what is read there
    -- the leaf that the code has read
    pub read_leaf : (r : LeafRead) → Ok r ≡ leaf_read t x y → (leaf_in t x y ≡ Some r.leaf) × (r.uniform ≡ is_uniform (leaf_stream t r.leaf))
    read_leaf r e = go (leaf_in t x y) refl e
      where
        go : (g : Option Leaf) → leaf_in t x y ≡ g → Ok r ≡ read_by t g → (leaf_in t x y ≡ Some r.leaf) × (r.uniform ≡ is_uniform (leaf_stream t r.leaf))
        go (Some m) k q =
            let z : r ≡ read_n m (lines_in (leaf_stream t m)) (is_uniform (leaf_stream t m)) = cc in
            (rw z k, rw z)
        go None k q = absurd (let z : ◌≡◌ {A = ℕ} 0 1 = cc in omega arith)

    pub anew_uniform : (r : LeafRead) (s : ℕ) → Ok r ≡ leaf_read t x y → r.uniform ≡ true → s ≡ set_read t r.leaf x y
        → Ok (shown_n r.leaf (Some s)) ≡ shown_there t x y
    anew_uniform r s e q g =
        let k = read_leaf r e in
        let u : is_uniform (leaf_stream t r.leaf) ≡ true = sym k.1 ∙ q in
        rw (leaf_shown r.leaf k.0, u, g)

    pub anew_lined : (r : LeafRead) → Ok r ≡ leaf_read t x y → r.uniform ≡ false → Ok (shown_n r.leaf None) ≡ shown_there t x y
    anew_lined r e q =
        let k = read_leaf r e in
        let u : is_uniform (leaf_stream t r.leaf) ≡ false = sym k.1 ∙ q in
        rw (leaf_shown r.leaf k.0, u)

    pub anew_broken : (r : Refusal) → Err r ≡ leaf_read t x y → Err r ≡ shown_there t x y
    unfolding shown_there
    anew_broken r e = go (leaf_in t x y) e
      where
        go : (g : Option Leaf) → Err r ≡ read_by t g → Err r ≡ shown_by t x y g
        go (Some m) q = absurd (let z : ◌≡◌ {A = ℕ} 0 1 = cc in omega arith)
        go None q = cc

    -- what a shown set says of the leaf
    pub record ShownIn (s : Shown) : Type 0 where
      pub is_leaf_law : leaf_in t x y ≡ Some s.leaf
      pub is_flag : is_some s.set ≡ is_uniform (leaf_stream t s.leaf)
      pub is_read : (v : ℕ) → s.set ≡ Some v → v ≡ set_read t s.leaf x y

    pub shown_in_law : (s : Shown) → Ok s ≡ shown_there t x y → ShownIn s
    unfolding shown_there
    shown_in_law s e = go (leaf_in t x y) refl e
      where
        of : (m : Leaf) (b : Bool) → leaf_in t x y ≡ Some m → is_uniform (leaf_stream t m) ≡ b
            → s ≡ shown_n m (cond b (Some (set_read t m x y)) None) → ShownIn s
        of m true k u z = rw z (record { is_leaf_law = k; is_flag = sym u; is_read = λ v q. let w : set_read t m x y ≡ v = cc in sym w })
        of m false k u z = rw z (record { is_leaf_law = k; is_flag = sym u; is_read = λ v q. absurd (let w : ◌≡◌ {A = ℕ} 0 1 = cc in omega arith) })

        go : (g : Option Leaf) → leaf_in t x y ≡ g → Ok s ≡ shown_by t x y g → ShownIn s
        go (Some m) k q =
            let z : s ≡ shown_n m (cond (is_uniform (leaf_stream t m)) (Some (set_read t m x y)) None) = cc in
            of m (is_uniform (leaf_stream t m)) k refl z
        go None k q = absurd (let z : ◌≡◌ {A = ℕ} 0 1 = cc in omega arith)

    pub last_in : (s : Shown) → Ok s ≡ shown_there t x y → LastIn t (Some s)
    last_in s e = record { x = x; y = y; was = e }

    -- ---- the answer at a position
    pub spot_known : (s : Shown) (v : ℕ) → Ok s ≡ shown_there t x y → v ≡ set_read t s.leaf x y
        → Ok (spot_of t.areas s.leaf (is_some s.set) v) ≡ spot_in t x y
    spot_known s v e q = let k = shown_in_law s e in rw (k.is_flag, q, k.is_leaf_law)

    pub spot_broken : (r : Refusal) → Err r ≡ shown_there t x y → Err r ≡ spot_in t x y
    unfolding shown_there
    spot_broken r e = go (leaf_in t x y) e
      where
        go : (f : Option Leaf) → Err r ≡ shown_by t x y f → Err r ≡ spot_by t x y f
        go (Some m) q = absurd (let z : ◌≡◌ {A = ℕ} 0 1 = cc in omega arith)
        go None q = cc

    pub position_tested : (r : Result Spot Refusal) → length t.xs ≡ length t.ys → position_range x y ≡ true → r ≡ spot_in t x y → r ≡ position_answer t x y
    position_tested r a b e = rw (eq-eqb (length t.xs) (length t.ys) a, b) e

    -- what a shown set, or 12, says
    pub record Known (v : ℕ) (s : Shown) : Type 0 where
      pub is_known : known t x y ≡ true
      pub is_set : v ≡ set_in t x y
      pub is_shown : Ok s ≡ shown_there t x y
      pub is_last : LastIn t (Some s)

    pub known_set : (s : Shown) (v : ℕ) → Ok s ≡ shown_there t x y → v ≡ set_read t s.leaf x y → Known v s
    known_set s v e q =
        let k = shown_in_law s e in
        record { is_known = leaf_known s.leaf k.is_leaf_law; is_set = q ∙ leaf_set s.leaf k.is_leaf_law; is_shown = e; is_last = last_in s e }

    pub readable : (s : Shown) → Ok s ≡ shown_there t x y → Readable t s x y
    readable s e =
        let k = shown_in_law s e in
        record { plan_long = leaf_plan s.leaf k.is_leaf_law; stream = leaf_stream_law s.leaf k.is_leaf_law; read = k.is_read }

    -- the code has read the leaf and the set there
    pub read_again : (s : Shown) (v : ℕ) → Ok s ≡ shown_there t x y → v ≡ set_read t s.leaf x y → Ok (with_set s v) ≡ read_there t x y
    unfolding read_there
    read_again s v e q = rw (sym e, q, leaf_set s.leaf (shown_in_law s e).is_leaf_law)

    pub read_broken : (r : Refusal) → Err r ≡ shown_there t x y → Err r ≡ read_there t x y
    unfolding read_there
    read_broken r e = rw (sym e)

    pub read_says : (r : Read) → Ok r ≡ read_there t x y → Known r.set r.shown
    unfolding read_there
    read_says r e = go (shown_there t x y) refl e
      where
        go : (s : Result Shown Refusal) → shown_there t x y ≡ s → Ok r ≡ with_set_by (set_in t x y) s → Known r.set r.shown
        go (Ok s) k q =
            let z : r ≡ with_set s (set_in t x y) = cc in
            let l = (shown_in_law s (sym k)).is_leaf_law in
            rw z (record { is_known = leaf_known s.leaf l; is_set = refl; is_shown = sym k; is_last = last_in s (sym k) })
        go (Err w) k q = absurd (let z : ◌≡◌ {A = ℕ} 0 1 = cc in omega arith)

    pub read_refused : (r : Refusal) → Err r ≡ read_there t x y → Err r ≡ shown_there t x y
    unfolding read_there
    read_refused r e = go (shown_there t x y) refl e
      where
        go : (s : Result Shown Refusal) → shown_there t x y ≡ s → Err r ≡ with_set_by (set_in t x y) s → Err r ≡ shown_there t x y
        go (Ok s) k q = absurd (let z : ◌≡◌ {A = ℕ} 0 1 = cc in omega arith)
        go (Err w) k q = let z : r ≡ w = cc in rw (k, z)

    pub unknown_set : (r : Refusal) → Err r ≡ shown_there t x y → (known t x y ≡ false) × (r ≡ Refusals.Broken)
    unfolding shown_there known
    unknown_set r e = go (leaf_in t x y) e
      where
        go : (f : Option Leaf) → Err r ≡ shown_by t x y f → (is_found f ≡ false) × (r ≡ Refusals.Broken)
        go (Some m) q = absurd (let z : ◌≡◌ {A = ℕ} 0 1 = cc in omega arith)
        go None q = (refl, cc)

    -- a position in range, of a leaf that was found
    pub position_accepted : (l : Leaf) (s : ℕ)
        → length t.xs ≡ length t.ys
        → position_range x y ≡ true
        → leaf_in t x y ≡ Some l
        → set_in t x y ≡ s
        → position_answer t x y ≡ Ok (spot_of t.areas l (is_uniform (leaf_stream t l)) s)
    position_accepted l s e r k z = rw (eq-eqb (length t.xs) (length t.ys) e, r, k, leaf_set l k ∙ z)

  -- ---- how far it reaches

  -- a leaf that was read serves each position of its square: it is found there, and where it is uniform the same set is read
  module _ (x y : ℕ) (s : Shown) (e : Ok s ≡ shown_there t x y) (x' y' : ℕ) (h : LeafHolds s.leaf (at x' y')) where
    pub leaf_again : leaf_in t x' y' ≡ Some s.leaf
    leaf_again = leaf_same t x y x' y' s.leaf h (shown_in_law x y s e).is_leaf_law

    same_set : (b : Bool)
        → is_uniform (leaf_stream t s.leaf) ≡ b
        → cond b (Some (set_read t s.leaf x y)) None ≡ cond b (Some (set_read t s.leaf x' y')) None
    same_set true q = ap (λ (v : ℕ). Some v) (set_uniform t.areas t.xs t.ys x y x' y' (leaf_stream t s.leaf) q)
    same_set false q = refl

    pub shown_again : Ok s ≡ shown_there t x' y'
    shown_again =
        e
        ∙ (leaf_shown x y s.leaf (shown_in_law x y s e).is_leaf_law
        ∙ (ap (λ (v : Option ℕ). Ok (shown_n s.leaf v)) (same_set (is_uniform (leaf_stream t s.leaf)) refl) ∙ sym (leaf_shown x' y' s.leaf leaf_again)))

  -- as the code tests it
  pub last_serves : (s : Shown) (x y : ℕ) → LastIn t (Some s) → in_square s.leaf x y ≡ true → Ok s ≡ shown_there t x y
  last_serves s x y k h = shown_again k.x k.y s k.was x y (inside_holds s.leaf x y h)
