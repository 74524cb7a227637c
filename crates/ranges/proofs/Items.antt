-- Every item of a cell's stream is in range: its area's number, role and start number, and its lines, curves and shortcuts.
use mathlib.Core.Path.{◌≡◌, ap, ◌∙◌}
use mathlib.Core.Bool.{true}
use mathlib.Core.List.{List, [], ◌∷◌, ◌++◌}
use Prim.Native.Nat.{ℕ, ◌+◌, ◌≤◌, ◌<◌}
use native.Mathlib.Omega.{arith}
use lib.ListN.{length}
use lib.IntN.{ℤ, nat_abs}
use Rattle.records.specs.declared.Record.TheVariants.{Area}
use Rattle.std.specs.Prelude.{Ok}
use Rattle.drawing.specs.Tables.{area_row}
use Rattle.pruning.specs.Sides.{Kind, paint, clip, Side, end, leaf, group, Entry, item, push, activate, pop, flat, map_side}
use Rattle.pruning.proofs.Sides.{map_map}
use Rattle.pruning.proofs.Survivors.{normal_sub}
use Rattle.stream.specs.declared.Bounds.{Bounds}
use Rattle.records.specs.Record.{is_good}
use Rattle.stream.specs.Grammar.{env, role_fits}
use Rattle.cells.specs.Cells.{Cell, low, side}
use Rattle.cells.specs.Segments.{Segment}
use Rattle.cells.specs.Drawings.{Drawing, fields_of}
use Rattle.cells.specs.Streams.{Item, always, area, Each, On, items, within, whole, source, made}
use Rattle.cells.specs.code.Sizes.{Small}
use Rattle.cells.specs.Elements.{OnSide, role_in}
use Rattle.cells.proofs.Each.{each_sub, each_mapped}
use Rattle.cells.proofs.Streams.{made_normal}
use Rattle.cells.proofs.Bounds.{made_small}
use Rattle.cells.proofs.Elements.{made_on_side}
use Rattle.ranges.specs.code.Valid.{Valid, lines}
use Rattle.ranges.specs.Held.{Held}
use Rattle.ranges.proofs.Segments.{EachIn, lines_kept}
use Rattle.ranges.proofs.Passing.{is_paint_side, AreaPasses, ItemPasses}
use Rattle.ranges.proofs.Numbers.{start_word, role_fits_law, each_passes}

-- ---- of each entry of the stream, so of each item of the side

module _ {A : Type 0} (P : Kind → A → Type 0) where
  each_front : (x y : List (Entry A)) → Each P (x ++ y) → Each P x
  each_front [] y h = tt
  each_front (item k a ∷ x) y h = (h.0, each_front x y h.1)
  each_front (push ∷ x) y h = each_front x y h
  each_front (activate ∷ x) y h = each_front x y h
  each_front (pop ∷ x) y h = each_front x y h

  each_back : (x y : List (Entry A)) → Each P (x ++ y) → Each P y
  each_back [] y h = h
  each_back (item k a ∷ x) y h = each_back x y h.1
  each_back (push ∷ x) y h = each_back x y h
  each_back (activate ∷ x) y h = each_back x y h
  each_back (pop ∷ x) y h = each_back x y h

  pub each_on : (k : Kind) (s : Side A) → Each P (flat k s) → On P k s
  each_on k end h = tt
  each_on k (leaf a t) h = (h.0, each_on k t h.1)
  each_on k (group l r t) h =
      let after = activate ∷ (flat k r ++ (pop ∷ flat k t)) in
      let right = each_back (flat clip l) after h in (
        each_on clip l (each_front (flat clip l) after h),
        each_on k r (each_front (flat k r) (pop ∷ flat k t) right),
        each_on k t (each_back (flat k r) (pop ∷ flat k t) right),
      )

-- two facts of each item give a third
pub on_both : {A : Type 0} (P Q R : Kind → A → Type 0) → ((k : Kind) (a : A) → P k a → Q k a → R k a) → (k : Kind) (s : Side A) → On P k s → On Q k s → On R k s
on_both P Q R f k end p q = tt
on_both P Q R f k (leaf a t) p q = (f k a p.0 q.0, on_both P Q R f k t p.1 q.1)
on_both P Q R f k (group l r t) p q = (on_both P Q R f clip l p.0 q.0, on_both P Q R f k r p.1 q.1, on_both P Q R f k t p.2 q.2)

module _ (D : Drawing) (c : Cell) where
  -- its area is in use, and its lines, curves and shortcuts are in range
  abbrev pub Numbered : Kind → Item → Type 0
  Numbered k always = Unit {0}
  Numbered k (area n z gs) = (n < length D.fields) × EachIn D.xs D.ys c gs

  pub made_numbered : Valid D → Each Numbered (flat paint (made D c (source D)))
  made_numbered ok =
      rw (made_normal D c (source D))
      (each_sub (items D) Numbered tt (normal_sub (items D) paint (map_side (within D c) (source D)))
      (rw (map_map (whole D) (within D c) D.plan)
      (each_mapped (λ k n. n < length D.fields) Numbered (λ n. within D c (whole D n))
      (λ k n l. (l, lines_kept D.xs D.ys c (lines D n) (ok.corners n) (ok.curves n))) paint D.plan ok.numbers)))

  -- its role is that of its side, and its start number is small
  abbrev pub Placed : Kind → Item → Type 0
  Placed k i = OnSide (role_in D) k i × Small D 2048 k i

  pub made_placed : Valid D → On Placed paint (made D c (source D))
  made_placed ok =
      let s = made D c (source D) in
      on_both (OnSide (role_in D)) (Small D 2048) Placed (λ k i p q. (p, q)) paint s
      (each_on (OnSide (role_in D)) paint s (made_on_side D ok.roles c)) (each_on (Small D 2048) paint s (made_small D 2048 ok.few_each c))

  -- the words of each pass, in tables that hold the drawing
  module _ (ok : Valid D) (areas xs ys : List ℕ) (b : Bounds) (H : Held areas xs ys b D) (same_low : b.low ≡ low c) (same_side : b.side ≡ side c) where
    row : (n : ℕ) → n < length D.fields → area_row areas b.areas n ≡ Ok (Area (fields_of D n))
    row n l = H.rows n (omega (arith, H.areas_used))

    role : (k : Kind) (n : ℕ) → n < length D.fields → role_in D n ≡ k → role_fits (area_row areas b.areas n) (is_paint_side k) ≡ true
    role k n l e = ap (λ r. role_fits r (is_paint_side k)) (row n l) ∙ role_fits_law k (fields_of D n) (ok.fields n l) e

    area_in : (k : Kind) (n : ℕ) (z : ℤ) (gs : List Segment)
        → role_in D n ≡ k
        → nat_abs z + length gs ≤ 2048
        → n < length D.fields
        → EachIn D.xs D.ys c gs
        → AreaPasses (env areas xs ys b) k n z gs
    area_in k n z gs e m l h = (ap is_good (row n l), role k n l e, start_word z (omega arith), each_passes D areas xs ys b H c same_low same_side ok gs h)

    item_in : (k : Kind) (i : Item) → Placed k i → Numbered k i → ItemPasses (env areas xs ys b) k i
    item_in paint always p q = p.0
    item_in clip always p q = tt
    item_in paint (area n z gs) p q = area_in paint n z gs p.0 p.1.0 q.0 q.1
    item_in clip (area n z gs) p q = area_in clip n z gs p.0 p.1.0 q.0 q.1

    pub made_in : On (ItemPasses (env areas xs ys b)) paint (made D c (source D))
    made_in =
        let s = made D c (source D) in
        on_both Placed Numbered (ItemPasses (env areas xs ys b)) item_in paint s (made_placed ok) (each_on Numbered paint s (made_numbered ok))
