-- The open groups of a drawing or a stream, by sides (`Rattle.groups.specs.Sides`), as the open groups of the grammar
-- of streams (`Rattle.pruning.specs.Grammar`).
use Prim.Native.Nat.{ℕ, suc}
use mathlib.Core.Path.{◌≡◌, refl, ap}
use mathlib.Core.Bool.{Bool, true, false, cond}
use mathlib.Core.List.{List, [], ◌∷◌}
use lib.Dec.{eqb}
use lib.ListN.{length}
use borrow.Author.Tests.{eqb-true}
use Rattle.laws.proofs.Booleans.{clash}
use Rattle.groups.specs.Sides.{Frame, paint_left, paint_right, clip_left, clip_right, is_paint, on_left, on_right, opening, to_right, to_outer, is_empty}
use Rattle.pruning.specs.Sides.{Kind, paint, clip, Entry, push, activate, pop}
use Rattle.pruning.specs.Grammar as Stream
use Rattle.pruning.specs.Grammar.{in_left, in_right, same_kind}
use Rattle.cells.specs.Drawings.{kind_of}

-- the open groups
abbrev pub opens : List Frame → List Stream.Open
opens [] = []
opens (paint_left ∷ fs) = in_left paint ∷ opens fs
opens (paint_right ∷ fs) = in_right paint ∷ opens fs
opens (clip_left ∷ fs) = in_left clip ∷ opens fs
opens (clip_right ∷ fs) = in_right clip ∷ opens fs

abbrev pub kind_by : Bool → Kind
kind_by true = paint
kind_by false = clip

-- the kind of the side that is being read
abbrev pub kind_on : List Frame → Kind
kind_on fs = kind_by (is_paint fs)

-- each group was opened on a side of its kind
abbrev pub Nested : List Frame → Type 0
Nested [] = Unit {0}
Nested (paint_left ∷ fs) = (is_paint fs ≡ true) × Nested fs
Nested (paint_right ∷ fs) = (is_paint fs ≡ true) × Nested fs
Nested (clip_left ∷ fs) = (is_paint fs ≡ false) × Nested fs
Nested (clip_right ∷ fs) = (is_paint fs ≡ false) × Nested fs

pub nested_open : (fs : List Frame) → Nested fs → Nested (opening fs)
nested_open fs h = go (is_paint fs) refl
  where
    go : (b : Bool) → is_paint fs ≡ b → Nested (cond b paint_left clip_left ∷ fs)
    go true e = (e, h)
    go false e = (e, h)

pub nested_right : (fs : List Frame) → Nested fs → Nested (to_right fs)
nested_right [] h = h
nested_right (paint_left ∷ fs) h = h
nested_right (paint_right ∷ fs) h = h
nested_right (clip_left ∷ fs) h = h
nested_right (clip_right ∷ fs) h = h

pub nested_outer : (fs : List Frame) → Nested fs → Nested (to_outer fs)
nested_outer [] h = h
nested_outer (paint_left ∷ fs) h = h.1
nested_outer (paint_right ∷ fs) h = h.1
nested_outer (clip_left ∷ fs) h = h.1
nested_outer (clip_right ∷ fs) h = h.1

-- an area
pub role_kind : (b : Bool) (n : ℕ) → eqb n (cond b 0 1) ≡ true → same_kind (kind_of n) (kind_by b) ≡ true
role_kind true n h = rw (eqb-true n 0 h)
role_kind false n h = rw (eqb-true n 1 h)

-- the delimiters, with the rest of the entries
module _ {A : Type 0} (es : List (Entry A)) where
  pub fits_end : (fs : List Frame) (k : Kind) → is_empty fs ≡ true → Stream.fits {A = A} [] k (opens fs) ≡ true
  fits_end [] k h = refl
  fits_end (f ∷ fs) k h = clash h

  pub fits_open : (fs : List Frame) → Stream.fits es (kind_on (opening fs)) (opens (opening fs)) ≡ true → Stream.fits (push ∷ es) (kind_on fs) (opens fs) ≡ true
  fits_open fs h₀ = go (is_paint fs) h₀
    where
      go : (b : Bool)
          → Stream.fits es (kind_on (cond b paint_left clip_left ∷ fs)) (opens (cond b paint_left clip_left ∷ fs)) ≡ true
          → Stream.fits es clip (in_left (kind_by b) ∷ opens fs) ≡ true
      go true h = h
      go false h = h

  pub fits_bar : (fs : List Frame)
      → on_left fs ≡ true
      → Stream.fits es (kind_on (to_right fs)) (opens (to_right fs)) ≡ true
      → Stream.fits (activate ∷ es) (kind_on fs) (opens fs) ≡ true
  fits_bar [] h g = clash h
  fits_bar (paint_left ∷ fs) h g = g
  fits_bar (paint_right ∷ fs) h g = clash h
  fits_bar (clip_left ∷ fs) h g = g
  fits_bar (clip_right ∷ fs) h g = clash h

  pub fits_close : (fs : List Frame)
      → Nested fs
      → on_right fs ≡ true
      → Stream.fits es (kind_on (to_outer fs)) (opens (to_outer fs)) ≡ true
      → Stream.fits (pop ∷ es) (kind_on fs) (opens fs) ≡ true
  fits_close [] n h g = clash h
  fits_close (paint_left ∷ fs) n h g = clash h
  fits_close (paint_right ∷ fs) n h g = rw n.0 at g
  fits_close (clip_left ∷ fs) n h g = clash h
  fits_close (clip_right ∷ fs) n h g = rw n.0 at g

pub opens_length : (fs : List Frame) → length (opens fs) ≡ length fs
opens_length [] = refl
opens_length (paint_left ∷ fs) = ap suc (opens_length fs)
opens_length (paint_right ∷ fs) = ap suc (opens_length fs)
opens_length (clip_left ∷ fs) = ap suc (opens_length fs)
opens_length (clip_right ∷ fs) = ap suc (opens_length fs)
