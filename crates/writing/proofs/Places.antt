-- Places by weights, and what an entry does to the output of the pruner.
use mathlib.Core.Path.{◌≡◌, refl, sym}
use mathlib.Core.Bool.{Bool, true, false}
use mathlib.Core.List.{List, [], ◌∷◌, ◌++◌}
use Prim.Native.Nat.{ℕ, zero, suc, ◌+◌, ◌*◌, ◌<◌}
use native.Mathlib.Omega.{arith}
use lib.Dec.{eqb}
use lib.ListN.{length, take}
use lib.Seq.{take-length}
use Rattle.pruning.specs.Sides.{push, activate, pop}
use Rattle.pruning.specs.code.Pruner as Pruning
use Rattle.pruning.specs.code.Pruner.{left, right, through, dead, Frame, frame, Skip, going, shut, st, keep_left, keep_right, end_left, end_right}
use Rattle.pruning.specs.code.Effects.{out_of}
use Rattle.pruning.specs.code.Weights.{total}
use Rattle.cells.specs.Cells.{Cell}
use Rattle.cells.specs.Segments.{drawn, shortcut}
use Rattle.cells.specs.Drawings.{Drawing}
use Rattle.cells.specs.Streams.{items}
use Rattle.cells.specs.Elements.{Element, opens, bar, closes, bare, named, segment, entry_elements}
use Rattle.cells.specs.code.Making.{prune, element_size}
use Rattle.writing.specs.code.Numbers.{place_of}

-- ---- a place

-- what an element weighs beside the 1, in units of 65,536
abbrev more : Element → ℕ
more opens = 0
more bar = 0
more closes = 0
more bare = 0
more (named n z) = 65536
more (segment (drawn l)) = 1
more (segment (shortcut z lo hi)) = 0

abbrev mores : List Element → ℕ
mores [] = 0
mores (r ∷ rs) = more r + mores rs

element_is : (r : Element) → element_size r ≡ 1 + 65536 * more r
element_is opens = refl
element_is bar = refl
element_is closes = refl
element_is bare = refl
element_is (named n z) = refl
element_is (segment (drawn l)) = refl
element_is (segment (shortcut z lo hi)) = refl

total_is : (rs : List Element) → total element_size rs ≡ length rs + 65536 * mores rs
total_is [] = refl
total_is (r ∷ rs) = omega (arith, element_is r, total_is rs)

pub place_is : (rs : List Element) → length rs < 65536 → place_of (total element_size rs) ≡ length rs
place_is rs h = omega (arith, total_is rs)

-- ---- a delimiter adds its element, or cuts the output back
pub data Moves (out : List Element) (r : Element) (out' : List Element) : Type 0 where
  adds : out' ≡ out ++ (r ∷ []) → Moves out r out'
  cuts : (p : ℕ) → out' ≡ take p out → Moves out r out'

module _ (D : Drawing) (c : Cell) where
  rests : (out : List Element) (r : Element) → Moves out r out
  rests out r = cuts (length out) (sym (take-length out))

  pub open_moves : (x : Pruning.State Element) → Moves (out_of x) opens (out_of (prune D c x push))
  open_moves (st out b going fs) = adds refl
  open_moves (st out b (shut m) fs) = rests out opens

  keep_left_law : (t : Bool) (s o : ℕ) (out : List Element) (fs : List Frame) → Moves out bar (out_of (keep_left (items D) Element entry_elements t s o out fs))
  keep_left_law true s o out fs = cuts s refl
  keep_left_law false s o out fs = adds refl

  left_moves : (out : List Element) (b : ℕ) (w : Skip) (fs : List Frame) → Moves out bar (out_of (end_left (items D) Element entry_elements out b w fs))
  left_moves out b w [] = rests out bar
  left_moves out b going (frame left s o ∷ fs) = keep_left_law (eqb (length out) b) s o out fs
  left_moves out b (shut m) (frame left s o ∷ fs) = cuts s refl
  left_moves out b w (frame right s o ∷ fs) = rests out bar
  left_moves out b w (frame through s o ∷ fs) = rests out bar
  left_moves out b w (frame dead s o ∷ fs) = rests out bar

  pub bar_moves : (x : Pruning.State Element) → Moves (out_of x) bar (out_of (prune D c x activate))
  bar_moves (st out b going fs) = left_moves out b going fs
  bar_moves (st out b (shut zero) fs) = left_moves out b (shut zero) fs
  bar_moves (st out b (shut (suc m)) fs) = rests out bar

  keep_right_law : (t : Bool) (s o : ℕ) (out : List Element) (fs : List Frame)
      → Moves out closes (out_of (keep_right (items D) Element entry_elements t s o out fs))
  keep_right_law true s o out fs = cuts s refl
  keep_right_law false s o out fs = adds refl

  right_moves : (out : List Element) (b : ℕ) (w : Skip) (fs : List Frame) → Moves out closes (out_of (end_right (items D) Element entry_elements out b w fs))
  right_moves out b w [] = rests out closes
  right_moves out b w (frame left s o ∷ fs) = rests out closes
  right_moves out b w (frame right s o ∷ fs) = keep_right_law (eqb (length out) b) s o out fs
  right_moves out b w (frame through s o ∷ fs) = rests out closes
  right_moves out b w (frame dead s o ∷ fs) = rests out closes

  pub close_moves : (x : Pruning.State Element) → Moves (out_of x) closes (out_of (prune D c x pop))
  close_moves (st out b going fs) = right_moves out b going fs
  close_moves (st out b (shut zero) fs) = right_moves out b (shut zero) fs
  close_moves (st out b (shut (suc m)) fs) = rests out closes
