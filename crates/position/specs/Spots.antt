-- Document 01, "Winding and meaning" and "The list of demand 3", and document 02, Item 4: what is read from a tree at a position.
use Rattle.std.specs.Prelude.{Option, Some, None, ◌≡◌, Bool, true, false, cond, List, ℕ, Result, Ok, Err, eqb, length}
use Rattle.refusals.specs.declared.Refusal.{Refusal}
use Rattle.refusals.specs.declared.Refusal.TheVariants as Refusals
use Rattle.geometry.specs.Classes.{Inside}
use Rattle.paint.specs.declared.colour.Channels.{Channels}
use Rattle.paint.specs.Sets.{set_of}
use Rattle.paint.specs.Areas.{paint_at, material_of}
use Rattle.paint.specs.Colours.{sums_of, colour_of}
use Rattle.stream.specs.Entry.{is_uniform}
use Rattle.celltable.specs.declared.Leaf.{Leaf}
use Rattle.cells.specs.Cells.{at}
use Rattle.cells.specs.Drawings.{Drawing}
use Rattle.cells.specs.Streams.{shown_in}
use Rattle.cells.specs.Elements.{stream_of, role_in}
use Rattle.evaluate.specs.Reading.{elements_in, set_at}
use Rattle.ranges.specs.Held.{lent}
use Rattle.tables.specs.Tables.{Tree}
use Rattle.find_leaf.specs.Leaf.{position_range, leaf_bounds, leaf_stream, leaf_in}
use Rattle.position.specs.declared.Spot.{Spot}

-- 12 is not met: "the path down and the whole leaf when answering"
abbrev pub is_found : Option Leaf → Bool
is_found (Some l) = true
is_found None = false

-- a set, its material and its colour; document 02: "Positions hand it on, together with the leaf's low corner and side."
abbrev pub spot_of : (areas : List ℕ) → Leaf → (uniform : Bool) → (set : ℕ) → Spot
spot_of areas l uniform set =
    record {
      set = set;
      material = material_of (paint_at areas) set;
      red = (colour_of (paint_at areas) set).red;
      green = (colour_of (paint_at areas) set).green;
      blue = (colour_of (paint_at areas) set).blue;
      uniform = uniform;
      x = l.x;
      y = l.y;
      side = l.side;
    }

module _ (t : Tree) where
  -- "A stream is read in one pass as in document 000's flat clipping"; where 12 is met there is no leaf, and nothing is read
  abbrev pub set_read : Leaf → (x y : ℕ) → ℕ
  set_read l x y = set_at t.areas t.xs t.ys x y (leaf_stream t l)

  abbrev pub set_by : (x y : ℕ) → Option Leaf → ℕ
  set_by x y (Some l) = set_read l x y
  set_by x y None = 0

  -- what shows in the leaf, or 12
  abbrev pub spot_by : (x y : ℕ) → Option Leaf → Result Spot Refusal
  spot_by x y (Some l) = Ok (spot_of t.areas l (is_uniform (leaf_stream t l)) (set_by x y (Some l)))
  spot_by x y None = Err Refusals.Broken

  -- the areas and corners in use, against which the stream of a leaf is read
  abbrev pub lent_to : Leaf → Drawing
  lent_to l = lent t.areas t.xs t.ys (leaf_bounds t l)

  -- ""Read there" is by "Winding and meaning" over the leaf's stream": `Rattle.position.proofs.Known.leaf_meaning` says that the pass gives this set,
  -- whoever wrote the tables
  abbrev pub set_meant : (x y : ℕ) → Leaf → ℕ
  set_meant x y l = set_of (shown_in (lent_to l) (at x y) (stream_of (role_in (lent_to l)) (elements_in (leaf_stream t l))))

  module _ (x y : ℕ) where
    unfoldable pub known : Bool
    known = is_found (leaf_in t x y)

    -- the shown set
    unfoldable pub set_in : ℕ
    set_in = set_by x y (leaf_in t x y)

    -- "The material is the material of the lowest numbered area in that set, or 0 if it is empty."
    abbrev pub material_in : ℕ
    material_in = material_of (paint_at t.areas) set_in

    -- the unrounded channel sums, for pixels
    abbrev pub sums_in : Channels
    sums_in = sums_of (paint_at t.areas) set_in

    abbrev pub spot_in : Result Spot Refusal
    spot_in = spot_by x y (leaf_in t x y)

    -- 7: "a lent pair of x and y tables of unequal length (tried before all other checks ...); position ... out of range"; then 12
    abbrev pub position_answer : Result Spot Refusal
    position_answer =
        cond (eqb (length t.xs) (length t.ys)) (cond (position_range x y) spot_in (Err Refusals.Argument)) (Err Refusals.Argument)

  -- document 02: "A yes means that each position of the leaf has this shown set, material and colour.", whoever wrote the tables: each position of the
  -- square that an answer with "yes" names is given the same answer. `Rattle.position.proofs.Reach` has the proof.
  abbrev pub Reaches : Type 0
  Reaches = (x y : ℕ) (s : Spot) → position_answer x y ≡ Ok s → s.uniform ≡ true → (x' y' : ℕ) → Inside s.x s.y s.side x' y'
      → position_answer x' y' ≡ Ok s
