-- What follows for an accepted drawing: used by proofs. Every number is in range, every role fits its side, and nothing is over its limit.
use Rattle.std.specs.Prelude.{◌≡◌, true, List, [], ◌∷◌, ℕ, suc, ◌+◌, ◌*◌, ◌≤◌, ◌<◌, max, length, get_or}
use Rattle.geometry.specs.Windings.{Line, edge_of, lines_of}
use Rattle.geometry.specs.code.Reach.{CurveIn, LineBelow}
use Rattle.records.specs.Record.{area_range, corner_range}
use Rattle.pruning.specs.Sides.{paint, Side, end, leaf, group}
use Rattle.cells.specs.Drawings.{Drawing, fields_of}
use Rattle.cells.specs.Streams.{Item, always, area, On}
use Rattle.cells.specs.Elements.{Fitted}

-- how many groups are open at once
abbrev pub depth : {A : Type 0} → Side A → ℕ
depth end = 0
depth (leaf a t) = depth t
depth (group l r t) = max (suc (max (depth l) (depth r))) (depth t)

-- the sum over all items, with d for each delimiter
abbrev pub weigh : {A : Type 0} → (A → ℕ) → (d : ℕ) → Side A → ℕ
weigh v d end = 0
weigh v d (leaf a t) = v a + weigh v d t
weigh v d (group l r t) = 3 * d + (weigh v d l + weigh v d r + weigh v d t)

-- the elements of an item: "passes", or an area and each of its lines, curves and shortcuts
abbrev pub elements : Item → ℕ
elements always = 1
elements (area n z gs) = suc (length gs)

-- the corners of these lines are below n
abbrev pub CornersBelow : ℕ → List Line → Type 0
CornersBelow n [] = Unit {0}
CornersBelow n (l ∷ ls) = LineBelow n l × CornersBelow n ls

-- a drawing may have those of these lines that are curves
abbrev pub CurvesIn : (xs ys : List ℕ) → List Line → Type 0
CurvesIn xs ys [] = Unit {0}
CurvesIn xs ys (l ∷ ls) = CurveIn (edge_of xs ys l) × CurvesIn xs ys ls

-- the lines of area n
abbrev pub lines : Drawing → ℕ → List Line
lines D n = lines_of (get_or D.contours n [])

pub record Valid (D : Drawing) : Type 0 where
  -- "An area's role fits its side."
  pub roles : Fitted D
  pub numbers : On (λ k n. n < length D.fields) paint D.plan
  pub fields : (n : ℕ) → n < length D.fields → area_range (fields_of D n) ≡ true
  pub pairs : length D.xs ≡ length D.ys
  -- "each 0 to 65,536"
  pub coordinates : (n : ℕ) → n < length D.xs → corner_range (get_or D.xs n 0) (get_or D.ys n 0) ≡ true
  pub corners : (n : ℕ) → CornersBelow (length D.xs) (lines D n)
  -- document 02: "Its curve must rise or fall steadily in each axis"; document 02: "No axis spans over 4,096 units."
  pub curves : (n : ℕ) → CurvesIn D.xs D.ys (lines D n)
  -- "Limits: 4,096 records, 64 areas, 2,048 corners, 8 open groups."
  pub few_records : weigh (λ n. suc (length (lines D n))) 1 D.plan ≤ 4096
  pub few_areas : weigh (λ n. 1) 0 D.plan ≤ 64
  pub few_fields : length D.fields ≤ 64
  pub few_lines : weigh (λ n. length (lines D n)) 0 D.plan ≤ 2048
  pub few_each : (n : ℕ) → length (lines D n) ≤ 2048
  pub few_corners : length D.xs ≤ 2048
  pub few_groups : depth D.plan ≤ 8
