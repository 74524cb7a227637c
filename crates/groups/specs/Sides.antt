-- Document 01, "Drawing": sides and open groups.
use Rattle.std.specs.Prelude.{Bool, true, false, cond, List, [], ◌∷◌}

-- an open group: whether it was opened on a paint side or a clip side, and which of its sides is being read
pub data Frame : Type 0 where
  paint_left paint_right clip_left clip_right : Frame

-- "The top level and the right side of a group opened on a paint side are paint sides; all other sides of groups are clip sides."
-- The innermost open group comes first.
abbrev pub is_paint : List Frame → Bool
is_paint [] = true
is_paint (paint_left ∷ fs) = false
is_paint (paint_right ∷ fs) = true
is_paint (clip_left ∷ fs) = false
is_paint (clip_right ∷ fs) = false

-- "`|` fits on the left side of the innermost open group, `)` on its right."
abbrev pub on_left : List Frame → Bool
on_left [] = false
on_left (paint_left ∷ fs) = true
on_left (paint_right ∷ fs) = false
on_left (clip_left ∷ fs) = true
on_left (clip_right ∷ fs) = false

abbrev pub on_right : List Frame → Bool
on_right [] = false
on_right (paint_left ∷ fs) = false
on_right (paint_right ∷ fs) = true
on_right (clip_left ∷ fs) = false
on_right (clip_right ∷ fs) = true

-- the open groups after `(`, `|` and `)`
abbrev pub opening : List Frame → List Frame
opening fs = cond (is_paint fs) paint_left clip_left ∷ fs

abbrev pub to_right : List Frame → List Frame
to_right [] = []
to_right (paint_left ∷ fs) = paint_right ∷ fs
to_right (paint_right ∷ fs) = paint_right ∷ fs
to_right (clip_left ∷ fs) = clip_right ∷ fs
to_right (clip_right ∷ fs) = clip_right ∷ fs

abbrev pub to_outer : List Frame → List Frame
to_outer [] = []
to_outer (f ∷ fs) = fs

abbrev pub is_empty : List Frame → Bool
is_empty [] = true
is_empty (f ∷ fs) = false
