-- In a cell the start number takes in what is no longer among the lines and shortcuts: the winding stays at every position of the cell. A cell and then
-- a quarter of it leave what the quarter alone leaves.
use mathlib.Core.Path.{◌≡◌, refl, sym, ap, ◌∙◌}
use mathlib.Core.Bool.{Bool, cond}
use mathlib.Core.List.{List, [], ◌∷◌}
use Prim.Native.Nat.{ℕ}
use lib.IntN.{ℤ, pos, ◌+ℤ◌, +ℤ_idl, +ℤ_assoc, +ℤ_comm}
use Rattle.geometry.specs.Windings.{edge_of}
use Rattle.geometry.specs.Classes.{class_of, edge_class, cut, child_of, says}
use Rattle.geometry.specs.declared.class.Class.{Class}
use Rattle.geometry.specs.declared.class.Class.TheVariants.{Dropped, Start, Shortcut, Kept}
use Rattle.curves.proofs.Segments as Shapes
use Rattle.geometry.proofs.Edges.{edge_segment}
use Rattle.geometry.proofs.Classes.{class_says, child_class, shortcut_class, rows_segment, cut_cases}
use Rattle.cells.specs.Cells.{Position, col, row, Cell, left, low, side, Holds, Quarter, child}
use Rattle.cells.specs.Segments.{
  Segment,
  drawn,
  shortcut,
  counts_at,
  sign_of,
  first_of,
  end_of,
  adds_at,
  sum_at,
  class_in,
  kept_by,
  kept_in,
  start_by,
  start_in,
}
use Rattle.cells.proofs.Cells.{some_side, child_contains}

left_comm : (a b c : ℤ) → a +ℤ (b +ℤ c) ≡ b +ℤ (a +ℤ c)
left_comm a b c = sym (+ℤ_assoc a b c) ∙ (ap (λ x. x +ℤ c) (+ℤ_comm a b) ∙ +ℤ_assoc b a c)

right_comm : (a b c : ℤ) → a +ℤ b +ℤ c ≡ a +ℤ c +ℤ b
right_comm a b c = +ℤ_assoc a b c ∙ (ap (λ x. a +ℤ x) (+ℤ_comm b c) ∙ sym (+ℤ_assoc a c b))

module _ (xs ys : List ℕ) where
  abbrev test : Segment → ℕ → ℕ → Bool
  test = counts_at xs ys

  -- ---- lines and shortcuts are segments in the sense of the geometry's laws

  shape : (g : Segment) → Shapes.Segment (λ x y. test g x y) (first_of xs ys g) (end_of xs ys g)
  shape (drawn l) = edge_segment (edge_of xs ys l)
  shape (shortcut z lo hi) = rows_segment lo hi

  class_is : (c : Cell) (g : Segment) → class_in xs ys c g ≡ class_of (λ x y. test g x y) (first_of xs ys g) (end_of xs ys g) (left c) (low c) (side c)
  unfolding edge_class
  class_is c (drawn l) = refl
  class_is c (shortcut z lo hi) = sym (shortcut_class lo hi (left c) (low c) (side c) (some_side c))

  -- L1 and L2: in a cell its class says where it counts
  pub class_tells : (c : Cell) (g : Segment) (p : Position) → Holds c p → says (class_in xs ys c g) (λ x y. test g x y) (col p) (row p) ≡ test g (col p) (row p)
  class_tells c g p i = ap (λ k. says k (λ x y. test g x y) (col p) (row p)) (class_is c g) ∙ class_says (shape g) (left c) (low c) (side c) (col p) (row p) i

  -- L3: its class in a quarter, from its class in the cell
  pub class_child : (c : Cell) (q : Quarter) (g : Segment)
      → class_in xs ys (child c q) g ≡ child_of (class_in xs ys c g) (class_in xs ys (child c q) g) (low (child c q)) (side (child c q))
  class_child c q g =
      rw (class_is (child c q) g, class_is c g)
      (child_class (λ x y. test g x y) (first_of xs ys g) (end_of xs ys g) (left c) (low c) (side c) (left (child c q)) (low (child c q))
      (side (child c q)) (child_contains c q))

  -- ---- the winding stays

  winding_by : (c : Cell) (p : Position) (z : ℤ) (g : Segment) (gs : List Segment) (k : Class)
      → says k (λ x y. test g x y) (col p) (row p) ≡ test g (col p) (row p)
      → ((x : ℤ) → start_in xs ys c x gs +ℤ sum_at xs ys p (kept_in xs ys c gs) ≡ x +ℤ sum_at xs ys p gs)
      → start_in xs ys c (start_by xs ys k g z) gs +ℤ sum_at xs ys p (kept_by xs ys k g (kept_in xs ys c gs))
      ≡ z +ℤ (adds_at xs ys p g +ℤ sum_at xs ys p gs)
  winding_by c p z g gs Dropped h f = f z ∙ rw (← h, +ℤ_idl (sum_at xs ys p gs))
  winding_by c p z g gs Start h f = f (z +ℤ sign_of xs ys g) ∙ rw (← h) (+ℤ_assoc z (sign_of xs ys g) (sum_at xs ys p gs))
  winding_by c p z g gs (Shortcut lo hi) h f =
      left_comm (start_in xs ys c z gs) (adds_at xs ys p (shortcut (sign_of xs ys g) lo hi)) (sum_at xs ys p (kept_in xs ys c gs))
      ∙ (ap (λ x. adds_at xs ys p (shortcut (sign_of xs ys g) lo hi) +ℤ x) (f z)
      ∙ (left_comm (adds_at xs ys p (shortcut (sign_of xs ys g) lo hi)) z (sum_at xs ys p gs)
      ∙ ap (λ b. z +ℤ (cond b (sign_of xs ys g) (pos 0) +ℤ sum_at xs ys p gs)) h))
  winding_by c p z g gs Kept h f =
      left_comm (start_in xs ys c z gs) (adds_at xs ys p g) (sum_at xs ys p (kept_in xs ys c gs))
      ∙ (ap (λ x. adds_at xs ys p g +ℤ x) (f z) ∙ left_comm (adds_at xs ys p g) z (sum_at xs ys p gs))

  pub winding_stays : (c : Cell) (p : Position)
      → Holds c p
      → (z : ℤ) (gs : List Segment)
      → start_in xs ys c z gs +ℤ sum_at xs ys p (kept_in xs ys c gs) ≡ z +ℤ sum_at xs ys p gs
  winding_stays c p i z [] = refl
  winding_stays c p i z (g ∷ gs) = winding_by c p z g gs (class_in xs ys c g) (class_tells c g p i) (λ x. winding_stays c p i x gs)

  -- ---- a cell, then a quarter of it

  -- a shortcut of the cell is cut as its segment would be
  kept_cut : (lo hi Y S : ℕ) (g : Segment) (gs : List Segment)
      → kept_by xs ys (cut lo hi Y S) (shortcut (sign_of xs ys g) lo hi) gs ≡ kept_by xs ys (cut lo hi Y S) g gs
  kept_cut lo hi Y S g gs = cut_cases (λ k. kept_by xs ys k (shortcut (sign_of xs ys g) lo hi) gs ≡ kept_by xs ys k g gs) lo hi Y S refl refl (λ l h. refl)

  start_cut : (lo hi Y S : ℕ) (g : Segment) (z : ℤ) → start_by xs ys (cut lo hi Y S) (shortcut (sign_of xs ys g) lo hi) z ≡ start_by xs ys (cut lo hi Y S) g z
  start_cut lo hi Y S g z = cut_cases (λ k. start_by xs ys k (shortcut (sign_of xs ys g) lo hi) z ≡ start_by xs ys k g z) lo hi Y S refl refl (λ l h. refl)

  kept_by_law : (c d : Cell) (g : Segment) (gs : List Segment) (k : Class) → class_in xs ys d g ≡ child_of k (class_in xs ys d g) (low d) (side d)
      → kept_in xs ys d (kept_in xs ys c gs) ≡ kept_in xs ys d gs
      → kept_in xs ys d (kept_by xs ys k g (kept_in xs ys c gs)) ≡ kept_by xs ys (class_in xs ys d g) g (kept_in xs ys d gs)
  kept_by_law c d g gs Dropped h f = rw h f
  kept_by_law c d g gs Start h f = rw h f
  kept_by_law c d g gs (Shortcut lo hi) h f = rw (h, f) (kept_cut lo hi (low d) (side d) g (kept_in xs ys d gs))
  kept_by_law c d g gs Kept h f = ap (kept_by xs ys (class_in xs ys d g) g) f

  pub kept_child : (c : Cell) (q : Quarter) (gs : List Segment) → kept_in xs ys (child c q) (kept_in xs ys c gs) ≡ kept_in xs ys (child c q) gs
  kept_child c q [] = refl
  kept_child c q (g ∷ gs) = kept_by_law c (child c q) g gs (class_in xs ys c g) (class_child c q g) (kept_child c q gs)

  -- what is added to the start number may be added before or after
  more_by : (c : Cell) (z x : ℤ) (g : Segment) (gs : List Segment) (k : Class) → ((y : ℤ) → start_in xs ys c (y +ℤ x) gs ≡ start_in xs ys c y gs +ℤ x)
      → start_in xs ys c (start_by xs ys k g (z +ℤ x)) gs ≡ start_in xs ys c (start_by xs ys k g z) gs +ℤ x
  more_by c z x g gs Dropped f = f z
  more_by c z x g gs Start f = ap (λ a. start_in xs ys c a gs) (right_comm z x (sign_of xs ys g)) ∙ f (z +ℤ sign_of xs ys g)
  more_by c z x g gs (Shortcut lo hi) f = f z
  more_by c z x g gs Kept f = f z

  start_more : (c : Cell) (x : ℤ) (gs : List Segment) (z : ℤ) → start_in xs ys c (z +ℤ x) gs ≡ start_in xs ys c z gs +ℤ x
  start_more c x [] z = refl
  start_more c x (g ∷ gs) z = more_by c z x g gs (class_in xs ys c g) (start_more c x gs)

  -- a segment that is kept in the cell, whatever becomes of it in the quarter
  later : (c d : Cell) (z : ℤ) (g : Segment) (gs : List Segment) (k : Class)
      → ((y : ℤ) → start_in xs ys d (start_in xs ys c y gs) (kept_in xs ys c gs) ≡ start_in xs ys d y gs)
      → start_in xs ys d (start_by xs ys k g (start_in xs ys c z gs)) (kept_in xs ys c gs) ≡ start_in xs ys d (start_by xs ys k g z) gs
  later c d z g gs Dropped f = f z
  later c d z g gs Start f = ap (λ a. start_in xs ys d a (kept_in xs ys c gs)) (sym (start_more c (sign_of xs ys g) gs z)) ∙ f (z +ℤ sign_of xs ys g)
  later c d z g gs (Shortcut lo hi) f = f z
  later c d z g gs Kept f = f z

  start_by_law : (c d : Cell) (z : ℤ) (g : Segment) (gs : List Segment) (k : Class)
      → class_in xs ys d g ≡ child_of k (class_in xs ys d g) (low d) (side d)
      → ((y : ℤ) → start_in xs ys d (start_in xs ys c y gs) (kept_in xs ys c gs) ≡ start_in xs ys d y gs)
      → start_in xs ys d (start_in xs ys c (start_by xs ys k g z) gs) (kept_by xs ys k g (kept_in xs ys c gs))
      ≡ start_in xs ys d (start_by xs ys (class_in xs ys d g) g z) gs
  start_by_law c d z g gs Dropped h f = rw h (f z)
  start_by_law c d z g gs Start h f = rw h (f (z +ℤ sign_of xs ys g))
  start_by_law c d z g gs (Shortcut lo hi) h f =
      rw h
      (ap (λ a. start_in xs ys d a (kept_in xs ys c gs)) (start_cut lo hi (low d) (side d) g (start_in xs ys c z gs))
      ∙ later c d z g gs (cut lo hi (low d) (side d)) f)
  start_by_law c d z g gs Kept h f = later c d z g gs (class_in xs ys d g) f

  pub start_child : (c : Cell) (q : Quarter) (gs : List Segment) (z : ℤ)
      → start_in xs ys (child c q) (start_in xs ys c z gs) (kept_in xs ys c gs) ≡ start_in xs ys (child c q) z gs
  start_child c q [] z = refl
  start_child c q (g ∷ gs) z = start_by_law c (child c q) z g gs (class_in xs ys c g) (class_child c q g) (start_child c q gs)
