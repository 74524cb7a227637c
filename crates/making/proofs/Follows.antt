-- The numbers go as the elements do: one entry more.
use mathlib.Core.Path.{◌≡◌, refl, sym, ap, subst, ◌∙◌}
use mathlib.Core.Bool.{Bool, true, false, cond, ◌&&◌, ◌||◌}
use mathlib.Core.List.{List, [], ◌∷◌, ◌++◌, map, append-nil}
use Prim.Native.Nat.{ℕ, suc, ◌+◌, ◌*◌, ◌≤◌, ◌<◌, min, max}
use native.Mathlib.Omega.{arith}
use lib.Dec.{eqb, leb}
use lib.ListN.{length, get_or, length-append, length-map}
use lib.IntN.{ℤ, nat_abs}
use borrow.Author.Tests.{ne_eqb}
use Rattle.laws.proofs.Differences.{abs_add}
use Rattle.geometry.specs.Classes.{cut, verdict}
use Rattle.geometry.specs.declared.class.Class as Classes
use Rattle.geometry.specs.declared.class.Class.TheVariants.{Dropped, Start, Shortcut, Kept}
use Rattle.pruning.specs.Sides.{Kind, paint, clip, Entry, item}
use Rattle.pruning.specs.Items.{fails, passes, other}
use Rattle.pruning.specs.code.Pruner as Pruning
use Rattle.pruning.specs.code.Pruner.{st, going}
use Rattle.pruning.specs.code.Counters.{ct, length_of, count_step}
use Rattle.pruning.specs.code.Effects.{out_of}
use Rattle.pruning.specs.code.Weights.{total, weighed}
use Rattle.pruning.proofs.Counters.{Fit, count, step_counts, count_grows}
use Rattle.pruning.proofs.Weights.{step_weighs, sized_step}
use Rattle.cells.specs.Cells.{Cell, low, side}
use Rattle.cells.specs.Segments.{Segment, drawn, shortcut, sign_of, class_in, kept_by, start_by}
use Rattle.cells.specs.Drawings.{Drawing, passes_by, is_opaque}
use Rattle.cells.specs.Streams.{Item, always, area, items, class_of, passing}
use Rattle.cells.specs.Elements.{Element, opens, bar, closes, bare, named, segment, item_elements, entry_elements, role_in}
use Rattle.cells.specs.code.Making.{Waiting, nothing, held, Making, making, prune, settle, add_to, begun, element_size}
use Rattle.cells.proofs.Making.{entry_some}
use Rattle.pruner.specs.declared.Pruner.{Pruner}
use Rattle.pruner.specs.code.Numbers as Numbers
use Rattle.pruner.specs.code.Numbers.{counted}
use Rattle.evaluate.specs.Reading.{opaque_at}
use Rattle.evaluate.specs.Words.{Agrees}
use Rattle.making.specs.declared.Waiting as Declared
use Rattle.making.specs.code.Numbers.{waiting_as, waiting, resting, with_left, class_n, settled_n}
use Rattle.std.specs.Prelude.{Option}
use Rattle.pruner.specs.declared.ItemClass.TheVariants.{Fails, Passes, Neither}

abbrev pub state_of : Making → Pruning.State Element
state_of (making x w) = x

abbrev pub waiting_of : Making → Waiting
waiting_of (making x w) = w

-- the area that waits, as numbers
abbrev pub waiting_for : Waiting → Option Declared.Waiting
waiting_for nothing = resting
waiting_for (held n z gs) = waiting n z (total element_size (item_elements (area n z gs)))

-- its elements
abbrev pub elements_for : Waiting → ℕ
elements_for nothing = 0
elements_for (held n z gs) = suc (length gs)

-- it is one of u areas, and its start number is small
abbrev pub WaitsIn : (u k : ℕ) → Waiting → Type 0
WaitsIn u k nothing = Unit {0}
WaitsIn u k (held n z gs) = (n < u) × (nat_abs z ≤ 2048 + k)

-- after k entries
pub record Follows (D : Drawing) (k : ℕ) (p : Pruner) (a : Option Declared.Waiting) (m : Making) : Type 0 where
  pub counts : counted p ≡ weighed element_size (state_of m)
  pub waits : a ≡ waiting_for (waiting_of m)
  pub fit : Fit (count (items D) Element entry_elements entry_some (state_of m))
  pub short : length (out_of (state_of m)) + elements_for (waiting_of m) ≤ k
  pub named_in : WaitsIn (length D.fields) k (waiting_of m)

-- classes that differ
abbrev is_kept : Classes.Class → Type 0
is_kept Dropped = ⊥
is_kept Start = ⊥
is_kept (Shortcut lo hi) = ⊥
is_kept Kept = Unit {0}

dropped_kept : Dropped ≡ Kept → ⊥
dropped_kept e = subst is_kept (sym e) tt

start_kept : Start ≡ Kept → ⊥
start_kept e = subst is_kept (sym e) tt

shortcut_kept : (lo hi : ℕ) → Shortcut lo hi ≡ Kept → ⊥
shortcut_kept lo hi e = subst is_kept (sym e) tt

pub element_some : (r : Element) → 0 < element_size r
element_some opens = omega arith
element_some bar = omega arith
element_some closes = omega arith
element_some bare = omega arith
element_some (named n z) = omega arith
element_some (segment (drawn l)) = omega arith
element_some (segment (shortcut z lo hi)) = omega arith

pub element_most : (r : Element) → element_size r ≤ 4294967297
element_most opens = omega arith
element_most bar = omega arith
element_most closes = omega arith
element_most bare = omega arith
element_most (named n z) = omega arith
element_most (segment (drawn l)) = omega arith
element_most (segment (shortcut z lo hi)) = omega arith

pub total_most : (rs : List Element) → total element_size rs ≤ length rs * 4294967297
total_most [] = omega arith
total_most (r ∷ rs) = omega (arith, element_most r, total_most rs)

module _ (areas : List ℕ) (D : Drawing) (c : Cell) (agrees : (n : ℕ) → n < length D.fields → Agrees areas D n) where
  -- one entry more in the pruner
  step_is : (x : Pruning.State Element) (e : Entry Item) → Fit (count (items D) Element entry_elements entry_some x)
      → weighed element_size (prune D c x e) ≡ count_step (items D) (λ e. total element_size (entry_elements e)) (weighed element_size x) e
  step_is x e f = step_weighs element_size element_some (items D) entry_elements entry_some x e f

  pub step_fits : (x : Pruning.State Element) (e : Entry Item)
      → Fit (count (items D) Element entry_elements entry_some x)
      → Fit (count (items D) Element entry_elements entry_some (prune D c x e))
  step_fits x e f = let q = step_counts (items D) Element entry_elements entry_some x e f in subst Fit (sym q.0) q.1

  out_length : (x : Pruning.State Element) → length_of (count (items D) Element entry_elements entry_some x) ≡ length (out_of x)
  out_length (st out b w fs) = refl

  bare_short : (a : Item) → 1 ≤ length (item_elements a)
  bare_short always = omega arith
  bare_short (area n z gs) = omega arith

  pub step_short : (x : Pruning.State Element) (e : Entry Item)
      → Fit (count (items D) Element entry_elements entry_some x)
      → length (out_of (prune D c x e)) ≤ length (out_of x) + length (entry_elements e)
  step_short x e f =
      let q = step_counts (items D) Element entry_elements entry_some x e f in
      omega (
        arith,
        count_grows (items D) Element entry_elements entry_some bare_short (count (items D) Element entry_elements entry_some x) e f,
        out_length x,
        out_length (prune D c x e),
        ap length_of q.0,
      )

  -- the class of the area that waits
  class_alone : (n : ℕ) (z : ℤ) → n < length D.fields → Numbers.class_of (class_n areas (waiting_as n z 4294967297)) ≡ class_of D (role_in D n) (area n z [])
  class_alone n z h = rw ((agrees n h).pass z) (go (passes_by D n z) (eqb (get_or areas (n * 8) 0) 0) (role_in D n) (agrees n h).role)
    where
      opaque : opaque_at areas n ≡ is_opaque D n
      opaque = (agrees n h).opaque

      opaque_by : (o : Bool) → Numbers.class_of (cond o Passes Neither) ≡ cond o passes other
      opaque_by true = refl
      opaque_by false = refl

      go : (b t : Bool) (k : Kind) → cond t paint clip ≡ k → Numbers.class_of (cond b (cond t (cond (opaque_at areas n) Passes Neither) Passes) Fails)
          ≡ cond b (passing D k n) fails
      go true true k e = subst (λ j. Numbers.class_of (cond (opaque_at areas n) Passes Neither) ≡ passing D j n) e (rw opaque (opaque_by (is_opaque D n)))
      go true false k e = subst (λ j. passes ≡ passing D j n) e refl
      go false t k e = refl

  pub class_is : (n : ℕ) (z : ℤ) (gs : List Segment) → n < length D.fields
      → Numbers.class_of (class_n areas (waiting_as n z (total element_size (item_elements (area n z gs))))) ≡ class_of D (role_in D n) (area n z gs)
  class_is n z [] h = class_alone n z h
  class_is n z (g ∷ gs) h = rw (ne_eqb (total element_size (item_elements (area n z (g ∷ gs)))) 4294967297 (λ e. omega (arith, element_some (segment g))))

  -- the area that waits goes to the pruner
  pub settle_counts : (k : ℕ) (p : Pruner) (a : Option Declared.Waiting) (m : Making)
      → Follows D k p a m
      → settled_n areas (counted p) a ≡ weighed element_size (settle D c m)
  settle_counts k p a (making x nothing) f = rw f.waits f.counts
  settle_counts k p a (making x (held n z gs)) f =
      rw (f.waits, class_is n z gs f.named_in.0, (agrees n f.named_in.0).role, f.counts)
      (sym
      (step_is x (item (role_in D n) (area n z gs)) f.fit
      ∙ sized_step element_size element_some (items D) entry_elements entry_some refl refl refl refl (weighed element_size x)
      (item (role_in D n) (area n z gs))))

  pub settle_fits : (k : ℕ) (p : Pruner) (a : Option Declared.Waiting) (m : Making)
      → Follows D k p a m
      → Fit (count (items D) Element entry_elements entry_some (settle D c m))
  settle_fits k p a (making x nothing) f = f.fit
  settle_fits k p a (making x (held n z gs)) f = step_fits x (item (role_in D n) (area n z gs)) f.fit

  pub settle_short : (k : ℕ) (p : Pruner) (a : Option Declared.Waiting) (m : Making) → Follows D k p a m → length (out_of (settle D c m)) ≤ k
  settle_short k p a (making x nothing) f = omega (arith, f.short)
  settle_short k p a (making x (held n z gs)) f =
      omega (arith, f.short, step_short x (item (role_in D n) (area n z gs)) f.fit, length-map {B = Element} gs segment)

  -- a delimiter or "passes"
  pub mark_follows : (k : ℕ) (p p' : Pruner) (a : Option Declared.Waiting) (m : Making) (e : Entry Item)
      → length (entry_elements e) ≡ 1
      → Follows D k p a m
      → counted p' ≡ count_step (items D) (λ e. total element_size (entry_elements e)) (settled_n areas (counted p) a) e
      → Follows D (k + 1) p' resting (making (prune D c (settle D c m) e) nothing)
  mark_follows k p p' a m e l f h =
      record {
        counts = h
            ∙ (ap (λ x. count_step (items D) (λ e. total element_size (entry_elements e)) x e) (settle_counts k p a m f)
            ∙ sym (step_is (settle D c m) e (settle_fits k p a m f)));
        waits = refl;
        fit = step_fits (settle D c m) e (settle_fits k p a m f);
        short = omega (arith, settle_short k p a m f, step_short (settle D c m) e (settle_fits k p a m f));
        named_in = tt;
      }

  -- an area
  pub area_follows : (k : ℕ) (p p' : Pruner) (a : Option Declared.Waiting) (m : Making) (n : ℕ) (z : ℤ) → n < length D.fields → nat_abs z ≤ 2048 →
      Follows D k p a m
      → counted p' ≡ settled_n areas (counted p) a → Follows D (k + 1) p' (waiting n z 4294967297) (making (settle D c m) (held n z []))
  area_follows k p p' a m n z i s f h =
      record {
        counts = h ∙ settle_counts k p a m f;
        waits = refl;
        fit = settle_fits k p a m f;
        short = omega (arith, settle_short k p a m f);
        named_in = (i, omega arith);
      }

  -- ---- a line, a curve or a shortcut

  abbrev weights : List Segment → ℕ
  weights gs = total element_size (map segment gs)

  weight_more : (gs : List Segment) (g : Segment) → weights (gs ++ (g ∷ [])) ≡ weights gs + element_size (segment g)
  weight_more [] g = omega arith
  weight_more (h ∷ gs) g = omega (arith, weight_more gs g)

  one_more_law : (gs : List Segment) (g : Segment) → length (gs ++ (g ∷ [])) ≡ length gs + 1
  one_more_law gs g = length-append gs (g ∷ [])

  -- a shortcut is never kept as a line
  cut_kept : (none : Bool) (lo hi y s : ℕ) → cond none Dropped (cond true (cond (eqb lo y && eqb hi (y + s)) Start (Shortcut lo hi)) Kept) ≡ Kept → ⊥
  cut_kept true lo hi y s e = dropped_kept e
  cut_kept false lo hi y s e = go (eqb lo y && eqb hi (y + s)) e
    where
      go : (b : Bool) → cond b Start (Shortcut lo hi) ≡ Kept → ⊥
      go true e = start_kept e
      go false e = shortcut_kept lo hi e

  pub kept_weight : (g : Segment) → class_in D.xs D.ys c g ≡ Kept → element_size (segment g) ≡ 65537
  unfolding cut verdict
  kept_weight (drawn l) e = refl
  kept_weight (shortcut z lo hi) e =
      absurd
      (cut_kept (leb (min hi (low c + side c)) (max lo (low c)) || false) (max lo (low c)) (min hi (low c + side c)) (low c) (side c) e)

  abbrev Left : (k : ℕ) (x : Pruning.State Element) (n : ℕ) (z : ℤ) (gs : List Segment) (g : Segment) → Classes.Class → Type 0
  Left k x n z gs g f =
      (with_left (waiting_for (held n z gs)) f (sign_of D.xs D.ys g)
      ≡ waiting_for (held n (start_by D.xs D.ys f g z) (gs ++ kept_by D.xs D.ys f g [])))
      × (length (gs ++ kept_by D.xs D.ys f g []) ≤ length gs + 1)
      × (nat_abs (start_by D.xs D.ys f g z) ≤ nat_abs z + 1)

  left_by_law : (k : ℕ) (x : Pruning.State Element) (n : ℕ) (z : ℤ) (gs : List Segment) (g : Segment) (f : Classes.Class)
      → nat_abs (sign_of D.xs D.ys g) ≤ 1
      → (f ≡ Kept → element_size (segment g) ≡ 65537)
      → Left k x n z gs g f
  left_by_law k x n z gs g Dropped s e = (rw (append-nil gs) refl, rw (append-nil gs) (omega arith), omega arith)
  left_by_law k x n z gs g Start s e = (rw (append-nil gs) refl, rw (append-nil gs) (omega arith), omega (arith, abs_add z (sign_of D.xs D.ys g)))
  left_by_law k x n z gs g (Shortcut lo hi) s e =
      let h : Segment = shortcut (sign_of D.xs D.ys g) lo hi in
      (ap (waiting n z) (omega (arith, weight_more gs h)), omega (arith, one_more_law gs h), omega arith)
  left_by_law k x n z gs g Kept s e = (ap (waiting n z) (omega (arith, weight_more gs g, e refl)), omega (arith, one_more_law gs g), omega arith)

  pub segment_follows : (k : ℕ) (p p' : Pruner) (a a' : Option Declared.Waiting) (m : Making) (g : Segment) → nat_abs (sign_of D.xs D.ys g) ≤ 1 →
      Follows D k p a m
      → counted p' ≡ counted p → a' ≡ with_left a (class_in D.xs D.ys c g) (sign_of D.xs D.ys g) → Follows D (k + 1) p' a' (add_to D c g m)
  segment_follows k p p' a a' (making x nothing) g s f h e =
      record { counts = h ∙ f.counts; waits = e ∙ rw f.waits; fit = f.fit; short = omega (arith, f.short); named_in = tt }
  segment_follows k p p' a a' (making x (held n z gs)) g s f h e =
      let l = left_by_law k x n z gs g (class_in D.xs D.ys c g) s (kept_weight g) in
      record {
        counts = h ∙ f.counts;
        waits = e ∙ (rw f.waits l.0);
        fit = f.fit;
        short = omega (arith, f.short, l.1);
        named_in = (f.named_in.0, omega (arith, f.named_in.1, l.2));
      }

  pub begun_follows : (p : Pruner) → counted p ≡ ct 0 0 going [] → Follows D 0 p resting (begun D c)
  begun_follows p e = record { counts = e; waits = refl; fit = (omega arith, tt); short = omega arith; named_in = tt }
