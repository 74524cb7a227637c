-- The registers end with what the machine shows, and so with what the side shows.
use mathlib.Core.Path.{◌≡◌, refl, ap, ◌∙◌}
use mathlib.Core.Bool.{Bool, true, false, cond}
use mathlib.Core.List.{List, [], ◌∷◌}
use Prim.Native.Nat.{ℕ, pred}
use lib.Dec.{leb}
use Rattle.pruning.specs.Sides.{Kind, paint, clip, Side, Entry, item, push, activate, pop, flat}
use Rattle.pruning.specs.Meaning.{shown}
use Rattle.pruning.specs.Machine.{Mode, processing, skipping, skipping_by, scan}
use Rattle.pruning.specs.Registers.{Code, P, S, SA, Registers, reg, halted, out_of, on_item, move, moves, gathered}
use Rattle.pruning.proofs.Machine.{machine}

abbrev pub mode_of : Code → ℕ → Mode
mode_of P s = processing
mode_of S s = skipping s
mode_of SA s = skipping_by s

-- an item on a clip side shows nothing, and its alpha is not looked at
pub clip_shows : {O : Type 0} (p q q' : Bool) (f g : O → O) (r : Registers O) → on_item clip p q f r ≡ on_item clip p q' g r
clip_shows true q q' f g (reg P d s o) = refl
clip_shows false q q' f g (reg P d s o) = refl
clip_shows p q q' f g (reg S d s o) = refl
clip_shows p q q' f g (reg SA d s o) = refl
clip_shows p q q' f g (halted o) = refl

module _ {A O : Type 0} (pass opaque : A → Bool) (add : A → O → O) where
  -- what is shown in the end, from the registers and the entries that are left: the invariant of a loop
  abbrev pub ahead : Registers O → List (Entry A) → O
  ahead (reg c d s o) es = gathered add (scan pass opaque es (mode_of c s) d) o
  ahead (halted o) es = o

  item_by : (k : Kind) (p q : Bool) (a : A) (es : List (Entry A)) (c : Code) (d s : ℕ) (o : O) → pass a ≡ p → opaque a ≡ q
      → ahead (on_item k p q (add a) (reg c d s o)) es ≡ ahead (reg c d s o) (item k a ∷ es)
  item_by paint true true a es P d s o h g = rw (h, g)
  item_by paint true false a es P d s o h g = rw (h, g)
  item_by clip true q a es P d s o h g = rw h
  item_by paint false q a es P d s o h g = rw h
  item_by clip false q a es P d s o h g = rw h
  item_by k p q a es S d s o h g = refl
  item_by k p q a es SA d s o h g = refl

  either : (b : Bool) (r q : Registers O) (o : O) (x y : List A) (es : List (Entry A))
      → ahead r es ≡ gathered add x o
      → ahead q es ≡ gathered add y o
      → ahead (cond b r q) es ≡ gathered add (cond b x y) o
  either true r q o x y es h g = h
  either false r q o x y es h g = g

  pub move_ahead : (r : Registers O) (e : Entry A) (es : List (Entry A)) → ahead (move pass opaque add e r) es ≡ ahead r (e ∷ es)
  move_ahead (halted o) (item k a) es = refl
  move_ahead (halted o) push es = refl
  move_ahead (halted o) activate es = refl
  move_ahead (halted o) pop es = refl
  move_ahead (reg c d s o) (item k a) es = item_by k (pass a) (opaque a) a es c d s o refl refl
  move_ahead (reg c d s o) push es = refl
  move_ahead (reg P d s o) activate es = refl
  move_ahead (reg S d s o) activate es =
      either (leb d s) (reg P d s o) (reg S d s o) o (scan pass opaque es processing d) (scan pass opaque es (skipping s) d) es refl refl
  move_ahead (reg SA d s o) activate es = refl
  move_ahead (reg P d s o) pop es = refl
  move_ahead (reg S d s o) pop es =
      either (leb d s) (reg S (pred d) (pred d) o) (reg S (pred d) s o) o (scan pass opaque es (skipping (pred d)) (pred d))
      (scan pass opaque es (skipping s) (pred d)) es refl refl
  move_ahead (reg SA d s o) pop es =
      either (leb d s) (reg P (pred d) s o) (reg SA (pred d) s o) o (scan pass opaque es processing (pred d))
      (scan pass opaque es (skipping_by s) (pred d)) es refl refl

  pub moves_ahead : (es : List (Entry A)) (r : Registers O) → out_of (moves pass opaque add es r) ≡ ahead r es
  moves_ahead [] (reg P d s o) = refl
  moves_ahead [] (reg S d s o) = refl
  moves_ahead [] (reg SA d s o) = refl
  moves_ahead [] (halted o) = refl
  moves_ahead (e ∷ es) r = moves_ahead es (move pass opaque add e r) ∙ move_ahead r e es

  -- begun in P with no group open
  pub registers : (x : Side A) (o : O) → out_of (moves pass opaque add (flat paint x) (reg P 0 0 o)) ≡ gathered add (shown pass opaque x) o
  registers x o = moves_ahead (flat paint x) (reg P 0 0 o) ∙ ap (λ l. gathered add l o) (machine pass opaque x)
