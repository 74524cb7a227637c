-- The flat clipping machine as a program keeps it: its state, two depths and what is shown so far, moved by one entry at a time.
-- `Rattle.pruning.proofs.Registers` says that it ends with what `scan` gives.
use Rattle.std.specs.Prelude.{Bool, true, false, cond, List, [], ◌∷◌, ℕ, suc, pred, leb}
use Rattle.pruning.specs.Sides.{Kind, paint, clip, Entry, item, push, activate, pop}

-- "states P, S and SA"
pub data Code : Type 0 where
  P S SA : Code

-- the state, the depth, the stopping depth (in P it is not looked at), and what is shown; or the machine has stopped "on an alpha of 255"
pub data Registers (O : Type 0) : Type 0 where
  reg : Code → (depth stop : ℕ) → O → Registers O
  halted : O → Registers O

module _ {O : Type 0} where
  abbrev pub out_of : Registers O → O
  out_of (reg c d s o) = o
  out_of (halted o) = o

  -- an item, by the kind of its side: whether it passes, whether it has alpha 255, and what is shown with it
  abbrev pub on_item : Kind → (pass opaque : Bool) → (O → O) → Registers O → Registers O
  on_item paint true true f (reg P d s o) = halted (f o)
  on_item paint true false f (reg P d s o) = reg P d s (f o)
  on_item clip true q f (reg P d s o) = reg S d d o
  on_item k false q f (reg P d s o) = reg P d s o
  on_item k p q f (reg S d s o) = reg S d s o
  on_item k p q f (reg SA d s o) = reg SA d s o
  on_item k p q f (halted o) = halted o

  abbrev pub on_push : Registers O → Registers O
  on_push (reg c d s o) = reg c (suc d) s o
  on_push (halted o) = halted o

  abbrev pub on_activate : Registers O → Registers O
  on_activate (reg P d s o) = reg SA d d o
  on_activate (reg S d s o) = cond (leb d s) (reg P d s o) (reg S d s o)
  on_activate (reg SA d s o) = reg SA d s o
  on_activate (halted o) = halted o

  abbrev pub on_pop : Registers O → Registers O
  on_pop (reg P d s o) = reg P (pred d) s o
  on_pop (reg S d s o) = cond (leb d s) (reg S (pred d) (pred d) o) (reg S (pred d) s o)
  on_pop (reg SA d s o) = cond (leb d s) (reg P (pred d) s o) (reg SA (pred d) s o)
  on_pop (halted o) = halted o

-- which items pass and have alpha 255, and what is shown with one more
module _ {A O : Type 0} (pass opaque : A → Bool) (add : A → O → O) where
  abbrev pub move : Entry A → Registers O → Registers O
  move (item k a) r = on_item k (pass a) (opaque a) (add a) r
  move push r = on_push r
  move activate r = on_activate r
  move pop r = on_pop r

  abbrev pub moves : List (Entry A) → Registers O → Registers O
  moves [] r = r
  moves (e ∷ es) r = moves es (move e r)

-- what is shown with the items of a list, front first
abbrev pub gathered : {A O : Type 0} → (A → O → O) → List A → O → O
gathered add [] o = o
gathered add (a ∷ l) o = gathered add l (add a o)
