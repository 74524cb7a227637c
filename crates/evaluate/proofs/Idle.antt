-- Outside P no area is looked at, and a machine that has stopped is at its end: what follows gives the same set.
use mathlib.Core.Path.{◌≡◌, refl, ap, ◌∙◌}
use mathlib.Core.Bool.{Bool, true}
use mathlib.Core.List.{List, [], ◌∷◌}
use Prim.Native.Nat.{ℕ}
use lib.IntN.{ℤ, ◌+ℤ◌}
use Rattle.pruning.specs.Sides.{Kind, clip}
use Rattle.pruning.specs.Registers.{P, S, SA, Registers, reg, halted, on_item, on_push, on_activate, on_pop}
use Rattle.cells.specs.Segments.{Segment}
use Rattle.cells.specs.Elements.{Element, opens, bar, closes, bare, named, segment, settled, waits, State, state, settle, on_elements}

-- not in P
abbrev pub Idle : Registers ℕ → Type 0
Idle (reg P d s o) = ⊥
Idle (reg S d s o) = Unit {0}
Idle (reg SA d s o) = Unit {0}
Idle (halted o) = Unit {0}

item_idle : (k : Kind) (p q : Bool) (f : ℕ → ℕ) (g : Registers ℕ) → Idle g → on_item k p q f g ≡ g
item_idle k p q f (reg P d s o) h = absurd h
item_idle k p q f (reg S d s o) h = refl
item_idle k p q f (reg SA d s o) h = refl
item_idle k p q f (halted o) h = refl

module _ (role : ℕ → Kind) (pass : ℕ → ℤ → Bool) (opaque : ℕ → Bool) (adds : Segment → ℤ) where
  abbrev end : List Element → State → Registers ℕ
  end ws st = settle role pass opaque adds (on_elements role pass opaque adds ws st)

  settle_idle : (g : Registers ℕ) → Idle g → (n : ℕ) (z : ℤ) → settle role pass opaque adds (state g (waits n z)) ≡ g
  settle_idle g h n z = item_idle (role n) (pass n z) (opaque n) _ g h

  -- the area that waits does not matter
  pub pending_idle : (g : Registers ℕ) → Idle g → (ws : List Element) (n : ℕ) (z : ℤ) → end ws (state g (waits n z)) ≡ end ws (state g settled)
  pending_idle g h [] n z = settle_idle g h n z
  pending_idle g h (opens ∷ ws) n z = ap (λ r. end ws (state (on_push r) settled)) (settle_idle g h n z)
  pending_idle g h (bar ∷ ws) n z = ap (λ r. end ws (state (on_activate r) settled)) (settle_idle g h n z)
  pending_idle g h (closes ∷ ws) n z = ap (λ r. end ws (state (on_pop r) settled)) (settle_idle g h n z)
  pending_idle g h (bare ∷ ws) n z = ap (λ r. end ws (state (on_item clip true true (λ s. s) r) settled)) (settle_idle g h n z)
  pending_idle g h (named m y ∷ ws) n z = ap (λ r. end ws (state r (waits m y))) (settle_idle g h n z)
  pending_idle g h (segment e ∷ ws) n z = pending_idle g h ws n (z +ℤ adds e)

  -- "it stops on an alpha of 255"
  pub stopped : (o : ℕ) (ws : List Element) → end ws (state (halted o) settled) ≡ halted o
  stopped o [] = refl
  stopped o (opens ∷ ws) = stopped o ws
  stopped o (bar ∷ ws) = stopped o ws
  stopped o (closes ∷ ws) = stopped o ws
  stopped o (bare ∷ ws) = stopped o ws
  stopped o (named m y ∷ ws) = pending_idle (halted o) tt ws m y ∙ stopped o ws
  stopped o (segment e ∷ ws) = stopped o ws
