-- The frames of an array.
use mathlib.Core.Path.{◌≡◌, refl, ap₂}
use mathlib.Core.List.{List, ◌∷◌}
use Prim.Native.Nat.{ℕ, zero, suc, ◌+◌, ◌-◌, ◌<◌, ◌≤◌}
use native.Mathlib.Omega.{arith}
use native.Mathlib.Nat.{not-suc-le-zero}
use native.Mathlib.Numerals.{add-one}
use lib.ListN.{length, get_or, set}
use lib.Seq.{get_or-set_same, get_or-set_other}
use Rattle.pruner.specs.declared.Frame.{Frame}
use Rattle.pruner.specs.code.Numbers.{frame_of, no_frame, frames_of}

-- a store past the first d frames leaves them
set_beyond : (l : List Frame) (f : Frame) (d i : ℕ) → d ≤ i → frames_of (set l i f) d ≡ frames_of l d
set_beyond l f zero i h = refl
set_beyond l f (suc d) i h = ap₂ (λ a b. frame_of a ∷ b) (get_or-set_other l i d f no_frame (λ e. omega arith)) (set_beyond l f d i (omega arith))

pub set_top : (l : List Frame) (f : Frame) (d : ℕ) → d < length l → frames_of (set l d f) (d + 1) ≡ frame_of f ∷ frames_of l d
set_top l f d h = rw (add-one d) (ap₂ (λ a b. frame_of a ∷ b) (get_or-set_same l d f no_frame h) (set_beyond l f d d (omega arith)))

pub frames_some : (l : List Frame) (d : ℕ) → 0 < d → frames_of l d ≡ frame_of (get_or l (d - 1) no_frame) ∷ frames_of l (d - 1)
frames_some l zero h = absurd (not-suc-le-zero h)
frames_some l (suc d) h =
    let q : suc d - 1 ≡ d = omega arith in
    rw q
