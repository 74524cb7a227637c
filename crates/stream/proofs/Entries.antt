-- An entry by its kind, with one case for lines, curves and shortcuts.
use mathlib.Core.Path.{◌≡◌, refl, sym, ap, ◌∙◌}
use mathlib.Core.Bool.{Bool, true, false, cond, ◌||◌}
use Prim.Native.Nat.{ℕ}
use lib.Dec.{eqb}
use borrow.Author.Tests.{ne_eqb}
use Rattle.laws.proofs.Booleans.{clash}
use Rattle.stream.specs.declared.Words.{Words}
use Rattle.stream.specs.Entry.{Entry, opens, bar, closes, area, line, curve, shortcut, passes, bad, decode, is_curve, is_line, is_segment}
use Rattle.stream.specs.Grammar.{Env, in_range}
use Rattle.stream.specs.code.Machine.{line_fits, segment_fits}

-- a line, a curve or a shortcut is of no other kind
pub segment_ne : (k n : ℕ) → is_segment k ≡ true → is_segment n ≡ false → eqb k n ≡ false
segment_ne k n s o = ne_eqb k n (λ e. clash (sym o ∙ (rw e at s)))

-- the line or the curve that four words say; that, or the shortcut
abbrev pub line_entry : Words → Entry
line_entry w = cond (is_curve w.kind) (curve w.p) (line w.p w.q)

abbrev pub segment_entry : Words → Entry
segment_entry w = cond (is_line w.kind) (line_entry w) (shortcut w.p w.q w.r)

-- the entry that they say, by the tests of its kind
abbrev pub by_tests : (opened barred closed named segment passed : Bool) → Words → Entry
by_tests o b c n s p w = cond o opens (cond b bar (cond c closes (cond n (area w.p w.q) (cond s (segment_entry w) (cond p passes bad)))))

pub decode_is : (w : Words)
    → decode w ≡ by_tests (eqb w.kind 1) (eqb w.kind 2) (eqb w.kind 3) (eqb w.kind 4) (is_segment w.kind) (eqb w.kind 7) w
decode_is w =
    ap (λ x. cond (eqb w.kind 1) opens (cond (eqb w.kind 2) bar (cond (eqb w.kind 3) closes (cond (eqb w.kind 4) (area w.p w.q) x))))
    (go (eqb w.kind 5) (is_curve w.kind) (eqb w.kind 6) (cond (eqb w.kind 7) passes bad))
  where
    go : (l c s : Bool) (z : Entry)
        → cond c (curve w.p) (cond l (line w.p w.q) (cond s (shortcut w.p w.q w.r) z))
        ≡ cond ((l || c) || s) (cond (l || c) (cond c (curve w.p) (line w.p w.q)) (shortcut w.p w.q w.r)) z
    go true true s z = refl
    go true false s z = refl
    go false true s z = refl
    go false false true z = refl
    go false false false z = refl

pub decode_segment : (w : Words) → is_segment w.kind ≡ true → decode w ≡ segment_entry w
decode_segment w s =
    decode_is w
    ∙ rw (segment_ne w.kind 1 s refl, segment_ne w.kind 2 s refl, segment_ne w.kind 3 s refl, segment_ne w.kind 4 s refl, s)

-- its numbers are in range where the code's test says so
module _ (v : Env) (w : Words) where
  chosen : (l : Bool) (x y : Entry) → in_range v (cond l x y) ≡ cond l (in_range v x) (in_range v y)
  chosen true x y = refl
  chosen false x y = refl

  pub line_range_law : in_range v (line_entry w) ≡ line_fits v.xs v.ys v.used.corners w
  line_range_law = chosen (is_curve w.kind) (curve w.p) (line w.p w.q)

  pub segment_range_law : in_range v (segment_entry w) ≡ segment_fits v.xs v.ys v.used w
  segment_range_law =
      chosen (is_line w.kind) (line_entry w) (shortcut w.p w.q w.r)
      ∙ ap (λ b. cond (is_line w.kind) b (in_range v (shortcut w.p w.q w.r))) line_range_law
