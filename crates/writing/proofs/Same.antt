-- The length of the table stays.
use mathlib.Core.Path.{◌≡◌, refl, ◌∙◌}
use mathlib.Core.Bool.{Bool, true, false, cond}
use mathlib.Core.List.{List}
use Prim.Native.Nat.{ℕ, ◌+◌, ◌*◌}
use lib.Dec.{eqb, ltb}
use lib.ListN.{length, get_or}
use lib.IntN.{ℤ}
use mir.Syntax.{w32}
use mir.Val.{of_z}
use Rattle.geometry.specs.declared.class.Class.{Class}
use Rattle.geometry.specs.declared.class.Class.TheVariants.{Dropped, Start, Shortcut, Kept}
use Rattle.pruning.specs.code.Counters.{Count, length_of}
use Rattle.pruner.specs.code.Numbers.{counted, base_of, skip_in}
use Rattle.cells.specs.Segments.{drawn, shortcut}
use Rattle.stream.specs.declared.Words.{Words}
use Rattle.stream.specs.Entry.{is_segment}
use Rattle.evaluate.specs.Words.{words, segment_words}
use Rattle.evaluate.specs.code.Numbers.{line_of}
use Rattle.std.specs.Prelude.{Option, Some, None, is_none}
use Rattle.pruner.specs.declared.ItemClass.{ItemClass}
use Rattle.pruner.specs.declared.ItemClass.TheVariants.{Fails, Passes, Neither}
use Rattle.pruner.specs.declared.Pruner.{Pruner}
use Rattle.making.specs.declared.Maker.{Maker}
use Rattle.making.specs.declared.Waiting.{Waiting}
use Rattle.making.specs.code.Numbers.{class_n, settled_n}
use Rattle.writing.specs.code.Numbers.{put_below, place_of, kept_put, behind_put, segment_put, class_put, waiting_put, settled_put, mark_on, one_put}
use Rattle.writing.proofs.Agree.{below_length}

abbrev Same : (t t' : List ℕ) → Type 0
Same t t' = length t' ≡ length t

same_put : (t : List ℕ) (at : ℕ) (w : Words) → Same t (put_below t at w)
same_put t at w = below_length t at w

same_if : (b : Bool) (t x y : List ℕ) → Same t x → Same t y → Same t (cond b x y)
same_if true t x y p q = p
same_if false t x y p q = q

same_kept : (f : Class) (t : List ℕ) (at : ℕ) (z : ℤ) (w : Words) → Same t (kept_put f t at z w)
same_kept Dropped t at z w = refl
same_kept Start t at z w = refl
same_kept (Shortcut lo hi) t at z w = same_put t at (segment_words (shortcut z lo hi))
same_kept Kept t at z w = same_put t at (segment_words (drawn (line_of w)))

same_behind : (f : Class) (t : List ℕ) (p : Pruner) (a : Option Waiting) (z : ℤ) (w : Words) → Same t (behind_put f t p a z w)
same_behind f t p None z w = refl
same_behind f t p (Some a) z w = same_kept f t (place_of p.weight + place_of a.weight) z w

same_class : (areas t : List ℕ) (p : Pruner) (a : Waiting) (k : ItemClass) → Same t (class_put areas t p a k)
same_class areas t p a Fails = refl
same_class areas t p a Passes =
    same_if (eqb (get_or areas (a.number * 8) 0) 0) t _ _ (same_put t (place_of p.weight) (words 4 a.number (of_z w32 a.start) 0))
    (same_put t (place_of p.base) (words 7 0 0 0))
same_class areas t p a Neither = same_put t (place_of p.weight) (words 4 a.number (of_z w32 a.start) 0)

same_waiting : (areas t : List ℕ) (p : Pruner) (a : Option Waiting) → Same t (waiting_put areas t p a)
same_waiting areas t p None = refl
same_waiting areas t p (Some a) = same_class areas t p a (class_n areas a)

module _ (areas : List ℕ) (t : List ℕ) (m : Maker) where
  same_segment : (f : Class) (z : ℤ) (w : Words) → Same t (segment_put t m f z w)
  same_segment f z w = same_if (is_none m.pruner.skip) t _ t (same_behind f t m.pruner m.waiting z w) refl

  pub same_settled : Same t (settled_put areas t m)
  same_settled = same_if (is_none m.pruner.skip) t _ t (same_waiting areas t m.pruner m.waiting) refl

  same_mark : (u : List ℕ) (c : Count) (n kind : ℕ) → Same u (mark_on u c n kind)
  same_mark u c n kind =
      same_if (eqb kind 7) u _ _ (same_if (eqb (skip_in c) 0) u _ u (same_put u (place_of (base_of c)) (words 7 0 0 0)) refl)
      (same_if (ltb (length_of c) n) u _ u (same_put u (place_of (length_of c)) (words kind 0 0 0)) refl)

  pub same_one : (f : Class) (z : ℤ) (w : Words) (n : ℕ) → Same t (one_put areas t m f z w n)
  same_one f z w n =
      same_if (is_segment w.kind) t _ _ (same_segment f z w)
      (same_mark (settled_put areas t m) (settled_n areas (counted m.pruner) m.waiting) n w.kind ∙ same_settled)
