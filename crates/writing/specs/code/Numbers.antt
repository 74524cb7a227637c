-- The words that a making writes, one entry at a time, as the numbers that the code holds; only where the table that is lent has such an entry.
-- `Rattle.writing.proofs` says that they are the elements (`Rattle.cells.specs.code.Making`).
use Rattle.std.specs.Prelude.{cond, List, ℕ, ◌+◌, ◌*◌, ◌/◌, ◌%◌, eqb, ltb, length, get_or, ℤ, Option, Some, None, is_none}
use Rattle.std.specs.Int.{w32}
use Rattle.std.proofs.Common.{of_z}
use Rattle.geometry.specs.declared.class.Class.{Class}
use Rattle.geometry.specs.declared.class.Class.TheVariants.{Dropped, Start, Shortcut, Kept}
use Rattle.pruning.specs.code.Counters.{Count, length_of}
use Rattle.pruner.specs.declared.Pruner.{Pruner}
use Rattle.pruner.specs.code.Numbers.{counted, base_of, skip_in}
use Rattle.stream.specs.declared.Words.{Words}
use Rattle.stream.specs.Entry.{is_segment}
use Rattle.stream.specs.Table.{put_at}
use Rattle.cells.specs.Segments.{drawn, shortcut}
use Rattle.evaluate.specs.Words.{words, segment_words}
use Rattle.evaluate.specs.code.Numbers.{line_of}
use Rattle.pruner.specs.declared.ItemClass.{ItemClass}
use Rattle.pruner.specs.declared.ItemClass.TheVariants.{Fails, Passes, Neither}
use Rattle.making.specs.declared.Maker.{Maker}
use Rattle.making.specs.declared.Waiting.{Waiting}
use Rattle.making.specs.code.Numbers.{class_n, settled_n}

unfoldable pub put_below : List ℕ → (at : ℕ) → Words → List ℕ
put_below t at w = cond (ltb at (length t / 4)) (put_at t at w) t

-- how many entries stand in what weighs n: each weighs 1 and a multiple of 65,536
abbrev pub place_of : ℕ → ℕ
place_of n = n % 65536

-- ---- a line, a curve or a shortcut of which this is left

abbrev pub kept_put : Class → List ℕ → (at : ℕ) → ℤ → Words → List ℕ
kept_put Dropped t at z w = t
kept_put Start t at z w = t
kept_put (Shortcut lo hi) t at z w = put_below t at (segment_words (shortcut z lo hi))
kept_put Kept t at z w = put_below t at (segment_words (drawn (line_of w)))

abbrev pub behind_put : Class → List ℕ → Pruner → Option Waiting → ℤ → Words → List ℕ
behind_put f t p None z w = t
behind_put f t p (Some a) z w = kept_put f t (place_of p.weight + place_of a.weight) z w

abbrev pub segment_put : List ℕ → Maker → Class → ℤ → Words → List ℕ
segment_put t m f z w = cond (is_none m.pruner.skip) (behind_put f t m.pruner m.waiting z w) t

-- ---- the area that waits

abbrev pub named_put : List ℕ → Pruner → Waiting → List ℕ
named_put t p a = put_below t (place_of p.weight) (words 4 a.number (of_z w32 a.start) 0)

abbrev pub bare_put : List ℕ → Pruner → List ℕ
bare_put t p = put_below t (place_of p.base) (words 7 0 0 0)

abbrev pub class_put : (areas t : List ℕ) → Pruner → Waiting → ItemClass → List ℕ
class_put areas t p a Fails = t
class_put areas t p a Passes = cond (eqb (get_or areas (a.number * 8) 0) 0) (named_put t p a) (bare_put t p)
class_put areas t p a Neither = named_put t p a

abbrev pub waiting_put : (areas t : List ℕ) → Pruner → Option Waiting → List ℕ
waiting_put areas t p None = t
waiting_put areas t p (Some a) = class_put areas t p a (class_n areas a)

abbrev pub settled_put : (areas t : List ℕ) → Maker → List ℕ
settled_put areas t m = cond (is_none m.pruner.skip) (waiting_put areas t m.pruner m.waiting) t

-- ---- a delimiter or "passes", after which what is made has this weight

abbrev pub delimiter_put : List ℕ → (before after kind : ℕ) → List ℕ
delimiter_put t before n kind = cond (ltb before n) (put_below t (place_of before) (words kind 0 0 0)) t

abbrev pub mark_put : List ℕ → Pruner → (weight kind : ℕ) → List ℕ
mark_put t q n kind = cond (eqb kind 7) (cond (is_none q.skip) (bare_put t q) t) (delimiter_put t q.weight n kind)

-- the same by the numbers of a count
abbrev pub mark_on : List ℕ → Count → (weight kind : ℕ) → List ℕ
mark_on t c n kind =
    cond (eqb kind 7) (cond (eqb (skip_in c) 0) (put_below t (place_of (base_of c)) (words 7 0 0 0)) t)
    (delimiter_put t (length_of c) n kind)

-- ---- entry w, of which this is left and after which what is made has this weight

abbrev pub one_put : (areas t : List ℕ) → Maker → Class → ℤ → Words → (weight : ℕ) → List ℕ
one_put areas t m f z w n =
    cond (is_segment w.kind) (segment_put t m f z w)
    (mark_on (settled_put areas t m) (settled_n areas (counted m.pruner) m.waiting) n w.kind)
