-- The elements of a stream as the words of entries: what opening and splitting write.
use Rattle.std.specs.Prelude.{◌≡◌, List, [], ◌∷◌, ℕ, ℤ}
use Rattle.std.specs.Int.{w32}
use Rattle.std.proofs.Common.{SFits, of_z}
use Rattle.geometry.specs.Windings.{line, curve}
use Rattle.stream.specs.declared.Words.{Words}
use Rattle.cells.specs.Segments.{Segment, drawn, shortcut}
use Rattle.cells.specs.Drawings.{Drawing, passes_by, is_opaque}
use Rattle.cells.specs.Elements.{Element, opens, bar, closes, bare, named, segment, role_in}
use Rattle.evaluate.specs.Reading.{role_at, pass_at, opaque_at}

abbrev pub words : (kind p q r : ℕ) → Words
words k p q r = record { kind = k; p = p; q = q; r = r }

-- kinds: 1 `(`, 2 `|`, 3 `)`, 4 area, 5 line, 6 shortcut, 7 passes, 8 curve; signed numbers in two's complement; words without a name, which the documents
-- leave free, are 0. document 02: "a kept curve is one entry"
abbrev pub segment_words : Segment → Words
segment_words (drawn (line a b)) = words 5 a b 0
segment_words (drawn (curve a)) = words 8 a 0 0
segment_words (shortcut z lo hi) = words 6 (of_z w32 z) lo hi

abbrev pub words_of : Element → Words
words_of opens = words 1 0 0 0
words_of bar = words 2 0 0 0
words_of closes = words 3 0 0 0
words_of bare = words 7 0 0 0
words_of (named n z) = words 4 n (of_z w32 z) 0
words_of (segment g) = segment_words g

-- the signed numbers of elements are numbers of 32 bits
abbrev pub SegmentFits : Segment → Type 0
SegmentFits (drawn l) = Unit {0}
SegmentFits (shortcut z lo hi) = SFits w32 z

abbrev pub ElementFits : Element → Type 0
ElementFits opens = Unit {0}
ElementFits bar = Unit {0}
ElementFits closes = Unit {0}
ElementFits bare = Unit {0}
ElementFits (named n z) = SFits w32 z
ElementFits (segment g) = SegmentFits g

abbrev pub EachFits : List Element → Type 0
EachFits [] = Unit {0}
EachFits (w ∷ ws) = ElementFits w × EachFits ws

-- a table of areas says of area n what the drawing says
pub record Agrees (areas : List ℕ) (D : Drawing) (n : ℕ) : Type 0 where
  pub role : role_at areas n ≡ role_in D n
  pub pass : (z : ℤ) → pass_at areas n z ≡ passes_by D n z
  pub opaque : opaque_at areas n ≡ is_opaque D n

-- of each area that elements name
abbrev pub EachAgrees : List ℕ → Drawing → List Element → Type 0
EachAgrees areas D [] = Unit {0}
EachAgrees areas D (opens ∷ ws) = EachAgrees areas D ws
EachAgrees areas D (bar ∷ ws) = EachAgrees areas D ws
EachAgrees areas D (closes ∷ ws) = EachAgrees areas D ws
EachAgrees areas D (bare ∷ ws) = EachAgrees areas D ws
EachAgrees areas D (named n z ∷ ws) = Agrees areas D n × EachAgrees areas D ws
EachAgrees areas D (segment g ∷ ws) = EachAgrees areas D ws
