-- Document 01, "From the state", 12, and document 02, Item 2: when the entries of a stream are in range and in the grammar.
use Rattle.std.specs.Prelude.{ℕ, ◌+◌, ◌*◌, ◌-◌, ◌/◌, ◌≤◌, ◌≡◌, Bool, true, false, cond, not, ◌&&◌, List, [], ◌∷◌, length, get_or, eqb, ltb, leb}
use Rattle.curves.specs.Curves.{curve_fits}
use Rattle.groups.specs.Sides.{Frame, is_paint, on_left, on_right, opening, to_right, to_outer, is_empty}
use Rattle.records.specs.declared.Record.{Record}
use Rattle.records.specs.declared.Record.TheVariants.{Area, First, Next, Open, Bar, Close, Control}
use Rattle.records.specs.Record.{Decoded}
use Rattle.std.specs.Prelude.{Ok, Err}
use Rattle.records.specs.Record.{corner_range, is_good}
use Rattle.drawing.specs.Tables.{area_row}
use Rattle.stream.specs.declared.Words.{Words}
use denote.Triple.Both.{Both}
use Rattle.stream.specs.declared.Bounds.{Bounds}
use Rattle.stream.specs.declared.Context.{Context}
use Rattle.stream.specs.Entry.{Entry, opens, bar, closes, area, line, curve, shortcut, passes, bad, decode, start_range, sign_range}
use Rattle.stream.specs.Table.{words_from}

-- what a stream is read against: the areas and the corners of the drawing, how many of each are in use, and the cell's low row and its side
pub record Env : Type 0 where
  pub areas : List ℕ
  pub xs : List ℕ
  pub ys : List ℕ
  pub used : Bounds

abbrev pub env : List ℕ → List ℕ → List ℕ → Bounds → Env
env a x y b = record { areas = a; xs = x; ys = y; used = b }

abbrev pub env_of : Context → Env
env_of c = env c.areas.now c.xs.now c.ys.now c.bounds

abbrev pub env_passed : Both Context Context → Env
env_passed c = env_of c.entry

abbrev pub bounds : ℕ → ℕ → ℕ → ℕ → Bounds
bounds a c low side = record { areas = a; corners = c; low = low; side = side }

-- ---- "a number met in the tables used ... is outside its range"

-- "area, corner, child and entry numbers below what is in use": the area of this number, where it is in use and all its fields are in range
abbrev pub area_met : Env → ℕ → Decoded
area_met v n = area_row v.areas v.used.areas n

-- a corner's number below what is in use, and "x, ... y, each 0 to 65,536"
abbrev pub corner_met : List ℕ → List ℕ → ℕ → ℕ → Bool
corner_met xs ys used n = cond (ltb n used) (corner_range (get_or xs n 0) (get_or ys n 0)) false

abbrev pub line_range : List ℕ → List ℕ → ℕ → ℕ → ℕ → Bool
line_range xs ys used a b = corner_met xs ys used a && corner_met xs ys used b

-- document 02: "Checks: 13 for a curve that breaks the order or span, ...; met in the tables, 12.": its first corner, its control corner and its end
abbrev pub curve_range : List ℕ → List ℕ → ℕ → ℕ → Bool
curve_range xs ys used p =
    (corner_met xs ys used p && (corner_met xs ys used (p + 1) && corner_met xs ys used (p + 2)))
    && curve_fits (get_or xs p 0) (get_or ys p 0) (get_or xs (p + 1) 0) (get_or ys (p + 1) 0) (get_or xs (p + 2) 0) (get_or ys (p + 2) 0)

-- "sign 1 or −1; rows inside the cell": its rows are first to end − 1, at least one, and the cell's are low to low + side − 1
abbrev pub shortcut_range : ℕ → ℕ → ℕ → ℕ → ℕ → Bool
shortcut_range low side sign first end = sign_range sign && (leb low first && (ltb first end && leb end (low + side)))

-- "start −2,048 to 2,048"; an unknown kind is out of range
abbrev pub in_range : Env → Entry → Bool
in_range v opens = true
in_range v bar = true
in_range v closes = true
in_range v (area n q) = is_good (area_met v n) && start_range q
in_range v (line a b) = line_range v.xs v.ys v.used.corners a b
in_range v (curve a) = curve_range v.xs v.ys v.used.corners a
in_range v (shortcut s a b) = shortcut_range v.used.low v.used.side s a b
in_range v passes = true
in_range v bad = false

-- ---- "or that drawing or stream breaks the grammar"

-- where a reader stands: the open groups, the innermost first; whether an area, a line, a curve or a shortcut stands straight before; how
-- many areas, and how many lines, curves and shortcuts, so far
pub record Place : Type 0 where
  pub groups : List Frame
  pub held : Bool
  pub areas : ℕ
  pub segments : ℕ

abbrev pub place : List Frame → Bool → ℕ → ℕ → Place
place g h a l = record { groups = g; held = h; areas = a; segments = l }

-- "An area's role fits its side": "role (0 paint, 1 clip)"
abbrev pub record_fits : Record → Bool → Bool
record_fits (Area f) paint = cond paint (eqb f.role 0) (eqb f.role 1)
record_fits (First x y) paint = false
record_fits (Next x y) paint = false
record_fits Open paint = false
record_fits Bar paint = false
record_fits Close paint = false
record_fits (Control x y) paint = false

abbrev pub role_fits : Decoded → Bool → Bool
role_fits (Ok r) paint = record_fits r paint
role_fits (Err x) paint = false

-- "`|` fits on the left side of the innermost open group, `)` on its right." "In a stream, "passes" stands where a clip area may, and a line
-- or shortcut stands straight after an area, line or shortcut." document 02: "In cells, streams, their grammar and pruning a curve goes as an
-- edge or line does".
abbrev pub fits : Env → Place → Entry → Bool
fits v p opens = true
fits v p bar = on_left p.groups
fits v p closes = on_right p.groups
fits v p (area n q) = role_fits (area_met v n) (is_paint p.groups)
fits v p (line a b) = p.held
fits v p (curve a) = p.held
fits v p (shortcut s a b) = p.held
fits v p passes = not (is_paint p.groups)
fits v p bad = false

-- the limits of a drawing are those of a stream, in which lines, curves and shortcuts stand for corners: "Limits: 4,096 records, 64 areas, 2,048
-- corners, 8 open groups."
abbrev pub in_limit : Place → Entry → Bool
in_limit p opens = ltb (length p.groups) 8
in_limit p bar = true
in_limit p closes = true
in_limit p (area n q) = ltb p.areas 64
in_limit p (line a b) = ltb p.segments 2048
in_limit p (curve a) = ltb p.segments 2048
in_limit p (shortcut s a b) = ltb p.segments 2048
in_limit p passes = true
in_limit p bad = false

abbrev pub after : Place → Entry → Place
after p opens = place (opening p.groups) false p.areas p.segments
after p bar = place (to_right p.groups) false p.areas p.segments
after p closes = place (to_outer p.groups) false p.areas p.segments
after p (area n q) = place p.groups true (p.areas + 1) p.segments
after p (line a b) = place p.groups true p.areas (p.segments + 1)
after p (curve a) = place p.groups true p.areas (p.segments + 1)
after p (shortcut s a b) = place p.groups true p.areas (p.segments + 1)
after p passes = place p.groups false p.areas p.segments
after p bad = p

-- ---- the fold
pub data Course : Type 0 where
  at : Place → Course
  off : Course

abbrev pub next : Env → Place → Entry → Course
next v p e = cond (in_range v e) (cond (fits v p e) (cond (in_limit p e) (at (after p e)) off) off) off

abbrev pub met : Env → Course → Entry → Course
met v (at p) e = next v p e
met v off e = off

unfoldable pub course : Env → Course → List Words → Course
course v c [] = c
course v c (w ∷ ws) = course v (met v c (decode w)) ws

abbrev pub begin : Course
begin = at (place [] false 0 0)

-- no group is open at the end
abbrev pub is_whole : Course → Bool
is_whole (at p) = is_empty p.groups
is_whole off = false

unfoldable pub accepts : Env → List Words → Bool
accepts v ws = is_whole (course v begin ws)

-- ---- numbers in use and the place of the stream

-- "areas, corners and entries in use at most what their tables and limits hold"; "The caller's tables hold so many ... entries (up to 65,536)."
-- The lengths of the tables of entries, areas, xs and ys, and `used` entries in use
unfoldable pub used_range : ℕ → ℕ → ℕ → ℕ → ℕ → Bounds → Bool
used_range entries used areas xs ys b =
    (leb used (entries / 4) && leb used 65536)
    && ((leb b.areas (areas / 8) && leb b.areas 64) && (leb b.corners xs && (leb b.corners ys && leb b.corners 2048)))

-- the tables have the words that these numbers speak of
pub record Ready (a x y : List ℕ) (b : Bounds) : Type 0 where
  pub areas : b.areas * 8 ≤ length a
  pub xs : b.corners ≤ length x
  pub ys : b.corners ≤ length y

abbrev pub ContextReady : Context → Type 0
ContextReady c = Ready c.areas.now c.xs.now c.ys.now c.bounds

-- "entry numbers below what is in use (the first number of an empty stream ... at most that)"; "Limits: 4,096 records"
abbrev pub run_range : ℕ → ℕ → ℕ → Bool
run_range first count used = cond (leb count used) (cond (leb first (used - count)) (leb count 4096) false) false

-- whether the `count` entries from `first` on, with `used` entries in use, are a stream that passes 12
abbrev pub check_stream : List ℕ → ℕ → ℕ → ℕ → Env → Bool
check_stream t first count used v =
    cond (used_range (length t) used (length v.areas) (length v.xs) (length v.ys) v.used)
    (cond (run_range first count used) (accepts v (words_from t first count)) false) false

-- what a reader of the stream may rely on
pub record Passed (t : List ℕ) (first count : ℕ) (v : Env) : Type 0 where
  pub within : (first + count) * 4 ≤ length t
  pub few : count ≤ 4096
  pub few_areas : v.used.areas ≤ 64
  pub ready : Ready v.areas v.xs v.ys v.used
  pub grammar : accepts v (words_from t first count) ≡ true
