-- The start numbers of what is made so far stand in the array: one entry more.
use mathlib.Core.Path.{◌≡◌, refl, sym, ap, subst, ◌∙◌}
use mathlib.Core.Bool.{Bool, true, false, cond}
use mathlib.Core.List.{List, [], ◌∷◌, ◌++◌, map, append-nil, append_assoc}
use Prim.Native.Nat.{ℕ, ◌+◌, ◌*◌, ◌/◌, ◌≤◌, ◌<◌}
use native.Mathlib.Omega.{arith}
use lib.Dec.{ltb}
use lib.ListN.{length, get_or, set, take, drop, length-append, length-set, take-append-drop, get_or-append}
use lib.Seq.{get_or-set_same, get_or-set_other, get_or-append_seam}
use lib.IntN.{ℤ, pos}
use borrow.Author.Tests.{lt-ltb, ltb-true, ltb-false}
use Rattle.pruning.specs.Sides.{Kind, paint, clip, item, push, activate, pop}
use Rattle.pruning.specs.Items as Items
use Rattle.pruning.specs.Items.{fails, passes, other}
use Rattle.pruning.specs.code.Pruner as Pruning
use Rattle.pruning.specs.code.Pruner.{Frame, going, shut, st, add_item}
use Rattle.pruning.specs.code.Effects.{out_of}
use Rattle.pruning.specs.code.Weights.{total}
use Rattle.cells.specs.Cells.{Cell}
use Rattle.cells.specs.Segments.{Segment, drawn, shortcut}
use Rattle.cells.specs.Drawings.{Drawing}
use Rattle.cells.specs.Streams.{always, area, items, class_of}
use Rattle.cells.specs.Elements.{Element, opens, bar, closes, bare, named, segment, entry_elements, role_in}
use Rattle.cells.specs.code.Making.{nothing, held, Making, making, prune, settle, add_to, on_elements, element_size}
use Rattle.stream.specs.declared.Words.{Words}
use Rattle.stream.specs.Entry.{decode}
use Rattle.evaluate.specs.Reading.{element_for}
use Rattle.evaluate.specs.code.Numbers.{segment_of}
use Rattle.evaluate.proofs.Laws.{element_segment}
use Rattle.making.proofs.Laws.{by_kind}
use Rattle.making.specs.code.Numbers.{start_in}
use Rattle.making.proofs.Follows.{state_of, waiting_of, waiting_for}
use Rattle.writing.proofs.Places.{Moves, adds, cuts, open_moves, bar_moves, close_moves}
use Rattle.child_stream.specs.code.Starts.{starts_of}
use Rattle.child_stream.specs.code.Numbers.{put_start}

-- ---- the start numbers of elements

pub starts_append : (x y : List Element) → starts_of (x ++ y) ≡ starts_of x ++ starts_of y
starts_append [] y = refl
starts_append (opens ∷ x) y = starts_append x y
starts_append (bar ∷ x) y = starts_append x y
starts_append (closes ∷ x) y = starts_append x y
starts_append (bare ∷ x) y = starts_append x y
starts_append (named n z ∷ x) y = ap (λ (l : List ℤ). z ∷ l) (starts_append x y)
starts_append (segment g ∷ x) y = starts_append x y

starts_segments : (gs : List Segment) → starts_of (map segment gs) ≡ []
starts_segments [] = refl
starts_segments (g ∷ gs) = starts_segments gs

-- ---- numbers at the front of others

pub record Front (zs ys : List ℤ) : Type 0 where
  pub rest : List ℤ
  pub is : ys ≡ zs ++ rest

front_of : (zs w : List ℤ) → Front zs (zs ++ w)
front_of zs w = record { rest = w; is = refl }

front_then : {x y z : List ℤ} → Front x y → Front y z → Front x z
front_then {x} {y} {z} a b =
    record { rest = a.rest ++ b.rest; is = b.is ∙ (ap (λ (l : List ℤ). l ++ b.rest) a.is ∙ append_assoc x a.rest b.rest) }

front_take : (p : ℕ) (out : List Element) → Front (starts_of (take p out)) (starts_of out)
front_take p out = record { rest = starts_of (drop p out); is = ap starts_of (sym (take-append-drop p out)) ∙ starts_append (take p out) (drop p out) }

-- an element that is no area behind them
front_mark : (r : Element) (x out : List Element) → starts_of (r ∷ []) ≡ [] → Front (starts_of x) (starts_of out)
    → Front (starts_of (x ++ (r ∷ []))) (starts_of out)
front_mark r x out e f =
    subst (λ (l : List ℤ). Front l (starts_of out))
    (sym (starts_append x (r ∷ []) ∙ (ap (λ (l : List ℤ). starts_of x ++ l) e ∙ append-nil (starts_of x)))) f

front_same : (out : List Element) → Front (starts_of out) (starts_of out)
front_same out = record { rest = []; is = sym (append-nil (starts_of out)) }

front_moves : (out out' : List Element) (r : Element) → starts_of (r ∷ []) ≡ [] → Moves out r out' → Front (starts_of out') (starts_of out)
front_moves out out' r e (adds m) = rw m (front_mark r out out e (front_same out))
front_moves out out' r e (cuts p m) = rw m (front_take p out)

-- ---- one entry more: the start numbers are at the front of those there were and that of the area that waited
module _ (D : Drawing) (c : Cell) where
  abbrev pub with_next : Making → List ℤ
  with_next m = starts_of (out_of (state_of m)) ++ (start_in (waiting_for (waiting_of m)) ∷ [])

  item_front : (k : Kind) (f : Items.Class) (n : ℕ) (z : ℤ) (gs : List Segment) (out : List Element) (b : ℕ) (fs : List Frame)
      → Front (starts_of (out_of (add_item (items D) Element entry_elements k f (area n z gs) out b fs))) (starts_of out ++ (z ∷ []))
  item_front k f n z gs out b fs = go k f
    where
      kept : Front (starts_of (out ++ (named n z ∷ map segment gs))) (starts_of out ++ (z ∷ []))
      kept =
          let e : starts_of (out ++ (named n z ∷ map segment gs)) ≡ starts_of out ++ (z ∷ []) =
          starts_append out (named n z ∷ map segment gs) ∙ ap (λ (l : List ℤ). starts_of out ++ (z ∷ l)) (starts_segments gs) in
          record { rest = []; is = sym e ∙ sym (append-nil (starts_of (out ++ (named n z ∷ map segment gs)))) }

      go : (k : Kind) (f : Items.Class)
          → Front (starts_of (out_of (add_item (items D) Element entry_elements k f (area n z gs) out b fs))) (starts_of out ++ (z ∷ []))
      go k fails = front_of (starts_of out) (z ∷ [])
      go paint passes = kept
      go clip passes = front_then (front_mark bare (take b out) out refl (front_take b out)) (front_of (starts_of out) (z ∷ []))
      go paint other = kept
      go clip other = kept

  pub settle_front : (m : Making) → Front (starts_of (out_of (settle D c m))) (with_next m)
  settle_front (making x nothing) = front_of (starts_of (out_of x)) (pos 0 ∷ [])
  settle_front (making (st out b going fs) (held n z gs)) = item_front (role_in D n) (class_of D (role_in D n) (area n z gs)) n z gs out b fs
  settle_front (making (st out b (shut s) fs) (held n z gs)) = front_of (starts_of out) (z ∷ [])

  pub bare_front : (x : Pruning.State Element) → Front (starts_of (out_of (prune D c x (item clip always)))) (starts_of (out_of x))
  bare_front (st out b going fs) = front_mark bare (take b out) out refl (front_take b out)
  bare_front (st out b (shut s) fs) = front_same out

  pub open_front : (x : Pruning.State Element) → Front (starts_of (out_of (prune D c x push))) (starts_of (out_of x))
  open_front x = front_moves (out_of x) (out_of (prune D c x push)) opens refl (open_moves D c x)

  pub bar_front : (x : Pruning.State Element) → Front (starts_of (out_of (prune D c x activate))) (starts_of (out_of x))
  bar_front x = front_moves (out_of x) (out_of (prune D c x activate)) bar refl (bar_moves D c x)

  pub close_front : (x : Pruning.State Element) → Front (starts_of (out_of (prune D c x pop))) (starts_of (out_of x))
  close_front x = front_moves (out_of x) (out_of (prune D c x pop)) closes refl (close_moves D c x)

  same_front : (g : Segment) (m : Making) → Front (starts_of (out_of (state_of (add_to D c g m)))) (with_next m)
  same_front g (making x nothing) = front_of (starts_of (out_of x)) (pos 0 ∷ [])
  same_front g (making x (held n z gs)) = front_of (starts_of (out_of x)) (z ∷ [])

  pub turn_front : (w : Words) (m : Making) → Front (starts_of (out_of (state_of (on_elements D c (element_for (decode w) []) m)))) (with_next m)
  turn_front w m =
      by_kind w (λ e. Front (starts_of (out_of (state_of (on_elements D c (element_for e []) m)))) (with_next m))
      (λ e. front_then (open_front (settle D c m)) (settle_front m))
      (λ e. front_then (bar_front (settle D c m)) (settle_front m))
      (λ e. front_then (close_front (settle D c m)) (settle_front m))
      (λ e. settle_front m)
      (λ s. rw (element_segment w [] s) (same_front (segment_of w) m))
      (λ e. front_then (bare_front (settle D c m)) (settle_front m))
      (front_of (starts_of (out_of (state_of m))) (start_in (waiting_for (waiting_of m)) ∷ []))

-- ---- how many, from one number

abbrev line_one : Element → ℕ
line_one opens = 0
line_one bar = 0
line_one closes = 0
line_one bare = 0
line_one (named n z) = 0
line_one (segment (drawn l)) = 1
line_one (segment (shortcut z lo hi)) = 0

abbrev lines : List Element → ℕ
lines [] = 0
lines (r ∷ rs) = line_one r + lines rs

one_is : (r : Element) → (element_size r ≡ 1 + 65536 * line_one r + 4294967296 * length (starts_of (r ∷ []))) × (line_one r ≤ 1)
one_is opens = (refl, omega arith)
one_is bar = (refl, omega arith)
one_is closes = (refl, omega arith)
one_is bare = (refl, omega arith)
one_is (named n z) = (refl, omega arith)
one_is (segment (drawn l)) = (refl, omega arith)
one_is (segment (shortcut z lo hi)) = (refl, omega arith)

total_is : (rs : List Element) → (total element_size rs ≡ length rs + 65536 * lines rs + 4294967296 * length (starts_of rs)) × (lines rs ≤ length rs)
total_is [] = (refl, omega arith)
total_is (r ∷ rs) =
    let a = one_is r in
    let b = total_is rs in
    let e : length (starts_of (r ∷ rs)) ≡ length (starts_of (r ∷ [])) + length (starts_of rs) =
    ap length (starts_append (r ∷ []) rs) ∙ length-append (starts_of (r ∷ [])) (starts_of rs) in
    (omega (arith, a.0, b.0, e), omega (arith, a.1, b.1))

pub areas_is : (rs : List Element) → length rs ≤ 8192 → total element_size rs / 4294967296 ≡ length (starts_of rs)
areas_is rs h = omega (arith, (total_is rs).0, (total_is rs).1)

-- ---- numbers that stand in the array, as far as it goes
abbrev pub Stands : List ℤ → List ℤ → Type 0
Stands at zs = (i : ℕ) → i < length zs → i < 64 → get_or at i (pos 0) ≡ get_or zs i (pos 0)

pub stands_front : (at zs ys : List ℤ) → Front zs ys → Stands at ys → Stands at zs
stands_front at zs ys f s i h l =
    let n : length ys ≡ length zs + length f.rest = ap length f.is ∙ length-append zs f.rest in
    s i (omega arith) l ∙ (ap (λ (x : List ℤ). get_or x i (pos 0)) f.is ∙ get_or-append zs f.rest (pos 0) i h)

-- a number behind them leaves them
put_other : (at : List ℤ) (k : ℕ) (z : ℤ) (i : ℕ) → i < k → get_or (put_start at k z) i (pos 0) ≡ get_or at i (pos 0)
unfolding put_start
put_other at k z i h = go (ltb k 64)
  where
    go : (b : Bool) → get_or (cond b (set at k z) at) i (pos 0) ≡ get_or at i (pos 0)
    go true = get_or-set_other at k i z (pos 0) (λ e. omega arith)
    go false = refl

put_here : (at : List ℤ) (k : ℕ) (z : ℤ) → k < 64 → length at ≡ 64 → get_or (put_start at k z) k (pos 0) ≡ z
unfolding put_start
put_here at k z h e = rw (lt-ltb k 64 h) (get_or-set_same at k z (pos 0) (omega arith))

-- one number more
pub stands_more : (at zs : List ℤ) (z : ℤ) → length at ≡ 64 → Stands at zs → Stands (put_start at (length zs) z) (zs ++ (z ∷ []))
stands_more at zs z e s i h l = go (ltb i (length zs)) refl
  where
    at_end : i < length zs + 1
    at_end = omega (arith, length-append zs (z ∷ []))

    go : (b : Bool) → ltb i (length zs) ≡ b → get_or (put_start at (length zs) z) i (pos 0) ≡ get_or (zs ++ (z ∷ [])) i (pos 0)
    go true t =
        let n : i < length zs = ltb-true i (length zs) t in
        put_other at (length zs) z i n ∙ (s i n l ∙ sym (get_or-append zs (z ∷ []) (pos 0) i n))
    go false t =
        let n : length zs ≤ i = ltb-false i (length zs) t in
        let k : i ≡ length zs = omega (arith, at_end) in
        subst (λ (j : ℕ). get_or (put_start at (length zs) z) j (pos 0) ≡ get_or (zs ++ (z ∷ [])) j (pos 0)) (sym k)
        (put_here at (length zs) z (omega arith) e ∙ sym (get_or-append_seam zs z [] (pos 0)))

pub put_length : (at : List ℤ) (k : ℕ) (z : ℤ) → length (put_start at k z) ≡ length at
unfolding put_start
put_length at k z = go (ltb k 64)
  where
    go : (b : Bool) → length (cond b (set at k z) at) ≡ length at
    go true = length-set at k z
    go false = refl
