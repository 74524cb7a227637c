-- What is written stands in the table as the elements do: one entry more.
use mathlib.Core.Path.{◌≡◌, refl, sym, ap, subst, ◌∙◌}
use mathlib.Core.Bool.{Bool, true, false, cond}
use mathlib.Core.List.{List, [], ◌∷◌, ◌++◌, map, append-nil}
use Prim.Native.Nat.{ℕ, suc, ◌+◌, ◌*◌, ◌≤◌, ◌<◌}
use native.Mathlib.Omega.{arith}
use native.Mathlib.Nat.{zero-add}
use lib.Dec.{eqb, ltb}
use lib.ListN.{length, get_or, take, length-map}
use lib.Seq.{length-take-le}
use lib.IntN.{ℤ, ◌+ℤ◌}
use borrow.Author.Tests.{lt-ltb, le-ltb, ne_eqb}
use Rattle.laws.proofs.Booleans.{clash}
use Rattle.geometry.specs.declared.class.Class.{Class}
use Rattle.geometry.specs.declared.class.Class.TheVariants.{Dropped, Start, Shortcut, Kept}
use Rattle.pruning.specs.Sides.{paint, clip, item}
use Rattle.pruning.specs.code.Pruner as Pruning
use Rattle.pruning.specs.code.Pruner.{Frame, going, shut, st, add_item}
use Rattle.pruning.specs.code.Counters.{Count, length_of}
use Rattle.pruning.specs.code.Effects.{out_of}
use Rattle.pruning.specs.code.Weights.{total, weighed}
use Rattle.pruning.proofs.Counters.{Fit, count}
use Rattle.pruning.proofs.Weights.{total_append}
use Rattle.cells.specs.Cells.{Cell}
use Rattle.cells.specs.Segments.{Segment, drawn, shortcut, sign_of, class_in, kept_by, start_by}
use Rattle.cells.specs.Drawings.{Drawing}
use Rattle.cells.specs.Streams.{always, area, items}
use Rattle.cells.specs.Elements.{Element, bare, named, segment, item_elements, entry_elements}
use Rattle.cells.specs.code.Making.{Waiting, nothing, held, Making, making, prune, settle, add_to, element_size}
use Rattle.cells.proofs.Making.{entry_some}
use Rattle.stream.specs.declared.Words.{Words}
use Rattle.std.specs.Prelude.{is_none}
use Rattle.pruner.specs.declared.ItemClass.{ItemClass}
use Rattle.pruner.specs.declared.ItemClass.TheVariants.{Fails, Passes, Neither}
use Rattle.pruner.specs.declared.Pruner.{Pruner}
use Rattle.pruner.specs.code.Numbers.{class_of, counted, base_of, skip_in}
use Rattle.pruner.proofs.Near.{counted_weight, counted_base}
use Rattle.evaluate.specs.Words.{words, segment_words, words_of, Agrees}
use Rattle.evaluate.specs.code.Numbers.{line_of}
use Rattle.making.specs.declared.Maker.{Maker}
use Rattle.making.specs.declared.Waiting as Declared
use Rattle.making.specs.code.Numbers.{waiting_as, class_n}
use Rattle.making.proofs.Follows.{state_of, waiting_of, Follows, class_is}
use Rattle.making.proofs.Turn.{before_most}
use Rattle.writing.specs.code.Numbers.{put_below, place_of, kept_put, segment_put, class_put, settled_put}
use Rattle.writing.proofs.Marks.{none_is}
use Rattle.writing.proofs.Agree.{Agree, agree_append, agree_take, agree_behind, agree_before, agree_more, below_here}
use Rattle.writing.proofs.Places.{place_is, Moves, adds, cuts}

abbrev pub is_going : Pruning.State Element → Bool
is_going (st out b going fs) = true
is_going (st out b (shut m) fs) = false

abbrev pub segments_of : Waiting → List Segment
segments_of nothing = []
segments_of (held n z gs) = gs

-- the output stands from entry 0 on; behind it, with an entry left for the area that waits, what is left of its lines, curves and shortcuts
pub record Writes (limit : ℕ) (t : List ℕ) (m : Making) : Type 0 where
  pub done : Agree limit t 0 (out_of (state_of m))
  pub behind : is_going (state_of m) ≡ true → Agree limit t (length (out_of (state_of m)) + 1) (map segment (segments_of (waiting_of m)))

-- ---- the numbers of a pruner

pub going_is : (x : Pruning.State Element) → eqb (skip_in (weighed element_size x)) 0 ≡ is_going x
going_is (st out b going fs) = refl
going_is (st out b (shut m) fs) = ne_eqb (suc m) 0 (λ e. omega arith)

pub skip_is : (p : Pruner) (x : Pruning.State Element) → counted p ≡ weighed element_size x → is_none p.skip ≡ is_going x
skip_is p x e = sym (none_is p) ∙ (ap (λ (c : Count). eqb (skip_in c) 0) e ∙ going_is x)

pub length_place : (p : Pruner) (x : Pruning.State Element) → counted p ≡ weighed element_size x → length (out_of x) < 65536
    → place_of p.weight ≡ length (out_of x)
length_place p x e h = ap place_of (sym (counted_weight p) ∙ ap length_of e) ∙ go x h
  where
    go : (x : Pruning.State Element) → length (out_of x) < 65536 → place_of (length_of (weighed element_size x)) ≡ length (out_of x)
    go (st out b w fs) h = place_is out h

-- the side begins at b
base_at : (out : List Element) (b : ℕ) → b ≤ length out → length out < 65536 → place_of (total element_size (take b out)) ≡ b
base_at out b l h = place_is (take b out) (omega (arith, length-take-le b out l)) ∙ length-take-le b out l

module _ (limit : ℕ) where
  -- an entry for each element that is written
  item_agrees : (t : List ℕ) (out gs : List Element) (r : Element)
      → limit * 4 ≤ length t
      → Agree limit t 0 out
      → Agree limit t (length out + 1) gs
      → Agree limit (put_below t (length out) (words_of r)) 0 (out ++ (r ∷ gs))
  item_agrees t out gs r h a b =
      agree_append limit (put_below t (length out) (words_of r)) 0 out (r ∷ gs) (agree_behind limit t 0 out (length out) (words_of r) (omega arith) a)
      (subst (λ (n : ℕ). Agree limit (put_below t (length out) (words_of r)) n (r ∷ gs)) (sym (zero-add (length out)))
      (λ l. below_here limit t (length out) (words_of r) h l, agree_before limit t (length out + 1) gs (length out) (words_of r) (omega arith) b))

  back_agrees : (t : List ℕ) (out : List Element) (b : ℕ) (r : Element)
      → limit * 4 ≤ length t
      → b ≤ length out
      → Agree limit t 0 out
      → Agree limit (put_below t b (words_of r)) 0 (take b out ++ (r ∷ []))
  back_agrees t out b r h l a =
      subst (λ (n : ℕ). Agree limit (put_below t n (words_of r)) 0 (take b out ++ (r ∷ [])))
      (zero-add (length (take b out)) ∙ length-take-le b out l) (agree_more limit t 0 (take b out) r h (agree_take limit t 0 b out a))

  -- ---- a delimiter
  pub mark_agrees : (t : List ℕ) (x : Pruning.State Element) (r : Element) (kind : ℕ) (out' : List Element)
      → words_of r ≡ words kind 0 0 0
      → element_size r ≡ 1
      → limit * 4 ≤ length t
      → length (out_of x) < 65536
      → Moves (out_of x) r out'
      → Agree limit t 0 (out_of x)
      → Agree limit
      (cond (ltb (length_of (weighed element_size x)) (total element_size out'))
      (put_below t (place_of (length_of (weighed element_size x))) (words kind 0 0 0)) t)
      0 out'
  mark_agrees t (st out b w fs) r kind out' e s h l (adds m) a =
      let n : total element_size (out ++ (r ∷ [])) ≡ total element_size out + 1 = omega (arith, total_append element_size out (r ∷ [])) in
      rw (m, n, lt-ltb (total element_size out) (total element_size out + 1) (omega arith), place_is out l, ← e) (item_agrees t out [] r h a tt)
  mark_agrees t (st out b w fs) r kind out' e s h l (cuts p m) a =
      rw (m, le-ltb (total element_size out) (total element_size (take p out)) (before_most out p)) (agree_take limit t 0 p out a)

  -- ---- "passes"
  pub bare_agrees : (t : List ℕ) (D : Drawing) (c : Cell) (x : Pruning.State Element)
      → Fit (count (items D) Element entry_elements entry_some x)
      → limit * 4 ≤ length t
      → length (out_of x) < 65536
      → Agree limit t 0 (out_of x)
      → Agree limit (cond (is_going x) (put_below t (place_of (base_of (weighed element_size x))) (words 7 0 0 0)) t) 0
      (out_of (prune D c x (item clip always)))
  bare_agrees t D c (st out b going fs) f h l a = rw (base_at out b f.0 l) (back_agrees t out b bare h f.0 a)
  bare_agrees t D c (st out b (shut m) fs) f h l a = a

  -- ---- the area that waits
  module _ (areas : List ℕ) (D : Drawing) (c : Cell) (agrees : (n : ℕ) → n < length D.fields → Agrees areas D n) where
    same_cond : (b : Bool) (t : List ℕ) (out : List Element) → Agree limit t 0 out → Agree limit (cond b t t) 0 out
    same_cond true t out a = a
    same_cond false t out a = a

    class_agrees : (t : List ℕ) (out : List Element) (b : ℕ) (fs : List Frame) (n : ℕ) (z : ℤ) (gs : List Segment)
        → limit * 4 ≤ length t
        → b ≤ length out
        → Agree limit t 0 out
        → Agree limit t (length out + 1) (map segment gs)
        → (p : Pruner) (a : Declared.Waiting)
        → a.number ≡ n
        → a.start ≡ z
        → place_of p.weight ≡ length out
        → place_of p.base ≡ b
        → (k : ItemClass) (is_paint : Bool)
        → eqb (get_or areas (n * 8) 0) 0 ≡ is_paint
        → Agree limit (class_put areas t p a k) 0
        (out_of (add_item (items D) Element entry_elements (cond is_paint paint clip) (class_of k) (area n z gs) out b fs))
    class_agrees t out b fs n z gs h l ag g p a en ez ew eb Fails is_paint e = ag
    class_agrees t out b fs n z gs h l ag g p a en ez ew eb Passes true e = rw (en, ez, ew, e) (item_agrees t out (map segment gs) (named n z) h ag g)
    class_agrees t out b fs n z gs h l ag g p a en ez ew eb Passes false e = rw (en, eb, e) (back_agrees t out b bare h l ag)
    class_agrees t out b fs n z gs h l ag g p a en ez ew eb Neither true e = rw (en, ez, ew) (item_agrees t out (map segment gs) (named n z) h ag g)
    class_agrees t out b fs n z gs h l ag g p a en ez ew eb Neither false e = rw (en, ez, ew) (item_agrees t out (map segment gs) (named n z) h ag g)

    pub settle_agrees : (k : ℕ) (mk : Maker) (m : Making) (t : List ℕ)
        → k ≤ 4096
        → limit * 4 ≤ length t
        → Follows D k mk.pruner mk.waiting m
        → Writes limit t m
        → Agree limit (settled_put areas t mk) 0 (out_of (settle D c m))
    settle_agrees k mk (making x nothing) t l h f w = rw f.waits (same_cond (is_none mk.pruner.skip) t (out_of x) w.done)
    settle_agrees k mk (making (st out b (shut s) fs) (held n z gs)) t l h f w =
        rw (f.waits, skip_is mk.pruner (st out b (shut s) fs) f.counts) w.done
    settle_agrees k mk (making (st out b going fs) (held n z gs)) t l h f w =
        let small : length out < 65536 = omega (arith, f.short) in
        let i = f.named_in.0 in
        let alone = waiting_as n z (total element_size (item_elements (area n z gs))) in
        rw (f.waits, skip_is mk.pruner (st out b going fs) f.counts, ← class_is areas D c agrees n z gs i, ← (agrees n i).role)
        (class_agrees t out b fs n z gs h f.fit.0 w.done (w.behind refl) mk.pruner alone refl refl
        (length_place mk.pruner (st out b going fs) f.counts small)
        (ap place_of (sym (counted_base mk.pruner) ∙ ap base_of f.counts) ∙ base_at out b f.fit.0 small)
        (class_n areas alone) (eqb (get_or areas (n * 8) 0) 0) refl)

    -- ---- a line, a curve or a shortcut
    segments_more : (gs : List Segment) (g : Segment) → map segment (gs ++ (g ∷ [])) ≡ map segment gs ++ (segment g ∷ [])
    segments_more [] g = refl
    segments_more (h ∷ gs) g = ap (λ (rs : List Element). segment h ∷ rs) (segments_more gs g)

    one_more_law : (t : List ℕ) (out : List Element) (b : ℕ) (fs : List Frame) (n : ℕ) (z : ℤ) (gs : List Segment) (g : Segment) (at : ℕ)
        → at ≡ length out + 1 + length gs
        → limit * 4 ≤ length t
        → Writes limit t (making (st out b going fs) (held n z gs))
        → (z' : ℤ)
        → Writes limit (put_below t at (words_of (segment g))) (making (st out b going fs) (held n z' (gs ++ (g ∷ []))))
    one_more_law t out b fs n z gs g at e h w z' =
        let e' : at ≡ length out + 1 + length (map segment gs) = omega (arith, length-map {B = Element} gs segment) in
        record {
          done = agree_behind limit t 0 out at (words_of (segment g)) (omega arith) w.done;
          behind = λ s. rw (segments_more gs g, e') (agree_more limit t (length out + 1) (map segment gs) (segment g) h (w.behind refl));
        }

    none_more : (t : List ℕ) (x : Pruning.State Element) (n : ℕ) (z z' : ℤ) (gs : List Segment)
        → Writes limit t (making x (held n z gs))
        → Writes limit t (making x (held n z' (gs ++ [])))
    none_more t x n z z' gs w = record { done = w.done; behind = λ s. rw (append-nil gs) (w.behind s) }

    kept_writes : (t : List ℕ) (out : List Element) (b : ℕ) (fs : List Frame) (n : ℕ) (z : ℤ) (gs : List Segment) (g : Segment) (wd : Words)
        (at : ℕ) (f : Class)
        → at ≡ length out + 1 + length gs
        → limit * 4 ≤ length t
        → (f ≡ Kept → g ≡ drawn (line_of wd))
        → Writes limit t (making (st out b going fs) (held n z gs))
        → Writes limit (kept_put f t at (sign_of D.xs D.ys g) wd)
        (making (st out b going fs) (held n (start_by D.xs D.ys f g z) (gs ++ kept_by D.xs D.ys f g [])))
    kept_writes t out b fs n z gs g wd at Dropped e h k w = none_more t (st out b going fs) n z z gs w
    kept_writes t out b fs n z gs g wd at Start e h k w = none_more t (st out b going fs) n z (z +ℤ sign_of D.xs D.ys g) gs w
    kept_writes t out b fs n z gs g wd at (Shortcut lo hi) e h k w = one_more_law t out b fs n z gs (shortcut (sign_of D.xs D.ys g) lo hi) at e h w z
    kept_writes t out b fs n z gs g wd at Kept e h k w =
        subst (λ (u : Words). Writes limit (put_below t at u) (making (st out b going fs) (held n z (gs ++ (g ∷ []))))) (ap segment_words (k refl))
        (one_more_law t out b fs n z gs g at e h w z)

    -- nothing is written on a side that is skipped
    shut_writes : (t : List ℕ) (out : List Element) (b s : ℕ) (fs : List Frame) (n : ℕ) (z z' : ℤ) (gs gs' : List Segment)
        → Writes limit t (making (st out b (shut s) fs) (held n z gs))
        → Writes limit t (making (st out b (shut s) fs) (held n z' gs'))
    shut_writes t out b s fs n z z' gs gs' w = record { done = w.done; behind = λ e. clash e }

    pub segment_writes : (k : ℕ) (mk : Maker) (m : Making) (t : List ℕ) (g : Segment) (wd : Words)
        → k ≤ 4096
        → limit * 4 ≤ length t
        → (class_in D.xs D.ys c g ≡ Kept → g ≡ drawn (line_of wd))
        → Follows D k mk.pruner mk.waiting m
        → Writes limit t m
        → Writes limit (segment_put t mk (class_in D.xs D.ys c g) (sign_of D.xs D.ys g) wd) (add_to D c g m)
    segment_writes k mk (making x nothing) t g wd l h e f w = rw f.waits (same (is_none mk.pruner.skip))
      where
        same : (b : Bool) → Writes limit (cond b t t) (making x nothing)
        same true = w
        same false = w
    segment_writes k mk (making (st out b (shut s) fs) (held n z gs)) t g wd l h e f w =
        rw (f.waits, skip_is mk.pruner (st out b (shut s) fs) f.counts)
        (shut_writes t out b s fs n z (start_by D.xs D.ys (class_in D.xs D.ys c g) g z) gs
        (gs ++ kept_by D.xs D.ys (class_in D.xs D.ys c g) g []) w)
    segment_writes k mk (making (st out b going fs) (held n z gs)) t g wd l h e f w =
        let small : length out < 65536 = omega (arith, f.short) in
        let few : length (item_elements (area n z gs)) < 65536 = omega (arith, f.short, length-map {B = Element} gs segment) in
        rw (
          f.waits,
          skip_is mk.pruner (st out b going fs) f.counts,
          length_place mk.pruner (st out b going fs) f.counts small,
          place_is (item_elements (area n z gs)) few,
        )
        (kept_writes t out b fs n z gs g wd (length out + length (item_elements (area n z gs))) (class_in D.xs D.ys c g)
        (omega (arith, length-map {B = Element} gs segment)) h e w)
