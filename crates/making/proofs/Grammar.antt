-- A stream that passes the check fits the grammar of streams: its entries are the stream of its tree.
use mathlib.Core.Path.{◌≡◌, refl, sym, ◌∙◌}
use mathlib.Core.Bool.{Bool, true, false, cond, not}
use mathlib.Core.List.{List, [], ◌∷◌}
use Prim.Native.Nat.{ℕ, ◌+◌, ◌*◌, ◌<◌}
use lib.Dec.{eqb, ltb}
use lib.ListN.{get_or}
use lib.IntN.{ℤ}
use mir.Syntax.{w32}
use mir.Val.{to_z}
use borrow.Author.Tests.{eqb-true}
use Rattle.laws.proofs.Booleans.{clash, and_both}
use Rattle.groups.specs.Sides.{is_paint, on_left, on_right}
use Rattle.records.specs.declared.Record.TheVariants.{Area}
use Rattle.std.specs.Prelude.{Ok, Err}
use Rattle.refusals.specs.declared.Refusal.TheVariants.{Field}
use Rattle.records.specs.Record.{in_range, is_good}
use Rattle.drawing.specs.Tables.{fields_at, area_row}
use Rattle.pruning.specs.Sides.{Kind, paint, clip, flat}
use Rattle.pruning.specs.Grammar as Sides
use Rattle.pruning.specs.Grammar.{same_kind, tree}
use Rattle.pruning.proofs.Grammar.{fits_flat}
use Rattle.stream.specs.declared.Words.{Words}
use Rattle.stream.specs.Entry as Entries
use Rattle.stream.specs.Entry.{start_range}
use Rattle.stream.specs.Grammar as Stream
use Rattle.stream.specs.Grammar.{Env, Place, at, off, area_met, record_fits, role_fits, fits, in_limit, after, course, is_whole, accepts}
use Rattle.stream.proofs.Passed.{off_stays}
use Rattle.cells.specs.Streams.{Item}
use Rattle.cells.specs.Segments.{Segment}
use Rattle.cells.specs.Elements as Elements
use Rattle.cells.specs.Elements.{Decoded, dec, entries_of, decode_element, decode}
use Rattle.evaluate.specs.Reading.{element_for, elements_in, role_at}
use Rattle.evaluate.specs.code.Numbers.{segment_of}
use Rattle.evaluate.proofs.Laws.{both, area_below, element_segment}
use Rattle.ranges.proofs.Groups.{opens, kind_by, kind_on, Nested, nested_open, nested_right, nested_outer, fits_end, fits_open, fits_bar, fits_close}
use Rattle.making.proofs.Laws.{by_kind, after_segment}

-- ---- one entry of a stream that passes

-- entry e fits at place p, and what is left passes
pub record Passes (v : Env) (p : Place) (e : Entries.Entry) (ws : List Words) : Type 0 where
  pub range : Stream.in_range v e ≡ true
  pub fit : fits v p e ≡ true
  pub room : in_limit p e ≡ true
  pub rest : is_whole (course v (at (after p e)) ws) ≡ true

pub one_passes : (v : Env) (p : Place) (w : Words) (ws : List Words) → is_whole (course v (at p) (w ∷ ws)) ≡ true → Passes v p (Entries.decode w) ws
unfolding course
one_passes v p w ws h = go (Stream.in_range v e) (fits v p e) (in_limit p e) refl refl refl h
  where
    e : Entries.Entry
    e = Entries.decode w

    none : {A : Type 0} → is_whole (course v off ws) ≡ true → A
    none h = clash (sym (off_stays v ws) ∙ h)

    go : (a b c : Bool)
        → Stream.in_range v e ≡ a
        → fits v p e ≡ b
        → in_limit p e ≡ c
        → is_whole (course v (cond a (cond b (cond c (at (after p e)) off) off) off) ws) ≡ true
        → Passes v p e ws
    go true true true i f l h = record { range = i; fit = f; room = l; rest = h }
    go true true false i f l h = none h
    go true false c i f l h = none h
    go false b c i f l h = none h

-- ---- the entries fit

-- an area's role, by its row in the table
role_by : (areas : List ℕ) (used n : ℕ) (b : Bool) → role_fits (area_row areas used n) b ≡ true → same_kind (role_at areas n) (kind_by b) ≡ true
unfolding area_row
role_by areas used n b h = go (ltb n used) (eqb (get_or areas (n * 8 + 7) 0) 0) (in_range (Area (fields_at areas n))) h
  where
    told : (c : Bool) → record_fits (Area (fields_at areas n)) c ≡ true → same_kind (role_at areas n) (kind_by c) ≡ true
    told true h = rw (eqb-true (get_or areas (n * 8) 0) 0 h)
    told false h = rw (eqb-true (get_or areas (n * 8) 0) 1 h)

    go : (x y z : Bool)
        → role_fits (cond x (cond y (cond z (Ok (Area (fields_at areas n))) (Err Field)) (Err Field)) (Err Field)) b ≡ true
        → same_kind (role_at areas n) (kind_by b) ≡ true
    go true true true h = told b h
    go true true false h = clash h
    go true false z h = clash h
    go false y z h = clash h

module _ (v : Env) (role : ℕ → Kind) (same : (n : ℕ) → n < v.used.areas → role_at v.areas n ≡ role n) where
  abbrev Fits : Place → Decoded → Type 0
  Fits p d = Sides.fits (entries_of d) (kind_on p.groups) (opens p.groups) ≡ true

  by_open : (p : Place) (d : Decoded) → Fits (after p Entries.opens) d → Fits p (decode_element role Elements.opens d)
  by_open p (dec gs es) h = fits_open es p.groups h

  by_bar : (p : Place) (d : Decoded) → on_left p.groups ≡ true → Fits (after p Entries.bar) d → Fits p (decode_element role Elements.bar d)
  by_bar p (dec gs es) f h = fits_bar es p.groups f h

  by_close : (p : Place) (d : Decoded)
      → Nested p.groups
      → on_right p.groups ≡ true
      → Fits (after p Entries.closes) d
      → Fits p (decode_element role Elements.closes d)
  by_close p (dec gs es) n f h = fits_close es p.groups n f h

  by_passes : (p : Place) (d : Decoded) → not (is_paint p.groups) ≡ true → Fits p d → Fits p (decode_element role Elements.bare d)
  by_passes p (dec gs es) f h =
      and_both (same_kind clip (kind_on p.groups)) (Sides.fits es (kind_on p.groups) (opens p.groups)) (go (is_paint p.groups) f) h
    where
      go : (b : Bool) → not b ≡ true → same_kind clip (kind_by b) ≡ true
      go true f = clash f
      go false f = refl

  by_area : (p : Place) (n : ℕ) (z : ℤ) (d : Decoded)
      → n < v.used.areas
      → role_fits (area_met v n) (is_paint p.groups) ≡ true
      → Fits p d
      → Fits p (decode_element role (Elements.named n z) d)
  by_area p n z (dec gs es) l f h =
      and_both (same_kind (role n) (kind_on p.groups)) (Sides.fits es (kind_on p.groups) (opens p.groups))
      (rw (← same n l) (role_by v.areas v.used.areas n (is_paint p.groups) f)) h

  by_segment : (p : Place) (g : Segment) (d : Decoded) → Fits p d → Fits p (decode_element role (Elements.segment g) d)
  by_segment p g (dec gs es) h = h

  one_fits : (w : Words) (p : Place) (ws : List Words)
      → Nested p.groups
      → Passes v p (Entries.decode w) ws
      → (Nested (after p (Entries.decode w)).groups → Fits (after p (Entries.decode w)) (decode role (elements_in ws)))
      → Fits p (decode role (element_for (Entries.decode w) (elements_in ws)))
  one_fits w p ws n =
      by_kind w
      (λ e. Passes v p e ws → (Nested (after p e).groups → Fits (after p e) d) → Fits p (decode role (element_for e (elements_in ws))))
      (λ e h ih. by_open p d (ih (nested_open p.groups n)))
      (λ e h ih. by_bar p d h.fit (ih (nested_right p.groups n)))
      (λ e h ih. by_close p d n h.fit (ih (nested_outer p.groups n)))
      (λ e h ih. by_area p w.p (to_z w32 w.q) d
      (area_below v.areas v.used.areas w.p (both (is_good (area_met v w.p)) (start_range w.q) h.range).0) h.fit (ih n))
      (λ s h ih. let g = after_segment p w s in
      rw (element_segment w (elements_in ws) s) (by_segment p (segment_of w) d (rw g at (ih (rw g n)))))
      (λ e h ih. by_passes p d h.fit (ih n))
      (λ h ih. clash h.range)
    where
      d : Decoded
      d = decode role (elements_in ws)

  all_fit : (ws : List Words) (p : Place) → Nested p.groups → is_whole (course v (at p) ws) ≡ true → Fits p (decode role (elements_in ws))
  unfolding course elements_in
  all_fit [] p n h = fits_end {A = Item} [] p.groups (kind_on p.groups) h
  all_fit (w ∷ ws) p n h = let q = one_passes v p w ws h in one_fits w p ws n q (λ m. all_fit ws (after p (Entries.decode w)) m q.rest)

  -- the entries of a stream that passes are the stream of its tree
  pub entries_flat : (ws : List Words) → accepts v ws ≡ true
      → entries_of (decode role (elements_in ws)) ≡ flat paint (tree (entries_of (decode role (elements_in ws))))
  unfolding accepts
  entries_flat ws h = fits_flat (entries_of (decode role (elements_in ws))) (all_fit ws (Stream.place [] false 0 0) tt h)
