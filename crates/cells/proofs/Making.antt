-- From any elements, in one pass, come the elements of what is made of the stream that they say.
use mathlib.Core.Path.{◌≡◌, refl, sym, ap, ◌∙◌}
use mathlib.Core.List.{List, [], ◌∷◌, ◌++◌, map, append_assoc, append-nil}
use Prim.Native.Nat.{◌<◌}
use native.Mathlib.Omega.{arith}
use lib.ListN.{length}
use Rattle.geometry.specs.declared.class.Class.{Class}
use Rattle.geometry.specs.declared.class.Class.TheVariants.{Dropped, Start, Shortcut, Kept}
use Rattle.pruning.specs.Sides.{paint, clip, Side, Entry, item, push, activate, pop, flat, map_entry, map_side}
use Rattle.pruning.specs.Normal.{normal}
use Rattle.pruning.specs.code.Pruner as Pruner
use Rattle.pruning.specs.code.Pruner.{st, going, run}
use Rattle.pruning.specs.code.Effects.{out_of}
use Rattle.pruning.proofs.Pruner.{elements_flat, stream_normal}
use Rattle.pruning.proofs.Sides.{flat_map}
use Rattle.cells.specs.Cells.{Cell}
use Rattle.cells.specs.Segments.{Segment, class_in, kept_by, kept_in, start_in}
use Rattle.cells.specs.Drawings.{Drawing}
use Rattle.cells.specs.Streams.{Item, always, area, items, within, made}
use Rattle.cells.specs.Elements.{
  Element,
  opens,
  bar,
  closes,
  bare,
  named,
  segment,
  entry_elements,
  elements_of,
  Decoded,
  dec,
  entries_of,
  decode_element,
  decode,
  role_in,
}
use Rattle.cells.specs.code.Making.{nothing, held, Making, making, prune, settle, add_to, on_elements, begun, made_elements}
use Rattle.cells.proofs.Streams.{made_normal}

pub entry_some : (e : Entry Item) → 0 < length (entry_elements e)
entry_some (item k always) = omega arith
entry_some (item k (area n z gs)) = omega arith
entry_some push = omega arith
entry_some activate = omega arith
entry_some pop = omega arith

module _ (D : Drawing) (c : Cell) where
  abbrev prunes : List (Entry Item) → Pruner.State Element → Pruner.State Element
  prunes es x = run (items D) Element entry_elements (map (map_entry (within D c)) es) x

  abbrev end : Making → Pruner.State Element
  end = settle D c

  -- the waiting area with the lines and shortcuts in front
  abbrev later : Making → List Segment → Making
  later (making x nothing) gs = making x nothing
  later (making x (held n z ks)) gs = making x (held n (start_in D.xs D.ys c z gs) (ks ++ kept_in D.xs D.ys c gs))

  later_none : (m : Making) → end (later m []) ≡ end m
  later_none (making x nothing) = refl
  later_none (making x (held n z ks)) = ap (λ k. prune D c x (item (role_in D n) (area n z k))) (append-nil ks)

  kept_more : (f : Class) (g : Segment) (ks gs : List Segment) → (ks ++ kept_by D.xs D.ys f g []) ++ gs ≡ ks ++ kept_by D.xs D.ys f g gs
  kept_more Dropped g ks gs = ap (λ k. k ++ gs) (append-nil ks)
  kept_more Start g ks gs = ap (λ k. k ++ gs) (append-nil ks)
  kept_more (Shortcut lo hi) g ks gs = append_assoc ks (kept_by D.xs D.ys (Shortcut lo hi) g []) gs
  kept_more Kept g ks gs = append_assoc ks (g ∷ []) gs

  later_more : (g : Segment) (m : Making) (gs : List Segment) → later (add_to D c g m) gs ≡ later m (g ∷ gs)
  later_more g (making x nothing) gs = refl
  later_more g (making x (held n z ks)) gs =
      ap (λ k. making x (held n (start_in D.xs D.ys c z (g ∷ gs)) k)) (kept_more (class_in D.xs D.ys c g) g ks (kept_in D.xs D.ys c gs))

  abbrev Says : List Element → Decoded → Type 0
  Says ws (dec gs es) = (m : Making) → end (on_elements D c ws m) ≡ prunes es (end (later m gs))

  element_says : (w : Element) (ws : List Element) (d : Decoded) → Says ws d → Says (w ∷ ws) (decode_element (role_in D) w d)
  element_says opens ws (dec gs es) h = λ m. h (making (prune D c (end m) push) nothing) ∙ ap (λ x. prunes es (prune D c x push)) (sym (later_none m))
  element_says bar ws (dec gs es) h = λ m. h (making (prune D c (end m) activate) nothing) ∙ ap (λ x. prunes es (prune D c x activate)) (sym (later_none m))
  element_says closes ws (dec gs es) h = λ m. h (making (prune D c (end m) pop) nothing) ∙ ap (λ x. prunes es (prune D c x pop)) (sym (later_none m))
  element_says bare ws (dec gs es) h =
      λ m.
      h (making (prune D c (end m) (item clip always)) nothing) ∙ ap (λ x. prunes es (prune D c x (item clip always))) (sym (later_none m))
  element_says (named n z) ws (dec gs es) h = λ m. h (making (end m) (held n z []))
      ∙ ap (λ x. prunes es (prune D c x (item (role_in D n) (within D c (area n z gs))))) (sym (later_none m))
  element_says (segment g) ws (dec gs es) h = λ m. h (add_to D c g m) ∙ ap (λ x. prunes es (end x)) (later_more g m gs)

  pub elements_say : (ws : List Element) → Says ws (decode (role_in D) ws)
  elements_say [] = λ m. sym (later_none m)
  elements_say (w ∷ ws) = element_says w ws (decode (role_in D) ws) (elements_say ws)

  made_by_law : (ws : List Element) (d : Decoded) → Says ws d → end (on_elements D c ws (begun D c)) ≡ prunes (entries_of d) (st [] 0 going [])
  made_by_law ws (dec gs es) h = h (begun D c)

  elements_written : (es : List (Entry Item)) → Pruner.written (items D) Element entry_elements es ≡ elements_of es
  elements_written [] = refl
  elements_written (e ∷ es) = ap (λ x. entry_elements e ++ x) (elements_written es)

  -- elements whose entries are a side's: the elements of what is made of that side
  pub elements_made_law : (ws : List Element) (x : Side Item) → entries_of (decode (role_in D) ws) ≡ flat paint x
      → made_elements D c ws ≡ elements_of (flat paint (made D c x))
  elements_made_law ws x e =
      ap out_of
      (made_by_law ws (decode (role_in D) ws) (elements_say ws)
      ∙ (ap (λ es. prunes es (st [] 0 going [])) e
      ∙ (ap (λ es. run (items D) Element entry_elements es (st [] 0 going [])) (sym (flat_map (within D c) paint x))
      ∙ stream_normal (items D) Element entry_elements entry_some (map_side (within D c) x))))
      ∙ (elements_flat (items D) Element entry_elements entry_some paint (normal (items D) paint (map_side (within D c) x))
      ∙ (elements_written (flat paint (normal (items D) paint (map_side (within D c) x)))
      ∙ ap (λ y. elements_of (flat paint y)) (sym (made_normal D c x))))
