-- Document 01, "Cells": pruning "by rules 12 to 18 of document 000", as one relation: any rule at any place, and any C1 made bare at any time.
-- `Rattle.pruning.proofs` says that every sequence of such steps ends (`Sequences`: `every_sequence_ends`), and where no step is left it is the pruned side
-- (`any_sequence`; `Order`: `any_order`).
use Rattle.std.specs.Prelude.{◌≡◌, ◌<◌}
use Rattle.pruning.specs.Sides.{Kind, paint, clip, Side, end, leaf, group, append, size}
use Rattle.pruning.specs.Items.{Items, fails, passes}

module _ (I : Items) where
  open I use {Item, class, bare}

  -- a rule at the front of a side of the kind. "Rules 14 and 18 apply where they remove something."
  pub data Rule : Kind → Side Item → Side Item → Type 0 where
    rule_12_13 : {k : Kind} {a : Item} {t : Side Item} → class k a ≡ fails → Rule k (leaf a t) t
    rule_14 : {l t : Side Item} (a : Side Item) (f : Item) (c : Side Item) → class paint f ≡ passes → 0 < size c
        → Rule paint (group l (append a (leaf f c)) t) (group l (append a (leaf f end)) t)
    rule_15 : {k : Kind} {r t : Side Item} → Rule k (group end r t) t
    rule_16 : {k : Kind} {l t : Side Item} → Rule k (group l end t) t
    rule_17 : {k : Kind} {r t : Side Item} (a : Side Item) (c : Item) (b : Side Item) → class clip c ≡ passes
        → Rule k (group (append a (leaf c b)) r t) (append r t)
    rule_18 : {l t : Side Item} (a : Side Item) (c : Item) (b : Side Item) → class clip c ≡ passes → 1 < size (append a (leaf c b))
        → Rule clip (group l (append a (leaf c b)) t) (group l (leaf c end) t)

  -- "C1 becomes a bare entry "passes", with no area number, which is a C1 in every rule, here and in children.": one C1, at the front of a clip side. Of a bare
  -- one it is no step.
  pub data Bares : Kind → Side Item → Side Item → Type 0 where
    becomes_bare : {a : Item} {t : Side Item} → class clip a ≡ passes → (a ≡ bare → ⊥) → Bares clip (leaf a t) (leaf bare t)

  -- a change of this kind at any place of a side
  pub data Anywhere (R : Kind → Side Item → Side Item → Type 0) : Kind → Side Item → Side Item → Type 0 where
    here : {k : Kind} {s s' : Side Item} → R k s s' → Anywhere R k s s'
    in_leaf : {k : Kind} {a : Item} {t t' : Side Item} → Anywhere R k t t' → Anywhere R k (leaf a t) (leaf a t')
    in_left_law : {k : Kind} {l l' r t : Side Item} → Anywhere R clip l l' → Anywhere R k (group l r t) (group l' r t)
    in_right_law : {k : Kind} {l r r' t : Side Item} → Anywhere R k r r' → Anywhere R k (group l r t) (group l r' t)
    in_rest : {k : Kind} {l r t t' : Side Item} → Anywhere R k t t' → Anywhere R k (group l r t) (group l r t')

  abbrev pub Step : Kind → Side Item → Side Item → Type 0
  Step = Anywhere Rule

  abbrev pub BareStep : Kind → Side Item → Side Item → Type 0
  BareStep = Anywhere Bares

  -- "The top level obeys rule 14 like a group's right side."
  pub data Top : Side Item → Side Item → Type 0 where
    top_14 : (a : Side Item) (f : Item) (c : Side Item) → class paint f ≡ passes → 0 < size c → Top (append a (leaf f c)) (append a (leaf f end))
    below : {s s' : Side Item} → Step paint s s' → Top s s'

  -- any number of steps of both kinds, in any sequence
  pub data Steps : Side Item → Side Item → Type 0 where
    done : {s : Side Item} → Steps s s
    more : {s t u : Side Item} → Top s t → Steps t u → Steps s u
    more_bare : {s t u : Side Item} → BareStep paint s t → Steps t u → Steps s u

  -- no rule applies
  abbrev pub Irreducible : Side Item → Type 0
  Irreducible s = (s' : Side Item) → Top s s' → ⊥

  -- no C1 is left to be made bare
  abbrev pub Bared : Side Item → Type 0
  Bared s = (s' : Side Item) → BareStep paint s s' → ⊥
