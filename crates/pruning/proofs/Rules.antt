-- Each step of any rule at any place keeps the normal form and shortens the stream; one C1 made bare at any place keeps the normal form.
use mathlib.Core.Path.{◌≡◌, refl, ap, sym, ◌∙◌}
use Prim.Native.Nat.{◌<◌}
use native.Mathlib.Omega.{arith}
use Rattle.pruning.specs.Sides.{Kind, paint, clip, Side, end, leaf, group, append, size}
use Rattle.pruning.specs.Items.{Items, passes}
use Rattle.pruning.specs.Normal.{normal, put, group_of, one_leaf, status}
use Rattle.pruning.specs.Rules.{Rule, rule_12_13, rule_14, rule_15, rule_16, rule_17, rule_18, Bares, becomes_bare}
use Rattle.pruning.specs.Rules.{Anywhere, here, in_leaf, in_left_law, in_right_law, in_rest, Step, BareStep, Top, top_14, below, Steps, done, more, more_bare}
use Rattle.pruning.proofs.Sides.{size_append}
use Rattle.pruning.proofs.Normal.{normal_append, normal_one, normal_sealed, status_always, no_right}

module _ (I : Items) where
  open I use {Item, class, bare, bare_passes}

  -- each step keeps the normal form
  cut_normal : (a : Side Item) (f : Item) (c d : Side Item)
      → class paint f ≡ passes
      → normal I paint (append a (leaf f c)) ≡ normal I paint (append a (leaf f d))
  cut_normal end f c d e = rw (e, e)
  cut_normal (leaf x a) f c d e = ap (put I paint (one_leaf I paint (class paint x) x)) (cut_normal a f c d e)
  cut_normal (group l r a) f c d e = ap (put I paint (group_of I paint l r)) (cut_normal a f c d e)

  rule_normal : {k : Kind} {s s' : Side Item} → Rule I k s s' → normal I k s ≡ normal I k s'
  rule_normal {k} (rule_12_13 {t = t} e) = rw e (normal_sealed I k t)
  rule_normal (rule_14 a f c e h) = rw (cut_normal a f c end e)
  rule_normal {k} (rule_15 {t = t}) = normal_sealed I k t
  rule_normal {k} (rule_16 {l = l} {t = t}) = rw (no_right I (status I (normal I clip l)) (normal I clip l)) (normal_sealed I k t)
  rule_normal {k} (rule_17 {r = r} {t = t} a c b e) = rw (normal_one I a c b e, status_always I) (sym (normal_append I k r t))
  rule_normal (rule_18 a c b e h) = rw (normal_one I a c b e, normal_one I end c end e)

  bare_normal : {k : Kind} {s s' : Side Item} → Bares I k s s' → normal I k s ≡ normal I k s'
  bare_normal (becomes_bare {a = a} {t = t} e n) = normal_one I end a t e ∙ sym (normal_one I end bare t bare_passes)

  anywhere_normal : {R : Kind → Side Item → Side Item → Type 0} {k : Kind} {s s' : Side Item}
      → ((j : Kind) (t t' : Side Item) → R j t t' → normal I j t ≡ normal I j t') → Anywhere I R k s s' → normal I k s ≡ normal I k s'
  anywhere_normal {k} {s} {s'} f (here h) = f k s s' h
  anywhere_normal f (in_leaf h) = rw (anywhere_normal f h)
  anywhere_normal f (in_left_law h) = rw (anywhere_normal f h)
  anywhere_normal f (in_right_law h) = rw (anywhere_normal f h)
  anywhere_normal f (in_rest h) = rw (anywhere_normal f h)

  pub bares_normal : {k : Kind} {s s' : Side Item} → BareStep I k s s' → normal I k s ≡ normal I k s'
  bares_normal h = anywhere_normal (λ j t t' b. bare_normal b) h

  pub top_normal : {s s' : Side Item} → Top I s s' → normal I paint s ≡ normal I paint s'
  top_normal (top_14 a f c e h) = cut_normal a f c end e
  top_normal (below h) = anywhere_normal (λ j t t' r. rule_normal r) h

  -- each step removes an entry
  pub rule_size : {k : Kind} {s s' : Side Item} → Rule I k s s' → size s' < size s
  rule_size (rule_12_13 e) = omega arith
  rule_size (rule_14 a f c e h) = omega (arith, size_append a (leaf f c), size_append a (leaf f end))
  rule_size rule_15 = omega arith
  rule_size rule_16 = omega arith
  rule_size (rule_17 {r = r} {t = t} a c b e) = omega (arith, size_append r t)
  rule_size (rule_18 a c b e h) = omega arith

  step_size : {k : Kind} {s s' : Side Item} → Step I k s s' → size s' < size s
  step_size (here h) = rule_size h
  step_size (in_leaf h) = omega (arith, step_size h)
  step_size (in_left_law h) = omega (arith, step_size h)
  step_size (in_right_law h) = omega (arith, step_size h)
  step_size (in_rest h) = omega (arith, step_size h)

  pub top_size : {s s' : Side Item} → Top I s s' → size s' < size s
  top_size (top_14 a f c e h) = omega (arith, size_append a (leaf f c), size_append a (leaf f end))
  top_size (below h) = step_size h

  pub steps_keep : {s u : Side Item} → Steps I s u → normal I paint s ≡ normal I paint u
  steps_keep done = refl
  steps_keep (more h q) = top_normal h ∙ steps_keep q
  steps_keep (more_bare h q) = bares_normal h ∙ steps_keep q
