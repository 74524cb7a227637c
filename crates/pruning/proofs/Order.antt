-- The literal order ends in the normal form, and so does any other order, wherever in it a C1 becomes bare.
use mathlib.Core.Path.{◌≡◌, refl, ap, sym, ◌∙◌}
use mathlib.Core.Bool.{Bool, true, false, ◌||◌, ◌&&◌, false≢true, true≢false}
use mathlib.Core.Option.{Option, none, some}
use Prim.Native.Nat.{ℕ, suc, zero, ◌+◌, ◌<◌, ◌≤◌}
use native.Mathlib.Omega.{arith}
use lib.Dec.{ltb}
use borrow.Author.Tests.{ltb-true, ltb-false}
use Rattle.laws.proofs.Booleans.{and_left, and_right}
use Rattle.pruning.specs.Sides.{is_end, Kind, paint, clip, Side, end, leaf, group, append, size}
use Rattle.pruning.specs.Items.{Items, Class, fails, passes, other, is_passes}
use Rattle.pruning.specs.Normal.{mixed, normal, put, one_group, one_leaf, status, seal, has_one}
use Rattle.pruning.specs.Rules.{
  rule_12_13,
  rule_14,
  rule_15,
  rule_16,
  rule_17,
  rule_18,
  here,
  in_leaf,
  in_left_law,
  in_right_law,
  in_rest,
  Step,
  Top,
  top_14,
  below,
  Steps,
  Irreducible,
}
use Rattle.pruning.specs.Order.{
  first,
  within,
  when,
  cut_leaf_at,
  cut_first,
  rule14,
  rule15,
  rule16,
  rule17,
  first_one,
  rule18,
  rules,
  walk_leaf,
  walk,
  walk_top,
  again,
  steps,
  mark_by,
  bare_side,
  pruned,
}
use Rattle.pruning.proofs.Normal.{seal_none, normal_one}
use Rattle.pruning.proofs.Rules.{top_normal, top_size, steps_keep}

-- a property of what is there, if it is there
abbrev pub All : {A : Type 0} → (A → Type 0) → Option A → Type 0
All P none = Unit {0}
All P (some a) = P a

all_first : {A : Type 0} (P : A → Type 0) (o p : Option A) → All P o → All P p → All P (first o p)
all_first P none p h k = k
all_first P (some a) p h k = h

all_within : {A B : Type 0} (P : A → Type 0) (Q : B → Type 0) (f : A → B) → ((a : A) → P a → Q (f a)) → (o : Option A) → All P o → All Q (within f o)
all_within P Q f g none h = tt
all_within P Q f g (some a) h = g a h

first_none : {A : Type 0} (o p : Option A) → first o p ≡ none → (o ≡ none) × (p ≡ none)
first_none none p e = (refl, e)
first_none (some a) p e = (cc, cc)

within_none : {A B : Type 0} (f : A → B) (o : Option A) → within f o ≡ none → o ≡ none
within_none f none e = refl
within_none f (some a) e = cc

module _ (I : Items) where
  open I use {Item, class, bare, bare_passes}

  -- what the walk I finds is a step
  pub record Split (k : Kind) (s : Side Item) : Type 0 where
    pub ahead : Side Item
    pub one : Item
    pub behind : Side Item
    pub is_one : class k one ≡ passes
    pub whole : s ≡ append ahead (leaf one behind)
    pub alone : first_one I k s ≡ leaf one end

  split_leaf : (k : Kind) (c : Class) (a : Item) (t : Side Item)
      → class k a ≡ c
      → (has_one I k t ≡ true → Split k t)
      → (is_passes c || has_one I k t) ≡ true
      → Split k (leaf a t)
  split_leaf k fails a t e f h =
      let q = f h in
      record {
        ahead = leaf a q.ahead;
        one = q.one;
        behind = q.behind;
        is_one = q.is_one;
        whole = ap (leaf a) q.whole;
        alone = rw e q.alone;
      }
  split_leaf k passes a t e f h = record { ahead = end; one = a; behind = t; is_one = e; whole = refl; alone = rw e }
  split_leaf k other a t e f h =
      let q = f h in
      record {
        ahead = leaf a q.ahead;
        one = q.one;
        behind = q.behind;
        is_one = q.is_one;
        whole = ap (leaf a) q.whole;
        alone = rw e q.alone;
      }

  pub split : (k : Kind) (s : Side Item) → has_one I k s ≡ true → Split k s
  split k end e = absurd (false≢true e)
  split k (leaf a t) e = split_leaf k (class k a) a t refl (split k t) e
  split k (group l r t) e =
      let q = split k t e in
      record {
        ahead = group l r q.ahead;
        one = q.one;
        behind = q.behind;
        is_one = q.is_one;
        whole = ap (group l r) q.whole;
        alone = q.alone;
      }

  -- s' is s with what follows an F1 removed
  pub record Cuts (s s' : Side Item) : Type 0 where
    pub ahead : Side Item
    pub one : Item
    pub behind : Side Item
    pub is_one : class paint one ≡ passes
    pub some_behind : 0 < size behind
    pub whole : s ≡ append ahead (leaf one behind)
    pub left : s' ≡ append ahead (leaf one end)

  cuts_leaf : (a : Item) {t t' : Side Item} → Cuts t t' → Cuts (leaf a t) (leaf a t')
  cuts_leaf a q =
      record {
        ahead = leaf a q.ahead;
        one = q.one;
        behind = q.behind;
        is_one = q.is_one;
        some_behind = q.some_behind;
        whole = ap (leaf a) q.whole;
        left = ap (leaf a) q.left;
      }

  cuts_group : (l r : Side Item) {t t' : Side Item} → Cuts t t' → Cuts (group l r t) (group l r t')
  cuts_group l r q =
      record {
        ahead = group l r q.ahead;
        one = q.one;
        behind = q.behind;
        is_one = q.is_one;
        some_behind = q.some_behind;
        whole = ap (group l r) q.whole;
        left = ap (group l r) q.left;
      }

  cut_here : (a : Item) (t : Side Item) (b : Bool) → ltb 0 (size t) ≡ b → class paint a ≡ passes → All (Cuts (leaf a t)) (when b (leaf a end))
  cut_here a t true h e = record { ahead = end; one = a; behind = t; is_one = e; some_behind = ltb-true 0 (size t) h; whole = refl; left = refl }
  cut_here a t false h e = tt

  cut_leaf_sound : (c : Class) (a : Item) (t : Side Item)
      → class paint a ≡ c
      → All (Cuts t) (cut_first I t)
      → All (Cuts (leaf a t)) (cut_leaf_at I c a t (cut_first I t))
  cut_leaf_sound fails a t e h = all_within (Cuts t) (Cuts (leaf a t)) (leaf a) (λ t' q. cuts_leaf a q) (cut_first I t) h
  cut_leaf_sound passes a t e h = cut_here a t (ltb 0 (size t)) refl e
  cut_leaf_sound other a t e h = all_within (Cuts t) (Cuts (leaf a t)) (leaf a) (λ t' q. cuts_leaf a q) (cut_first I t) h

  cut_sound : (s : Side Item) → All (Cuts s) (cut_first I s)
  cut_sound end = tt
  cut_sound (leaf a t) = cut_leaf_sound (class paint a) a t refl (cut_sound t)
  cut_sound (group l r t) = all_within (Cuts t) (Cuts (group l r t)) (group l r) (λ t' q. cuts_group l r q) (cut_first I t) (cut_sound t)

  all_when : {A : Type 0} (P : A → Type 0) (b : Bool) (a : A) → (b ≡ true → P a) → All P (when b a)
  all_when P true a f = f refl
  all_when P false a f = tt

  rule14_sound : (k : Kind) (l r t : Side Item) → All (Step I k (group l r t)) (rule14 I k l r t)
  rule14_sound paint l r t =
      all_within (Cuts r) (Step I paint (group l r t)) (λ r'. group l r' t)
      (λ r' q. rw (q.whole, q.left) (here (rule_14 q.ahead q.one q.behind q.is_one q.some_behind))) (cut_first I r)
      (cut_sound r)
  rule14_sound clip l r t = tt

  rule15_sound : (k : Kind) (l r t : Side Item) → All (Step I k (group l r t)) (rule15 I l r t)
  rule15_sound k end r t = here rule_15
  rule15_sound k (leaf a l) r t = tt
  rule15_sound k (group l₁ r₁ l) r t = tt

  rule16_sound : (k : Kind) (l r t : Side Item) → All (Step I k (group l r t)) (rule16 I l r t)
  rule16_sound k l end t = here rule_16
  rule16_sound k l (leaf a r) t = tt
  rule16_sound k l (group l₁ r₁ r) t = tt

  rule17_sound : (k : Kind) (l r t : Side Item) → All (Step I k (group l r t)) (rule17 I l r t)
  rule17_sound k l r t =
      all_when (Step I k (group l r t)) (has_one I clip l) (append r t)
      (λ e. let q = split clip l e in rw q.whole (here (rule_17 q.ahead q.one q.behind q.is_one)))

  step_18 : (l r t : Side Item) → Split clip r → 1 < size r → Step I clip (group l r t) (group l (first_one I clip r) t)
  step_18 l r t q h = rw (q.alone, q.whole) (here (rule_18 q.ahead q.one q.behind q.is_one (rw q.whole at h)))

  rule18_sound : (k : Kind) (l r t : Side Item) → All (Step I k (group l r t)) (rule18 I k l r t)
  rule18_sound paint l r t = tt
  rule18_sound clip l r t = all_when (Step I clip (group l r t)) (has_one I clip r && ltb 1 (size r)) (group l (first_one I clip r) t)
      (λ e. step_18 l r t (split clip r (and_left (has_one I clip r) (ltb 1 (size r)) e))
      (ltb-true 1 (size r) (and_right (has_one I clip r) (ltb 1 (size r)) e)))

  walk_leaf_sound : (k : Kind) (c : Class) (a : Item) (t : Side Item)
      → class k a ≡ c
      → All (Step I k t) (walk I k t)
      → All (Step I k (leaf a t)) (walk_leaf I c a t (walk I k t))
  walk_leaf_sound k fails a t e h = here (rule_12_13 e)
  walk_leaf_sound k passes a t e h = all_within (Step I k t) (Step I k (leaf a t)) (leaf a) (λ t' q. in_leaf q) (walk I k t) h
  walk_leaf_sound k other a t e h = all_within (Step I k t) (Step I k (leaf a t)) (leaf a) (λ t' q. in_leaf q) (walk I k t) h

  rules_sound : (k : Kind) (l r t : Side Item) → All (Step I k (group l r t)) (rules I k l r t)
  rules_sound k l r t =
      let P : Side Item → Type 0 = Step I k (group l r t) in
      all_first P (rule14 I k l r t) (first (rule15 I l r t) (first (rule16 I l r t) (first (rule17 I l r t) (rule18 I k l r t)))) (rule14_sound k l r t)
      (all_first P (rule15 I l r t) (first (rule16 I l r t) (first (rule17 I l r t) (rule18 I k l r t))) (rule15_sound k l r t)
      (all_first P (rule16 I l r t) (first (rule17 I l r t) (rule18 I k l r t)) (rule16_sound k l r t)
      (all_first P (rule17 I l r t) (rule18 I k l r t) (rule17_sound k l r t) (rule18_sound k l r t))))

  pub walk_sound : (k : Kind) (s : Side Item) → All (Step I k s) (walk I k s)
  walk_sound k end = tt
  walk_sound k (leaf a t) = walk_leaf_sound k (class k a) a t refl (walk_sound k t)
  walk_sound k (group l r t) =
      let P : Side Item → Type 0 = Step I k (group l r t) in
      let in_left : Option (Side Item) = within (λ l'. group l' r t) (walk I clip l) in
      let in_right : Option (Side Item) = within (λ r'. group l r' t) (walk I k r) in
      let in_rest_law : Option (Side Item) = within (group l r) (walk I k t) in
      all_first P (rules I k l r t) (first in_left (first in_right in_rest_law)) (rules_sound k l r t)
      (all_first P in_left (first in_right in_rest_law)
      (all_within (Step I clip l) P (λ l'. group l' r t) (λ x q. in_left_law q) (walk I clip l) (walk_sound clip l))
      (all_first P in_right in_rest_law
      (all_within (Step I k r) P (λ r'. group l r' t) (λ x q. in_right_law q) (walk I k r) (walk_sound k r))
      (all_within (Step I k t) P (group l r) (λ x q. in_rest q) (walk I k t) (walk_sound k t))))

  top_of_cut : {s s' : Side Item} → Cuts s s' → Top I s s'
  top_of_cut q = rw (q.whole, q.left) (top_14 q.ahead q.one q.behind q.is_one q.some_behind)

  all_map : {A : Type 0} (P Q : A → Type 0) → ((a : A) → P a → Q a) → (o : Option A) → All P o → All Q o
  all_map P Q g none h = tt
  all_map P Q g (some a) h = g a h

  -- where the walk I finds nothing, the side is its own normal form, but for the bare items
  abbrev Neat : Kind → Side Item → Type 0
  Neat paint s = cut_first I s ≡ none
  Neat clip s = has_one I clip s ≡ false

  passes_marked : (k : Kind) (c : Class) (a : Item) → class k a ≡ c → is_passes (class k (mark_by I k c a)) ≡ is_passes c
  passes_marked k fails a e = ap is_passes e
  passes_marked paint passes a e = ap is_passes e
  passes_marked clip passes a e = simp (e, bare_passes)
  passes_marked k other a e = ap is_passes e

  has_one_bare : (k : Kind) (s : Side Item) → has_one I k (bare_side I k s) ≡ has_one I k s
  has_one_bare k end = refl
  has_one_bare k (leaf a t) = rw (passes_marked k (class k a) a refl, has_one_bare k t)
  has_one_bare k (group l r t) = has_one_bare k t

  seal_bare : (k : Kind) (s : Side Item) → Neat k s → seal I k (bare_side I k s) ≡ bare_side I k s
  seal_bare paint s n = refl
  seal_bare clip s n = seal_none I (bare_side I clip s) (has_one_bare clip s ∙ n)

  when_none : {A : Type 0} (b : Bool) (a : A) → when b a ≡ none → b ≡ false
  when_none true a e = cc
  when_none false a e = refl

  short : (t : Side Item) → ltb 0 (size t) ≡ false → t ≡ end
  short end h = refl
  short (leaf a t) h = absurd (omega (arith, ltb-false 0 (1 + size t) h))
  short (group l r t) h = absurd (omega (arith, ltb-false 0 (3 + (size l + (size r + size t))) h))

  -- the rest of a neat side is neat
  neat_leaf_rest : (k : Kind) (a : Item) (t : Side Item) → class k a ≡ other → Neat k (leaf a t) → Neat k t
  neat_leaf_rest paint a t e n = within_none (leaf a) (cut_first I t) (rw e at n)
  neat_leaf_rest clip a t e n = rw e at n

  neat_group_rest : (k : Kind) (l r t : Side Item) → Neat k (group l r t) → Neat k t
  neat_group_rest paint l r t n = within_none (group l r) (cut_first I t) n
  neat_group_rest clip l r t n = n

  neat_leaf : (k : Kind) (c : Class) (a : Item) (t : Side Item) → class k a ≡ c → Neat k (leaf a t)
      → walk_leaf I c a t (walk I k t) ≡ none → (walk I k t ≡ none → Neat k t → normal I k t ≡ bare_side I k t)
      → put I k (one_leaf I k c a) (normal I k t) ≡ leaf (mark_by I k c a) (bare_side I k t)
  neat_leaf k fails a t e n w ih = cc
  neat_leaf paint passes a t e n w ih = rw (e, short t (when_none (ltb 0 (size t)) (leaf a end) (rw e at n)))
  neat_leaf clip passes a t e n w ih = absurd (true≢false (rw e at n))
  neat_leaf k other a t e n w ih = rw (ih (within_none (leaf a) (walk I k t) w) (neat_leaf_rest k a t e n), e) (rw e at (seal_bare k (leaf a t) n))

  -- a side of one item that always passes
  lone_leaf : (c : Class) (a : Item) → class clip a ≡ c → (is_passes c || false) ≡ true → normal I clip (leaf a end) ≡ leaf (mark_by I clip c a) end
  lone_leaf fails a e h = absurd (false≢true h)
  lone_leaf passes a e h = normal_one I end a end e
  lone_leaf other a e h = absurd (false≢true h)

  lone_side : (r : Side Item) → has_one I clip r ≡ true → size r ≤ 1 → normal I clip r ≡ bare_side I clip r
  lone_side end h z = refl
  lone_side (leaf a end) h z = lone_leaf (class clip a) a refl h
  lone_side (leaf a (leaf b t)) h z = absurd (omega arith)
  lone_side (leaf a (group l r t)) h z = absurd (omega arith)
  lone_side (group l r t) h z = absurd (omega arith)

  neat_right : (k : Kind) (l r t : Side Item)
      → rule14 I k l r t ≡ none
      → rule18 I k l r t ≡ none
      → (Neat k r → normal I k r ≡ bare_side I k r)
      → normal I k r ≡ bare_side I k r
  neat_right paint l r t e₁₄ e₁₈ ih = ih (within_none (λ r'. group l r' t) (cut_first I r) e₁₄)
  neat_right clip l r t e₁₄ e₁₈ ih = go (has_one I clip r) refl (when_none (has_one I clip r && ltb 1 (size r)) (group l (first_one I clip r) t) e₁₈)
    where
      go : (b : Bool) → has_one I clip r ≡ b → (b && ltb 1 (size r)) ≡ false → normal I clip r ≡ bare_side I clip r
      go true h z = lone_side r h (ltb-false 1 (size r) z)
      go false h z = ih h

  mixed_left : (l : Side Item) → is_end l ≡ false → has_one I clip l ≡ false → status I (bare_side I clip l) ≡ mixed
  mixed_left end h n = absurd (true≢false h)
  mixed_left (leaf a l) h n = rw (has_one_bare clip (leaf a l) ∙ n)
  mixed_left (group l₁ r₁ l) h n = rw (has_one_bare clip (group l₁ r₁ l) ∙ n)

  keeps_group : (k : Kind) (l r : Side Item) → is_end r ≡ false → one_group I mixed l (bare_side I k r) ≡ group l (bare_side I k r) end
  keeps_group k l end h = absurd (true≢false h)
  keeps_group k l (leaf a r) h = refl
  keeps_group k l (group l₁ r₁ r) h = refl

  neat_group : (k : Kind) (l r t : Side Item) → is_end l ≡ false → is_end r ≡ false → has_one I clip l ≡ false → Neat k (group l r t)
      → normal I clip l ≡ bare_side I clip l → normal I k r ≡ bare_side I k r → normal I k t ≡ bare_side I k t
      → normal I k (group l r t) ≡ bare_side I k (group l r t)
  neat_group k l r t el er o n nl nr nt = rw (nl, nr, nt, mixed_left l el o, keeps_group k (bare_side I clip l) r er) (seal_bare k (group l r t) n)

  pub neat_normal : (k : Kind) (s : Side Item) → walk I k s ≡ none → Neat k s → normal I k s ≡ bare_side I k s
  neat_normal k end w n = refl
  neat_normal k (leaf a t) w n = neat_leaf k (class k a) a t refl n w (neat_normal k t)
  neat_normal k (group l r t) w n =
      let in_left : Option (Side Item) = within (λ l'. group l' r t) (walk I clip l) in
      let in_right : Option (Side Item) = within (λ r'. group l r' t) (walk I k r) in
      let in_rest_law : Option (Side Item) = within (group l r) (walk I k t) in
      let a = first_none (rules I k l r t) (first in_left (first in_right in_rest_law)) w in
      let b = first_none in_left (first in_right in_rest_law) a.1 in
      let c = first_none in_right in_rest_law b.1 in
      let d = first_none (rule14 I k l r t) (first (rule15 I l r t) (first (rule16 I l r t) (first (rule17 I l r t) (rule18 I k l r t)))) a.0 in
      let e = first_none (rule15 I l r t) (first (rule16 I l r t) (first (rule17 I l r t) (rule18 I k l r t))) d.1 in
      let f = first_none (rule16 I l r t) (first (rule17 I l r t) (rule18 I k l r t)) e.1 in
      let g = first_none (rule17 I l r t) (rule18 I k l r t) f.1 in
      let one : has_one I clip l ≡ false = when_none (has_one I clip l) (append r t) g.0 in
      neat_group k l r t (when_none (is_end l) t e.0) (when_none (is_end r) t f.0) one n
      (neat_normal clip l (within_none (λ l'. group l' r t) (walk I clip l) b.0) one)
      (neat_right k l r t d.0 g.1 (neat_normal k r (within_none (λ r'. group l r' t) (walk I k r) c.0)))
      (neat_normal k t (within_none (group l r) (walk I k t) c.1) (neat_group_rest k l r t n))

  -- where no step is found the side is pruned I
  pub stuck_normal : (s : Side Item) → walk_top I s ≡ none → normal I paint s ≡ bare_side I paint s
  stuck_normal s e = let d = first_none (cut_first I s) (walk I paint s) e in neat_normal paint s d.1 d.0

  pub walk_top_sound : (s : Side Item) → All (Top I s) (walk_top I s)
  walk_top_sound s =
      all_first (Top I s) (cut_first I s) (walk I paint s)
      (all_map (Cuts s) (Top I s) (λ x q. top_of_cut q) (cut_first I s) (cut_sound s))
      (all_map (Step I paint s) (Top I s) (λ x q. below q) (walk I paint s) (walk_sound paint s))

  none_left : (s : Side Item) → size s ≤ 0 → bare_side I paint s ≡ normal I paint s
  none_left end h = refl
  none_left (leaf a t) h = absurd (omega arith)
  none_left (group l r t) h = absurd (omega arith)

  -- the literal strategy gives the normal form
  steps_next : (n : ℕ) (s : Side Item) → size s ≤ suc n → ((s' : Side Item) → size s' ≤ n → bare_side I paint (steps I n s') ≡ normal I paint s')
      → (o : Option (Side Item)) → walk_top I s ≡ o → All (Top I s) o → bare_side I paint (again I (steps I n) s o) ≡ normal I paint s
  steps_next n s h ih none e a = sym (stuck_normal s e)
  steps_next n s h ih (some s') e a = ih s' (omega (arith, top_size I a)) ∙ sym (top_normal I a)

  pub steps_normal : (n : ℕ) (s : Side Item) → size s ≤ n → bare_side I paint (steps I n s) ≡ normal I paint s
  steps_normal zero s h = none_left s h
  steps_normal (suc n) s h = steps_next n s h (steps_normal n) (walk_top I s) refl (walk_top_sound s)

  pub pruned_normal : (s : Side Item) → pruned I s ≡ normal I paint s
  pruned_normal s = steps_normal (size s) s (omega arith)

  irreducible_none : (s : Side Item) (o : Option (Side Item)) → All (Top I s) o → Irreducible I s → o ≡ none
  irreducible_none s none a f = refl
  irreducible_none s (some s') a f = absurd (f s' a)

  pub any_order : {s u : Side Item} → Steps I s u → Irreducible I u → bare_side I paint u ≡ pruned I s
  any_order {s} {u} q f = sym (stuck_normal u (irreducible_none u (walk_top I u) (walk_top_sound u) f)) ∙ (sym (steps_keep I q) ∙ sym (pruned_normal s))
