-- Worked streams, computed from the definitions: the literal order gives what stands on the right.
use mathlib.Core.Path.{◌≡◌, refl}
use mathlib.Core.Bool.{true}
use mathlib.Core.List.{[]}
use Prim.Native.Nat.{ℕ, suc, zero}
use lib.Dec.{eqb}
use Rattle.pruning.specs.Sides.{paint, Side, end, leaf, group, flat}
use Rattle.pruning.specs.Meaning.{shown}
use Rattle.pruning.specs.Items.{Items, Class, fails, passes, other}
use Rattle.pruning.specs.Order.{pruned}
use Rattle.pruning.specs.Machine.{scan, processing}

-- items by number: 0 is F0 or C0, 1 is F1 or C1 and bare, the others are neither
abbrev class_of : ℕ → Class
class_of zero = fails
class_of (suc zero) = passes
class_of (suc (suc n)) = other

abbrev numbers : Items
numbers = record { Item = ℕ; class = λ k n. class_of n; bare = 1; bare_passes = refl }

-- an empty stream
none : pruned numbers end ≡ end
none = refl

-- 12: F0 goes
fails_goes : pruned numbers (leaf 5 (leaf 0 (leaf 6 end))) ≡ leaf 5 (leaf 6 end)
fails_goes = refl

-- 14 at the top level: nothing follows F1
top_cut : pruned numbers (leaf 5 (leaf 1 (leaf 6 end))) ≡ leaf 5 (leaf 1 end)
top_cut = refl

-- 14 on a right side: ( 5 | 6 1 7 ) 8
right_cut : pruned numbers (group (leaf 5 end) (leaf 6 (leaf 1 (leaf 7 end))) (leaf 8 end)) ≡ group (leaf 5 end) (leaf 6 (leaf 1 end)) (leaf 8 end)
right_cut = refl

-- 13, then 15: ( 0 | 6 ) 7
left_empty : pruned numbers (group (leaf 0 end) (leaf 6 end) (leaf 7 end)) ≡ leaf 7 end
left_empty = refl

-- 12, then 16: ( 5 | 0 ) 7
right_empty : pruned numbers (group (leaf 5 end) (leaf 0 end) (leaf 7 end)) ≡ leaf 7 end
right_empty = refl

-- 17: ( 5 1 | 6 ) 7
left_always : pruned numbers (group (leaf 5 (leaf 1 end)) (leaf 6 end) (leaf 7 end)) ≡ leaf 6 (leaf 7 end)
left_always = refl

-- 17 whose right side ends in F1 closes the side around it: ( 1 | 6 1 ) 7
left_always_cuts : pruned numbers (group (leaf 1 end) (leaf 6 (leaf 1 end)) (leaf 7 end)) ≡ leaf 6 (leaf 1 end)
left_always_cuts = refl

-- (A | passes) is kept on a clip side, and 18 leaves C1 alone on its right: ( ( 5 | 6 1 ) | 7 )
right_passes : pruned numbers (group (group (leaf 5 end) (leaf 6 (leaf 1 end)) end) (leaf 7 end) end)
    ≡ group (group (leaf 5 end) (leaf 1 end) end) (leaf 7 end) end
right_passes = refl

-- 17 inside 18: ( ( 5 | 6 ( 1 | 7 1 ) ) | 8 )
seventeen_in_eighteen : pruned numbers
    (group (group (leaf 5 end) (leaf 6 (group (leaf 1 end) (leaf 7 (leaf 1 end)) end)) end) (leaf 8 end) end)
    ≡ group (group (leaf 5 end) (leaf 1 end) end) (leaf 8 end) end
seventeen_in_eighteen = refl

-- nested clip groups that always pass, all the way up: ( ( ( 1 | 1 ) | 1 ) | 8 ) 9
nested : pruned numbers (group (group (group (leaf 1 end) (leaf 1 end) end) (leaf 1 end) end) (leaf 8 end) (leaf 9 end)) ≡ leaf 8 (leaf 9 end)
nested = refl

-- ( 5 ( 6 | 7 1 8 ) 0 | 2 ( 1 | 3 1 4 ) 9 ) 5
abbrev sample : Side ℕ
sample =
    group (leaf 5 (group (leaf 6 end) (leaf 7 (leaf 1 (leaf 8 end))) (leaf 0 end)))
    (leaf 2 (group (leaf 1 end) (leaf 3 (leaf 1 (leaf 4 end))) (leaf 9 end))) (leaf 5 end)

together : pruned numbers sample ≡ group (leaf 5 (group (leaf 6 end) (leaf 1 end) end)) (leaf 2 (leaf 3 (leaf 1 end))) (leaf 5 end)
together = refl

-- the machine over the sample's stream, where every item passes and 1 is opaque, and where only 6 does
machine_all : scan (λ n. true) (λ n. eqb n 1) (flat paint sample) processing 0 ≡ shown (λ n. true) (λ n. eqb n 1) sample
machine_all = refl

machine_six : scan (λ n. eqb n 6) (λ n. eqb n 1) (flat paint sample) processing 0 ≡ []
machine_six = refl
