-- What one step of the pruner does to its output, from the counters alone: it goes back to a place and writes elements there.
use Rattle.std.specs.Prelude.{cond, List, [], ◌∷◌, ℕ, suc, zero, eqb}
use Rattle.pruning.specs.Sides.{Kind, paint, clip, Entry, item, push, activate, pop}
use Rattle.pruning.specs.Items.{Items, Class, fails, passes, other}
use Rattle.pruning.specs.code.Pruner.{left, right, through, dead, Frame, frame, Skip, going, shut, State, st}
use Rattle.pruning.specs.code.Counters.{Count, ct}

-- back to a place, and elements
pub data Effect (Element : Type 0) : Type 0 where
  back : ℕ → List Element → Effect Element

module _ {Element : Type 0} where
  abbrev pub place : Effect Element → ℕ
  place (back p w) = p

  abbrev pub new : Effect Element → List Element
  new (back p w) = w

  abbrev pub out_of : State Element → List Element
  out_of (st out b w fs) = out

module _ (I : Items) (Element : Type 0) (enc : Entry I.Item → List Element) where
  open I use {Item, class, bare}

  abbrev pub item_effect : Kind → Class → Item → ℕ → ℕ → Effect Element
  item_effect k fails a n b = back n []
  item_effect paint passes a n b = back n (enc (item paint a))
  item_effect clip passes a n b = back b (enc (item clip bare))
  item_effect k other a n b = back n (enc (item k a))

  abbrev pub left_effect : ℕ → ℕ → Skip → List Frame → Effect Element
  left_effect n b w [] = back n []
  left_effect n b going (frame left s o ∷ fs) = cond (eqb n b) (back s []) (back n (enc activate))
  left_effect n b (shut m) (frame left s o ∷ fs) = back s []
  left_effect n b w (frame right s o ∷ fs) = back n []
  left_effect n b w (frame through s o ∷ fs) = back n []
  left_effect n b w (frame dead s o ∷ fs) = back n []

  abbrev pub right_effect : ℕ → ℕ → List Frame → Effect Element
  right_effect n b [] = back n []
  right_effect n b (frame left s o ∷ fs) = back n []
  right_effect n b (frame right s o ∷ fs) = cond (eqb n b) (back s []) (back n (enc pop))
  right_effect n b (frame through s o ∷ fs) = back n []
  right_effect n b (frame dead s o ∷ fs) = back n []

  abbrev pub effect : Count → Entry Item → Effect Element
  effect (ct n b going fs) (item k a) = item_effect k (class k a) a n b
  effect (ct n b going fs) push = back n (enc push)
  effect (ct n b going fs) activate = left_effect n b going fs
  effect (ct n b going fs) pop = right_effect n b fs
  effect (ct n b (shut m) fs) (item k a) = back n []
  effect (ct n b (shut m) fs) push = back n []
  effect (ct n b (shut zero) fs) activate = left_effect n b (shut zero) fs
  effect (ct n b (shut zero) fs) pop = right_effect n b fs
  effect (ct n b (shut (suc m)) fs) activate = back n []
  effect (ct n b (shut (suc m)) fs) pop = back n []
