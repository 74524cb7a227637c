-- A making from its begin to its end: what a stream that passes the check gives is the stream that document 01 defines.
use mathlib.Core.Path.{◌≡◌, refl, ap, ◌∙◌}
use mathlib.Core.Bool as Bool
use mathlib.Core.Bool.{true}
use mathlib.Core.List.{List, []}
use Prim.Native.Nat.{ℕ}
use native.Mathlib.Omega.{arith}
use Rattle.pruning.specs.code.Pruner.{going}
use Rattle.pruning.specs.code.Counters.{ct, length_of}
use Rattle.pruning.specs.code.Effects.{out_of}
use Rattle.pruning.specs.code.Weights.{total, weighed}
use Rattle.cells.specs.Cells.{Cell}
use Rattle.cells.specs.Drawings.{Drawing}
use Rattle.cells.specs.Elements.{stream_of, role_in}
use Rattle.cells.specs.code.Making.{Making, settle, on_elements, begun, element_size}
use Rattle.cells.proofs.Making.{elements_made_law}
use Rattle.stream.specs.declared.Words.{Words}
use Rattle.stream.specs.Grammar as Stream
use Rattle.stream.specs.Grammar.{Env, accepts}
use Rattle.pruner.specs.declared.Pruner.{Pruner}
use Rattle.pruner.specs.code.Numbers.{counted}
use Rattle.evaluate.specs.Reading.{elements_in}
use Rattle.std.specs.Prelude.{Option}
use Rattle.making.specs.declared.Waiting.{Waiting}
use Rattle.making.specs.Made.{elements_made}
use Rattle.making.specs.code.Numbers.{resting, settled_n}
use Rattle.making.proofs.Follows.{begun_follows, settle_counts}
use Rattle.making.proofs.Grammar.{entries_flat}
use Rattle.making.proofs.Standing.{Reads, Standing}
use Rattle.making.proofs.Turn.{weight_is}

-- the elements of all entries
abbrev pub all_of : Drawing → Cell → List Words → Making
all_of D c ws = on_elements D c (elements_in ws) (begun D c)

module _ (v : Env) (D : Drawing) (c : Cell) (R : Reads v D) (ws : List Words) (h : accepts v ws ≡ true) where
  pub standing_start : (p : Pruner) (a : Option Waiting)
      → counted p ≡ ct 0 0 going []
      → a ≡ resting
      → (x : Standing v D c 0 p a ws (all_of D c ws)) × (x.elements ≡ begun D c)
  unfolding accepts
  standing_start p a e f = (
    record {
      elements = begun D c;
      place = Stream.place [] Bool.false 0 0;
      follows = rw f (begun_follows v.areas D c R.agrees p e);
      tracks = tt;
      few = omega arith;
      rest = h;
      ahead = refl;
    },
    refl,
  )

  pub standing_begin : (p : Pruner) (a : Option Waiting) → counted p ≡ ct 0 0 going [] → a ≡ resting → Standing v D c 0 p a ws (all_of D c ws)
  standing_begin p a e f = (standing_start p a e f).0

  pub elements_all : out_of (settle D c (all_of D c ws)) ≡ elements_made D c ws
  unfolding elements_made
  elements_all =
      elements_made_law D c (elements_in ws) (stream_of (role_in D) (elements_in ws))
      (entries_flat v (role_in D) (λ n l. (R.agrees n (omega (arith, R.fields))).role) ws h)

  -- no entry is left
  module _ (k : ℕ) (p : Pruner) (a : Option Waiting) (s : Standing v D c k p a [] (all_of D c ws)) where
    pub standing_end : settled_n v.areas (counted p) a ≡ weighed element_size (settle D c (all_of D c ws))
    unfolding elements_in
    standing_end = settle_counts v.areas D c R.agrees k p a s.elements s.follows ∙ ap (λ m. weighed element_size (settle D c m)) s.ahead

    pub weight_end : length_of (settled_n v.areas (counted p) a) ≡ total element_size (elements_made D c ws)
    weight_end = ap length_of standing_end ∙ (weight_is (settle D c (all_of D c ws)) ∙ ap (total element_size) elements_all)
