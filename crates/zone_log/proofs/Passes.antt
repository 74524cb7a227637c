-- The passes over a run: what is met at an index, what is counted of the log, and what is written.
use Rattle.std.proofs.Common.{Option, Some, None, Result, Ok, Err, IfSome}
use Rattle.refusals.specs.declared.Refusal.{Refusal}
use Rattle.refusals.specs.declared.Refusal.TheVariants as Refusals
use mathlib.Core.Path.{◌≡◌, refl, sym, ap, ◌∙◌}
use mathlib.Core.Bool.{Bool, true, false, cond}
use mathlib.Core.List.{List, [], ◌∷◌}
use Prim.Native.Nat.{ℕ, suc, ◌+◌, ◌-◌, ◌≤◌, ◌<◌}
use native.Mathlib.Omega.{arith}
use lib.Dec.{ltb}
use lib.ListN.{length, get_or, length-set}
use lib.ListN as ListN
use lib.Seq.{sets}
use borrow.Author.Tests.{ltb-true, eq-eqb, ne_eqb}
use Rattle.laws.proofs.Booleans.{clash}
use Rattle.tables.specs.Tables.{Tree}
use Rattle.position.specs.declared.Shown.{Shown}
use Rattle.position.specs.Spots.{known, material_in, set_read}
use Rattle.position.specs.code.Numbers.{shown_there}
use Rattle.position.proofs.Known.{known_set, unknown_set}
use Rattle.zone_log.specs.declared.Met.{Met}
use Rattle.zone_log.specs.Logs.{is_logged, log_from, each_word, material_at, known_from, zone_log}
use Rattle.zone_log.specs.code.Numbers.{Accepted, met_n, met_by, met_there, LastMet, logged_n, counted_n, count_of, count_in}
use Rattle.zone_log.proofs.Runs.{less_one, less_none}

-- ---- what is met at a position
module _ (t : Tree) (x y : ℕ) where
  pub record MetThere (m : Met) : Type 0 where
    pub is_known : known t x y ≡ true
    pub is_material : m.material ≡ material_in t x y
    pub is_last : LastMet t (Some m)

  pub met_told : (m : Met) → Ok m ≡ met_there t x y → MetThere m
  met_told m e = go (shown_there t x y) refl e
    where
      go : (r : Result Shown Refusal) → shown_there t x y ≡ r → Ok m ≡ met_by (material_in t x y) r → MetThere m
      go (Ok s) q e =
          let z : m ≡ met_n s (material_in t x y) = cc in
          let k = known_set t x y s (set_read t s.leaf x y) (sym q) refl in
          rw z (record { is_known = k.is_known; is_material = refl; is_last = k.is_last })
      go (Err f) q e = absurd (let z : ◌≡◌ {A = ℕ} 0 1 = cc in omega arith)

  pub met_broken : (f : Refusal) → Err f ≡ met_there t x y → (known t x y ≡ false) × (f ≡ Refusals.Broken)
  met_broken f e = go (shown_there t x y) refl e
    where
      go : (r : Result Shown Refusal) → shown_there t x y ≡ r → Err f ≡ met_by (material_in t x y) r → (known t x y ≡ false) × (f ≡ Refusals.Broken)
      go (Ok s) q e = absurd (let z : ◌≡◌ {A = ℕ} 0 1 = cc in omega arith)
      go (Err g) q e = let z : f ≡ g = cc in unknown_set t x y f (ap (λ (h : Refusal). Err h) z ∙ sym q)

-- ---- what is counted
abbrev more : Option ℕ → List ℕ → Option ℕ
more (Some n) l = cond (each_word l) (Some (n + length l)) None
more None l = None

count_more : (count : Option ℕ) (i : ℕ) (l : List ℕ) → more (counted_n count i) l ≡ more count (i ∷ l)
unfolding each_word
count_more None i l = refl
count_more (Some n) i l = go (ltb i 4294967296)
  where
    go : (b : Bool) → more (cond b (Some (n + 1)) None) l ≡ cond (cond b (each_word l) false) (Some (n + length (i ∷ l))) None
    go true = let z : n + 1 + length l ≡ n + suc (length l) = omega arith in rw z
    go false = refl

few_more : (count : Option ℕ) (i : ℕ) → IfSome count (λ n. n ≤ i) → IfSome (counted_n count i) (λ n. n ≤ i + 1)
few_more None i h = tt
few_more (Some n) i h = go (ltb i 4294967296)
  where
    go : (b : Bool) → IfSome (cond b (Some (n + 1)) None) (λ n. n ≤ i + 1)
    go true = omega arith
    go false = tt

few_same : (count : Option ℕ) (i : ℕ) → IfSome count (λ n. n ≤ i) → IfSome count (λ n. n ≤ i + 1)
few_same None i h = tt
few_same (Some n) i h = omega arith

more_none : (count : Option ℕ) → more count [] ≡ count
unfolding each_word
more_none None = refl
more_none (Some n) = let z : n + 0 ≡ n = omega arith in rw z

word_first : (i : ℕ) (l : List ℕ) → each_word (i ∷ l) ≡ true → (i < 4294967296) × (each_word l ≡ true)
unfolding each_word
word_first i l h = go (ltb i 4294967296) refl h
  where
    go : (b : Bool) → ltb i 4294967296 ≡ b → cond b (each_word l) false ≡ true → (i < 4294967296) × (each_word l ≡ true)
    go true e q = (ltb-true i 4294967296 e, q)
    go false e q = clash q

module _ (t : Tree) (px py : List ℕ) where
  abbrev at : ℕ → ℕ
  at = material_at t px py

  -- ---- the log of the indices from i on
  abbrev pub left : ℕ → List ℕ
  left i = log_from at i (length px - i)

  left_turn : (i : ℕ) → i < length px → left i ≡ cond (is_logged at i) (i ∷ left (i + 1)) (left (i + 1))
  unfolding log_from
  left_turn i h = rw (less_one (length px) i h)

  left_none : (i : ℕ) → length px ≤ i → left i ≡ []
  unfolding log_from
  left_none i h = let z : length px - i ≡ 0 = omega arith in rw z

  left_all : left 0 ≡ zone_log t px py
  unfolding zone_log
  left_all = rw (less_none (length px))

  known_turn : (i : ℕ) (b : Bool)
      → i < length px
      → known t (get_or px i 0) (get_or py i 0) ≡ b
      → known_from t px py i (length px - i) ≡ cond b (known_from t px py (i + 1) (length px - (i + 1))) false
  unfolding known_from
  known_turn i b h e = rw (less_one (length px) i h, e)

  known_none : (i : ℕ) → length px ≤ i → known_from t px py i (length px - i) ≡ true
  unfolding known_from
  known_none i h = let z : length px - i ≡ 0 = omega arith in rw z

  -- ---- where a pass stands: what was met at the index before
  abbrev Before : (i : ℕ) → Option Met → Type 0
  Before i (Some m) = (0 < i) × (m.material ≡ at (i - 1))
  Before i None = i ≡ 0

  pub record Reading (i : ℕ) (last : Option Met) : Type 0 where
    pub last_in : LastMet t last
    pub before : Before i last
    pub knows : known_from t px py i (length px - i) ≡ known_from t px py 0 (length px)

  reading_begin : Reading 0 None
  reading_begin = record { last_in = tt; before = refl; knows = rw (less_none (length px)) }

  -- what the code tests is whether the index is in the log
  logged_is : (i : ℕ) (last : Option Met) (m : Met) → Before i last → m.material ≡ at i → logged_n last m ≡ is_logged at i
  logged_is i (Some b) m h e = rw (ne_eqb i 0 (omega (arith, h.0)), e, h.1)
  logged_is i None m h e = rw (eq-eqb i 0 h)

  module _ (i : ℕ) (last : Option Met) (p : Reading i last) where
    reading_done : length px ≤ i → known_from t px py 0 (length px) ≡ true
    reading_done h = sym p.knows ∙ known_none i h

    reading_broken : (e : Refusal)
        → i < length px
        → Err e ≡ met_there t (get_or px i 0) (get_or py i 0)
        → (known_from t px py 0 (length px) ≡ false) × (e ≡ Refusals.Broken)
    reading_broken e h g = let k = met_broken t (get_or px i 0) (get_or py i 0) e g in (sym p.knows ∙ known_turn i false h k.0, k.1)

    module _ (m : Met) (h : i < length px) (g : Ok m ≡ met_there t (get_or px i 0) (get_or py i 0)) where
      reading_turn : Reading (i + 1) (Some m)
      reading_turn =
          let k = met_told t (get_or px i 0) (get_or py i 0) m g in
          let z : i + 1 - 1 ≡ i = omega arith in
          record {
            last_in = k.is_last;
            before = (omega arith, k.is_material ∙ ap at (sym z));
            knows = sym (known_turn i true h k.is_known) ∙ p.knows;
          }

      next : (b : Bool) → b ≡ logged_n last m → left i ≡ cond b (i ∷ left (i + 1)) (left (i + 1))
      next b q =
          let k = met_told t (get_or px i 0) (get_or py i 0) m g in
          left_turn i h
          ∙ ap (λ (v : Bool). cond v (i ∷ left (i + 1)) (left (i + 1))) (sym (q ∙ logged_is i last m p.before k.is_material))

  -- ---- the count
  pub record Counting (i : ℕ) (last : Option Met) (count : Option ℕ) : Type 0 where
    pub read : Reading i last
    pub few : IfSome count (λ n. n ≤ i)
    pub rest : more count (left i) ≡ count_of (zone_log t px py)

  pub counting_begin : Counting 0 None (Some 0)
  counting_begin = record {
    read = reading_begin;
    few = omega arith;
    rest = let z : 0 + length (zone_log t px py) ≡ length (zone_log t px py) = omega
        arith in rw (left_all, z);
  }

  pub counting_turn : (i : ℕ) (last : Option Met) (count count' : Option ℕ) (m : Met) (b : Bool)
      → Counting i last count
      → i < length px
      → Ok m ≡ met_there t (get_or px i 0) (get_or py i 0)
      → b ≡ logged_n last m
      → count' ≡ cond b (counted_n count i) count
      → Counting (i + 1) (Some m) count'
  counting_turn i last count count' m true p h g q e =
      let n = next i last p.read m h g true q in
      rw e (record {
        read = reading_turn i last p.read m h g;
        few = few_more count i p.few;
        rest = count_more count i (left (i + 1)) ∙ (ap (more count) (sym n) ∙ p.rest);
      })
  counting_turn i last count count' m false p h g q e =
      let n = next i last p.read m h g false q in
      rw e (record {
        read = reading_turn i last p.read m h g;
        few = few_same count i p.few;
        rest = ap (more count) (sym n) ∙ p.rest;
      })

  pub counting_done : (i : ℕ) (last : Option Met) (count : Option ℕ) → length px ≤ i → Counting i last count → Ok count ≡ count_in t px py
  counting_done i last count h p =
      let z : count ≡ count_of (zone_log t px py) = sym (more_none count) ∙ (ap (more count) (sym (left_none i h)) ∙ p.rest) in
      rw (reading_done i last p.read h, ← z)

  pub counting_broken : (i : ℕ) (last : Option Met) (count : Option ℕ) (e : Refusal)
      → i < length px
      → Counting i last count
      → Err e ≡ met_there t (get_or px i 0) (get_or py i 0)
      → Err e ≡ count_in t px py
  counting_broken i last count e h p g = let k = reading_broken i last p.read e h g in rw (k.0, k.1)

  -- ---- the writing: what is written and what is left make the whole
  module _ (out₀ : List ℕ) where
    pub record Writing (i : ℕ) (last : Option Met) (count : ℕ) (out : List ℕ) : Type 0 where
      pub read : Reading i last
      pub size : length out ≡ length out₀
      pub room : count + length (left i) ≤ length out
      pub words : each_word (left i) ≡ true
      pub rest : sets out count (left i) ≡ sets out₀ 0 (zone_log t px py)

    pub writing_begin : Accepted t px py (length out₀) → Writing 0 None 0 out₀
    writing_begin a =
        record {
          read = reading_begin;
          size = refl;
          room = rw left_all (omega (arith, a.size));
          words = rw left_all a.words;
          rest = rw left_all;
        }

    module _ (i : ℕ) (last : Option Met) (count : ℕ) (out : List ℕ) (p : Writing i last count out) where
      pub writing_done : length px ≤ i → out ≡ sets out₀ 0 (zone_log t px py)
      writing_done h = ap (sets out count) (sym (left_none i h)) ∙ p.rest

      -- 12 is met at no position of a run that is written
      pub writing_known : (e : Refusal)
          → i < length px
          → Accepted t px py (length out₀)
          → Err e ≡ met_there t (get_or px i 0) (get_or py i 0)
          → ⊥
      writing_known e h a g = clash (sym (reading_broken i last p.read e h g).0 ∙ a.knows)

      module _ (m : Met) (h : i < length px) (g : Ok m ≡ met_there t (get_or px i 0) (get_or py i 0)) where
        -- an index that is written has room
        pub writing_room : true ≡ logged_n last m → (count < length out) × (i < 4294967296)
        writing_room q =
            let n = next i last p.read m h g true q in
            (omega (arith, p.room, ap length n), (word_first i (left (i + 1)) (sym (ap each_word n) ∙ p.words)).0)

        pub writing_turn : (count' : ℕ) (out' : List ℕ) (b : Bool)
            → b ≡ logged_n last m
            → count' ≡ cond b (count + 1) count
            → out' ≡ cond b (ListN.set out count i) out
            → Writing (i + 1) (Some m) count' out'
        writing_turn count' out' true q k e =
            let n = next i last p.read m h g true q in
            let z : count' ≡ suc count = omega (arith, k) in
            let s : length out' ≡ length out = ap length e ∙ length-set out count i in
            record {
              read = reading_turn i last p.read m h g;
              size = s ∙ p.size;
              room = omega (arith, p.room, z, s, ap length n);
              words = (word_first i (left (i + 1)) (sym (ap each_word n) ∙ p.words)).1;
              rest = rw (z, e) (ap (sets out count) (sym n) ∙ p.rest);
            }
        writing_turn count' out' false q k e =
            let n = next i last p.read m h g false q in
            rw (k, e) (record {
              read = reading_turn i last p.read m h g;
              size = p.size;
              room = omega (arith, p.room, ap length n);
              words = sym (ap each_word n) ∙ p.words;
              rest = ap (sets out count) (sym n) ∙ p.rest;
            })
