-- The entries of a plan that holds the kinds of records are the words of the elements of those records, one after the other.
use mathlib.Core.Path.{◌≡◌, refl, sym, ap, ◌∙◌}
use mathlib.Core.Bool.{Bool, true, false, cond}
use mathlib.Core.List.{List, [], ◌∷◌, map}
use Prim.Native.Nat.{ℕ, zero, suc, ◌+◌, ◌≤◌, ◌<◌}
use native.Mathlib.Omega.{arith}
use lib.Dec.{eqb, ltb}
use lib.ListN.{length, get_or}
use native.Mathlib.Decide.{dec_lt}
use borrow.Author.Tests.{ltb-true, lt-ltb, le-ltb}
use Rattle.std.specs.Prelude.{Option, Some, None}
use Rattle.records.specs.declared.Kind.{Kind}
use Rattle.records.specs.declared.Kind.TheVariants as Kinds
use Rattle.records.specs.Kinds.{kind_number}
use Rattle.laws.proofs.Booleans.{clash}
use Rattle.records.specs.declared.Record.{Record}
use Rattle.records.specs.declared.Record.TheVariants.{Area, First, Next, Control, Open, Bar, Close}
use Rattle.records.specs.Record.{kind_of}
use Rattle.grammar.specs.Lists.{areas_in, corners_in}
use Rattle.read.specs.Words.{Has, words_of_kind, joined}
use Rattle.drawing.proofs.Has.{has_at, has_first, has_rest}
use Rattle.cells.specs.Segments.{drawn}
use Rattle.cells.specs.Elements.{segment}
use Rattle.stream.specs.declared.Words.{Words}
use Rattle.evaluate.specs.Words.{words_of}
use Rattle.plans.specs.code.Source.{edge_from, source_from}
use Rattle.plans.proofs.Bent.{neither, corner, Bent, bent_next}
use Rattle.root_stream.specs.declared.Source.{Source}
use Rattle.root_stream.specs.code.Numbers.{source_at, number_in, kind_n, stride_n, edge_n, entry_n, after_n, entries_n}

taken : {A : Type 0} (t : Bool) (x y : A) → t ≡ true → cond t x y ≡ x
taken t x y e = rw e

pub stride_some : (b : ℕ) → (1 ≤ stride_n b) × (stride_n b ≤ 2)
stride_some b = go (eqb b 7)
  where
    go : (t : Bool) → (1 ≤ cond t 2 1) × (cond t 2 1 ≤ 2)
    go true = (omega arith, omega arith)
    go false = (omega arith, omega arith)

pub kind_read : {o : Option Kind} {k : Kind} {n : ℕ} → number_in o ≡ n → o ≡ Some k → kind_number k ≡ n
kind_read e f = ap number_in (sym f) ∙ e

module _ (plan : List ℕ) (records : ℕ) where
  -- the words ws of the records from record i on
  pub record Ahead (i : ℕ) (s : Source) (ws : List Words) : Type 0 where
    pub rest : List Record
    pub kinds : Has plan (i + 3) (joined words_of_kind rest)
    pub whole : i + length rest ≡ records
    pub few_areas : s.area + areas_in rest ≤ 64
    pub few_corners : s.corner + corners_in rest ≤ 2048
    pub bends : Bent neither rest
    pub words : ws ≡ map words_of (source_from s.area s.corner s.first rest)

  kind_here : (i : ℕ) (r : Record) (rs : List Record) → Has plan i (joined words_of_kind (r ∷ rs)) → get_or plan i 0 ≡ kind_of r
  unfolding joined
  kind_here i r rs h = has_first plan i (kind_of r) (joined words_of_kind rs) h

  kinds_behind : (i j : ℕ) (r : Record) (rs : List Record) → i + 1 ≡ j → Has plan i (joined words_of_kind (r ∷ rs)) → Has plan j (joined words_of_kind rs)
  unfolding joined
  kinds_behind i j r rs e h = has_at plan (suc i) j (joined words_of_kind rs) (omega arith) (has_rest plan i (kind_of r) (joined words_of_kind rs) h)

  -- the kind of the first of these records
  abbrev head_kind : List Record → ℕ
  head_kind [] = 0
  head_kind (r ∷ rs) = kind_of r

  kind_first : (i j : ℕ) (rs : List Record) → i + 3 ≡ j → Has plan j (joined words_of_kind rs) → i + length rs ≡ records → kind_n plan records i ≡ head_kind rs
  kind_first i j [] z h e = rw (le-ltb i records (omega arith))
  kind_first i j (r ∷ rs) z h e = rw (lt-ltb i records (omega arith), z) (kind_here j r rs h)

  kind_next : (i : ℕ) (r : Record) (rs : List Record)
      → Has plan (i + 3) (joined words_of_kind (r ∷ rs))
      → i + length (r ∷ rs) ≡ records
      → kind_n plan records (i + 1) ≡ head_kind rs
  kind_next i r rs h e = kind_first (i + 1) (i + 1 + 3) rs refl (kinds_behind (i + 3) (i + 1 + 3) r rs (omega arith) h) (omega arith)

  -- no control corner stands straight behind an area or a delimiter
  stride_one : (rs : List Record) → Bent neither rs → stride_n (head_kind rs) ≡ 1
  stride_one [] q = refl
  stride_one (Area g ∷ rs) q = refl
  stride_one (First x y ∷ rs) q = refl
  stride_one (Next x y ∷ rs) q = refl
  stride_one (Control x y ∷ rs) q = clash (sym q.0)
  stride_one (Open ∷ rs) q = refl
  stride_one (Bar ∷ rs) q = refl
  stride_one (Close ∷ rs) q = refl

  -- the line or curve from corner c, with these records behind it
  edge_from_law : (c f : ℕ) (rs : List Record) → edge_n (head_kind rs) c f ≡ words_of (segment (drawn (edge_from rs c f)))
  edge_from_law c f [] = refl
  edge_from_law c f (Area g ∷ rs) = refl
  edge_from_law c f (First x y ∷ rs) = refl
  edge_from_law c f (Next x y ∷ rs) = let z : c + 1 ≡ suc c = omega arith in rw z
  edge_from_law c f (Control x y ∷ rs) = refl
  edge_from_law c f (Open ∷ rs) = refl
  edge_from_law c f (Bar ∷ rs) = refl
  edge_from_law c f (Close ∷ rs) = refl

  -- the records behind record i
  behind : (i : ℕ) (r : Record) (rs : List Record) (s : Source)
      → Has plan (i + 3) (joined words_of_kind (r ∷ rs))
      → i + length (r ∷ rs) ≡ records
      → s.area + areas_in rs ≤ 64
      → s.corner + corners_in rs ≤ 2048
      → Bent neither rs
      → Ahead (i + 1) s (map words_of (source_from s.area s.corner s.first rs))
  behind i r rs s h e m n q =
      record {
        rest = rs;
        kinds = kinds_behind (i + 3) (i + 1 + 3) r rs (omega arith) h;
        whole = omega arith;
        few_areas = m;
        few_corners = n;
        bends = q;
        words = refl;
      }

  -- behind corner c of record i, and behind the control corner that may stand straight behind it
  behind_corner : (i a c f : ℕ) (r : Record) (rs : List Record)
      → Has plan (i + 3) (joined words_of_kind (r ∷ rs))
      → i + length (r ∷ rs) ≡ records
      → a + areas_in rs ≤ 64
      → suc c + corners_in rs ≤ 2048
      → Bent corner rs
      → Ahead (i + stride_n (head_kind rs)) (source_at a (c + stride_n (head_kind rs)) f) (map words_of (source_from a (suc c) f rs))
  behind_corner i a c f r rs h e m n q = go rs q h e m n
    where
      one : c + 1 ≡ suc c
      one = omega arith

      go : (ks : List Record)
          → Bent corner ks
          → Has plan (i + 3) (joined words_of_kind (r ∷ ks))
          → i + length (r ∷ ks) ≡ records
          → a + areas_in ks ≤ 64
          → suc c + corners_in ks ≤ 2048
          → Ahead (i + stride_n (head_kind ks)) (source_at a (c + stride_n (head_kind ks)) f) (map words_of (source_from a (suc c) f ks))
      go [] q h e m n = rw one (behind i r [] (source_at a (suc c) f) h e m n tt)
      go (Area g ∷ ks) q h e m n = rw one (behind i r (Area g ∷ ks) (source_at a (suc c) f) h e m n (refl, q.1))
      go (First u v ∷ ks) q h e m n = rw one (behind i r (First u v ∷ ks) (source_at a (suc c) f) h e m n (refl, q.1))
      go (Next u v ∷ ks) q h e m n = rw one (behind i r (Next u v ∷ ks) (source_at a (suc c) f) h e m n (refl, q.1))
      go (Control u v ∷ ks) q h e m n =
          let two : c + 2 ≡ suc (suc c) = omega arith in
          let j : i + 2 ≡ i + 1 + 1 = omega arith in
          rw (two, j)
          (behind (i + 1) (Control u v) ks (source_at a (suc (suc c)) f) (kinds_behind (i + 3) (i + 1 + 3) r (Control u v ∷ ks) (omega arith) h)
          (omega arith) (omega arith) (omega arith) (bent_next ks q.1))
      go (Open ∷ ks) q h e m n = rw one (behind i r (Open ∷ ks) (source_at a (suc c) f) h e m n (refl, q.1))
      go (Bar ∷ ks) q h e m n = rw one (behind i r (Bar ∷ ks) (source_at a (suc c) f) h e m n (refl, q.1))
      go (Close ∷ ks) q h e m n = rw one (behind i r (Close ∷ ks) (source_at a (suc c) f) h e m n (refl, q.1))

  -- the entry of record i, then the others
  abbrev kind : ℕ → ℕ
  kind i = kind_n plan records i

  abbrev pub Goes : (i : ℕ) → Source → List Words → Type 0
  Goes i s ws =
      (ws' : List Words) × (ws ≡ entry_n s (kind i) (kind (i + 1)) ∷ ws') × Ahead (i + stride_n (kind (i + 1))) (after_n s (kind i) (kind (i + 1))) ws'

  goes : (i a c f : ℕ) (rs : List Record)
      → Has plan (i + 3) (joined words_of_kind rs)
      → i + length rs ≡ records
      → a + areas_in rs ≤ 64
      → c + corners_in rs ≤ 2048
      → Bent neither rs
      → i < records
      → Goes i (source_at a c f) (map words_of (source_from a c f rs))
  goes i a c f [] h e m n q l = absurd (omega arith)
  goes i a c f (Area g ∷ rs) h e m n q l =
      let z : a + 1 ≡ suc a = omega arith in
      rw (kind_first i (i + 3) (Area g ∷ rs) refl h e, kind_next i (Area g) rs h e, stride_one rs q.1, z)
      (map words_of (source_from (suc a) c f rs), refl, behind i (Area g) rs (source_at (suc a) c f) h e (omega arith) (omega arith) q.1)
  goes i a c f (First x y ∷ rs) h e m n q l =
      rw (kind_first i (i + 3) (First x y ∷ rs) refl h e, kind_next i (First x y) rs h e, edge_from_law c c rs)
      (map words_of (source_from a (suc c) c rs), refl, behind_corner i a c c (First x y) rs h e (omega arith) (omega arith) q.1)
  goes i a c f (Next x y ∷ rs) h e m n q l =
      rw (kind_first i (i + 3) (Next x y ∷ rs) refl h e, kind_next i (Next x y) rs h e, edge_from_law c f rs)
      (map words_of (source_from a (suc c) f rs), refl, behind_corner i a c f (Next x y) rs h e (omega arith) (omega arith) q.1)
  goes i a c f (Control x y ∷ rs) h e m n q l = clash (sym q.0)
  goes i a c f (Open ∷ rs) h e m n q l =
      rw (kind_first i (i + 3) (Open ∷ rs) refl h e, kind_next i Open rs h e, stride_one rs q.1)
      (map words_of (source_from a c f rs), refl, behind i Open rs (source_at a c f) h e (omega arith) (omega arith) q.1)
  goes i a c f (Bar ∷ rs) h e m n q l =
      rw (kind_first i (i + 3) (Bar ∷ rs) refl h e, kind_next i Bar rs h e, stride_one rs q.1)
      (map words_of (source_from a c f rs), refl, behind i Bar rs (source_at a c f) h e (omega arith) (omega arith) q.1)
  goes i a c f (Close ∷ rs) h e m n q l =
      rw (kind_first i (i + 3) (Close ∷ rs) refl h e, kind_next i Close rs h e, stride_one rs q.1)
      (map words_of (source_from a c f rs), refl, behind i Close rs (source_at a c f) h e (omega arith) (omega arith) q.1)

  pub ahead_next : (i : ℕ) (s : Source) (ws : List Words) → Ahead i s ws → i < records → Goes i s ws
  ahead_next i s ws a l =
      let g = goes i s.area s.corner s.first a.rest a.kinds a.whole a.few_areas a.few_corners a.bends l in
      (g.0, a.words ∙ g.1, g.2)

  pub ahead_none : (i : ℕ) (s : Source) (ws : List Words) → Ahead i s ws → records ≤ i → ws ≡ []
  ahead_none i s ws a l = a.words ∙ none a.rest (omega (arith, a.whole))
    where
      none : (rs : List Record) → length rs ≡ 0 → map words_of (source_from s.area s.corner s.first rs) ≡ []
      none [] e = refl
      none (r ∷ rs) e = absurd (omega arith)

  -- each is the number of a kind, and so is that of the record behind it, or there is none
  head_kind_law : (rs : List Record) → (head_kind rs ≤ 7) × (0 < length rs → 0 < head_kind rs)
  head_kind_law [] = (omega arith, λ h. h)
  head_kind_law (Area f ∷ rs) = (omega arith, λ h. omega arith)
  head_kind_law (First x y ∷ rs) = (omega arith, λ h. omega arith)
  head_kind_law (Next x y ∷ rs) = (omega arith, λ h. omega arith)
  head_kind_law (Control x y ∷ rs) = (omega arith, λ h. omega arith)
  head_kind_law (Open ∷ rs) = (omega arith, λ h. omega arith)
  head_kind_law (Bar ∷ rs) = (omega arith, λ h. omega arith)
  head_kind_law (Close ∷ rs) = (omega arith, λ h. omega arith)

  kind_of_ahead : (i : ℕ) (s : Source) (ws : List Words) (a : Ahead i s ws) → kind_n plan records i ≡ head_kind a.rest
  kind_of_ahead i s ws a = kind_first i (i + 3) a.rest refl a.kinds a.whole

  pub is_kind : (i : ℕ) (s : Source) (ws : List Words) → Ahead i s ws → kind_n plan records i ≤ 7
  is_kind i s ws a = omega (arith, kind_of_ahead i s ws a, (head_kind_law a.rest).0)

  pub is_kind_behind : (i : ℕ) (s : Source) (ws : List Words) → Ahead i s ws → i < records → kind_n plan records (i + 1) ≤ 7
  is_kind_behind i s ws a l = go a.rest a.kinds a.whole
    where
      go : (rs : List Record) → Has plan (i + 3) (joined words_of_kind rs) → i + length rs ≡ records → kind_n plan records (i + 1) ≤ 7
      go [] h e = absurd (omega arith)
      go (r ∷ rs) h e = omega (arith, kind_next i r rs h e, (head_kind_law rs).0)

  -- where the kind of record i was read, the record is there, and where none was, no record is left
  pub some_here : (i : ℕ) {o : Option Kind} {k : Kind} → number_in o ≡ kind_n plan records i → o ≡ Some k → i < records
  some_here i {o} {k} e f = go (ltb i records) refl (ap number_in (sym f) ∙ e)
    where
      some : (j : Kind) → 0 < kind_number j
      some Kinds.Area = omega arith
      some Kinds.First = omega arith
      some Kinds.Next = omega arith
      some Kinds.Open = omega arith
      some Kinds.Bar = omega arith
      some Kinds.Close = omega arith
      some Kinds.Control = omega arith

      go : (t : Bool) → ltb i records ≡ t → kind_number k ≡ cond t (get_or plan (i + 3) 0) 0 → i < records
      go true p q = ltb-true _ _ p
      go false p q = absurd (omega (arith, some k))

  pub none_left : (i : ℕ) (s : Source) (ws : List Words) {o : Option Kind}
      → Ahead i s ws
      → number_in o ≡ kind_n plan records i
      → o ≡ None
      → records ≤ i
  none_left i s ws a e f =
      let z : 0 ≡ kind_n plan records i = ap number_in (sym f) ∙ e in
      go a.rest (head_kind_law a.rest).1 a.whole (z ∙ kind_of_ahead i s ws a)
    where
      go : (rs : List Record) → (0 < length rs → 0 < head_kind rs) → i + length rs ≡ records → 0 ≡ head_kind rs → records ≤ i
      go [] h w z = omega arith
      go (r ∷ rs) h w z = absurd (omega (arith, h (omega arith)))

  -- the entries from record i on
  pub entries_ahead : (n i : ℕ) (s : Source) (ws : List Words) → Ahead i s ws → records ≤ i + n → entries_n plan records i s n ≡ ws
  entries_ahead zero i s ws a e = sym (ahead_none i s ws a (omega arith))
  entries_ahead (suc n) i s ws a e =
      go (dec_lt i records)
      (λ (g : Goes i s ws).
      entries_ahead n (i + stride_n (kind (i + 1))) (after_n s (kind i) (kind (i + 1))) g.0 g.2 (omega (arith, stride_some (kind (i + 1)))))
    where
      go : Dec (i < records)
          → ((g : Goes i s ws) → entries_n plan records (i + stride_n (kind (i + 1))) (after_n s (kind i) (kind (i + 1))) n ≡ g.0)
          → entries_n plan records i s (suc n) ≡ ws
      go (yes l) rest =
          let g = ahead_next i s ws a l in
          taken (ltb i records) _ [] (lt-ltb i records l) ∙ (ap (λ (x : List Words). entry_n s (kind i) (kind (i + 1)) ∷ x) (rest g) ∙ sym g.1)
      go (no l) rest = rw (le-ltb i records (omega arith)) (sym (ahead_none i s ws a (omega arith)))
