-- Where control corners stand in an accepted list of records: straight after a corner of kind 2 or 3, and straight before one of kind 3.
use mathlib.Core.Path.{◌≡◌, refl, sym, ◌∙◌}
use mathlib.Core.Bool.{Bool, true, false, cond}
use mathlib.Core.List.{List, [], ◌∷◌}
use Prim.Native.Nat.{ℕ}
use lib.Dec.{ltb}
use Rattle.laws.proofs.Booleans.{clash}
use Rattle.records.specs.declared.Record.{Record}
use Rattle.records.specs.declared.Record.TheVariants.{Area, First, Next, Control, Open, Bar, Close}
use Rattle.grammar.specs.Grammar.{Progress, is_next, stands, after}
use Rattle.plans.proofs.Runs.{Runs, start}

-- what stands straight before a record: a control corner, another corner, or neither
pub data Before : Type 0 where
  neither : Before
  corner : Before
  control : Before

abbrev pub behind : Record → Before
behind (Area f) = neither
behind (First x y) = corner
behind (Next x y) = corner
behind (Control x y) = control
behind Open = neither
behind Bar = neither
behind Close = neither

abbrev pub is_control : Record → Bool
is_control (Area f) = false
is_control (First x y) = false
is_control (Next x y) = false
is_control (Control x y) = true
is_control Open = false
is_control Bar = false
is_control Close = false

abbrev pub May : Before → Record → Type 0
May neither r = is_control r ≡ false
May corner r = Unit {0}
May control r = is_next r ≡ true

abbrev pub MayEnd : Before → Type 0
MayEnd neither = Unit {0}
MayEnd corner = Unit {0}
MayEnd control = ⊥

abbrev pub Bent : Before → List Record → Type 0
Bent b [] = MayEnd b
Bent b (r ∷ rs) = May b r × Bent (behind r) rs

-- behind a control corner stands a next corner
pub bent_next : (rs : List Record) → Bent control rs → Bent neither rs
bent_next [] q = absurd q
bent_next (Area f ∷ rs) q = (refl, q.1)
bent_next (First x y ∷ rs) q = (refl, q.1)
bent_next (Next x y ∷ rs) q = (refl, q.1)
bent_next (Control x y ∷ rs) q = clash q.0
bent_next (Open ∷ rs) q = (refl, q.1)
bent_next (Bar ∷ rs) q = (refl, q.1)
bent_next (Close ∷ rs) q = (refl, q.1)

-- what the grammar remembers of it
abbrev Remembers : Before → Progress → Type 0
Remembers neither p = (p.bends ≡ false) × (p.run ≡ 0)
Remembers corner p = p.bends ≡ false
Remembers control p = p.bends ≡ true

pub by_bends : (b : Bool) (x y : Bool) → b ≡ false → cond b x y ≡ true → y ≡ true
by_bends true x y e h = clash (sym e)
by_bends false x y e h = h

by_bends_next : (b : Bool) (x y : Bool) → b ≡ true → cond b x y ≡ true → x ≡ true
by_bends_next true x y e h = h
by_bends_next false x y e h = clash e

pub no_run : {A : Type 0} (n : ℕ) → n ≡ 0 → ltb 0 n ≡ true → A
no_run n e h = clash (rw e at h)

remembers : (b : Before) (p : Progress) (r : Record) → Remembers b p → cond p.bends (is_next r) (stands p r) ≡ true → May b r
remembers neither p (Area f) m h = refl
remembers neither p (First x y) m h = refl
remembers neither p (Next x y) m h = refl
remembers neither p (Control x y) m h = no_run p.run m.1 (by_bends p.bends false (ltb 0 p.run) m.0 h)
remembers neither p Open m h = refl
remembers neither p Bar m h = refl
remembers neither p Close m h = refl
remembers corner p r m h = tt
remembers control p r m h = by_bends_next p.bends (is_next r) (stands p r) m h

remembered : (p : Progress) (r : Record) → Remembers (behind r) (after p r)
remembered p (Area f) = (refl, refl)
remembered p (First x y) = refl
remembered p (Next x y) = refl
remembered p (Control x y) = refl
remembered p Open = (refl, refl)
remembered p Bar = (refl, refl)
remembered p Close = (refl, refl)

may_end : (b : Before) (p : Progress) → Remembers b p → p.bends ≡ false → MayEnd b
may_end neither p m e = tt
may_end corner p m e = tt
may_end control p m e = clash (sym e ∙ m)

pub bent_runs : (rs : List Record) (b : Before) (p : Progress) → Remembers b p → Runs p rs → Bent b rs
bent_runs [] b p m h = may_end b p m h.0
bent_runs (r ∷ rs) b p m h = (remembers b p r m h.0.fit, bent_runs rs (behind r) (after p r) (remembered p r) h.1)

pub bent_start : (rs : List Record) → Runs start rs → Bent neither rs
bent_start rs h = bent_runs rs neither start (refl, refl) h
