-- The answers of the calls on sound tables.
use Rattle.std.proofs.Common.{Result, Ok, Err}
use Rattle.refusals.specs.declared.Refused.{Refused}
use Rattle.refusals.specs.Refusals.{at_place}
use mathlib.Core.Path.{◌≡◌, refl, sym, ap, ◌∙◌, subst}
use mathlib.Core.Bool.{Bool, true, false, cond, ◌&&◌}
use mathlib.Core.List.{List, []}
use Prim.Native.Nat.{ℕ, ◌+◌, ◌-◌, ◌/◌, ◌%◌, ◌≤◌}
use native.Mathlib.Omega.{arith}
use lib.Dec.{eqb, ltb, leb}
use lib.ListN.{length}
use borrow.Author.Tests.{eq-eqb, leb-true}
use Rattle.std.specs.Prelude.{Result, Err}
use Rattle.refusals.specs.declared.Refusal.{Refusal}
use Rattle.refusals.specs.declared.Refusal.TheVariants as Refusals
use Rattle.refusals.specs.Refusals.{number_of}
use Rattle.geometry.specs.Classes.{Inside}
use Rattle.paint.specs.Areas.{material_of}
use Rattle.paint.specs.Colours.{colour_of}
use Rattle.cells.specs.Cells.{Position, at, col, row, level, Holds}
use Rattle.cells.specs.Drawings.{Drawing}
use Rattle.stream.specs.Entry.{lines_in, is_uniform}
use Rattle.ranges.proofs.Streams.{words_length}
use Rattle.celltable.specs.Descent.{leaf_of}
use Rattle.tables.specs.Tables.{Tree}
use Rattle.split.specs.Split.{words, split_answer}
use Rattle.split_laws.specs.After.{split_tree}
use Rattle.split_laws.proofs.Trees.{tree_refused}
use Rattle.grow.specs.declared.Growth.{Growth}
use Rattle.grow.specs.Grow.{Ending, none_left, no_room, not_passed, grown, answer_by, answer_of, grow_answer, grow_tree}
use Rattle.find_leaf.specs.declared.FoundLeaf.{FoundLeaf}
use Rattle.find_leaf.specs.Leaf.{position_range, report_of, found_by, leaf_in, find_answer}
use Rattle.find_leaf.proofs.Landing.{on_grid}
use Rattle.position.specs.declared.Spot.{Spot}
use Rattle.position.specs.Spots.{position_answer}
use Rattle.pixel_row.specs.Rows.{Filled, filled}
use Rattle.zone_log.specs.Logs.{outside_from, each_word}
use Rattle.answers.specs.Answers.{find_room}
use Rattle.answers.specs.Readings.{spot_room}
use Rattle.demand.specs.History.{Node, cell_in, after_splits, Leaf, LeafAt}
use Rattle.demand.specs.NoTree.{paint_of}
use Rattle.demand.specs.Stands.{drawing_of, words_of_cell}
use Rattle.demand.specs.Calls.{finds, reads, splitting, growing, finding, reading, rowing, logging, refusal, given, after_split, grown_cells}
use Rattle.demand.specs.Demand.{SplitRight, GrowRight, report_shown, found_given, FindRight, spot_there, position_given, SaysShown, ReadRight}
use Rattle.demand.specs.Shown.{fill_shown, row_shown, log_shown, log_answer_shown}
use Rattle.demand.proofs.History.{splits_longer}
use Rattle.demand.proofs.Sound.{Sound}
use Rattle.demand.proofs.Outcomes.{Outcome, accepted, refused, split_outcome}
use Rattle.demand.proofs.Growing.{Ends, grown_sound}
use Rattle.demand.proofs.Finding.{lands}
use Rattle.demand.proofs.Readings.{shown_alike, position_inside, position_outside}

-- ---- a split
pub record SplitDone (t : Tree) (H : List Node) (i : ℕ) (a : Result ℕ Refusal) : Type 0 where
  pub sound : Sound (split_tree t i) (after_split H i a)
  pub right : SplitRight H i a
  pub unmet : refusal (splitting a) ≡ 12 → ⊥

broken_number : (r : Refusal) → (r ≡ Refusals.Broken → ⊥) → number_of r ≡ 12 → ⊥
broken_number Refusals.Length f e = omega arith
broken_number Refusals.Kind f e = omega arith
broken_number Refusals.Field f e = omega arith
broken_number Refusals.Unfit f e = omega arith
broken_number Refusals.Short f e = omega arith
broken_number Refusals.Limit f e = omega arith
broken_number Refusals.Argument f e = omega arith
broken_number Refusals.NoCell f e = omega arith
broken_number Refusals.AlreadySplit f e = omega arith
broken_number Refusals.Smallest f e = omega arith
broken_number Refusals.Room f e = omega arith
broken_number Refusals.Broken f e = f refl
broken_number Refusals.Curve f e = omega arith

split_by : (t : Tree) (H : List Node) (i : ℕ) → Sound t H → {a : Result ℕ Refusal} → split_answer t i ≡ a → Outcome t H i a → SplitDone t H i a
split_by t H i s e (accepted n m l k o) = record { sound = o; right = (m, l); unmet = λ z. omega arith }
split_by t H i s e (refused r f) = record { sound = subst (λ (u : Tree). Sound u H) (sym (tree_refused t i r e)) s; right = tt; unmet = broken_number r f }

pub split_done : (t : Tree) (H : List Node) (i : ℕ) → Sound t H → SplitDone t H i (split_answer t i)
split_done t H i s = split_by t H i s refl (split_outcome t H i s)

-- ---- growing
pub record GrowDone (D : Drawing) (n l : ℕ) (H K : List Node) (u : Tree) (a : Result Growth Refusal) : Type 0 where
  pub sound : Sound u K
  pub right : GrowRight D n l H K u a
  pub unmet : refusal (growing a) ≡ 12 → ⊥

grown_by : (D : Drawing) (n l : ℕ) (few : l ≤ 16) (H : List Node) (u : Tree) (is : List ℕ) (e : Ending)
    → Sound u (after_splits H is)
    → Ends D n l few (after_splits H is) u e
    → GrowDone D n l H (after_splits H is) u (answer_by e (length is))
grown_by D n l few H u is none_left s f = record { sound = s; right = (splits_longer H is, f); unmet = λ z. omega arith }
grown_by D n l few H u is no_room s f = record { sound = s; right = (splits_longer H is, f); unmet = λ z. omega arith }
grown_by D n l few H u is not_passed s f = absurd f

module _ (t : Tree) (H : List Node) (n l : ℕ) (s : Sound t H) where
  limited : (b : Bool)
      → leb l 16 ≡ b
      → GrowDone (drawing_of t) n l H (after_splits H (cond b (grown n l t).cells [])) (cond b (grown n l t).after t)
      (cond b (answer_of (grown n l t)) (Err Refusals.Argument))
  limited true e =
      let few : l ≤ 16 = leb-true l 16 e in
      let g = grown_sound (drawing_of t) n l few t H s refl in
      grown_by (drawing_of t) n l few H (grown n l t).after (grown n l t).cells (grown n l t).ending g.sound g.ending
  limited false e = record { sound = s; right = refl; unmet = λ z. omega arith }

  pub grow_done : GrowDone (drawing_of t) n l H (after_splits H (grown_cells t n l)) (grow_tree t n l) (grow_answer t n l)
  grow_done =
      subst
      (λ (b : Bool).
      GrowDone (drawing_of t) n l H (after_splits H (cond b (cond (leb l 16) (grown n l t).cells []) []))
      (cond b (cond (leb l 16) (grown n l t).after t) t)
      (cond b (cond (leb l 16) (answer_of (grown n l t)) (Err Refusals.Argument)) (Err Refusals.Argument)))
      (sym (eq-eqb (length t.xs) (length t.ys) s.drawn.pair)) (limited (leb l 16) refl)

-- ---- finding
-- the leaf that holds the position, with no output
pub record Lands (D : Drawing) (H : List Node) (x y : ℕ) (a : Result FoundLeaf Refusal) : Type 0 where
  pub inside : position_range x y ≡ true → (i : ℕ) × LeafAt H (at x y) i × (a ≡ Ok (report_shown D H i))
  pub outside : position_range x y ≡ false → a ≡ Err Refusals.Argument

module _ (t : Tree) (H : List Node) (s : Sound t H) (x y : ℕ) where
  report_is : (i : ℕ) → Leaf H i → report_of t.entries (leaf_of i (16 - level (cell_in H i)) (words t i)) ≡ report_shown (drawing_of t) H i
  report_is i l =
      let q = s.squares i l.in_use in
      let ws = s.streams i l in
      let n : (words t i).count ≡ length (words_of_cell (drawing_of t) (cell_in H i)) =
      sym (words_length t.entries (words t i).first (words t i).count) ∙ ap length ws in
      λ d.
      record {
        cell = i;
        x = q.same_x d;
        y = q.same_y d;
        side = q.same_side d;
        steps = 16 - level (cell_in H i);
        entries = n d;
        lines = lines_in (ws d);
        uniform = is_uniform (ws d);
      }

  abbrev found : Result FoundLeaf Refusal
  found = found_by t (leaf_in t x y)

  find_is : find_answer t x y ≡ cond (position_range x y) found (Err Refusals.Argument)
  find_is =
      ap (λ (b : Bool). cond b (cond (position_range x y) found (Err Refusals.Argument)) (Err Refusals.Argument))
      (eq-eqb (length t.xs) (length t.ys) s.drawn.pair)

  chosen : (b : Bool) → position_range x y ≡ b → find_answer t x y ≡ cond b found (Err Refusals.Argument)
  chosen b e = find_is ∙ ap (λ (c : Bool). cond c found (Err Refusals.Argument)) e

  pub find_right : Lands (drawing_of t) H x y (find_answer t x y)
  find_right =
      record {
        inside = λ e.
            let r = lands t H s x y (on_grid x y e) in
            (r.leaf, r.holds, chosen true e ∙ (ap (found_by t) r.found ∙ ap Ok (report_is r.leaf r.holds.leaf)));
        outside = λ e. chosen false e;
      }

  module _ (out : List ℕ) where
    pub find_given : FindRight (drawing_of t) H x y out (given (finds x y out) t)
    find_given =
        record {
          inside = λ e. let r = find_right.inside e in (r.0, r.1, ap (λ (a : Result FoundLeaf Refusal). found_given a out) r.2);
          outside = λ e. ap (λ (a : Result FoundLeaf Refusal). found_given a out) (find_right.outside e);
        }

    roomed : (b : Bool) (l : FoundLeaf) → refusal (finding (cond b (Ok l) (Err Refusals.Room))) ≡ 12 → ⊥
    roomed true l z = omega arith
    roomed false l z = omega arith

    find_by : (b : Bool) → position_range x y ≡ b → refusal (finding (find_room (find_answer t x y) (length out))) ≡ 12 → ⊥
    find_by true e z =
        let r = find_right.inside e in
        roomed (leb 8 (length out)) (report_shown (drawing_of t) H r.0)
        (sym (ap (λ (a : Result FoundLeaf Refusal). refusal (finding (find_room a (length out)))) r.2) ∙ z)
    find_by false e z =
        let o : ◌≡◌ {A = ℕ} 7 12 = sym (ap (λ (a : Result FoundLeaf Refusal). refusal (finding (find_room a (length out)))) (find_right.outside e)) ∙ z in
        omega arith

    pub find_unmet : refusal (finding (find_room (find_answer t x y) (length out))) ≡ 12 → ⊥
    find_unmet = find_by (position_range x y) refl

-- ---- a position
module _ (t : Tree) (H : List Node) (s : Sound t H) (x y : ℕ) (out : List ℕ) where
  roomed_spot : (b : Bool) (r : Spot) → refusal (reading (cond b (Ok r) (Err Refusals.Room))) ≡ 12 → ⊥
  roomed_spot true r z = omega arith
  roomed_spot false r z = omega arith

  pub position_unmet : refusal (reading (spot_room (position_answer t x y) (length out))) ≡ 12 → ⊥
  position_unmet = go (position_range x y) refl
    where
      go : (b : Bool) → position_range x y ≡ b → refusal (reading (spot_room (position_answer t x y) (length out))) ≡ 12 → ⊥
      go true e z =
          let r = position_inside t H s x y e in
          roomed_spot (leb 10 (length out)) (spot_there (drawing_of t) H r.0 (at x y))
          (sym (ap (λ (a : Result Spot Refusal). refusal (reading (spot_room a (length out)))) r.2) ∙ z)
      go false e z =
          let o : ◌≡◌ {A = ℕ} 7 12 =
          sym (ap (λ (a : Result Spot Refusal). refusal (reading (spot_room a (length out)))) (position_outside t H s x y e)) ∙ z in
          omega arith

  -- an answer that has room is the one that was made
  spot_roomed : (b : Bool) (r r' : Spot) → reading (cond b (Ok r) (Err Refusals.Room)) ≡ reading (Ok r') → r ≡ r'
  spot_roomed true r r' e = cc
  spot_roomed false r r' e = cc

  -- what shows at a position of a uniform leaf is what shows at each of its positions
  alike : (i : ℕ) (r : Spot) → LeafAt H (at x y) i → r ≡ spot_there (drawing_of t) H i (at x y) → r.uniform ≡ true → (x' y' : ℕ)
      → Inside r.x r.y r.side x' y' → SaysShown (drawing_of t) r (at x' y')
  alike i r l e u x' y' h =
      let c = cell_in H i in
      let px = ap (λ (z : Spot). z.x) e in
      let py = ap (λ (z : Spot). z.y) e in
      let ps = ap (λ (z : Spot). z.side) e in
      let holds : Holds c (at x' y') = record {
        west = omega (arith, h.west, px);
        east = omega (arith, h.east, px, ps);
        south = omega (arith, h.south, py);
        north = omega (arith, h.north, py, ps);
      } in
      let set = shown_alike t H s i (sym (ap (λ (z : Spot). z.uniform) e) ∙ u) x y x' y' l.holds holds in
      record {
        set = ap (λ (z : Spot). z.set) e ∙ set;
        material = ap (λ (z : Spot). z.material) e ∙ ap (material_of (paint_of (drawing_of t))) set;
        red = ap (λ (z : Spot). z.red) e ∙ ap (λ (n : ℕ). (colour_of (paint_of (drawing_of t)) n).red) set;
        green = ap (λ (z : Spot). z.green) e ∙ ap (λ (n : ℕ). (colour_of (paint_of (drawing_of t)) n).green) set;
        blue = ap (λ (z : Spot). z.blue) e ∙ ap (λ (n : ℕ). (colour_of (paint_of (drawing_of t)) n).blue) set;
      }

  pub position_given_law : ReadRight (drawing_of t) H x y out (given (reads x y out) t)
  position_given_law =
      record {
        inside = λ e. let r = position_inside t H s x y e in (r.0, r.1, ap (λ (a : Result Spot Refusal). position_given a out) r.2);
        outside = λ e. ap (λ (a : Result Spot Refusal). position_given a out) (position_outside t H s x y e);
        reach = λ r e u q h. go r u q h (position_range x y) refl e;
      }
    where
      go : (r : Spot) → r.uniform ≡ true → (q : Position) → Inside r.x r.y r.side (col q) (row q) → (b : Bool) → position_range x y ≡ b
          → reading (spot_room (position_answer t x y) (length out)) ≡ reading (Ok r) → SaysShown (drawing_of t) r q
      go r u (at x' y') h true k e =
          let w = position_inside t H s x y k in
          let z = spot_roomed (leb 10 (length out)) (spot_there (drawing_of t) H w.0 (at x y)) r
          (sym (ap (λ (a : Result Spot Refusal). reading (spot_room a (length out))) w.2) ∙ e) in
          alike w.0 r w.1 (sym z) u x' y' h
      go r u q h false k e =
          let z : reading (Err Refusals.Argument) ≡ reading (Ok r) =
          sym (ap (λ (a : Result Spot Refusal). reading (spot_room a (length out))) (position_outside t H s x y k)) ∙ e in
          absurd (let o : ◌≡◌ {A = ℕ} 0 1 = cc in omega arith)

-- ---- a row
module _ (D : Drawing) (row first : ℕ) (out : List ℕ) where
  row_shown_by : (p q r : Bool) (bytes : List ℕ)
      → refusal
      (rowing
      (cond p
      (cond q (cond r (filled (Ok tt) bytes) (filled (Err (at_place Refusals.Argument 0)) out)) (filled (Err (at_place Refusals.Argument 0)) out))
      (filled (Err (at_place Refusals.Argument 0)) out)).answer)
      ≡ 12
      → ⊥
  row_shown_by true true true bytes z = omega arith
  row_shown_by true true false bytes z = omega arith
  row_shown_by true false r bytes z = omega arith
  row_shown_by false q r bytes z = omega arith

  pub row_unmet : (f : Filled) → f ≡ row_shown D row first out → refusal (rowing f.answer) ≡ 12 → ⊥
  row_unmet f e z =
      row_shown_by (leb row 4095) (eqb (length out % 3) 0) (leb (first + length out / 3) 4096) (fill_shown D row first 0 (length out / 3) out)
      (sym (ap (λ (g : Filled). refusal (rowing g.answer)) e) ∙ z)

-- ---- a log
module _ (D : Drawing) (px py : List ℕ) (n : ℕ) where
  log_shown_by : (p q r : Bool) (place : ℕ) (l : List ℕ)
      → refusal
      (logging
      (cond p (cond q (Err (at_place Refusals.Argument place)) (cond r (Ok (length l)) (Err (at_place Refusals.Room 0))))
      (Err (at_place Refusals.Argument 0))))
      ≡ 12
      → ⊥
  log_shown_by true true r place l z = omega arith
  log_shown_by true false true place l z = omega arith
  log_shown_by true false false place l z = omega arith
  log_shown_by false q r place l z = omega arith

  pub log_unmet : (a : Result ℕ Refused) → a ≡ log_answer_shown D px py n → refusal (logging a) ≡ 12 → ⊥
  log_unmet a e z =
      log_shown_by (eqb (length px) (length py)) (ltb (outside_from px py 0 (length px)) (length px))
      (leb (length (log_shown D px py)) n && each_word (log_shown D px py)) (outside_from px py 0 (length px)) (log_shown D px py)
      (sym (ap (λ (r : Result ℕ Refused). refusal (logging r)) e) ∙ z)
