-- Tables that are written out are in range: one test over each.
use mathlib.Core.Path.{◌≡◌}
use mathlib.Core.List.{List}
use Prim.Native.Nat.{ℕ, ◌+◌, ◌*◌, ◌^◌, ◌≤◌, ◌<◌}
use native.Mathlib.Omega.{arith}
use lib.Dec.{T, leb, leb→le}
use lib.ListN.{length, get_or}
use Rattle.laws.specs.Tables.{all_entries}
use Rattle.laws.proofs.Tables.{entry_at}
use Rattle.curves.specs.code.Reach.{reach}
use Rattle.geometry.specs.code.Reach.{CornersIn}
use Rattle.paint.specs.Areas.{Painted}
use Rattle.paint.proofs.Sets.{has_below}

-- every number of a list is at most m
abbrev pub at_most : (m : ℕ) → List ℕ → Type 0
at_most m l = T (all_entries (λ k v. leb v m) l)

at_most_law : (m : ℕ) (l : List ℕ) → at_most m l → (k : ℕ) → k < length l → get_or l k 0 ≤ m
at_most_law m l t k h = leb→le (get_or l k 0) m (entry_at (λ k v. leb v m) l t k h)

pub corners_in_law : (xs ys : List ℕ) → length xs ≡ length ys → at_most reach xs → at_most reach ys → CornersIn xs ys
corners_in_law xs ys e s t = record { paired = e; each_x = at_most_law reach xs s; each_y = λ k h. at_most_law reach ys t k (omega arith) }

-- a set below 2^n of the n areas of a table
pub painted : (areas : List ℕ) (n set : ℕ) → at_most 255 areas → length areas ≡ n * 8 → set < 2 ^ n → Painted areas set
painted areas n set t e h =
    record {
      row = λ k b. omega (arith, has_below n set k h b);
      bytes = λ k b.
          let i = has_below n set k h b in
          record {
            alpha_byte = at_most_law 255 areas t (k * 8 + 2) (omega arith);
            red_byte = at_most_law 255 areas t (k * 8 + 3) (omega arith);
            green_byte = at_most_law 255 areas t (k * 8 + 4) (omega arith);
            blue_byte = at_most_law 255 areas t (k * 8 + 5) (omega arith);
          };
    }
