use mathlib.Core.Path.{refl}
use borrow.Author.Tests.{le-leb}
use Rattle.curves.specs.code.Reach.{reach}
use Rattle.spots.proofs.Tables.{corners_in_law}
use Rattle.spots.proofs.write_winding.Goals as goal

pub area_winding-n-requires : goal.area_winding-n-requires
area_winding-n-requires g c =
    let a = c.args in
    let h = c.requires in
    let w = le-leb a.w reach h.second_x in
    record {
      corners_in = corners_in_law _ _ refl (simp (le-leb a.p reach h.first_x, w) tt) (simp (le-leb a.q reach h.first_y, w) tt);
      t = tt;
    }
