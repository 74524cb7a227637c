use mathlib.Core.Path.{◌≡◌}
use Prim.Native.Nat.{◌-◌}
use Rattle.celltable.specs.Descent.{descend_in}
use Rattle.celltable.specs.code.Numbers.{walk_n}
use Rattle.celltable.proofs.Walk.{Going}
use Rattle.celltable.proofs.Cells.descend.Given as goal

abbrev pub invariant-loop-k : goal.invariant-loop-k
invariant-loop-k l =
    record {
      going : Going l.c l.self.used (17 - l.k);
      left : walk_n l.self.table.now l.self.used l.self.entries l.x l.y (17 - l.k) l.c ≡ descend_in l.self.table.now l.self.used l.self.entries l.x l.y;
    }
