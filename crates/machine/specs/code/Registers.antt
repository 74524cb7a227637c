-- The numbers that the code holds, as the registers of the machine (`Rattle.pruning.specs.Registers`).
use Rattle.std.specs.Prelude.{Bool, cond, ℕ, eqb}
use Rattle.pruning.specs.Sides.{Kind, paint, clip}
use Rattle.pruning.specs.Registers.{P, S, SA, Registers, reg, halted}
use Rattle.machine.specs.declared.Machine.{Machine}

abbrev pub machine : (state depth stop set : ℕ) → Machine
machine c d s o = record { state = c; depth = d; stop = s; set = o }

-- "states P, S and SA": 0, 1 and 2; any other number: stopped
abbrev pub meant : Machine → Registers ℕ
meant m =
    cond (eqb m.state 0) (reg P m.depth m.stop m.set)
    (cond (eqb m.state 1) (reg S m.depth m.stop m.set) (cond (eqb m.state 2) (reg SA m.depth m.stop m.set) (halted m.set)))

-- the kind of side
abbrev pub side_of : Bool → Kind
side_of b = cond b paint clip
