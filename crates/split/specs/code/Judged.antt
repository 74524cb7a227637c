-- What a split is to be, before anything is written.
use Rattle.std.specs.Prelude.{List, ℕ, Result, Ok, Err}
use Rattle.refusals.specs.declared.Refusal.{Refusal}
use Rattle.four_children.specs.declared.Tally.{Tally}
use Rattle.split.specs.declared.Planned.{Planned}

-- a split's answer and, where it is to be made, the tallies of the four children
abbrev pub planned : Result ℕ Refusal → List Tally → Result Planned Refusal
planned (Ok n) ts = Ok (record { child = n; children = ts })
planned (Err r) ts = Err r
