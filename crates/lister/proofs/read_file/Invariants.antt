-- The part of the table that is filled is what the file gave.
use Rattle.std.proofs.Common.{◌≡◌, ◌≤◌, length, take}
use Rattle.std.specs.Io.KnownBytes.{Consumes}
use Rattle.lister.proofs.read_file.Given as goal

abbrev pub invariant-loop : goal.invariant-loop
invariant-loop g l = record {
  long : length l.records ≡ length l.initial.records;
  within : l.n ≤ length l.records;
  given : Consumes (g.R.Read.remaining l.initial.file) (g.R.Read.remaining l.file) (take l.n l.records);
}
