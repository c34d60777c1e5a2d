use Rattle.std.proofs.Common.{length, take, ◌-◌, ◌≡◌, ◌≤◌}
use Rattle.std.specs.Io.KnownBytes.{Consumes}
use Rattle.program_input.proofs.read_full.Given as goal

-- the space stays as long as it is, and what was read lies at its start
abbrev pub invariant-loop-length : goal.invariant-loop-length
invariant-loop-length g l = record {
  long : length l.space ≡ length l.initial.space;
  within : l.length ≤ length l.space;
  bytes : Consumes (g.R.Read.remaining l.initial.input) (g.R.Read.remaining l.input) (take l.length l.space);
}

abbrev pub decreases-loop-length : goal.decreases-loop-length
decreases-loop-length g l = length l.initial.space - l.length
