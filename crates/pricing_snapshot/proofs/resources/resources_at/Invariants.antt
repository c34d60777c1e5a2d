-- So many resources are taken; the others are due at the position.
use Rattle.std.proofs.Common.{◌-◌}
use Rattle.pricing_snapshot.proofs.Summing.{Summing}
use Rattle.pricing_snapshot.proofs.resources.resources_at.Given as goal

abbrev pub invariant-loop-taken : goal.invariant-loop-taken
invariant-loop-taken l = Summing l.text l.at l.count l.fn.starts l.starts l.tally l.next (l.count - l._taken)
