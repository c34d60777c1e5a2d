use Rattle.std.proofs.Common.{length}
use Rattle.program_curves.proofs.Feeding.{Going}
use Rattle.program_curves.proofs.input.feed.Given as goal

abbrev pub invariant-loop-rest : goal.invariant-loop-rest
invariant-loop-rest l = Going l.initial.buffer l.initial.rest l.initial.stream l.buffer l.stream l.rest

abbrev pub decreases-loop-rest : goal.decreases-loop-rest
decreases-loop-rest l = length l.rest
