use Rattle.program_curves.specs.internal.Feeding.{Stored}
use Rattle.program_curves.proofs.input.store.Given as goal

abbrev pub invariant-loop-stored : goal.invariant-loop-stored
invariant-loop-stored l = Stored l.stream l.initial.buffer l.input l.buffer l.stored
