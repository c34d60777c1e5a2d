use Rattle.program_price.proofs.EmptyLine.{Passed}
use Rattle.program_price.proofs.empty_line.Given as goal

abbrev pub invariant-loop-i : goal.invariant-loop-i
invariant-loop-i l = Passed l.input l.start l.i
