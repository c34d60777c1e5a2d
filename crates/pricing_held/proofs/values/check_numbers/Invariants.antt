-- What is left to check is what the numbers from one on say.
use Rattle.pricing_held.proofs.Numbers.{NumbersFrom}
use Rattle.pricing_held.proofs.values.check_numbers.Given as goal

abbrev pub invariant-loop-i : goal.invariant-loop-i
invariant-loop-i l = NumbersFrom l.line l.lows l.highs l.values l.i
