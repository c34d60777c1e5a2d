-- The values so far stand in the first places with their marks, and reading the whole schema gives them and then what the lines that are left give.
use Rattle.pricing_resource_text.proofs.Marking.{MarkedFrom}
use Rattle.pricing_resource_text.proofs.marks.marked_lines.Given as goal

abbrev pub invariant-loop-i : goal.invariant-loop-i
invariant-loop-i l = MarkedFrom l.flag l.text l.at l.keys l.lows l.highs l.fn.out l.out l.next l.from l.marks l.mark l.i
