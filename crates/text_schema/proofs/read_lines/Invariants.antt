-- The values so far stand in the first places, and reading the whole schema gives them and then what the lines that are left give.
use Rattle.text_schema.proofs.Schemas.{LinesFrom}
use Rattle.text_schema.proofs.read_lines.Given as goal

abbrev pub invariant-loop-i : goal.invariant-loop-i
invariant-loop-i l = LinesFrom l.text l.at l.keys l.lows l.highs l.fn.out l.out l.next l.from l.i
