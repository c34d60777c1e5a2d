-- So many numbers were laid, of all that may stand there, and their marks added up.
use Rattle.std.proofs.Common.{ℕ, List}
use Rattle.text_number.specs.declared.marked.Marked.{Marked}
use Rattle.pricing_held_reading.specs.internal.Laying.{NumbersStand}
use Rattle.pricing_held_reading.proofs.Numbers.{NumbersLaidFrom}
use Rattle.pricing_held_reading.proofs.values.lay_numbers.Given as goal

abbrev pub invariant-loop-i : goal.invariant-loop-i
invariant-loop-i l = (values : List Marked) (last : ℕ) → NumbersStand l.text l.at l.sizes values last → NumbersLaidFrom l.text l.sizes values l.initial.row l.row last l.next l.marks l.mark l.i
