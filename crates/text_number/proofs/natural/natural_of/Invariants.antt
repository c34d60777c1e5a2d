-- The bytes read so far are digits of the value so far.
use Rattle.text_number.proofs.Naturals.{DigitsRead}
use Rattle.text_number.proofs.natural.natural_of.Given as goal

abbrev pub invariant-loop-byte : goal.invariant-loop-byte
invariant-loop-byte l = DigitsRead l.digits l.byte-index l.value
