-- The digits behind those of the rest are laid.
use Rattle.text_writer.proofs.Writing.{DigitsLeft}
use Rattle.text_writer.proofs.put_digits.Given as goal

abbrev pub invariant-loop-place : goal.invariant-loop-place
invariant-loop-place l = DigitsLeft l.fn.buffer l.start l.end l.fn.n l.buffer l.n l.place
