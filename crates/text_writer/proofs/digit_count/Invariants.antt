-- What is counted and the digits of the rest are the digits of the number. The measure is the rest.
use Prim.Native.Nat.{◌+◌}
use mathlib.Core.Path.{◌≡◌}
use lib.ListN.{length}
use Rattle.text_number.specs.Number.{digits_of}
use Rattle.text_writer.proofs.digit_count.Given as goal

abbrev pub invariant-loop-n : goal.invariant-loop-n
invariant-loop-n l = l.count + length (digits_of l.n) ≡ length (digits_of l.fn.n)

abbrev pub decreases-loop-n : goal.decreases-loop-n
decreases-loop-n l = l.n
