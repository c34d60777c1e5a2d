-- So many bytes were taken, of every number that may stand there.
use Rattle.std.proofs.Common.{ℕ, Bool, ◌-◌, length}
use Rattle.text_number.proofs.MarkedDigits.{BytesTaken, marked_digits}
use Rattle.pricing_held_reading.specs.internal.Laying.{DigitsStand}
use Rattle.pricing_held_reading.proofs.values.digits_at.Given as goal

abbrev pub invariant-loop-i : goal.invariant-loop-i
invariant-loop-i l = (m : ℕ) (suspect : Bool) (next : ℕ) → DigitsStand l.text l.at m suspect next → BytesTaken (marked_digits m suspect) l.i l.n

abbrev pub decreases-loop-i : goal.decreases-loop-i
decreases-loop-i l = length l.text - l.i
