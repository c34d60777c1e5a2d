use native.Mathlib.Omega.{arith}
use Rattle.text_number.proofs.Naturals.{digits_next}
use Rattle.text_number.proofs.natural.natural_of.Goals as goal

pub loop-byte-preserved : goal.loop-byte-preserved
loop-byte-preserved c = digits_next c.args.digits.now c.loop-byte.byte-index c.loop-byte.value c.loop-byte-test.true c.loop-byte.invariant (omega arith) (omega arith)
