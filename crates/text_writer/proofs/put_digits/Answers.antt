use Rattle.std.proofs.Common.{arith}
use Rattle.text_writer.proofs.Writing.{digits_left, digits_end}
use Rattle.text_writer.proofs.put_digits.Goals as goal

pub loop-place-preserved : goal.loop-place-preserved
loop-place-preserved c = digits_left c.loop-place.invariant c.requires.1 c.loop-place-test.true (omega arith)

pub returns-then-n-eq0 : goal.returns-then-n-eq0
returns-then-n-eq0 c = digits_end c.loop-place.invariant c.requires.1 c.loop-place-test.true c.if-n-eq0.true
