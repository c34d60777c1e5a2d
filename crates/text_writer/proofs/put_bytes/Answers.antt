use Rattle.std.proofs.Common.{arith}
use Rattle.text_writer.proofs.Laid.{laid_next}
use Rattle.text_writer.proofs.put_bytes.Goals as goal

pub loop-i-preserved : goal.loop-i-preserved
loop-i-preserved c = rw c.loop-i.invariant (laid_next c.args.buffer.now c.args.at c.args.bytes.now c.loop-i.i c.loop-i-test.true (omega (arith, c.requires, c.loop-i-test.true)))
