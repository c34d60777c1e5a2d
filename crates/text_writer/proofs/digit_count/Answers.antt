use native.Mathlib.Omega.{arith}
use Rattle.text_number.proofs.WrittenDigits.{count_bound}
use Rattle.text_writer.proofs.DigitCount.{four_more, few_digits}
use Rattle.text_writer.proofs.digit_count.Goals as goal

pub overflow_add-count : goal.overflow_add-count
overflow_add-count c = omega (arith, count_bound c.args.n, four_more c.loop-n.n (omega arith))

pub loop-n-preserved : goal.loop-n-preserved
loop-n-preserved c = omega (arith, four_more c.loop-n.n (omega arith))

pub returns : goal.returns
returns c = omega (arith, few_digits c.loop-n.n (omega arith))
