use Rattle.std.proofs.Common.{arith}
use Rattle.text_number.proofs.WrittenDigits.{twenty_digits}
use Rattle.text_writer.specs.Output.{refusal_lines}
use Rattle.text_writer.proofs.Refused.{refusal_length}
use Rattle.text_writer.proofs.Writing.{text_short, text_stands}
use Rattle.text_writer.proofs.output.write_refusal.Goals as goal

pub overflow_add-length : goal.overflow_add-length
overflow_add-length c = omega (arith, c.digit_count.ensures, twenty_digits c.args.found.number (omega arith))

pub overflow_add-length-2 : goal.overflow_add-length-2
overflow_add-length-2 c = omega (arith, c.digit_count.ensures, c.digit_count-2.ensures, twenty_digits c.args.found.number (omega arith), twenty_digits c.args.found.line (omega arith))

pub overflow_add-length-3 : goal.overflow_add-length-3
overflow_add-length-3 c = omega (arith, c.digit_count.ensures, c.digit_count-2.ensures, twenty_digits c.args.found.number (omega arith), twenty_digits c.args.found.line (omega arith))

pub returns-then-buffer-length : goal.returns-then-buffer-length
returns-then-buffer-length c =
    let a = c.args in
    text_short (refusal_lines a.found a.name.now) a.buffer.now 0 (omega (arith, refusal_length a.found a.name.now, c.digit_count-2.ensures, c.digit_count.ensures))

pub put_refusal-requires : goal.put_refusal-requires
put_refusal-requires c = omega (arith, refusal_length c.args.found c.args.name.now, c.digit_count-2.ensures, c.digit_count.ensures)

pub returns : goal.returns
returns c = text_stands c.put_refusal.ensures (omega (arith, refusal_length c.args.found c.args.name.now, c.digit_count-2.ensures, c.digit_count.ensures))
