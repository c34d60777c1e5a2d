use Rattle.std.proofs.Common.{◌≡◌, get_or, length, pos, rules, arith}
use mir.Val.{SFits}
use mir.Syntax.{w64}
use Rattle.text_number.specs.Number.{written_number}
use Rattle.text_writer.proofs.Counted.{machine_bytes, bytes_next, bytes_over}
use Rattle.pricing_held_text.proofs.numbers.numbers_length.Goals as goal

pub overflow_add-total : goal.overflow_add-total
overflow_add-total c =
    let z = get_or c.args.values.now c.loop-z.z-index (pos 0) in
    let fits : SFits w64 z = search rules in
    let counted : c.number_length-total.result ≡ length (written_number z) = search rules in
    omega (arith, counted, machine_bytes fits)

pub loop-z-preserved : goal.loop-z-preserved
loop-z-preserved c =
    let z = get_or c.args.values.now c.loop-z.z-index (pos 0) in
    let fits : SFits w64 z = search rules in
    let counted : c.number_length-total.result ≡ length (written_number z) = search rules in (
      omega (arith, counted, machine_bytes fits),
      omega (arith, counted, bytes_next c.args.values.now c.loop-z.z-index c.loop-z-test.true),
    )

pub returns : goal.returns
returns c = (omega (arith, bytes_over c.args.values.now c.loop-z.z-index c.loop-z-test.false), omega arith)
