-- Refused as the length is, then by 14 for a buffer that is too short; else the text is laid.
use Rattle.std.proofs.Common.{◌≡◌, Err, sym, ◌∙◌, rules, arith}
use Rattle.pricing_held.proofs.Held.{held_few}
use Rattle.pricing_held_text.proofs.Cases.{length_told, length_other, written_refused, written_short, written_whole}
use Rattle.pricing_held_text.proofs.write_held.Goals as goal

pub returns-in_err-length : goal.returns-in_err-length
returns-in_err-length c =
    let handed_on : c.from_residual.result ≡ Err c.in_err-length.field-0.0 = search rules in
    rw handed_on (written_refused c.args.header.now c.args.ids.now c.args.numbers.now c.args.buffer.now (length_other c.args.header.now c.args.ids.now c.args.numbers.now (sym c.held_length.ensures ∙ c.in_err-length.was)))

pub returns-then-buffer-length : goal.returns-then-buffer-length
returns-then-buffer-length c =
    let told = length_told c.args.header.now c.args.ids.now c.args.numbers.now (sym c.held_length.ensures ∙ c.in_ok-length.was) in
    written_short c.args.header.now c.args.ids.now c.args.numbers.now c.args.buffer.now told c.if-buffer-length.true

pub put_text-requires : goal.put_text-requires
put_text-requires c =
    let told = length_told c.args.header.now c.args.ids.now c.args.numbers.now (sym c.held_length.ensures ∙ c.in_ok-length.was) in
    (held_few c.args.header.now c.args.ids.now c.args.numbers.now told.accepted, omega (arith, told.is, c.if-buffer-length.false))

pub returns : goal.returns
returns c =
    let told = length_told c.args.header.now c.args.ids.now c.args.numbers.now (sym c.held_length.ensures ∙ c.in_ok-length.was) in
    written_whole c.args.header.now c.args.ids.now c.args.numbers.now c.args.buffer.now told c.if-buffer-length.false c.put_text.ensures
