-- Refused as the first refused line is; else the length of the text.
use Rattle.std.proofs.Common.{sym, ◌∙◌, rules}
use Rattle.pricing_held.proofs.Held.{held_few}
use Rattle.pricing_held_text.proofs.Cases.{length_refused, length_given}
use Rattle.pricing_held_text.proofs.held_length.Goals as goal

pub returns-in_err-held_check : goal.returns-in_err-held_check
returns-in_err-held_check c =
    let refused = length_refused c.args.header.now c.args.ids.now c.args.numbers.now (sym c.held_check.ensures ∙ c.in_err-held_check.was) in
    search rules

pub text_length-requires : goal.text_length-requires
text_length-requires c = held_few c.args.header.now c.args.ids.now c.args.numbers.now (sym c.held_check.ensures ∙ c.in_ok-held_check.was)

pub returns : goal.returns
returns c = length_given c.args.header.now c.args.ids.now c.args.numbers.now (sym c.held_check.ensures ∙ c.in_ok-held_check.was) c.text_length.ensures
