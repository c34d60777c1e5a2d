-- The length is laid where there is one.
use Rattle.std.proofs.Common.{refl, sym, ◌∙◌}
use Rattle.pricing_held_text.proofs.Cases.{length_told, length_other}
use Rattle.ordc.proofs.Answered.{lent_laid, lent_left}
use Rattle.ordc.proofs.Numbered.{refusals_are_numbered}
use Rattle.ordc.proofs.snapshot_length.ordc_snapshot_length.Goals as goal

pub returns-in-Ok : goal.returns-in-Ok
returns-in-Ok c =
    let given = length_told c.args.header.now c.args.ids.now c.args.numbers.now (sym c.held_length.ensures ∙ c.in-Ok.is) in
    lent_laid given.accepted given.is

pub returns-in-Err : goal.returns-in-Err
returns-in-Err c =
    lent_left (length_other c.args.header.now c.args.ids.now c.args.numbers.now (sym c.held_length.ensures ∙ c.in-Err.is))
    (refusals_are_numbered.snapshot_length c.args.header.now c.args.ids.now c.args.numbers.now) c.refused.ensures
