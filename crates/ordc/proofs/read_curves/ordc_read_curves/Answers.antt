-- The curve set is laid where the reading is accepted.
use Rattle.std.proofs.Common.{sym, ◌∙◌}
use Rattle.ordc.proofs.Answered.{accepted_laid, refused_left}
use Rattle.ordc.proofs.Numbered.{refusals_are_numbered}
use Rattle.ordc.proofs.read_curves.ordc_read_curves.Goals as goal

pub returns-in-Ok : goal.returns-in-Ok
returns-in-Ok c = rw (sym c.read_curves.ensures ∙ c.in-Ok.is) (accepted_laid c.values_of.ensures)

pub returns-in-Err : goal.returns-in-Err
returns-in-Err c =
    let e = sym c.read_curves.ensures ∙ c.in-Err.is in
    rw e (refused_left (rw e at (refusals_are_numbered.reading c.args.text.now)) c.refused.ensures)
