-- The calls chain to the settling; the curve set is laid where it is accepted.
use mir.Facts.{to_z-of_z}
use Rattle.std.proofs.Common.{◌≡◌, sym, ◌∙◌}
use Rattle.curve_settling.specs.Settle.{settled}
use Rattle.ordc.specs.Record.{record_of}
use Rattle.ordc.proofs.Answered.{accepted_laid, refused_left}
use Rattle.ordc.proofs.Numbered.{refusals_are_numbered}
use Rattle.ordc.proofs.settle.ordc_settle.Goals as goal

pub returns-in-Ok : goal.returns-in-Ok
returns-in-Ok c =
    let is : c.settle.result ≡ settled (record_of c.args.history.now) c.args.voll c.args.floor = rw (to_z-of_z c.ranges.voll, to_z-of_z c.ranges.floor, c.record_of.ensures) at c.settle.ensures in
    rw (sym is ∙ c.in-Ok.is) (accepted_laid c.values_of.ensures)

pub returns-in-Err : goal.returns-in-Err
returns-in-Err c =
    let is : c.settle.result ≡ settled (record_of c.args.history.now) c.args.voll c.args.floor = rw (to_z-of_z c.ranges.voll, to_z-of_z c.ranges.floor, c.record_of.ensures) at c.settle.ensures in
    let e = sym is ∙ c.in-Err.is in
    rw e (refused_left (rw e at (refusals_are_numbered.settling (record_of c.args.history.now) c.args.voll c.args.floor)) c.refused.ensures)
