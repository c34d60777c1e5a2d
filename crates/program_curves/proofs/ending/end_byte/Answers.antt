use Rattle.std.proofs.Common.{sym, ◌∙◌}
use Rattle.program_curves.proofs.OneByte.{hour_end, hour_full}
use Rattle.program_curves.proofs.Feeding.{hour_stops}
use Rattle.program_curves.proofs.ending.end_byte.Goals as goal

pub returns-then-ends_hour : goal.returns-then-ends_hour
returns-then-ends_hour c =
    hour_end c.args.stream c.args.buffer.now c.args.byte c.requires.ready c.in-Hours.is c.hour_taken.result (sym c.ends_hour.ensures ∙ c.if-ends_hour.true) c.hour_taken.ensures

pub returns : goal.returns
returns c =
    let goes_on = sym c.ends_hour.ensures ∙ c.if-ends_hour.false in
    hour_full c.args.stream c.args.buffer.now c.args.byte c.requires.ready c.in-Hours.is c.hour_too_long.result
    goes_on (hour_stops c.args.stream.held c.args.buffer.now c.args.byte goes_on (rw c.in-Hours.is at c.requires.stops)) c.hour_too_long.ensures
