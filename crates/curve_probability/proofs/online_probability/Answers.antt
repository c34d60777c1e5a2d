use Rattle.std.proofs.Common.{FitsSigned, w64, rules}
use mir.Facts.{to_z-of_z}
use Rattle.curve_probability.proofs.Distance.{online_at_x, online_is}
use Rattle.curve_probability.proofs.online_probability.Goals as goal

pub returns-then-reserve-floor : goal.returns-then-reserve-floor
returns-then-reserve-floor c =
    let low : FitsSigned w64 c.args.floor = search rules in
    online_at_x c.args.reserve c.args.floor c.args.mean c.args.spread (rw (to_z-of_z c.ranges.reserve, to_z-of_z c.ranges.floor, to_z-of_z low) at c.if-reserve-floor.true)

pub returns : goal.returns
returns c =
    let fits : FitsSigned w64 c.online_numerator.result = search rules in
    rw (c.left_of_one.ensures, c.distribution-value.ensures, to_z-of_z fits, c.online_numerator.ensures, c.distance_above-distance.ensures, to_z-of_z c.ranges.reserve, to_z-of_z c.ranges.floor, to_z-of_z c.ranges.mean)
    (online_is c.args.reserve c.args.floor c.args.mean c.args.spread c.ranges.mean c.ranges.spread)
