use Rattle.std.proofs.Common.{arith, rules, FitsSigned, w64, ◌∙◌}
use Rattle.std.proofs.lemmas.Int.{ints}
use mir.Facts.{to_z-of_z}
use Rattle.pricing_adder.proofs.Bounds.{curves_bound}
use Rattle.pricing_adder.proofs.Steps.{online_same, offline_same}
use Rattle.pricing_adder.proofs.reserve.Tested.shortages.Goals as goal

pub overflow_cast-floor : goal.overflow_cast-floor
overflow_cast-floor c = let a = curves_bound c.args.self.now.curves c.args.self.now.curves_tested in omega (arith, ints)

pub overflow_cast-mean : goal.overflow_cast-mean
overflow_cast-mean c = omega (arith, ints)

pub overflow_cast-spread : goal.overflow_cast-spread
overflow_cast-spread c = omega (arith, ints)

pub returns-clause-online : goal.returns-clause-online
returns-clause-online c =
    let spread : FitsSigned w64 c.pair-pair.result.spread = search rules in
    let mean : FitsSigned w64 c.pair-pair.result.mean = search rules in
    let a = curves_bound c.args.self.now.curves c.args.self.now.curves_tested in
    online_same c.args.self.now.curves c.args.self.now.header c.args.self.now.sums c.online_probability.ensures (to_z-of_z c.ranges.rs ∙ c.requires.online) (omega (arith, ints)) (omega (arith, ints))
    (rw (to_z-of_z spread) at c.magnitude-spread.ensures) c.pair-pair.ensures.value

pub returns-clause-offline : goal.returns-clause-offline
returns-clause-offline c =
    let spread : FitsSigned w64 c.pair-pair.result.spread = search rules in
    let mean : FitsSigned w64 c.pair-pair.result.mean = search rules in
    let a = curves_bound c.args.self.now.curves c.args.self.now.curves_tested in
    offline_same c.args.self.now.curves c.args.self.now.header c.args.self.now.sums c.offline_probability.ensures (to_z-of_z c.ranges.rsns ∙ c.requires.total) (omega (arith, ints)) (omega (arith, ints))
    (rw (to_z-of_z spread) at c.magnitude-spread.ensures) c.pair-pair.ensures.value
